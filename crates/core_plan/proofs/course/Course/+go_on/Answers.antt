use Rattle.std.proofs.Common.{◌≡◌, ◌+◌, ◌<◌, [], ◌∷◌, ◌++◌, length, subst, arith}
use Rattle.std.proofs.lemmas.List.{length-append}
use Rattle.domain_spec.specs.Types.answer
use Rattle.core_plan.specs.Along.{Asked, most_asks}
use Rattle.core_plan.specs.Starving.{GoesOn}
use Rattle.core_plan.proofs.Courses.{goes_on_more, has_room}
use Rattle.core_plan.proofs.course.Course.+go_on.Goals as goal

pub go_on-requires : goal.go_on-requires
go_on-requires t c =
    let a = c.args.self.now in
    let few : length a.answers < most_asks a.plan = has_room a.plan a.answers c.in-Err.ensures.memory in
    let more : length (a.answers ++ answer.NoMemory ∷ []) ≡ length a.answers + 1 = length-append a.answers (answer.NoMemory ∷ []) in
    let bound = c.decreases in
    (rw c.answer.ensures (omega (arith, few, more, bound)), tt)

pub returns-in-Err : goal.returns-in-Err
returns-in-Err t c =
    goes_on_more c.args.self.now c.go_on.result c.go_on.new.self c.in-Err.ensures.memory
    (subst (λ (v : Asked). GoesOn v c.go_on.result c.go_on.new.self) c.answer.ensures c.go_on.ensures)
