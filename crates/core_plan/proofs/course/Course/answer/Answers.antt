use Rattle.std.proofs.Common.{◌≡◌, ◌+◌, ◌<◌, List, [], ◌∷◌, true, length, sym, ap, ◌∙◌, subst, arith}
use Rattle.std.proofs.lemmas.List.{length-append}
use Rattle.domain_spec.specs.Types.{Answer}
use Rattle.domain_spec.specs.Asks.{asks_left}
use Rattle.core_rules.specs.Next.{is_ask, next_of}
use Rattle.core_plan.specs.Along.{Asked, most_asks}
use Rattle.core_plan.proofs.Courses.{has_room}
use Rattle.core_plan.proofs.course.Course.answer.Goals as goal

pub push-requires : goal.push-requires
push-requires c =
    let i = c.self.inside in
    let few : length i.answers.list < most_asks i.plan.items =
    has_room i.plan.items i.answers.list (subst (λ (v : Asked). is_ask (next_of (asks_left v.plan v.answers)) ≡ true) (sym c.self.view_is) c.requires) in
    let room = c.self.invariant.3 in
    omega (arith, few, room)

pub invariant_of-self : goal.invariant_of-self
invariant_of-self c =
    let i = c.self.inside in
    let inv = c.self.invariant in
    let more : length c.push.new.self.list ≡ length i.answers.list + 1 =
    ap (λ (xs : List Answer). length xs) c.push.ensures.list ∙ length-append i.answers.list (c.args.answer ∷ []) in
    let room = c.push.ensures.room in
    let most = inv.3 in
    (inv.0, inv.1, inv.2, omega (arith, more, room, most))
