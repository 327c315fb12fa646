-- The words of a job keep their bounds.
use Rattle.std.proofs.Common.{◌≡◌, ◌-◌, ◌<◌, ◌^◌, ℕ, Bool, true, false, List, [], ◌∷◌, Option, None, Some, Result, Ok, Err, refl, subst, arith}
use Rattle.std.specs.Prelude.{if◌then◌else◌}
use Rattle.std.specs.Str.Parse.{digits_value}
use Rattle.std.proofs.lemmas.Bool.Decides.{nat_tests}
use Rattle.command_spec.specs.Lines.{first_command, first_events, first_memory, first_numbered, job_of, whole_command}
use Rattle.command_spec.specs.Reading.{Left, Word, ◌>>=◌, after_option, all_of, behind, ended, first_address, first_form, first_listen, first_listens, first_number, first_two, first_word, is_number, is_plain, misfit, number_of, plain_in, some_or}
use Rattle.command_spec.specs.declared.command.Command.{Command}
use Rattle.command_spec.specs.declared.command.Command.TheVariants as command
use Rattle.command_spec.specs.declared.command.Job.{Job}
use Rattle.command_spec.specs.declared.fault.WordFault.{WordFault}
use Rattle.command_spec.specs.declared.form.Flag.{Flag}
use Rattle.command_spec.specs.declared.form.Form.{Form}
use Rattle.command_spec.specs.declared.form.Form.TheVariants as form
use Rattle.command_spec.specs.declared.form.NumberVerb.{NumberVerb}
use Rattle.command_spec.specs.declared.limits.TheConstants.{MOST_DIGITS, MOST_LISTENS, MOST_MEMORY_DIGITS}
use Rattle.virsh_plan.specs.Within.{IsShort, IsWithin}
use Rattle.virsh_words.proofs.Numbers.{number_is, value_short}

-- what comes of a part comes of the one before it
record Went {A B : Type 0} (read : Result A WordFault) (next : A → Result B WordFault) (y : B) : Type 0 where
  x : A
  first : read ≡ Ok x
  rest : next x ≡ Ok y

went : {A B : Type 0} (read : Result A WordFault) (next : A → Result B WordFault) (y : B) → (read >>= next) ≡ Ok y → Went read next y
went (Ok x) next y e = record { x = x; first = refl; rest = e }
went (Err f) next y e = absurd cc

plain_is : (w : Word) (l r : Left) (x : Word × Left) (b : Bool) → is_plain w ≡ b → (if b then Ok (w, r) else Err (misfit l)) ≡ Ok x → IsShort x.0
plain_is w l r x true is e = let short : IsShort w = grind (arith, nat_tests, is) in let same : w ≡ x.0 = cc in subst IsShort same short
plain_is w l r x false is e = absurd cc

plain_short : (ws : List Word) (l : Left) (x : Word × Left) → plain_in ws l ≡ Ok x → IsShort x.0
plain_short [] l x e = absurd cc
plain_short (w ∷ ws) l x e = plain_is w l (behind ws l) x (is_plain w) refl e

word_short : (l : Left) (x : Word × Left) → first_word l ≡ Ok x → IsShort x.0
unfolding first_word
word_short l x e = let after = went (after_option l) _ x e in plain_short after.x.words after.x x after.rest

ok_is : {A : Type 0} (x y : A) → ◌≡◌ {A = Result A WordFault} (Ok x) (Ok y) → x ≡ y
ok_is x y e = cc

two_short : (l : Left) (x : (Word × Word) × Left) → first_two l ≡ Ok x → IsShort x.0.0 × IsShort x.0.1
unfolding first_two
two_short l x e =
    let one = went (first_word l) _ x e in
    let other = went (first_word one.x.1) _ x one.rest in
    let short : IsShort one.x.0 × IsShort other.x.0 = (word_short l one.x one.first, word_short one.x.1 other.x other.first) in
    subst (λ (y : (Word × Word) × Left). IsShort y.0.0 × IsShort y.0.1) (ok_is ((one.x.0, other.x.0), other.x.1) x other.rest) short

-- ---- numbers

some_is : {A B : Type 0} (f : WordFault) (o : Option A) (next : A → B) (y : B) → some_or f o next ≡ Ok y → (a : A) × (o ≡ Some a) × (next a ≡ y)
some_is f None next y e = absurd cc
some_is f (Some a) next y e = (a, refl, ok_is (next a) y e)

below_by : (most : ℕ) (w : Word) (n : ℕ) (b : Bool) → is_number most w ≡ b → number_of most w ≡ Some n → n < 10 ^ most
unfolding number_of
below_by most w n true is e =
    let value = number_is most w is in
    let same : digits_value 10 w ≡ n = cc in
    subst (λ (x : ℕ). x < 10 ^ most) same (value_short most w is)
below_by most w n false is e = let none : number_of most w ≡ None = rw is in absurd cc

number_below : (most : ℕ) (l : Left) (x : ℕ × Left) → first_number most l ≡ Ok x → x.0 < 10 ^ most
unfolding first_number
number_below most l x e =
    let after = went (after_option l) _ x e in
    let w = went (plain_in after.x.words after.x) _ x after.rest in
    let n = some_is (misfit after.x) (number_of most w.x.0) (λ (n : ℕ). (n, w.x.1)) x w.rest in
    subst (λ (y : ℕ × Left). y.0 < 10 ^ most) n.2 (below_by most w.x.0 n.0 (is_number most w.x.0) refl n.1)

-- ---- commands

within_as : (c : Command) (l : Left) (x : Command × Left) → ◌≡◌ {A = Result (Command × Left) WordFault} (Ok (c, l)) (Ok x) → IsWithin c → IsWithin x.0
within_as c l x e is = subst (λ (y : Command × Left). IsWithin y.0) (ok_is (c, l) x e) is

of_word : (make : Word → Command) → ((w : Word) → IsShort w → IsWithin (make w)) → (l : Left) (x : Command × Left) → (first_word l >>= λ w. Ok (make w.0, w.1)) ≡ Ok x → IsWithin x.0
of_word make is l x e = let w = went (first_word l) (λ w. Ok (make w.0, w.1)) x e in within_as (make w.x.0) w.x.1 x w.rest (is w.x.0 (word_short l w.x w.first))

of_two : (make : Word → Word → Command) → ((w v : Word) → IsShort w → IsShort v → IsWithin (make w v)) → (l : Left) (x : Command × Left) → (first_two l >>= λ two. Ok (make two.0.0 two.0.1, two.1)) ≡ Ok x → IsWithin x.0
of_two make is l x e =
    let two = went (first_two l) (λ two. Ok (make two.0.0 two.0.1, two.1)) x e in
    let short = two_short l two.x two.first in
    within_as (make two.x.0.0 two.x.0.1) two.x.1 x two.rest (is two.x.0.0 two.x.0.1 short.0 short.1)

within_numbered : (verb : NumberVerb) (l : Left) (x : Command × Left) → first_numbered verb l ≡ Ok x → IsWithin x.0
unfolding first_numbered
within_numbered verb l x e =
    let name = went (first_word l) _ x e in
    let n = went (first_number MOST_DIGITS name.x.1) _ x name.rest in
    within_as (command.Number verb name.x.0 n.x.0) n.x.1 x n.rest (word_short l name.x name.first, number_below MOST_DIGITS name.x.1 n.x n.first)

within_memory : (l : Left) (x : Command × Left) → first_memory l ≡ Ok x → IsWithin x.0
unfolding first_memory
within_memory l x e =
    let name = went (first_word l) _ x e in
    let n = went (first_number MOST_MEMORY_DIGITS name.x.1) _ x name.rest in
    within_as (command.SetMem name.x.0 n.x.0) n.x.1 x n.rest (word_short l name.x name.first)

within_events : (l : Left) (x : Command × Left) → first_events l ≡ Ok x → IsWithin x.0
unfolding first_events
within_events l x e =
    let count = went (first_number MOST_DIGITS l) _ x e in
    let one = went (first_listen count.x.1) _ x count.rest in
    let more = went (first_listens (MOST_LISTENS - 1) one.x.1) _ x one.rest in
    within_as (command.Events count.x.0 (one.x.0 ∷ more.x.0)) more.x.1 x more.rest tt

within_command : (f : Form) (l : Left) (x : Command × Left) → first_command f l ≡ Ok x → IsWithin x.0
within_command (form.Plain verb) l x e = within_as (command.Plain verb) l x e tt
within_command (form.File verb) l x e = of_word (λ w. command.File verb w) (λ w short. tt) l x e
within_command form.Restore l x e = of_word (λ w. command.Restore w) (λ w short. short) l x e
within_command (form.Domain verb) l x e = of_word (λ w. command.Domain verb w) (λ w short. short) l x e
within_command (form.Number verb) l x e = within_numbered verb l x e
within_command form.SetMem l x e = within_memory l x e
within_command (form.DomainFile verb) l x e = of_two (λ w v. command.DomainFile verb w v) (λ w v one other. one) l x e
within_command (form.Image verb) l x e = of_two (λ w v. command.Image verb w v) (λ w v one other. (one, other)) l x e
within_command (form.Snapshot verb) l x e = of_two (λ w v. command.Snapshot verb w v) (λ w v one other. (one, other)) l x e
within_command (form.Network verb) l x e = of_word (λ w. command.Network verb w) (λ w short. short) l x e
within_command (form.Pool verb) l x e = of_word (λ w. command.Pool verb w) (λ w short. short) l x e
within_command form.VolCreate l x e = of_two (λ w v. command.VolCreate w v) (λ w v one other. one) l x e
within_command (form.Volume verb) l x e = of_two (λ w v. command.Volume verb w v) (λ w v one other. (one, other)) l x e
within_command form.Events l x e = within_events l x e

within_whole : (l : Left) (x : Command × Option Flag) → whole_command l ≡ Ok x → IsWithin x.0
unfolding whole_command
within_whole l x e =
    let shape = went (first_form l) _ x e in
    let asked = went (first_command shape.x.0 shape.x.1) _ x shape.rest in
    let option = went (ended asked.x.1) _ x asked.rest in
    subst (λ (y : Command × Option Flag). IsWithin y.0) (ok_is (asked.x.0, option.x) x option.rest) (within_command shape.x.0 shape.x.1 asked.x asked.first)

pub within_job : (words : List Word) (job : Job) → job_of words ≡ Ok job → IsWithin job.command
unfolding job_of
within_job words job e =
    let address = went (first_address (all_of words)) _ job e in
    let asked = went (whole_command address.x.1) _ job address.rest in
    subst (λ (j : Job). IsWithin j.command) (ok_is (record { address = address.x.0; command = asked.x.0; option = asked.x.1 }) job asked.rest) (within_whole address.x.1 asked.x asked.first)
