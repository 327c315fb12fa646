-- Whoever was asked, the answer is one that the call which asked may be given.
use Rattle.std.proofs.Common.{◌≡◌, ◌∙◌, ◌++◌, ◌⊎◌, ℕ, Bool, true, false, List, [], ◌∷◌, Option, None, Some, Result, Ok, Err, ap, arith, inl, inr, is_some, option_map, le_refl, refl, subst, sym}
use Rattle.std.specs.Prelude.{◌<◌, ◌≤◌, IfErr, IfOk}
use Rattle.outside_spec.specs.Faults.{Rose}
use Rattle.files_disk.specs.Telling.{Told}
use Rattle.virt_types.specs.Below.types_base.declared.memory.Fault.{Fault}
use Rattle.virt_types.specs.Below.types_base.declared.memory.Fault.TheVariants as fault
use Rattle.virt_types.specs.Below.types_base.declared.memory.OrNoMemory.{OrNoMemory}
use Rattle.virt_types.specs.Below.types_base.declared.memory.OrNoMemory.TheVariants as or
use Rattle.virt_types.specs.Below.types_base.declared.caller.Front.{Front}
use Rattle.domain_spec.specs.Asks.{is_ended_answer, is_lost_answer, is_ok_answer}
use Rattle.domain_spec.specs.Lawful.{IsUnsent}
use Rattle.domain_spec.specs.Types.{Answer, Ask, Command, DomainDef}
use Rattle.domain_spec.specs.Types.ask
use Rattle.domain_spec.specs.Types.answer
use Rattle.domain_spec.specs.Types.given
use Rattle.def_keeper.specs.declared.mark.StoreFault.{StoreFault}
use Rattle.def_keeper.specs.declared.mark.StoreFault.TheVariants as store
use Rattle.def_keeper.specs.Keeper.{Keeping}
use Rattle.domain_obj.specs.OfCells.{IsAnsweredAs, IsCounted, IsLinkAsked, comes}
use Rattle.monitor_link.specs.declared.guests.Link.{Link}
use Rattle.monitor_link.specs.Causes.{IsFaultCaused}
use Rattle.store_asks.specs.Answers.{HasAnswered as KeeperAnswers}
use Rattle.store_asks.specs.Asks.{change_answer, image_answer, no_network}
use Rattle.domain_obj.specs.OfCells.{told}
use Rattle.domain_obj.specs.Sending.{IsSent, SendsToGuest, WasSent}
use Rattle.monitor_link.specs.Views.{IsLinkTo, guest_of, link_view}
use Rattle.monitor_link.specs.declared.link.Ears as ears
use Rattle.monitor_link.specs.declared.link.Killer as killer
use Rattle.monitor_link.specs.declared.link.Monitor as monitor
use Rattle.row_desk.specs.Asking.{AsksMaker, AsksStore, IsAnsweredByStore, IsForStore, IsMade, link_of, made_answer, unmade}
use Rattle.row_desk.specs.Served.{HasMade, HasServed}
use Rattle.row_desk.specs.Stored.{stored_in}
use Rattle.row_desk.specs.Views.{StorePass}
use Rattle.row_desk.proofs.Serving.{makes_on, serves_aside, serves_store}

-- ---- the store
-- it says nothing of a guest
abbrev pub IsOfStore : Answer → Type 0
IsOfStore a = (is_ended_answer a ≡ false) × (is_lost_answer a ≡ false)

change_says : (r : Result Front (OrNoMemory StoreFault)) → IsOfStore (change_answer r)
change_says (Ok front) = (refl, refl)
change_says (Err (or.Fault store.Device)) = (refl, refl)
change_says (Err (or.Fault (store.NameKept one two))) = (refl, refl)
change_says (Err or.NoMemory) = (refl, refl)

image_says : (r : Result (Unit {0}) Fault) → IsOfStore (image_answer r)
image_says (Ok done) = (refl, refl)
image_says (Err fault.Failed) = (refl, refl)
image_says (Err fault.NoMemory) = (refl, refl)

says_so : (a b : Answer) → a ≡ b → IsOfStore b → IsOfStore a
says_so a b is it = subst IsOfStore (sym is) it

module _ {F : Type 0} (disk : F → Told) (faults : F → ℕ) where
  keeper_says : (number : ℕ) (q : Ask) (old new : Keeping F) (a : Answer) → IsForStore q → KeeperAnswers disk faults number q old new (Some a) → IsOfStore a
  keeper_says number (ask.Put d on) old new a it (inl (r, changed, is)) = says_so a (change_answer r) is (change_says r)
  keeper_says number (ask.Put d on) old new a it (inr none) = says_so a answer.NoMemory none.0 (refl, refl)
  keeper_says number (ask.Drop uuid) old new a it (r, changed, is) = says_so a (change_answer r) is (change_says r)
  keeper_says number (ask.WriteImage n k running d bytes) old new a it (inl (r, written, is)) = says_so a (image_answer r) is (image_says r)
  keeper_says number (ask.WriteImage n k running d bytes) old new a it (inr none) = says_so a answer.NoMemory none.0 (refl, refl)
  keeper_says number (ask.Lease network mac) old new a it (is, same) = says_so a (answer.Refused no_network) is (refl, refl)
  keeper_says number (ask.Command c) old new a it answered = absurd it
  keeper_says number (ask.Make d boot) old new a it answered = absurd it

  store_says : (q : Ask) (before after : StorePass) (a : Answer) → IsForStore q → IsAnsweredByStore disk faults q before after a → IsOfStore a
  store_says q before after a it (inl asked) = keeper_says before.number q asked.found asked.left a it asked.answered
  store_says q before after a it (inr none) = says_so a answer.NoMemory none.0 (refl, refl)

-- what is asked of the store is always answered
pub is_answered : {F : Type 0} (disk : F → Told) (faults : F → ℕ) (number : ℕ) (q : Ask) (old new : Keeping F) → IsForStore q → KeeperAnswers disk faults number q old new None → ⊥
is_answered disk faults number (ask.Put d on) old new it answered = answered
is_answered disk faults number (ask.Drop uuid) old new it answered = answered
is_answered disk faults number (ask.WriteImage n k running d bytes) old new it answered = answered
is_answered disk faults number (ask.Lease network mac) old new it answered = answered
is_answered disk faults number (ask.Command c) old new it answered = it
is_answered disk faults number (ask.Make d boot) old new it answered = it

-- ---- guests
not_lost : {X : Type 0} → answer.Ok given.Nothing ≡ answer.Lost → X
not_lost e = cc

no_memory_lost : {X : Type 0} → answer.NoMemory ≡ answer.Lost → X
no_memory_lost e = cc

module _ {G M E Z : Type 0} where
  made_not_ended : (there : Bool) (r : Result (Link G M E Z) Fault) → is_ended_answer (made_answer there r) ≡ false
  made_not_ended there (Ok l) = refl
  made_not_ended true (Err fault.Failed) = refl
  made_not_ended false (Err fault.Failed) = refl
  made_not_ended there (Err fault.NoMemory) = refl

  made_linked : (there : Bool) (r : Result (Link G M E Z) Fault) → is_some (link_of r) ≡ is_ok_answer (made_answer there r)
  made_linked there (Ok l) = refl
  made_linked true (Err fault.Failed) = refl
  made_linked false (Err fault.Failed) = refl
  made_linked there (Err fault.NoMemory) = refl

  made_counted : (ends faults : M → ℕ) (m : M) (r : Result (Link G M E Z) Fault) → IsCounted ends faults (Some m) (made_answer true r)
  made_counted ends faults m (Ok l) = tt
  made_counted ends faults m (Err fault.Failed) = tt
  made_counted ends faults m (Err fault.NoMemory) = tt

  lost_by : (before now : ℕ) (there : Bool) (r : Result (Link G M E Z) Fault) → made_answer there r ≡ answer.Lost → IfErr r (λ f. IsFaultCaused f before now) → Rose before now
  lost_by before now there (Ok l) e cause = not_lost e
  lost_by before now true (Err fault.Failed) e cause = no_memory_lost e
  lost_by before now false (Err fault.Failed) e cause = cause
  lost_by before now there (Err fault.NoMemory) e cause = no_memory_lost e

  lost_of : (g : monitor.Ghosts M) (e : ears.Ghosts E) (z : killer.Ghosts Z) (d : DomainDef) (boot : ℕ) (there : Bool) (before now : ℕ) (a : Answer) (link : Option (Link G M E Z)) → a ≡ answer.Lost → IsMade g e z d boot there before now a link → Rose before now
  lost_of g e z d boot there before now a link lost made = lost_by before now there made.made (sym made.answer_is ∙ lost) made.cause

-- an answer of the store needs no count
store_counted : {M : Type 0} (ends faults : M → ℕ) (monitor : Option M) (a : Answer) → IsOfStore a → IsCounted ends faults monitor a
store_counted ends faults None a says = tt
store_counted ends faults (Some m) (answer.Ok v) says = tt
store_counted ends faults (Some m) (answer.Refused class) says = tt
store_counted ends faults (Some m) (answer.Ended why) says = cc
store_counted ends faults (Some m) answer.Lost says = cc
store_counted ends faults (Some m) answer.Device says = tt
store_counted ends faults (Some m) answer.NoMemory says = tt

rose_some : (before now : ℕ) → Rose before now → 1 ≤ now
rose_some before now rose = omega (arith, rose)

sent_counted : {M : Type 0} (g : monitor.Ghosts M) (c : Command) (m n : M) (a : Answer) → WasSent g c m n a → IsCounted g.ends g.faults (Some n) a
sent_counted g c m n (answer.Ok v) h = tt
sent_counted g c m n (answer.Refused class) h = tt
sent_counted g c m n (answer.Ended why) h = h.cause
sent_counted g c m n answer.Lost h = rose_some (g.faults m) (g.faults n) h.cause
sent_counted g c m n answer.Device h = tt
sent_counted g c m n answer.NoMemory h = tt

-- commands, and guests that were made, are not of the store
command_aside : (c : Command) (a : Answer) → stored_in (told (ask.Command c ∷ []) (a ∷ [])) ≡ []
command_aside c (answer.Ok v) = refl
command_aside c (answer.Refused class) = refl
command_aside c (answer.Ended why) = refl
command_aside c answer.Lost = refl
command_aside c answer.Device = refl
command_aside c answer.NoMemory = refl

make_aside : (d : DomainDef) (boot : ℕ) (a : Answer) → stored_in (told (ask.Make d boot ∷ []) (a ∷ [])) ≡ []
make_aside d boot (answer.Ok v) = refl
make_aside d boot (answer.Refused class) = refl
make_aside d boot (answer.Ended why) = refl
make_aside d boot answer.Lost = refl
make_aside d boot answer.Device = refl
make_aside d boot answer.NoMemory = refl

-- ---- whoever was asked
aside : {F : Type 0} (disk : F → Told) (report t : List (Ask × Answer)) (first from to : StorePass) → stored_in t ≡ [] → to ≡ from → HasServed disk report first from → HasServed disk (report ++ t) first to
aside disk report t first from to none same s = subst (λ (p : StorePass). HasServed disk (report ++ t) first p) (sym same) (serves_aside disk report t first from none s)

same_count : {G : Type 0} (unmade_count : G → ℕ) (old new : G) → new ≡ old → unmade_count old ≤ unmade_count new
same_count {G = G} unmade_count old new same = subst (λ (g : G). unmade_count old ≤ unmade_count g) (sym same) (le_refl (unmade_count old))

module _ {M : Type 0} (g : monitor.Ghosts M) where
  unsent : (c : Command) (after : Option M) (a : Answer) → IsSent g c None after a → IsUnsent a
  unsent c None a is = subst IsUnsent (sym is) tt
  unsent c (Some n) a is = absurd is

  sent_stays : (c : Command) (before after : Option M) (a : Answer) → IsSent g c before after a → is_some after ≡ is_some before
  sent_stays c None None a is = refl
  sent_stays c None (Some n) a is = absurd is
  sent_stays c (Some m) None a is = absurd is
  sent_stays c (Some m) (Some n) a is = refl

  command_counted : (c : Command) (before after : Option M) (a : Answer) → IsSent g c before after a → IsCounted g.ends g.faults after a
  command_counted c before None a is = tt
  command_counted c None (Some n) a is = absurd is
  command_counted c (Some m) (Some n) a is = sent_counted g c m n a is

module _ {M E Z G F : Type 0} (g : monitor.Ghosts M) (e : ears.Ghosts E) (z : killer.Ghosts Z) (unmade_count : G → ℕ) (disk : F → Told) (counts : F → ℕ) where
  -- one of them was asked
  pub record Does (q : Ask) (before after : Option M) (old new : G) (from to : StorePass) (a : Answer) (link : Option (Link G M E Z)) : Type 0 where
    pub guest : SendsToGuest g q before after a
    pub maker : AsksMaker g e z unmade_count q (is_some before) old new a link
    pub store : AsksStore disk counts q from to a

  pub fits : (q : Ask) (before after : Option M) (old new : G) (from to : StorePass) (a : Answer) (link : Option (Link G M E Z)) → Does q before after old new from to a link → IsAnsweredAs (is_some before) q a
  fits (ask.Command c) None after old new from to a link h = unsent g c after a h.guest
  fits (ask.Command c) (Some m) after old new from to a link h = tt
  fits (ask.Make d boot) None after old new from to a link h = ap is_ended_answer h.maker.answer_is ∙ made_not_ended false h.maker.made
  fits (ask.Make d boot) (Some m) after old new from to a link h = ap is_ended_answer h.maker.answer_is ∙ made_not_ended true h.maker.made
  fits (ask.Put d on) None after old new from to a link h = store_says disk counts (ask.Put d on) from to a tt h.store
  fits (ask.Put d on) (Some m) after old new from to a link h = store_says disk counts (ask.Put d on) from to a tt h.store
  fits (ask.Drop uuid) None after old new from to a link h = store_says disk counts (ask.Drop uuid) from to a tt h.store
  fits (ask.Drop uuid) (Some m) after old new from to a link h = store_says disk counts (ask.Drop uuid) from to a tt h.store
  fits (ask.Lease network mac) None after old new from to a link h = store_says disk counts (ask.Lease network mac) from to a tt h.store
  fits (ask.Lease network mac) (Some m) after old new from to a link h = store_says disk counts (ask.Lease network mac) from to a tt h.store
  fits (ask.WriteImage n k running d bytes) None after old new from to a link h = store_says disk counts (ask.WriteImage n k running d bytes) from to a tt h.store
  fits (ask.WriteImage n k running d bytes) (Some m) after old new from to a link h = store_says disk counts (ask.WriteImage n k running d bytes) from to a tt h.store

  pub linked : (q : Ask) (before after : Option M) (old new : G) (from to : StorePass) (a : Answer) (link : Option (Link G M E Z)) → Does q before after old new from to a link → is_some link ≡ comes q (is_ok_answer a)
  linked (ask.Make d boot) before after old new from to a link h =
      ap is_some h.maker.link_is ∙ (made_linked (is_some before) h.maker.made ∙ sym (ap is_ok_answer h.maker.answer_is))
  linked (ask.Command c) before after old new from to a link h = ap is_some h.maker.1
  linked (ask.Put d on) before after old new from to a link h = ap is_some h.maker.1
  linked (ask.Drop uuid) before after old new from to a link h = ap is_some h.maker.1
  linked (ask.Lease network mac) before after old new from to a link h = ap is_some h.maker.1
  linked (ask.WriteImage n k running d bytes) before after old new from to a link h = ap is_some h.maker.1

  link_made : (d : DomainDef) (boot : ℕ) (there : Bool) (before now : ℕ) (a : Answer) (link : Option (Link G M E Z)) (r : Result (Link G M E Z) Fault) → link ≡ link_of r → IfOk r (λ l. IsLinkTo (guest_of d boot) (link_view g e z l))
      → IsLinkAsked (ask.Make d boot) (option_map (link_view g e z) link)
  link_made d boot there before now a link (Ok l) is h = subst (λ (k : Option (Link G M E Z)). IsLinkAsked (ask.Make d boot) (option_map (link_view g e z) k)) (sym is) h
  link_made d boot there before now a link (Err f) is h = subst (λ (k : Option (Link G M E Z)). IsLinkAsked (ask.Make d boot) (option_map (link_view g e z) k)) (sym is) tt

  pub link_asked : (q : Ask) (before after : Option M) (old new : G) (from to : StorePass) (a : Answer) (link : Option (Link G M E Z)) → Does q before after old new from to a link → IsLinkAsked q (option_map (link_view g e z) link)
  link_asked (ask.Make d boot) before after old new from to a link h = link_made d boot (is_some before) (unmade_count old) (unmade_count new) a link h.maker.made h.maker.link_is h.maker.guest
  link_asked (ask.Command c) before after old new from to a link h = tt
  link_asked (ask.Put d on) before after old new from to a link h = tt
  link_asked (ask.Drop uuid) before after old new from to a link h = tt
  link_asked (ask.Lease network mac) before after old new from to a link h = tt
  link_asked (ask.WriteImage n k running d bytes) before after old new from to a link h = tt

  pub monitor_stays : (q : Ask) (before after : Option M) (old new : G) (from to : StorePass) (a : Answer) (link : Option (Link G M E Z)) → Does q before after old new from to a link → is_some after ≡ is_some before
  monitor_stays (ask.Command c) before after old new from to a link h = sent_stays g c before after a h.guest
  monitor_stays (ask.Make d boot) before after old new from to a link h = ap is_some h.guest
  monitor_stays (ask.Put d on) before after old new from to a link h = ap is_some h.guest
  monitor_stays (ask.Drop uuid) before after old new from to a link h = ap is_some h.guest
  monitor_stays (ask.Lease network mac) before after old new from to a link h = ap is_some h.guest
  monitor_stays (ask.WriteImage n k running d bytes) before after old new from to a link h = ap is_some h.guest

  make_counted : (after : Option M) (before : Option M) (a : Answer) (r : Result (Link G M E Z) Fault) → after ≡ before → a ≡ made_answer (is_some before) r → IsCounted g.ends g.faults after a
  make_counted None before a r same is = tt
  make_counted (Some n) before a r same is =
      let b : is_some before ≡ true = ap is_some (sym same) in
      subst (IsCounted g.ends g.faults (Some n)) (sym (is ∙ ap (λ (t : Bool). made_answer t r) b)) (made_counted g.ends g.faults n r)

  pub counted : (q : Ask) (before after : Option M) (old new : G) (from to : StorePass) (a : Answer) (link : Option (Link G M E Z)) → Does q before after old new from to a link → IsCounted g.ends g.faults after a
  counted (ask.Command c) before after old new from to a link h = command_counted g c before after a h.guest
  counted (ask.Make d boot) before after old new from to a link h = make_counted after before a h.maker.made h.guest h.maker.answer_is
  counted (ask.Put d on) before after old new from to a link h = store_counted g.ends g.faults after a (store_says disk counts (ask.Put d on) from to a tt h.store)
  counted (ask.Drop uuid) before after old new from to a link h = store_counted g.ends g.faults after a (store_says disk counts (ask.Drop uuid) from to a tt h.store)
  counted (ask.Lease network mac) before after old new from to a link h = store_counted g.ends g.faults after a (store_says disk counts (ask.Lease network mac) from to a tt h.store)
  counted (ask.WriteImage n k running d bytes) before after old new from to a link h = store_counted g.ends g.faults after a (store_says disk counts (ask.WriteImage n k running d bytes) from to a tt h.store)

  -- it is tied to the store as it was
  pub serves : (q : Ask) (before after : Option M) (old new : G) (from to : StorePass) (a : Answer) (link : Option (Link G M E Z)) (report : List (Ask × Answer)) (first : StorePass)
      → Does q before after old new from to a link → HasServed disk report first from → HasServed disk (report ++ told (q ∷ []) (a ∷ [])) first to
  serves (ask.Command c) before after old new from to a link report first h s = aside disk report (told (ask.Command c ∷ []) (a ∷ [])) first from to (command_aside c a) h.store s
  serves (ask.Make d boot) before after old new from to a link report first h s = aside disk report (told (ask.Make d boot ∷ []) (a ∷ [])) first from to (make_aside d boot a) h.store s
  serves (ask.Put d on) before after old new from to a link report first h s = serves_store disk counts (ask.Put d on) a report first from to tt s h.store
  serves (ask.Drop uuid) before after old new from to a link report first h s = serves_store disk counts (ask.Drop uuid) a report first from to tt s h.store
  serves (ask.Lease network mac) before after old new from to a link report first h s = serves_store disk counts (ask.Lease network mac) a report first from to tt s h.store
  serves (ask.WriteImage n k running d bytes) before after old new from to a link report first h s = serves_store disk counts (ask.WriteImage n k running d bytes) a report first from to tt s h.store

  -- and to the maker
  pub makes : (q : Ask) (before after : Option M) (old new : G) (from to : StorePass) (a : Answer) (link : Option (Link G M E Z)) (report : List (Ask × Answer)) (first : ℕ)
      → Does q before after old new from to a link → HasMade report first (unmade_count old) → HasMade (report ++ told (q ∷ []) (a ∷ [])) first (unmade_count new)
  makes (ask.Make d boot) before after old new from to a link report first h s =
      makes_on (ask.Make d boot) a report first (unmade_count old) (unmade_count new) s h.maker.counts
      (λ x n at lost. lost_of g e z d boot (is_some before) (unmade_count old) (unmade_count new) a link lost h.maker)
  makes (ask.Command c) before after old new from to a link report first h s =
      makes_on (ask.Command c) a report first (unmade_count old) (unmade_count new) s (same_count unmade_count old new h.maker.0) (λ x n e lost. cc)
  makes (ask.Put d on) before after old new from to a link report first h s =
      makes_on (ask.Put d on) a report first (unmade_count old) (unmade_count new) s (same_count unmade_count old new h.maker.0) (λ x n e lost. cc)
  makes (ask.Drop uuid) before after old new from to a link report first h s =
      makes_on (ask.Drop uuid) a report first (unmade_count old) (unmade_count new) s (same_count unmade_count old new h.maker.0) (λ x n e lost. cc)
  makes (ask.Lease network mac) before after old new from to a link report first h s =
      makes_on (ask.Lease network mac) a report first (unmade_count old) (unmade_count new) s (same_count unmade_count old new h.maker.0) (λ x n e lost. cc)
  makes (ask.WriteImage n k running d bytes) before after old new from to a link report first h s =
      makes_on (ask.WriteImage n k running d bytes) a report first (unmade_count old) (unmade_count new) s (same_count unmade_count old new h.maker.0) (λ x n e lost. cc)

  -- so is the report with this ask
  pub keeps : (q : Ask) (before after : Option M) (old new : G) (from to : StorePass) (a : Answer) (link : Option (Link G M E Z)) (report now : List (Ask × Answer)) (first : StorePass) (count : ℕ)
      → SendsToGuest g q before after a → AsksMaker g e z unmade_count q (is_some before) old new a link → AsksStore disk counts q from to a → now ≡ report ++ told (q ∷ []) (a ∷ [])
      → HasServed disk report first from × HasMade report count (unmade_count old) → HasServed disk now first to × HasMade now count (unmade_count new)
  keeps q before after old new from to a link report now first count guest maker store is was =
      let does : Does q before after old new from to a link = record { guest = guest; maker = maker; store = store } in
      let on : HasServed disk (report ++ told (q ∷ []) (a ∷ [])) first to × HasMade (report ++ told (q ∷ []) (a ∷ [])) count (unmade_count new) =
      (serves q before after old new from to a link report first does was.0, makes q before after old new from to a link report count does was.1) in
      subst (λ (l : List (Ask × Answer)). HasServed disk l first to × HasMade l count (unmade_count new)) (sym is) on
