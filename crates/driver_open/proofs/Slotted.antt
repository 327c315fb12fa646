-- Domains that are made one after another, each with its first pass.
use Rattle.std.proofs.Common.{◌≡◌, ◌∙◌, ◌++◌, ◌+◌, ◌-◌, ◌<◌, ◌≤◌, ℕ, List, [], ◌∷◌, append_assoc, ap, arith, get_or, length, length-append, map, replicate, subst, sym, take}
use Rattle.std.specs.List.{All, AllZip}
use Rattle.std.proofs.lemmas.Grind.{replicate_next}
use Rattle.std.proofs.lemmas.List.{length-map, length-replicate, map_push, take_more}
use Rattle.std.proofs.lemmas.List.Elements.{All-push}
use Rattle.atomic_table.specs.Seated.{TableId}
use Rattle.virt_types.specs.Limits.{most_domains}
use Rattle.driver_cells.specs.OfCells.{Celled, meaning}
use Rattle.driver_cells.specs.OfObjects.{DomainPass}
use Rattle.pass_rows.specs.Cutting.{cell_of}
use Rattle.pass_rows.specs.Resting.{IsIdle}
use Rattle.driver_store.specs.Below.found_domains.declared.found.FoundDomain.{FoundDomain}
use Rattle.driver_store.proofs.Putting.{zip_length, zip_push}
use Rattle.driver_open.specs.Slots.{AreFirst, IsFirstOf, IsPushed, cells_of, found_cell, vacant_cell}

pub one_more : (cells : List Celled) (cell : Celled) (ids ids_now : List TableId) (passes passes_now : List DomainPass) → AreFirst cells ids passes → IsPushed cell ids ids_now passes passes_now → AreFirst (cells ++ cell ∷ []) ids_now passes_now
one_more cells cell ids ids_now passes passes_now first pushed = record {
  ids_are = ap (λ (ps : List DomainPass). map cell_of ps) pushed.passes_are ∙ (map_push cell_of passes pushed.pass ∙ (ap (λ (l : List TableId). l ++ pushed.pass.cell ∷ []) first.ids_are ∙ sym pushed.ids_are));
  first = subst (AllZip IsFirstOf (cells ++ cell ∷ [])) (sym pushed.passes_are) (zip_push IsFirstOf cells passes cell pushed.pass first.first pushed.first);
  idle = subst (All (IsIdle meaning)) (sym pushed.passes_are) (All-push (IsIdle meaning) passes pushed.pass first.idle pushed.idle);
}

-- a domain was put after the others, with its first pass
pub pushed : (cell : Celled) (ids ids_now : List TableId) (passes passes_now : List DomainPass) (id : TableId) (pass kept : DomainPass) → kept ≡ pass → pass.cell ≡ id → IsFirstOf cell pass → IsIdle meaning pass
    → ids_now ≡ ids ++ id ∷ [] → passes_now ≡ passes ++ kept ∷ [] → IsPushed cell ids ids_now passes passes_now
pushed cell ids ids_now passes passes_now id pass kept same own first idle ids_are passes_are = record {
  pass = pass;
  first = first;
  idle = idle;
  ids_are = ids_are ∙ ap (λ (x : TableId). ids ++ x ∷ []) (sym own);
  passes_are = passes_are ∙ ap (λ (p : DomainPass). passes ++ p ∷ []) same;
}

found_more : (ds : List FoundDomain) (d : FoundDomain) (ids ids_now : List TableId) (passes passes_now : List DomainPass) → AreFirst (map found_cell ds) ids passes → IsPushed (found_cell d) ids ids_now passes passes_now
    → AreFirst (map found_cell (ds ++ d ∷ [])) ids_now passes_now
found_more ds d ids ids_now passes passes_now first pushed = subst (λ (l : List Celled). AreFirst l ids_now passes_now) (sym (map_push found_cell ds d)) (one_more (map found_cell ds) (found_cell d) ids ids_now passes passes_now first pushed)

pub found_next : (ds : List FoundDomain) (i : ℕ) (d : FoundDomain) (ids ids_now : List TableId) (passes passes_now : List DomainPass) → i < length ds → d ≡ get_or ds i d → AreFirst (map found_cell (take i ds)) ids passes
    → IsPushed (found_cell d) ids ids_now passes passes_now → AreFirst (map found_cell (take (i + 1) ds)) ids_now passes_now
found_next ds i d ids ids_now passes passes_now lt is first pushed = subst (λ (l : List FoundDomain). AreFirst (map found_cell l) ids_now passes_now)
    (sym (take_more ds i d lt ∙ ap (λ (x : FoundDomain). take i ds ++ x ∷ []) (sym is)))
    (found_more (take i ds) d ids ids_now passes passes_now first pushed)

pub vacant_more : (cells : List Celled) (n : ℕ) (ids ids_now : List TableId) (passes passes_now : List DomainPass) → AreFirst (cells ++ replicate n vacant_cell) ids passes → IsPushed vacant_cell ids ids_now passes passes_now
    → AreFirst (cells ++ replicate (n + 1) vacant_cell) ids_now passes_now
vacant_more cells n ids ids_now passes passes_now first pushed = subst (λ (l : List Celled). AreFirst l ids_now passes_now)
    (append_assoc cells (replicate n vacant_cell) (vacant_cell ∷ []) ∙ ap (λ (l : List Celled). cells ++ l) (sym (replicate_next n vacant_cell)))
    (one_more (cells ++ replicate n vacant_cell) vacant_cell ids ids_now passes passes_now first pushed)

pub all_made : (ds : List FoundDomain) (n : ℕ) (ids : List TableId) (passes : List DomainPass) → n ≡ most_domains - length ds → AreFirst (map found_cell ds ++ replicate n vacant_cell) ids passes → AreFirst (cells_of ds) ids passes
unfolding cells_of
all_made ds n ids passes is first = subst (λ (k : ℕ). AreFirst (map found_cell ds ++ replicate k vacant_cell) ids passes) is first

-- ---- how many
cells_count : (ds : List FoundDomain) → length ds ≤ most_domains → length (cells_of ds) ≡ most_domains
unfolding cells_of
cells_count ds few = omega (arith, few, length-append (map found_cell ds) (replicate (most_domains - length ds) vacant_cell), length-map ds found_cell, length-replicate (most_domains - length ds) vacant_cell)

-- there is one for each slot
pub slots_count : (ds : List FoundDomain) (ids : List TableId) (passes : List DomainPass) → length ds ≤ most_domains → AreFirst (cells_of ds) ids passes → length passes ≡ most_domains
slots_count ds ids passes few first = zip_length IsFirstOf (cells_of ds) passes first.first ∙ cells_count ds few
