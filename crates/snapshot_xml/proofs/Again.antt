-- Snapshots that are printed are read again.
use Rattle.std.proofs.Common.{◌≡◌, ℕ, suc, List, [], ◌∷◌, ◌++◌, length, Bool, true, false, Option, Some, None, Ok, refl, sym, ap, ◌∙◌, subst, append-nil, arith}
use Rattle.std.specs.Prelude.{◌==◌, codes, chars, find, if◌then◌else◌}
use Rattle.std.specs.List.{AllByRecursion, flat_map}
use Rattle.virt_types.specs.declared.domain.Snap.{Snap}
use Rattle.virt_types.specs.declared.domain.SnapInfo.{SnapInfo}
use Rattle.virt_types.specs.declared.run_state.RunState.{RunState}
use Rattle.virt_types.specs.declared.run_state.RunState.TheVariants as run
use Rattle.text_spec.specs.Character.{is_name_start, is_name_char}
use Rattle.text_spec.specs.Spelling.{fits}
use Rattle.text_spec.specs.Text.{read_of}
use Rattle.text_spec.specs.Tree.{Tree, trees, none}
use Rattle.text_spec.specs.Writable.{IsNamed, IsText, IsTree, IsWritable}
use Rattle.text_spec.specs.Written.{written, in_text, deeper, trees_written}
use Rattle.xml_print.specs.Below.text_laws.Texts.{Of}
use Rattle.xml_print.proofs.Below.text_laws.Allowed.{both_all}
use Rattle.xml_print.proofs.Below.text_laws.Lengths.{AreNoLonger, as_long, both_longer, first_room, fits_too, none_longer, tree_room, with_room}
use Rattle.xml_print.proofs.Below.text_laws.Plain.{named_by, word_text}
use Rattle.xml_tables.proofs.Formed.{first_in, holder_formed, word_formed, writable}
use Rattle.xml_tables.specs.Called.{is_called, text_called}
use Rattle.xml_tables.specs.Spelled.{spelled, worded, wordeds}
use Rattle.snapshot_xml.specs.ReadsAs.{IsNameText, IsSoundInfo, IsSoundSnapshot, ReadsAsSnapshot}
use Rattle.snapshot_xml.specs.SnapshotText.{info_tree, run_word, said, parent_trees, kept_tree, info_of, name_kind, info_in, info_fault, snapshot_in, snapshot_read}

-- ---- what is printed can be written
root_named : IsNamed (codes "domainsnapshot")
unfolding is_name_start is_name_char
root_named = named_by _ _ refl refl refl

name_named : IsNamed (codes "name")
unfolding is_name_start is_name_char
name_named = named_by _ _ refl refl refl

description_named : IsNamed (codes "description")
unfolding is_name_start is_name_char
description_named = named_by _ _ refl refl refl

state_named : IsNamed (codes "state")
unfolding is_name_start is_name_char
state_named = named_by _ _ refl refl refl

parent_named : IsNamed (codes "parent")
unfolding is_name_start is_name_char
parent_named = named_by _ _ refl refl refl

module _ (depth : ℕ) where
  words_formed : (word : List ℕ) (text : Option (List ℕ)) → IsNamed word → Of IsText text → AllByRecursion (IsTree (suc depth)) (wordeds word text)
  words_formed word None named is = tt
  words_formed word (Some text) named is = (word_formed depth word text named is, tt)

name_texts : (name : Option (List ℕ)) → Of IsNameText name → Of IsText name
name_texts None is = tt
name_texts (Some name) is = is.is_text

info_formed : (s : SnapInfo) → IsSoundInfo s → IsTree 32 (info_tree s)
unfolding info_tree
info_formed s is =
    holder_formed 31 (codes "domainsnapshot") [] _ root_named tt
    (both_all _ (wordeds (codes "name") s.name) _ (words_formed 30 (codes "name") s.name name_named (name_texts s.name is.name))
    (words_formed 30 (codes "description") s.description description_named is.description))

said_text : (text : List ℕ) (b : Bool) → IsText text → Of IsText (if b then None else Some text)
said_text text true is = tt
said_text text false is = is

run_text : (r : Option RunState) → IsText (run_word r)
run_text None = word_text _ refl
run_text (Some run.Running) = word_text _ refl
run_text (Some (run.Paused cause)) = word_text _ refl
run_text (Some run.Crashed) = word_text _ refl

parent_formed : (name : Option (List ℕ)) → Of IsNameText name → AllByRecursion (IsTree 31) (parent_trees name)
parent_formed None is = tt
parent_formed (Some name) is = (holder_formed 30 (codes "parent") [] (worded (codes "name") name ∷ []) parent_named tt (word_formed 29 (codes "name") name name_named is.is_text, tt), tt)

kept_formed : (s : Snap) → IsSoundSnapshot s → IsTree 32 (kept_tree s)
unfolding kept_tree
kept_formed s is =
    holder_formed 31 (codes "domainsnapshot") []
    (worded (codes "name") s.name ∷ wordeds (codes "description") (said s.description) ++ (worded (codes "state") (run_word s.run) ∷ parent_trees s.parent))
    root_named tt (
      word_formed 30 (codes "name") s.name name_named is.name.is_text,
      both_all _ (wordeds (codes "description") (said s.description)) _
          (words_formed 30 (codes "description") (said s.description) description_named (said_text s.description (length s.description == 0) is.description))
          (word_formed 30 (codes "state") (run_word s.run) state_named (run_text s.run), parent_formed s.parent is.parent),
    )

-- ---- what is printed is read
name_back : (name text : Option (List ℕ)) (more : List Tree) → find (is_called (codes "name")) more ≡ None
    → text_called (codes "name") (spelled (codes "domainsnapshot") [] [] (wordeds (codes "name") name ++ (wordeds (codes "description") text ++ more))) ≡ name
unfolding is_called
name_back None None more absent = rw (first_in (codes "name") (codes "domainsnapshot") [] [] more, absent) refl
name_back None (Some text) more absent = rw (first_in (codes "name") (codes "domainsnapshot") [] [] (worded (codes "description") text ∷ more), absent) refl
name_back (Some name) text more absent = rw (first_in (codes "name") (codes "domainsnapshot") [] [] (worded (codes "name") name ∷ (wordeds (codes "description") text ++ more))) refl

text_back : (name text : Option (List ℕ)) (more : List Tree) → find (is_called (codes "description")) more ≡ None
    → text_called (codes "description") (spelled (codes "domainsnapshot") [] [] (wordeds (codes "name") name ++ (wordeds (codes "description") text ++ more))) ≡ text
unfolding is_called
text_back None None more absent = rw (first_in (codes "description") (codes "domainsnapshot") [] [] more, absent) refl
text_back None (Some text) more absent = rw (first_in (codes "description") (codes "domainsnapshot") [] [] (worded (codes "description") text ∷ more)) refl
text_back (Some name) None more absent = rw (first_in (codes "description") (codes "domainsnapshot") [] [] (worded (codes "name") name ∷ more), absent) refl
text_back (Some name) (Some text) more absent =
    rw (first_in (codes "description") (codes "domainsnapshot") [] [] (worded (codes "name") name ∷ worded (codes "description") text ∷ more)) refl

name_clean : (name : Option (List ℕ)) → Of IsNameText name → name_kind name ≡ None
name_clean None is = refl
name_clean (Some name) is = rw is.is_name refl

module _ (t : Tree) (name text : Option (List ℕ)) (root : is_called (codes "domainsnapshot") t ≡ true)
    (name_is : text_called (codes "name") t ≡ name) (text_is : text_called (codes "description") t ≡ text) (is : Of IsNameText name) where
  snapshot_back : snapshot_in t ≡ Ok (record { name = name; description = text })
  unfolding snapshot_in info_fault info_in
  snapshot_back = rw (root, name_is, text_is, name_clean name is) refl

  read_back : fits (info_tree (record { name = name; description = text })) ≡ true → snapshot_read t ≡ Ok (record { name = name; description = text })
  unfolding snapshot_read
  read_back fitting = rw (snapshot_back, fitting) refl

is_root : (ts : List Tree) → is_called (codes "domainsnapshot") (spelled (codes "domainsnapshot") [] [] ts) ≡ true
unfolding is_called
is_root ts = refl

-- the elements of what a caller says, with nothing after them
nothing_more : (s : SnapInfo) → info_tree s ≡ spelled (codes "domainsnapshot") [] [] (wordeds (codes "name") s.name ++ (wordeds (codes "description") s.description ++ []))
unfolding info_tree
nothing_more s = ap (λ ts. spelled (codes "domainsnapshot") [] [] (wordeds (codes "name") s.name ++ ts)) (sym (append-nil (wordeds (codes "description") s.description)))

info_back : (s : SnapInfo) → IsSoundInfo s → snapshot_read (info_tree s) ≡ Ok s
info_back s is =
    ap snapshot_read (nothing_more s)
    ∙ read_back (spelled (codes "domainsnapshot") [] [] (wordeds (codes "name") s.name ++ (wordeds (codes "description") s.description ++ []))) s.name s.description
    (is_root (wordeds (codes "name") s.name ++ (wordeds (codes "description") s.description ++ []))) (name_back s.name s.description [] refl) (text_back s.name s.description [] refl) is.name is.fitting

pub info_again : ((t : Tree) → IsWritable t → read_of (written t) ≡ Ok t) → (s : SnapInfo) → IsSoundInfo s → ReadsAsSnapshot (written (info_tree s)) s
info_again back s is = record {
  tree = info_tree s;
  is_tree = back (info_tree s) (writable (info_tree s) (info_formed s is) is.fitting);
  is_snapshot = info_back s is;
}

-- ---- what is told of a snapshot is longer than what a caller might have said
longer : (word : List ℕ) (t u : Tree) (ts us : List Tree) → AreNoLonger (t ∷ ts) (u ∷ us)
    → AreNoLonger (spelled word [] [] (t ∷ ts) ∷ []) (spelled word [] [] (u ∷ us) ∷ [])
longer word t u ts us a = record {
  bytes = λ inset. omega (
    arith,
    first_room inset (spelled word [] [] (t ∷ ts)) none,
    first_room inset (spelled word [] [] (u ∷ us)) none,
    tree_room inset word [] [] (trees (t ∷ ts)),
    tree_room inset word [] [] (trees (u ∷ us)),
    with_room inset (chars word) (flat_map in_text (chars [])) (trees_written (deeper inset) (trees (t ∷ ts))),
    with_room inset (chars word) (flat_map in_text (chars [])) (trees_written (deeper inset) (trees (u ∷ us))),
    a.bytes (deeper inset),
  );
  elements = omega (arith, a.elements);
}

more_behind : (xs more : List Tree) → AreNoLonger xs (xs ++ more)
more_behind xs more = subst (λ ys. AreNoLonger ys (xs ++ more)) (append-nil xs) (both_longer xs xs [] more (as_long xs) (none_longer more))

told : Snap → List Tree
told s = worded (codes "state") (run_word s.run) ∷ parent_trees s.parent

kept_longer : (s : Snap) → AreNoLonger (info_tree (info_of s) ∷ []) (kept_tree s ∷ [])
unfolding info_tree kept_tree told
kept_longer s =
    longer (codes "domainsnapshot") _ _ _ _ (more_behind (worded (codes "name") s.name ∷ wordeds (codes "description") (said s.description)) (told s))

info_fits : (s : Snap) → fits (kept_tree s) ≡ true → fits (info_tree (info_of s)) ≡ true
info_fits s e = fits_too (info_tree (info_of s)) (kept_tree s) (kept_longer s) e

untold_name : (r : Option RunState) (parent : Option (List ℕ)) → find (is_called (codes "name")) (worded (codes "state") (run_word r) ∷ parent_trees parent) ≡ None
unfolding is_called
untold_name r None = refl
untold_name r (Some name) = refl

untold_text : (r : Option RunState) (parent : Option (List ℕ)) → find (is_called (codes "description")) (worded (codes "state") (run_word r) ∷ parent_trees parent) ≡ None
unfolding is_called
untold_text r None = refl
untold_text r (Some name) = refl

kept_back : (s : Snap) → IsSoundSnapshot s → snapshot_read (kept_tree s) ≡ Ok (info_of s)
unfolding kept_tree
kept_back s is =
    let more = worded (codes "state") (run_word s.run) ∷ parent_trees s.parent in
    read_back (spelled (codes "domainsnapshot") [] [] (worded (codes "name") s.name ∷ (wordeds (codes "description") (said s.description) ++ more)))
    (Some s.name) (said s.description) (is_root (worded (codes "name") s.name ∷ (wordeds (codes "description") (said s.description) ++ more)))
    (name_back (Some s.name) (said s.description) more (untold_name s.run s.parent))
    (text_back (Some s.name) (said s.description) more (untold_text s.run s.parent))
    is.name (info_fits s is.fitting)

pub kept_again : ((t : Tree) → IsWritable t → read_of (written t) ≡ Ok t) → (s : Snap) → IsSoundSnapshot s → ReadsAsSnapshot (written (kept_tree s)) (info_of s)
kept_again back s is = record {
  tree = kept_tree s;
  is_tree = back (kept_tree s) (writable (kept_tree s) (kept_formed s is) is.fitting);
  is_snapshot = kept_back s is;
}
