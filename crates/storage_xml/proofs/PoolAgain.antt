-- Pools that are printed are read again.
use Rattle.std.proofs.Common.{◌≡◌, ℕ, ◌≤◌, List, [], ◌∷◌, ◌++◌, true, false, Option, Some, None, Ok, refl, sym, ap, subst, arith}
use Rattle.std.specs.Prelude.{◌==◌, codes, chars, find, option_map}
use Rattle.std.specs.List.{flat_map}
use Rattle.std.specs.Option.{option_to_list}
use Rattle.std.proofs.lemmas.Bool.Decides.{nat_tests}
use Rattle.uuid.specs.Parts.{zero_bytes}
use Rattle.uuid.specs.Text.{hyphenated_text, lower}
use Rattle.text_spec.specs.Character.{is_name_start, is_name_char}
use Rattle.text_spec.specs.Fill.{IsUuidFilled}
use Rattle.text_spec.specs.Look.{text_of}
use Rattle.text_spec.specs.Spelling.{fits}
use Rattle.text_spec.specs.Text.{read_of}
use Rattle.text_spec.specs.Tree.{Tree, trees, none}
use Rattle.text_spec.specs.Writable.{IsNamed, IsTree, IsWritable}
use Rattle.text_spec.specs.Written.{written, in_text, deeper, trees_written}
use Rattle.text_laws.proofs.Allowed.{both_all}
use Rattle.text_laws.proofs.Lengths.{AreNoLonger, as_long, both_longer, first_room, fits_too, none_longer, tree_room, with_room}
use Rattle.text_laws.proofs.Plain.{named_by, word_value}
use Rattle.types_base.specs.declared.storage_def.PoolDef.{PoolDef}
use Rattle.types_base.specs.declared.storage_def.PoolType.{PoolType}
use Rattle.types_base.specs.declared.storage_def.PoolType.TheVariants as pool
use Rattle.xml_tables.specs.Called.{first_called, is_called, is_pair_called, text_called, value_called}
use Rattle.xml_tables.specs.Spelled.{spelled, worded, worth}
use Rattle.xml_tables.specs.Values.{size_tree, uuid_tree}
use Rattle.xml_tables.proofs.Again.{identifier_back, name_back, size_back}
use Rattle.xml_tables.proofs.Identifiers.{uuid_filled, uuid_longer}
use Rattle.xml_tables.proofs.Formed.{first_in, holder_formed, one_attribute, size_formed, uuid_formed, word_formed, writable}
use Rattle.storage_xml.specs.PoolText.{capacity_or_most, identified, path_in, pool_fits, pool_in, pool_of, pool_read, pool_tree, target_tree}
use Rattle.storage_xml.specs.ReadsAs.{IsSoundPool, ReadsAsPool}

pool_named : IsNamed (codes "pool")
unfolding is_name_start is_name_char
pool_named = named_by _ _ refl refl refl

name_named : IsNamed (codes "name")
unfolding is_name_start is_name_char
name_named = named_by _ _ refl refl refl

capacity_named : IsNamed (codes "capacity")
unfolding is_name_start is_name_char
capacity_named = named_by _ _ refl refl refl

target_named : IsNamed (codes "target")
unfolding is_name_start is_name_char
target_named = named_by _ _ refl refl refl

path_named : IsNamed (codes "path")
unfolding is_name_start is_name_char
path_named = named_by _ _ refl refl refl

type_named : IsNamed (codes "type")
unfolding is_name_start is_name_char
type_named = named_by _ _ refl refl refl

-- ---- what is printed can be written
abbrev behind : PoolDef → List Tree
behind d = size_tree (codes "capacity") d.capacity ∷ target_tree d.path ∷ []

abbrev laid : PoolDef → List Tree
laid d = worded (codes "name") d.name ∷ option_to_list (option_map uuid_tree d.uuid) ++ behind d

formed : (d : PoolDef) → IsSoundPool d → IsTree 32 (pool_tree d)
unfolding pool_tree
formed d is =
    holder_formed 31 (codes "pool") (worth (codes "type") (codes "dir") ∷ []) (laid d) pool_named
    (one_attribute (codes "type") (codes "dir") type_named (word_value _ refl)) (
      word_formed 30 (codes "name") d.name name_named is.name_text,
      both_all _ (option_to_list (option_map uuid_tree d.uuid)) _ (uuid_formed 30 d.uuid) (
        size_formed 30 (codes "capacity") d.capacity capacity_named (omega (arith, is.capacity.1)),
        (holder_formed 30 (codes "target") [] (worded (codes "path") d.path ∷ []) target_named tt (word_formed 29 (codes "path") d.path path_named is.path, tt), tt),
      ),
    )

-- ---- with an identifier a text is no shorter
longer : (ts us : List Tree) (t u : Tree) → AreNoLonger (t ∷ ts) (u ∷ us)
    → AreNoLonger (spelled (codes "pool") (worth (codes "type") (codes "dir") ∷ []) [] (t ∷ ts) ∷ []) (spelled (codes "pool") (worth (codes "type") (codes "dir") ∷ []) [] (u ∷ us) ∷ [])
longer ts us t u a = record {
  bytes = λ inset. omega (
    arith,
    first_room inset (spelled (codes "pool") (worth (codes "type") (codes "dir") ∷ []) [] (t ∷ ts)) none,
    first_room inset (spelled (codes "pool") (worth (codes "type") (codes "dir") ∷ []) [] (u ∷ us)) none,
    tree_room inset (codes "pool") (worth (codes "type") (codes "dir") ∷ []) [] (trees (t ∷ ts)),
    tree_room inset (codes "pool") (worth (codes "type") (codes "dir") ∷ []) [] (trees (u ∷ us)),
    with_room inset (chars (codes "pool")) (flat_map in_text (chars [])) (trees_written (deeper inset) (trees (t ∷ ts))),
    with_room inset (chars (codes "pool")) (flat_map in_text (chars [])) (trees_written (deeper inset) (trees (u ∷ us))),
    a.bytes (deeper inset),
  );
  elements = omega (arith, a.elements);
}

unidentified : (d : PoolDef) (uuid : List ℕ) → AreNoLonger (pool_tree (record d { uuid = None }) ∷ []) (pool_tree (record d { uuid = Some uuid }) ∷ [])
unfolding pool_tree
unidentified d uuid =
    longer (behind d) (uuid_tree uuid ∷ behind d) (worded (codes "name") d.name) (worded (codes "name") d.name)
    (both_longer (worded (codes "name") d.name ∷ []) (worded (codes "name") d.name ∷ []) (behind d) (uuid_tree uuid ∷ behind d) (as_long (worded (codes "name") d.name ∷ []))
    (both_longer [] (uuid_tree uuid ∷ []) (behind d) (behind d) (none_longer (uuid_tree uuid ∷ [])) (as_long (behind d))))

fits_by : (d : PoolDef) (uuid : Option (List ℕ)) → fits (pool_tree (identified (record d { uuid = uuid }))) ≡ true → fits (pool_tree (record d { uuid = uuid })) ≡ true
fits_by d None e = fits_too (pool_tree (record d { uuid = None })) (pool_tree (record d { uuid = Some zero_bytes })) (unidentified d zero_bytes) e
fits_by d (Some uuid) e = e

own_fits : (d : PoolDef) → pool_fits d ≡ true → fits (pool_tree d) ≡ true
unfolding pool_fits
own_fits d e = fits_by d d.uuid e

-- ---- what is printed is read
found : (word : List ℕ) (d : PoolDef) → first_called word (pool_tree d) ≡ find (is_called word) (laid d)
unfolding pool_tree
found word d = first_in word (codes "pool") [] (worth (codes "type") (codes "dir") ∷ []) (laid d)

type_at : (d : PoolDef) → value_called (codes "type") (pool_tree d) ≡ Some (codes "dir")
unfolding value_called is_pair_called pool_tree
type_at d = refl

name_at : (d : PoolDef) → text_called (codes "name") (pool_tree d) ≡ Some d.name
unfolding is_called
name_at d = rw (found (codes "name") d) refl

module _ (name path : List ℕ) (capacity : ℕ) where
  abbrev rest : Option (List ℕ) → List Tree
  rest uuid = worded (codes "name") name ∷ option_to_list (option_map uuid_tree uuid) ++ (size_tree (codes "capacity") capacity ∷ target_tree path ∷ [])

  uuid_among : (uuid : Option (List ℕ)) → option_map text_of (find (is_called (codes "uuid")) (rest uuid)) ≡ option_map (hyphenated_text lower) uuid
  unfolding is_called
  uuid_among None = refl
  uuid_among (Some uuid) = refl

  capacity_among : (uuid : Option (List ℕ)) → find (is_called (codes "capacity")) (rest uuid) ≡ Some (size_tree (codes "capacity") capacity)
  unfolding is_called
  capacity_among None = refl
  capacity_among (Some uuid) = refl

  target_among : (uuid : Option (List ℕ)) → find (is_called (codes "target")) (rest uuid) ≡ Some (target_tree path)
  unfolding is_called
  target_among None = refl
  target_among (Some uuid) = refl

uuid_at : (d : PoolDef) → text_called (codes "uuid") (pool_tree d) ≡ option_map (hyphenated_text lower) d.uuid
uuid_at d = rw (found (codes "uuid") d) (uuid_among d.name d.path d.capacity d.uuid)

capacity_at : (d : PoolDef) → first_called (codes "capacity") (pool_tree d) ≡ Some (size_tree (codes "capacity") d.capacity)
capacity_at d = rw (found (codes "capacity") d) (capacity_among d.name d.path d.capacity d.uuid)

target_at : (d : PoolDef) → first_called (codes "target") (pool_tree d) ≡ Some (target_tree d.path)
target_at d = rw (found (codes "target") d) (target_among d.name d.path d.capacity d.uuid)

path_under : (path : List ℕ) → text_called (codes "path") (target_tree path) ≡ Some path
unfolding is_called
path_under path = rw (first_in (codes "path") (codes "target") [] [] (worded (codes "path") path ∷ [])) refl

path_at : (d : PoolDef) → path_in (pool_tree d) ≡ Some d.path
unfolding path_in
path_at d = rw (target_at d, path_under d.path) refl

not_none : (n : ℕ) → 1 ≤ n → (n == 0) ≡ false
not_none n is = grind (arith, nat_tests)

some_capacity : (n : ℕ) → 1 ≤ n → capacity_or_most (Some n) ≡ n
some_capacity n is = rw (not_none n is) refl

the_type : (k : PoolType) → pool.Dir ≡ k
the_type pool.Dir = refl

of_back : (d : PoolDef) → IsSoundPool d → pool_of (pool_tree d) ≡ Ok d
unfolding pool_of
of_back d is =
    rw (
      type_at d,
      name_at d,
      name_back d.name is.name,
      uuid_at d,
      identifier_back (codes "/pool/uuid") d.uuid is.uuid,
      capacity_at d,
      size_back (codes "capacity") d.capacity is.capacity.1,
      some_capacity d.capacity is.capacity.0,
      path_at d,
    )
    (ap (λ k. Ok (record d { kind = k })) (the_type d.kind))

root : (d : PoolDef) → is_called (codes "pool") (pool_tree d) ≡ true
unfolding is_called pool_tree
root d = refl

read_back : (d : PoolDef) → IsSoundPool d → pool_read (pool_tree d) ≡ Ok d
unfolding pool_read pool_in
read_back d is = rw (root d, of_back d is, is.fitting) refl

pub pool_again : ((t : Tree) → IsWritable t → read_of (written t) ≡ Ok t) → (d : PoolDef) → IsSoundPool d → ReadsAsPool (written (pool_tree d)) d
pool_again back d is = record {
  tree = pool_tree d;
  is_tree = back (pool_tree d) (writable (pool_tree d) (formed d is) (own_fits d is.fitting));
  is_pool = read_back d is;
}

-- ---- what is filled in
alike : (d : PoolDef) (u v : List ℕ) → AreNoLonger (pool_tree (record d { uuid = Some u }) ∷ []) (pool_tree (record d { uuid = Some v }) ∷ [])
unfolding pool_tree
alike d u v =
    longer (uuid_tree u ∷ behind d) (uuid_tree v ∷ behind d) (worded (codes "name") d.name) (worded (codes "name") d.name)
    (both_longer (worded (codes "name") d.name ∷ []) (worded (codes "name") d.name ∷ []) (uuid_tree u ∷ behind d) (uuid_tree v ∷ behind d) (as_long (worded (codes "name") d.name ∷ []))
    (both_longer (uuid_tree u ∷ []) (uuid_tree v ∷ []) (behind d) (behind d) (uuid_longer u v) (as_long (behind d))))

fits_alike : (d : PoolDef) (u v : List ℕ) → fits (pool_tree (record d { uuid = Some u })) ≡ true → fits (pool_tree (record d { uuid = Some v })) ≡ true
fits_alike d u v e = fits_too (pool_tree (record d { uuid = Some v })) (pool_tree (record d { uuid = Some u })) (alike d v u) e

fits_filled : (d : PoolDef) (words : List ℕ) (u v : Option (List ℕ)) → IsUuidFilled words u v → pool_fits (record d { uuid = u }) ≡ true → pool_fits (record d { uuid = v }) ≡ true
unfolding pool_fits
fits_filled d words None None filled e = e
fits_filled d words None (Some v) filled e = fits_alike d zero_bytes v e
fits_filled d words (Some u) v filled e = subst (λ (w : Option (List ℕ)). pool_fits (record d { uuid = w }) ≡ true) (sym filled.0) e

pub pool_filled : (d f : PoolDef) (words : List ℕ) → IsSoundPool d → IsUuidFilled words d.uuid f.uuid → f ≡ record d { uuid = f.uuid } → IsSoundPool f
pool_filled d f words is filled same = subst IsSoundPool (sym same) (record {
  name = is.name;
  name_text = is.name_text;
  uuid = uuid_filled words d.uuid f.uuid filled is.uuid;
  capacity = is.capacity;
  path = is.path;
  fitting = fits_filled d words d.uuid f.uuid filled is.fitting;
})
