-- A name is read from a payload exactly where one is spelled there.
use Rattle.std.proofs.Common.{◌≡◌, ℕ, ◌+◌, ◌≤◌, ◌||◌, ◌==◌, nat_lt, not, Bool, false, cond, List, length, Option, None, Some, refl, ap, subst, arith}
use Rattle.std.specs.Option.{option_map}
use Rattle.std.specs.Str.{IsUtf8}
use Rattle.std.proofs.lemmas.List.Sums.{prefix_len-le-length, prefix_len_is}
use Rattle.virt_types.specs.Name.{IsName, bad_place, first_forbidden, first_wrong, is_bad_whole, is_dots, is_forbidden}
use Rattle.virt_types.proofs.Names.{first_of_text, name_of, place_none}
use Rattle.wire_spec.specs.Xdr.{IsString, opaque}
use Rattle.wire_spec.specs.XdrAnswer.{Takes}
use Rattle.wire_spec.specs.XdrReading.{IsBytes, Left, first_string}
use Rattle.procedure_spec.specs.Reading.{item, unless}
use Rattle.procedure_spec.specs.ResultItemsReading.{first_name, name_fault}
use Rattle.procedure_spec.specs.declared.fault.ArgFault.TheVariants as fault
use Rattle.procedure_spec.proofs.Parts.{IsPart, IsPart-item, bind_ok, unless_ok}
use Rattle.procedure_spec.proofs.Targets.{IsItem-name}
use Rattle.procedure_spec.specs.declared.words.TheConstants.{PACKET_BOUND}

-- ---- where bytes are no name

no_place : (wrong l : ℕ) (whole : Bool) → (let none : Option ℕ = None in cond (nat_lt wrong l) (Some wrong) (cond whole (Some l) None) ≡ none) → (l ≤ wrong) × (whole ≡ false)
no_place wrong l whole e = grind (arith, e)

pub name_where : (bs : List ℕ) → IsUtf8 bs → bad_place bs ≡ None → IsName bs
unfolding bad_place
name_where bs utf8 e =
    let n = no_place (first_wrong bs) (length bs) (is_bad_whole bs) e in
    name_of bs utf8 (omega (arith, n.0, first_of_text bs utf8, prefix_len-le-length (λ x. not (is_forbidden x)) bs)) n.1

all_pass : (bs : List ℕ) → IsName bs → first_forbidden bs ≡ length bs
all_pass bs is = prefix_len_is (λ x. not (is_forbidden x)) bs (length bs) 0 (omega arith) (λ k lt. ap (λ v. not v) (is.allowed k 0 lt)) (λ lt. absurd (omega (arith, lt)))

whole_good : (n : ℕ) (dots : Bool) → 1 ≤ n → n ≤ 128 → dots ≡ false → (n == 0 || nat_lt 128 n || dots) ≡ false
whole_good n dots least most off = grind (arith, off, least, most)

pub none_where : (bs : List ℕ) → IsName bs → bad_place bs ≡ None
none_where bs is = place_none bs is.utf8 (all_pass bs is) (whole_good (length bs) (is_dots bs) is.least is.most is.no_dots)

place_within : (wrong l at : ℕ) (whole : Bool) → cond (nat_lt wrong l) (Some wrong) (cond whole (Some l) None) ≡ Some at → at ≤ l
place_within wrong l at whole e = grind (arith, e)

-- the place of a wrong byte is in the bytes, or right after them
pub bad_within : (bs : List ℕ) (at : ℕ) → bad_place bs ≡ Some at → at ≤ length bs
unfolding bad_place
bad_within bs at e = place_within (first_wrong bs) (length bs) at (is_bad_whole bs) e

-- ---- reading

no_fault : (place : ℕ) (o : Option ℕ) → option_map (λ wrong. fault.Name (place + 4 + wrong)) o ≡ None → o ≡ None
no_fault place None e = refl
no_fault place (Some wrong) e = absurd cc

name_string : (bs : List ℕ) → IsName bs → IsString PACKET_BOUND bs
name_string bs is = record { bounded = omega (arith, is.most); text = is.utf8 }

part_string : IsPart (IsString PACKET_BOUND) opaque (item (first_string PACKET_BOUND))
part_string = IsPart-item (IsString PACKET_BOUND) opaque (first_string PACKET_BOUND) IsItem-name

pub IsPart-name : IsPart IsName opaque first_name
unfolding first_name
IsPart-name = record {
  found = λ l x fits e.
      let m = bind_ok (item (first_string PACKET_BOUND) l) (λ n. unless (name_fault l.place n.0) n) x e in
      let f = part_string.found l m.0 fits m.1 in
      let u = unless_ok (name_fault l.place m.0.0) m.0 x m.2 in
      let name = name_where m.0.0 f.0.text (no_fault l.place (bad_place m.0.0) u.0) in
      subst (λ (y : List ℕ × Left). IsName y.0 × Takes l (opaque y.0) y.1 × IsBytes y.1.bytes) u.1 (name, f.1, f.2);
  again = λ l v rest is e. rw (part_string.again l v rest (name_string v is) e, none_where v is) refl;
}
