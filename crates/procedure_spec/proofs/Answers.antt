-- A value is read from the payload of a reply exactly where the payload is that of the request's reply with it.
use Rattle.std.proofs.Common.{◌≡◌, ◌≤◌, ℕ, ◌+◌, List, [], ◌∷◌, ◌++◌, length, Option, Ok, Err, refl, sym, subst, arith}
use Rattle.std.specs.Prelude.{IfSome}
use Rattle.std.specs.List.{AllByRecursion}
use Rattle.virt_types.specs.Name.{IsName}
use Rattle.virt_types.specs.declared.reference.NetworkRef.{NetworkRef}
use Rattle.virt_types.specs.declared.reference.PoolRef.{PoolRef}
use Rattle.virt_types.specs.declared.request.Request.{Request}
use Rattle.virt_types.specs.declared.value.TitleRow.{TitleRow}
use Rattle.virt_types.specs.declared.value.Value.{Value}
use Rattle.virt_types.specs.declared.value.Value.TheVariants as value
use Rattle.wire_spec.specs.Xdr.{IsDoubleWord, IsString, IsTruth, double_word, opaque, optional, truth}
use Rattle.wire_spec.specs.XdrAnswer.{Takes}
use Rattle.wire_spec.specs.XdrReading.{IsBytes, Left, all_of, first_double_word, first_string, first_truth}
use Rattle.wire_spec.specs.declared.message.Header.{Header}
use Rattle.procedure_spec.specs.Calls.{IsCall}
use Rattle.procedure_spec.specs.ListsReading.{first_listed}
use Rattle.procedure_spec.specs.Reading.{◌>>=◌, all, item}
use Rattle.procedure_spec.specs.ResultItems.{IsDomainRow, IsInfo, IsJob, IsLeaseRow, IsMigrated, IsObjectReference, IsPoolRow, IsReference, IsTitleRow, domain_reference, domain_row, info, job, lease_row, listed, migrated, object_reference, pool_row, title_row}
use Rattle.procedure_spec.specs.ResultItemsReading.{first_domain_row, first_info, first_job, first_lease_row, first_migrated, first_name, first_object, first_optional_name, first_pool_row, first_reference, first_title_row}
use Rattle.procedure_spec.specs.Results.{HasParts, HasResult, HasShape, IsAnswer, names, result, result_shape}
use Rattle.procedure_spec.specs.ResultsReading.{first_value, reply_of, value_in}
use Rattle.procedure_spec.specs.declared.shape.ResultShape.{ResultShape}
use Rattle.procedure_spec.specs.declared.shape.ResultShape.TheVariants as shape
use Rattle.procedure_spec.proofs.Answered.{result_shaped}
use Rattle.procedure_spec.proofs.ListParts.{IsListed, IsPart-listed}
use Rattle.procedure_spec.proofs.NameParts.{IsPart-name}
use Rattle.procedure_spec.proofs.Parts.{IsPart, made_again, made_found, ok_is}
use Rattle.procedure_spec.proofs.ResultParts.{IsPart-domain_row, IsPart-info, IsPart-job, IsPart-lease_row, IsPart-migrated, IsPart-network, IsPart-optional_name, IsPart-pool, IsPart-pool_row, IsPart-reference, IsPart-title_row, part_double_word, part_text, part_truth}
use Rattle.procedure_spec.specs.declared.words.TheConstants.{PACKET_BOUND, TITLE_BOUND}

-- a value of this shape, whose parts the payload spells
pub record IsShaped (s : ResultShape) (payload : List ℕ) (v : Value) : Type 0 where
  pub shaped : HasShape v s
  pub parts : HasParts v
  pub spelled : payload ≡ result v

titles_short : (rows : List TitleRow) → AllByRecursion IsTitleRow rows → AllByRecursion (λ t. length t.title ≤ TITLE_BOUND) rows
titles_short [] all = tt
titles_short (t ∷ rows) all = (all.0.title.bounded, titles_short rows all.1)

nothing_part : IsPart (λ u. Unit {0}) (λ (u : Unit {0}). []) (λ l. Ok (tt, l))
nothing_part = record {
  found = λ l x fits e. subst (λ (y : Unit {0} × Left). Unit {0} × Takes l [] y.1 × IsBytes y.1.bytes) (ok_is (tt, l) x e) (tt, record { parts = refl; place = omega arith }, fits);
  again = λ l v rest value e. let here : l.place ≡ l.place + 0 = omega arith in (λ i. Ok (tt, record { place = here i; bytes = e i }));
}

shaped_found : (s : ResultShape) (payload : List ℕ) (v : Value) → IsBytes payload → value_in s payload ≡ Ok v → IsShaped s payload v
unfolding all
shaped_found shape.Nothing payload v fits e =
    let m = made_found (λ u. Unit {0}) (λ (u : Unit {0}). []) (λ l. Ok (tt, l)) (λ u. value.Nothing) nothing_part payload v fits e in
    subst (λ (w : Value). IsShaped shape.Nothing payload w) m.is (record { shaped = refl; parts = tt; spelled = m.whole })
shaped_found shape.Domain payload v fits e =
    let m = made_found IsReference domain_reference first_reference (λ d. value.Domain d) IsPart-reference payload v fits e in
    subst (λ (w : Value). IsShaped shape.Domain payload w) m.is (record { shaped = refl; parts = m.value; spelled = m.whole })
shaped_found shape.Network payload v fits e =
    let m = made_found (λ (n : NetworkRef). IsObjectReference n.name n.uuid) (λ (n : NetworkRef). object_reference n.name n.uuid) (first_object (λ n u. record { name = n; uuid = u })) (λ n. value.Network n) IsPart-network payload v fits e in
    subst (λ (w : Value). IsShaped shape.Network payload w) m.is (record { shaped = refl; parts = m.value; spelled = m.whole })
shaped_found shape.Pool payload v fits e =
    let m = made_found (λ (n : PoolRef). IsObjectReference n.name n.uuid) (λ (n : PoolRef). object_reference n.name n.uuid) (first_object (λ n u. record { name = n; uuid = u })) (λ n. value.Pool n) IsPart-pool payload v fits e in
    subst (λ (w : Value). IsShaped shape.Pool payload w) m.is (record { shaped = refl; parts = m.value; spelled = m.whole })
shaped_found shape.Text payload v fits e =
    let m = made_found (IsString PACKET_BOUND) opaque (item (first_string PACKET_BOUND)) (λ t. value.Text t) part_text payload v fits e in
    subst (λ (w : Value). IsShaped shape.Text payload w) m.is (record { shaped = (refl, omega (arith, m.value.bounded)); parts = m.value; spelled = m.whole })
shaped_found shape.Name payload v fits e =
    let m = made_found IsName opaque first_name (λ n. value.Name n) IsPart-name payload v fits e in
    subst (λ (w : Value). IsShaped shape.Name payload w) m.is (record { shaped = refl; parts = m.value; spelled = m.whole })
shaped_found shape.OptionalName payload v fits e =
    let m = made_found (λ n. IfSome n IsName) (optional opaque) first_optional_name (λ n. value.Parent n) IsPart-optional_name payload v fits e in
    subst (λ (w : Value). IsShaped shape.OptionalName payload w) m.is (record { shaped = refl; parts = m.value; spelled = m.whole })
shaped_found shape.Autostart payload v fits e =
    let m = made_found IsTruth truth (item first_truth) (λ b. value.Autostart b) part_truth payload v fits e in
    subst (λ (w : Value). IsShaped shape.Autostart payload w) m.is (record { shaped = refl; parts = tt; spelled = m.whole })
shaped_found shape.DoubleWord payload v fits e =
    let m = made_found IsDoubleWord double_word (item first_double_word) (λ n. value.Memory n) part_double_word payload v fits e in
    subst (λ (w : Value). IsShaped shape.DoubleWord payload w) m.is (record { shaped = refl; parts = m.value; spelled = m.whole })
shaped_found shape.Names payload v fits e =
    let m = made_found (IsListed IsName) names (first_listed first_name) (λ ns. value.Names ns) (IsPart-listed IsName opaque first_name IsPart-name) payload v fits e in
    subst (λ (w : Value). IsShaped shape.Names payload w) m.is (record { shaped = (refl, m.value.0); parts = m.value.1; spelled = m.whole })
shaped_found shape.Info payload v fits e =
    let m = made_found IsInfo info first_info (λ i. value.Info i) IsPart-info payload v fits e in
    subst (λ (w : Value). IsShaped shape.Info payload w) m.is (record { shaped = refl; parts = m.value; spelled = m.whole })
shaped_found shape.Job payload v fits e =
    let m = made_found IsJob job first_job (λ j. value.Job j) IsPart-job payload v fits e in
    subst (λ (w : Value). IsShaped shape.Job payload w) m.is (record { shaped = refl; parts = m.value; spelled = m.whole })
shaped_found shape.Domains payload v fits e =
    let m = made_found (IsListed IsDomainRow) (listed domain_row) (first_listed first_domain_row) (λ rows. value.Domains rows) (IsPart-listed IsDomainRow domain_row first_domain_row IsPart-domain_row) payload v fits e in
    subst (λ (w : Value). IsShaped shape.Domains payload w) m.is (record { shaped = (refl, m.value.0); parts = m.value.1; spelled = m.whole })
shaped_found shape.Pools payload v fits e =
    let m = made_found (IsListed IsPoolRow) (listed pool_row) (first_listed first_pool_row) (λ rows. value.Pools rows) (IsPart-listed IsPoolRow pool_row first_pool_row IsPart-pool_row) payload v fits e in
    subst (λ (w : Value). IsShaped shape.Pools payload w) m.is (record { shaped = (refl, m.value.0); parts = m.value.1; spelled = m.whole })
shaped_found shape.Titles payload v fits e =
    let m = made_found (IsListed IsTitleRow) (listed title_row) (first_listed first_title_row) (λ rows. value.Titles rows) (IsPart-listed IsTitleRow title_row first_title_row IsPart-title_row) payload v fits e in
    subst (λ (w : Value). IsShaped shape.Titles payload w) m.is (record { shaped = (refl, (m.value.0, titles_short m.a m.value.1)); parts = m.value.1; spelled = m.whole })
shaped_found shape.Migrated payload v fits e =
    let m = made_found IsMigrated migrated first_migrated (λ m. value.MigratedText m) IsPart-migrated payload v fits e in
    subst (λ (w : Value). IsShaped shape.Migrated payload w) m.is (record { shaped = (refl, (omega (arith, m.value.definition.bounded), m.value.state)); parts = m.value; spelled = m.whole })
shaped_found shape.Leases payload v fits e =
    let m = made_found (IsListed IsLeaseRow) (listed lease_row) (first_listed first_lease_row) (λ rows. value.Leases rows) (IsPart-listed IsLeaseRow lease_row first_lease_row IsPart-lease_row) payload v fits e in
    subst (λ (w : Value). IsShaped shape.Leases payload w) m.is (record { shaped = (refl, m.value.0); parts = m.value.1; spelled = m.whole })

shaped_again : (s : ResultShape) (payload : List ℕ) (v : Value) → IsShaped s payload v → value_in s payload ≡ Ok v
unfolding all
shaped_again s payload value.Nothing is =
    subst (λ (t : ResultShape). value_in t payload ≡ Ok value.Nothing) (sym is.shaped)
    (made_again (λ u. Unit {0}) (λ (u : Unit {0}). []) (λ l. Ok (tt, l)) (λ u. value.Nothing) nothing_part payload tt tt is.spelled)
shaped_again s payload (value.Domain x) is =
    subst (λ (t : ResultShape). value_in t payload ≡ Ok (value.Domain x)) (sym is.shaped)
    (made_again IsReference domain_reference first_reference (λ d. value.Domain d) IsPart-reference payload x is.parts is.spelled)
shaped_again s payload (value.Network x) is =
    subst (λ (t : ResultShape). value_in t payload ≡ Ok (value.Network x)) (sym is.shaped)
    (made_again (λ (n : NetworkRef). IsObjectReference n.name n.uuid) (λ (n : NetworkRef). object_reference n.name n.uuid) (first_object (λ n u. record { name = n; uuid = u })) (λ n. value.Network n) IsPart-network payload x is.parts is.spelled)
shaped_again s payload (value.Pool x) is =
    subst (λ (t : ResultShape). value_in t payload ≡ Ok (value.Pool x)) (sym is.shaped)
    (made_again (λ (n : PoolRef). IsObjectReference n.name n.uuid) (λ (n : PoolRef). object_reference n.name n.uuid) (first_object (λ n u. record { name = n; uuid = u })) (λ n. value.Pool n) IsPart-pool payload x is.parts is.spelled)
shaped_again s payload (value.Text x) is =
    subst (λ (t : ResultShape). value_in t payload ≡ Ok (value.Text x)) (sym is.shaped.0)
    (made_again (IsString PACKET_BOUND) opaque (item (first_string PACKET_BOUND)) (λ t. value.Text t) part_text payload x is.parts is.spelled)
shaped_again s payload (value.Name x) is =
    subst (λ (t : ResultShape). value_in t payload ≡ Ok (value.Name x)) (sym is.shaped)
    (made_again IsName opaque first_name (λ n. value.Name n) IsPart-name payload x is.parts is.spelled)
shaped_again s payload (value.Parent x) is =
    subst (λ (t : ResultShape). value_in t payload ≡ Ok (value.Parent x)) (sym is.shaped)
    (made_again (λ n. IfSome n IsName) (optional opaque) first_optional_name (λ n. value.Parent n) IsPart-optional_name payload x is.parts is.spelled)
shaped_again s payload (value.Autostart x) is =
    subst (λ (t : ResultShape). value_in t payload ≡ Ok (value.Autostart x)) (sym is.shaped)
    (made_again IsTruth truth (item first_truth) (λ b. value.Autostart b) part_truth payload x tt is.spelled)
shaped_again s payload (value.Memory x) is =
    subst (λ (t : ResultShape). value_in t payload ≡ Ok (value.Memory x)) (sym is.shaped)
    (made_again IsDoubleWord double_word (item first_double_word) (λ n. value.Memory n) part_double_word payload x is.parts is.spelled)
shaped_again s payload (value.Names x) is =
    subst (λ (t : ResultShape). value_in t payload ≡ Ok (value.Names x)) (sym is.shaped.0)
    (made_again (IsListed IsName) names (first_listed first_name) (λ ns. value.Names ns) (IsPart-listed IsName opaque first_name IsPart-name) payload x (is.shaped.1, is.parts) is.spelled)
shaped_again s payload (value.Info x) is =
    subst (λ (t : ResultShape). value_in t payload ≡ Ok (value.Info x)) (sym is.shaped)
    (made_again IsInfo info first_info (λ i. value.Info i) IsPart-info payload x is.parts is.spelled)
shaped_again s payload (value.Job x) is =
    subst (λ (t : ResultShape). value_in t payload ≡ Ok (value.Job x)) (sym is.shaped)
    (made_again IsJob job first_job (λ j. value.Job j) IsPart-job payload x is.parts is.spelled)
shaped_again s payload (value.Domains x) is =
    subst (λ (t : ResultShape). value_in t payload ≡ Ok (value.Domains x)) (sym is.shaped.0)
    (made_again (IsListed IsDomainRow) (listed domain_row) (first_listed first_domain_row) (λ rows. value.Domains rows) (IsPart-listed IsDomainRow domain_row first_domain_row IsPart-domain_row) payload x (is.shaped.1, is.parts) is.spelled)
shaped_again s payload (value.Pools x) is =
    subst (λ (t : ResultShape). value_in t payload ≡ Ok (value.Pools x)) (sym is.shaped.0)
    (made_again (IsListed IsPoolRow) (listed pool_row) (first_listed first_pool_row) (λ rows. value.Pools rows) (IsPart-listed IsPoolRow pool_row first_pool_row IsPart-pool_row) payload x (is.shaped.1, is.parts) is.spelled)
shaped_again s payload (value.Leases x) is =
    subst (λ (t : ResultShape). value_in t payload ≡ Ok (value.Leases x)) (sym is.shaped.0)
    (made_again (IsListed IsLeaseRow) (listed lease_row) (first_listed first_lease_row) (λ rows. value.Leases rows) (IsPart-listed IsLeaseRow lease_row first_lease_row IsPart-lease_row) payload x (is.shaped.1, is.parts) is.spelled)
shaped_again s payload (value.Titles x) is =
    subst (λ (t : ResultShape). value_in t payload ≡ Ok (value.Titles x)) (sym is.shaped.0)
    (made_again (IsListed IsTitleRow) (listed title_row) (first_listed first_title_row) (λ rows. value.Titles rows) (IsPart-listed IsTitleRow title_row first_title_row IsPart-title_row) payload x (is.shaped.1.0, is.parts) is.spelled)
shaped_again s payload (value.MigratedText x) is =
    subst (λ (t : ResultShape). value_in t payload ≡ Ok (value.MigratedText x)) (sym is.shaped.0)
    (made_again IsMigrated migrated first_migrated (λ m. value.MigratedText m) IsPart-migrated payload x is.parts is.spelled)
shaped_again s payload _ is = absurd is.shaped

-- ---- replies

pub answer_found : (asked : Request) (payload : List ℕ) (v : Value) → IsBytes payload → reply_of asked payload ≡ Ok v → IsAnswer asked payload v
unfolding reply_of
answer_found asked payload v fits e =
    let f = shaped_found (result_shape asked) payload v fits e in
    record { shaped = f.shaped; parts = f.parts; spelled = f.spelled }

pub answer_again : (asked : Request) (payload : List ℕ) (v : Value) → IsAnswer asked payload v → reply_of asked payload ≡ Ok v
unfolding reply_of
answer_again asked payload v is = shaped_again (result_shape asked) payload v (record { shaped = is.shaped; parts = is.parts; spelled = is.spelled })

-- what answers a call is read by whoever asked it
pub reads_back : (call : Header) (payload : List ℕ) (asked : Request) (v : Value) → IsCall call payload asked → HasResult call v → HasParts v → reply_of asked (result v) ≡ Ok v
reads_back call payload asked v is has parts = answer_again asked (result v) v (record {
  shaped = result_shaped call payload asked v is has;
  parts = parts;
  spelled = refl;
})
