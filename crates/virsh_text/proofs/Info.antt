-- The lines of dominfo, one after another.
use Rattle.std.proofs.Common.{◌≡◌, ℕ, Bool, List, [], ◌∷◌, ◌++◌, codes, ap, ◌∙◌}
use Rattle.std.specs.Prelude.{decimal}
use Rattle.uuid.specs.Text.{hyphenated_text, lower}
use Rattle.virt_types.specs.Numbers.{state_word}
use Rattle.virt_types.specs.declared.reference.DomainRef.{DomainRef}
use Rattle.virt_types.specs.declared.value.DomainInfo.{DomainInfo}
use Rattle.command_spec.specs.Printed.{enabled, field, info_text, kibibytes}

chained : (t0 t1 t2 t3 t4 t5 t6 t7 f1 f2 f3 f4 f5 f6 f7 : List ℕ) → t0 ≡ [] → t1 ≡ t0 ++ f1 → t2 ≡ t1 ++ f2 → t3 ≡ t2 ++ f3 → t4 ≡ t3 ++ f4 → t5 ≡ t4 ++ f5 → t6 ≡ t5 ++ f6 → t7 ≡ t6 ++ f7
    → t7 ≡ f1 ++ f2 ++ f3 ++ f4 ++ f5 ++ f6 ++ f7
chained t0 t1 t2 t3 t4 t5 t6 t7 f1 f2 f3 f4 f5 f6 f7 e0 e1 e2 e3 e4 e5 e6 e7 =
    let one : t1 ≡ f1 = e1 ∙ ap (λ (t : List ℕ). t ++ f1) e0 in
    let two : t2 ≡ f1 ++ f2 = e2 ∙ ap (λ (t : List ℕ). t ++ f2) one in
    let three : t3 ≡ f1 ++ f2 ++ f3 = e3 ∙ ap (λ (t : List ℕ). t ++ f3) two in
    let four : t4 ≡ f1 ++ f2 ++ f3 ++ f4 = e4 ∙ ap (λ (t : List ℕ). t ++ f4) three in
    let five : t5 ≡ f1 ++ f2 ++ f3 ++ f4 ++ f5 = e5 ∙ ap (λ (t : List ℕ). t ++ f5) four in
    let six : t6 ≡ f1 ++ f2 ++ f3 ++ f4 ++ f5 ++ f6 = e6 ∙ ap (λ (t : List ℕ). t ++ f6) five in
    e7 ∙ ap (λ (t : List ℕ). t ++ f7) six

line_of : (label : List ℕ) (v w : List ℕ) → v ≡ w → field label v ≡ field label w
line_of label v w e = ap (λ (t : List ℕ). field label t) e

pub info_is : (domain : DomainRef) (info : DomainInfo) (autostart : Bool) (t0 t1 t2 t3 t4 t5 t6 t7 v1 v3 v4 v5 v6 v7 : List ℕ)
    → t0 ≡ []
    → t1 ≡ t0 ++ field (codes "Name:") v1
    → t2 ≡ t1 ++ field (codes "UUID:") (hyphenated_text lower domain.uuid)
    → t3 ≡ t2 ++ field (codes "State:") v3
    → t4 ≡ t3 ++ field (codes "CPU(s):") v4
    → t5 ≡ t4 ++ field (codes "Max memory:") v5
    → t6 ≡ t5 ++ field (codes "Used memory:") v6
    → t7 ≡ t6 ++ field (codes "Autostart:") v7
    → v1 ≡ domain.name → v3 ≡ state_word info.state → v4 ≡ decimal info.vcpus → v5 ≡ kibibytes info.memory → v6 ≡ kibibytes info.current → v7 ≡ enabled autostart
    → t7 ≡ info_text domain info autostart
info_is domain info autostart t0 t1 t2 t3 t4 t5 t6 t7 v1 v3 v4 v5 v6 v7 e0 e1 e2 e3 e4 e5 e6 e7 s1 s3 s4 s5 s6 s7 =
    chained t0 t1 t2 t3 t4 t5 t6 t7
    (field (codes "Name:") domain.name)
    (field (codes "UUID:") (hyphenated_text lower domain.uuid))
    (field (codes "State:") (state_word info.state))
    (field (codes "CPU(s):") (decimal info.vcpus))
    (field (codes "Max memory:") (kibibytes info.memory))
    (field (codes "Used memory:") (kibibytes info.current))
    (field (codes "Autostart:") (enabled autostart))
    e0
    (e1 ∙ ap (λ (t : List ℕ). t0 ++ t) (line_of (codes "Name:") v1 domain.name s1))
    e2
    (e3 ∙ ap (λ (t : List ℕ). t2 ++ t) (line_of (codes "State:") v3 (state_word info.state) s3))
    (e4 ∙ ap (λ (t : List ℕ). t3 ++ t) (line_of (codes "CPU(s):") v4 (decimal info.vcpus) s4))
    (e5 ∙ ap (λ (t : List ℕ). t4 ++ t) (line_of (codes "Max memory:") v5 (kibibytes info.memory) s5))
    (e6 ∙ ap (λ (t : List ℕ). t5 ++ t) (line_of (codes "Used memory:") v6 (kibibytes info.current) s6))
    (e7 ∙ ap (λ (t : List ℕ). t6 ++ t) (line_of (codes "Autostart:") v7 (enabled autostart) s7))
