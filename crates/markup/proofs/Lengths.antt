-- How many bytes characters take.
use Rattle.std.proofs.Common.{◌≡◌, ℕ, ◌+◌, List, ◌∷◌, length, ap, ◌∙◌, length-append}
use Rattle.std.specs.Prelude.{encode_utf8_all, encode_utf8}
use Rattle.std.specs.Char.{len_utf8}
use Rattle.std.proofs.lemmas.Str.{length-encode}

pub bytes_more : (c : ℕ) (after rest : List ℕ) → rest ≡ c ∷ after
    → length (encode_utf8_all rest) ≡ len_utf8 c + length (encode_utf8_all after)
bytes_more c after rest e =
    ap (λ cs. length (encode_utf8_all cs)) e
    ∙ length-append (encode_utf8 c) (encode_utf8_all after)
    ∙ ap (λ n. n + length (encode_utf8_all after)) (length-encode c)
