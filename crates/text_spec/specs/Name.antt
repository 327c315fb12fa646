-- Names of XML 1.0 (fifth edition), production 5.
use Rattle.std.specs.Prelude.{ℕ, List, [], ◌∷◌, length, take, drop, Ok, Err, nat_lt, if◌then◌else◌}
use Rattle.std.specs.List.{prefix_len}
use Rattle.text_spec.specs.declared.fault.Flaw.{Flaw}
use Rattle.text_spec.specs.Reading.{Reading, ended}
use Rattle.text_spec.specs.Character.{is_name_start, is_name_char}

-- the first n characters, after which the text goes on
abbrev pub front : ℕ → List ℕ → Reading (List ℕ)
front n cs = if nat_lt n (length cs) then Ok (take n cs, drop n cs) else Err ended

-- Name (5): the flaw is reported where none begins
unfoldable pub name_at : Flaw → List ℕ → Reading (List ℕ)
name_at told [] = Err ended
name_at told (c ∷ cs) =
    if is_name_start c then front (prefix_len is_name_char (c ∷ cs)) (c ∷ cs) else Err told
