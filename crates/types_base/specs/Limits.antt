-- Limits that more than one crate cites, for definitions.
use Rattle.std.specs.Prelude.{ℕ}
use Rattle.types_base.specs.declared.limits.TheConstants.{MOST_DOMAINS, MOST_KEPT_BYTES, MOST_STATE_BYTES, MOST_TEXT_BYTES}

-- the most bytes of a definition's text
abbrev pub most_text_bytes : ℕ
most_text_bytes = MOST_TEXT_BYTES

-- the most bytes of a guest's state that is kept or handed on
abbrev pub most_state_bytes : ℕ
most_state_bytes = MOST_STATE_BYTES

-- the most bytes that a refusal keeps of a text
abbrev pub most_kept_bytes : ℕ
most_kept_bytes = MOST_KEPT_BYTES

-- the most domains that a daemon holds
abbrev pub most_domains : ℕ
most_domains = MOST_DOMAINS
