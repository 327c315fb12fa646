-- Replies where the domain came to no answer.
use Rattle.std.proofs.Common.{◌≡◌, inl, inr, ◌≤◌, ◌^◌, ℕ, List, [], length, take, take_all, true, decimal, refl, ap, sym, ◌∙◌, le_refl, lit<, arith}
use Rattle.std.specs.Str.Lossy.{utf8_valid_len}
use Rattle.std.proofs.lemmas.Fmt.{IsAscii-decimal, length-decimal-le}
use Rattle.std.proofs.lemmas.Str.{IsUtf8-from_ascii, utf8_valid_len-IsUtf8}
use Rattle.std.proofs.lemmas.Str.Ascii.{IsAscii-nil}
use Rattle.std.specs.Str.{IsAscii}
use Rattle.virt_types.specs.Below.types_base.Refusal.{kept_cut}
use Rattle.virt_types.specs.Below.types_base.declared.refusal.Refusal.{Refusal}
use Rattle.virt_types.specs.Below.types_base.declared.refusal.RefusalCode.TheVariants as code
use Rattle.virt_types.specs.declared.value.Reply.{Reply}
use Rattle.virt_types.specs.declared.value.Reply.TheVariants as reply
use Rattle.domain_obj.specs.Replies.{TellsSpent}
use Rattle.outcome_spec.specs.Rows.{DomainPass as KnownPass}
use Rattle.outcome_spec.specs.Spent.{no_memory}
use Rattle.domain_obj.specs.Below.refusals.Replies.{no_memory_reply, spent_reply}
use Rattle.outcome_spec.specs.Below.reply_texts.Printed.{told}
use Rattle.outcome_spec.specs.Below.session_spec.Refused.{refusal}
use Rattle.domain_tasks.specs.Tasked.{IsStoppedAt}
use Rattle.domain_tasks.specs.Telling.{IsPrinted}

-- a short text is kept whole

kept_whole : (text : List ℕ) → IsAscii text → length text ≤ 1024 → kept_cut text ≡ text
unfolding kept_cut
kept_whole text ascii short =
    ap (λ (l : List ℕ). take (utf8_valid_len l) text) (take_all 1024 text short)
    ∙ (ap (λ (k : ℕ). take k text) (utf8_valid_len-IsUtf8 text (IsUtf8-from_ascii text ascii)) ∙ take_all (length text) text (le_refl (length text)))

none_kept : no_memory_reply ≡ reply.No no_memory
none_kept = ap (λ (l : List ℕ). reply.No (record { code = code.NoMemory; kept = l })) (sym (kept_whole [] IsAscii-nil (omega arith)))

spent_kept : spent_reply ≡ reply.No (refusal code.CountSpent (decimal (2 ^ 62)))
spent_kept =
    let short : length (decimal (2 ^ 62)) ≤ 19 = length-decimal-le 19 (2 ^ 62) (omega arith) (lit< tt) (lit< tt) in
    ap (λ (l : List ℕ). reply.No (record { code = code.CountSpent; kept = l })) (sym (kept_whole (decimal (2 ^ 62)) (IsAscii-decimal (2 ^ 62) (lit< tt)) (omega (arith, short))))

-- the domain's replies

pub stops_none : (after : KnownPass) (r : Reply) → r ≡ no_memory_reply → IsStoppedAt after r
stops_none after r e = (no_memory, e ∙ none_kept, inr refl)

stops_spent : (after : KnownPass) (r : Reply) → after.spent ≡ true → r ≡ spent_reply → IsStoppedAt after r
stops_spent after r spent e = (refusal code.CountSpent (decimal (2 ^ 62)), e ∙ spent_kept, inl (spent, refl))

-- and as they are told

told_no : (said r : Reply) (why : Refusal) → said ≡ reply.No why → r ≡ told said → r ≡ reply.No why
told_no said r why e is = is ∙ ap told e

pub none_printed : (after : KnownPass) (said r : Reply) → said ≡ no_memory_reply → IsPrinted said r → IsStoppedAt after r
none_printed after said r e (inl is) = stops_none after r (told_no said r _ e is)
none_printed after said r e (inr (made, is)) = stops_none after r is

pub spent_printed : (after : KnownPass) (said r : Reply) → after.spent ≡ true → TellsSpent said → IsPrinted said r → IsStoppedAt after r
spent_printed after said r spent (inl e) (inl is) = stops_spent after r spent (told_no said r _ e is)
spent_printed after said r spent (inr e) (inl is) = stops_none after r (told_no said r _ e is)
spent_printed after said r spent tells (inr (made, is)) = stops_none after r is
