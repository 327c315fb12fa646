-- What is found out by what a request says alone.
use Rattle.std.proofs.Common.{◌≡◌, ◌∙◌, ℕ, ℤ, ◌++◌, List, [], true, false, Option, None, Some, Ok, Err, ap, codes, decimal, inl, inr, refl, subst, sym}
use Rattle.std.specs.Prelude.{IfSome, int_lt, pos}
use Rattle.std.specs.Fmt.{signed_decimal}
use Rattle.outcome_spec.specs.Below.domain_requests.Requests.{Fails, IsTaskOf, parsed_as, passed_one}
use Rattle.outcome_spec.specs.Below.domain_requests.declared.task.Parsed.{Parsed}
use Rattle.outcome_spec.specs.Below.domain_requests.declared.task.Task.{Task}
use Rattle.outcome_spec.specs.Below.domain_requests.declared.task.Task.TheVariants as task
use Rattle.procedure_spec.specs.Lines.{line}
use Rattle.procedure_spec.specs.Requests.{procedure_of}
use Rattle.outcome_spec.specs.Shown.{IsShown, is_built, is_built_of_domain, number_shown, or_else, parse_shown, shown_by, text_shown}
use Rattle.session_spec.specs.DefinitionText.{definition_in}
use Rattle.session_spec.specs.Refused.{refusal}
use Rattle.session_spec.specs.Bounds.{passed}
use Rattle.slot_holds.specs.declared.Hold.TheVariants as hold
use Rattle.virt_types.specs.Memory.{FailsUnlessNoMemory}
use Rattle.virt_types.specs.declared.call.Call.TheVariants as call
use Rattle.virt_types.specs.declared.call.Query.TheVariants as query
use Rattle.virt_types.specs.Below.types_base.declared.memory.OrNoMemory.{OrNoMemory}
use Rattle.virt_types.specs.Below.types_base.declared.memory.OrNoMemory.TheVariants as or
use Rattle.virt_types.specs.declared.object_request.DomainRequest.{DomainRequest}
use Rattle.virt_types.specs.declared.reference.DomainTarget.{DomainTarget}
use Rattle.virt_types.specs.Below.types_base.declared.refusal.Refusal.{Refusal}
use Rattle.virt_types.specs.Below.types_base.declared.refusal.RefusalCode.TheVariants as code
use Rattle.virt_types.specs.declared.request.Request.{Request}
use Rattle.virt_types.specs.declared.request.Request.TheVariants as request
use Rattle.request_asks.specs.Claims.{IsClaimedBy}
use Rattle.request_asks.specs.Plain.{names_asked, plainly_asked}
use Rattle.request_asks.specs.Said.{IsSaid, refused_by}
use Rattle.request_asks.specs.declared.asked.Asked.{Asked}
use Rattle.request_asks.specs.declared.asked.Asked.TheVariants as asked
use Rattle.request_asks.specs.declared.asked.Listing.TheVariants as listing
use Rattle.request_asks.specs.declared.claiming.Claimed.{Claimed}
use Rattle.request_asks.proofs.Unbuilt.{IsUnbuilt, unbuilt}

-- ---- refusals

-- a request is refused for this, unless there was no memory
abbrev IsWhy : Request → OrNoMemory Refusal → Type 0
IsWhy r (or.Fault why) = IsShown r why
IsWhy r or.NoMemory = Unit {0}

abbrev IsNot : Option Asked → Asked → Type 0
IsNot plain a = IfSome plain (λ (p : Asked). a ≡ p)

said_refused : (words : List ℕ) (r : Request) (e : OrNoMemory Refusal) → plainly_asked r ≡ None → words ≡ [] → IsWhy r e → IsSaid words r (refused_by e)
said_refused words r (or.Fault why) plain none shown before after = record { asks = shown; heard = tt; plain = subst (λ (o : Option Asked). IsNot o (asked.Refused why)) (sym plain) tt; made = none }
said_refused words r or.NoMemory plain none shown before after = record { asks = tt; heard = tt; plain = subst (λ (o : Option Asked). IsNot o asked.NoMemory) (sym plain) tt; made = none }

why_fails : (r : Request) (e : OrNoMemory Refusal) (why : Refusal) → shown_by r ≡ Some why → Fails e why → IsWhy r e
why_fails r (or.Fault x) why shown is = inl (shown ∙ ap Some (sym is))
why_fails r or.NoMemory why shown is = tt

-- a text that has no reading
pub text_refused : (words xml : List ℕ) (r : Request) (e : OrNoMemory Refusal) → plainly_asked r ≡ None → shown_by r ≡ text_shown (definition_in xml) → IsClaimedBy words xml (Err e) → IsSaid words r (refused_by e)
text_refused words xml r (or.Fault why) plain shown refuses = said_refused words r (or.Fault why) plain refuses.0 (inl (shown ∙ refuses.1))
text_refused words xml r or.NoMemory plain shown none = said_refused words r or.NoMemory plain none tt

-- no memory
pub said_none : (r : Request) → plainly_asked r ≡ None → IsSaid [] r asked.NoMemory
said_none r plain = said_refused [] r or.NoMemory plain refl tt

-- ---- definitions
pub said_define : (words xml : List ℕ) (c : Claimed) → IsClaimedBy words xml (Ok c) → IsSaid words (request.DomainDefineXml xml) (asked.Task c.hold (task.Run (call.Define c.definition)))
said_define words xml c (by, claims) before after = record {
  asks = λ old new one other. (c.definition, (by.0, by.1, (words, by.2)), claims, refl);
  heard = record { built = refl; shown = ap text_shown by.1 };
  plain = tt;
  made = (c.definition, by, refl);
}

pub said_create : (words xml : List ℕ) (flags : ℤ) (c : Claimed) → IsClaimedBy words xml (Ok c) → IsSaid words (request.DomainCreateXml xml flags) (asked.Task c.hold (task.Run (call.Create c.definition)))
said_create words xml flags c (by, claims) before after = record {
  asks = λ old new one other. (c.definition, (by.0, by.1, (words, by.2)), claims, refl);
  heard = record { built = refl; shown = ap text_shown by.1 };
  plain = tt;
  made = (c.definition, by, refl);
}

-- a text is looked at where the number passes no bound
pub counted_shown : (xml state : List ℕ) (running : ℤ) → passed_one running ≡ None → shown_by (request.MigratePrepare xml running state) ≡ text_shown (definition_in xml)
counted_shown xml state running counted = ap (λ (o : Option ℕ). or_else (number_shown running o) (text_shown (definition_in xml))) counted

pub said_prepare : (words xml state : List ℕ) (running : ℤ) (c : Claimed) → passed_one running ≡ None → IsClaimedBy words xml (Ok c)
    → IsSaid words (request.MigratePrepare xml running state) (asked.Task c.hold (task.Run (call.Prepare c.definition (int_lt (pos 0) running) state)))
said_prepare words xml state running c counted (by, claims) before after = record {
  asks = λ old new one other. (c.definition, counted, (by.0, by.1, (words, by.2)), claims, refl);
  heard = record { built = refl; shown = counted_shown xml state running counted ∙ ap text_shown by.1 };
  plain = tt;
  made = (c.definition, by, refl);
}

pub said_uncounted : (xml state : List ℕ) (running : ℤ) (bound : ℕ) (e : OrNoMemory Refusal) → passed_one running ≡ Some bound
    → Fails e (refusal code.InvalidArgument (signed_decimal running ++ codes " " ++ decimal bound)) → IsSaid [] (request.MigratePrepare xml running state) (refused_by e)
said_uncounted xml state running bound e passes is =
    let why : Refusal = refusal code.InvalidArgument (signed_decimal running ++ codes " " ++ decimal bound) in
    said_refused [] (request.MigratePrepare xml running state) e refl refl
    (why_fails (request.MigratePrepare xml running state) e why (ap (λ (o : Option ℕ). or_else (number_shown running o) (text_shown (definition_in xml))) passes) is)

-- ---- names that are listed
pub said_names : (most : ℤ) → passed most ≡ None → IsSaid [] (request.ListDefinedDomains most) (asked.List (listing.Idle most))
said_names most within before after = record {
  asks = ap (names_asked most) within;
  heard = record { built = refl; shown = ap (number_shown most) within };
  plain = subst (λ (o : Option ℕ). IsNot (names_asked most o) (asked.List (listing.Idle most))) (sym within) refl;
  made = refl;
}

pub said_too_many : (most : ℤ) (bound : ℕ) (e : OrNoMemory Refusal) → passed most ≡ Some bound → Fails e (refusal code.InvalidArgument (signed_decimal most ++ codes " " ++ decimal bound))
    → IsSaid [] (request.ListDefinedDomains most) (refused_by e)
said_too_many most bound e passes is =
    let why : Refusal = refusal code.InvalidArgument (signed_decimal most ++ codes " " ++ decimal bound) in
    said_refused [] (request.ListDefinedDomains most) e (ap (names_asked most) passes) refl
    (why_fails (request.ListDefinedDomains most) e why (ap (number_shown most) passes) is)

-- ---- one domain
pub said_name : (name : List ℕ) → IsSaid [] (request.DomainLookupByName name) (asked.Task (hold.Name name) (task.Read query.Reference))
said_name name before after = record {
  asks = λ old new one other. (refl, refl);
  heard = record { built = refl; shown = refl };
  plain = tt;
  made = refl;
}

pub said_uuid : (uuid : List ℕ) → IsSaid [] (request.DomainLookupByUuid uuid) (asked.Task (hold.Uuid uuid) (task.Read query.Reference))
said_uuid uuid before after = record {
  asks = λ old new one other. (refl, refl);
  heard = record { built = refl; shown = refl };
  plain = refl;
  made = refl;
}

pub said_task : (words : List ℕ) (target : DomainTarget) (it : DomainRequest) (p : Parsed) (t : Task) → is_built_of_domain it ≡ true → parsed_as it ≡ Ok p → IsTaskOf words p t
    → IsSaid words (request.OnDomain target it) (asked.Task (hold.Uuid target.uuid) t)
said_task words target it p t built parsed made before after = record {
  asks = λ old new one other. (refl, (p, words, parsed, made));
  heard = record { built = built; shown = ap parse_shown parsed };
  plain = tt;
  made = (p, parsed, made);
}

why_parsed : (target : DomainTarget) (it : DomainRequest) (e : OrNoMemory Refusal) → FailsUnlessNoMemory e (parsed_as it) → IsWhy (request.OnDomain target it) e
why_parsed target it (or.Fault why) parsed = inl (ap parse_shown parsed)
why_parsed target it or.NoMemory parsed = tt

pub said_unparsed : (target : DomainTarget) (it : DomainRequest) (e : OrNoMemory Refusal) → FailsUnlessNoMemory e (parsed_as it) → IsSaid [] (request.OnDomain target it) (refused_by e)
said_unparsed target it e parsed = said_refused [] (request.OnDomain target it) e refl refl (why_parsed target it e parsed)

-- ---- what is not built
plain_is_built : (r : Request) → is_built r ≡ false → plainly_asked r ≡ None
plain_is_built (request.ConnectOpen name flags) e = absurd cc
plain_is_built request.ConnectClose e = absurd cc
plain_is_built (request.DomainCreateXml xml flags) e = refl
plain_is_built (request.DomainDefineXml xml) e = refl
plain_is_built (request.ListDefinedDomains most) e = absurd cc
plain_is_built (request.DomainLookupByName name) e = refl
plain_is_built (request.DomainLookupByUuid uuid) e = absurd cc
plain_is_built (request.ListDefinedNetworks most) e = refl
plain_is_built (request.ListNetworks most) e = refl
plain_is_built (request.NetworkDefineXml xml) e = refl
plain_is_built (request.NetworkLookupByName name) e = refl
plain_is_built (request.DomainRestore from) e = refl
plain_is_built request.ListAll e = absurd cc
plain_is_built request.Titles e = absurd cc
plain_is_built (request.PoolDefine xml) e = refl
plain_is_built (request.PoolLookup name) e = refl
plain_is_built request.PoolList e = refl
plain_is_built (request.MigratePrepare xml running state) e = refl
plain_is_built (request.OnDomain target it) e = refl
plain_is_built (request.OnNetwork target it) e = refl
plain_is_built (request.OnPool target it) e = refl

why_unbuilt : (r : Request) (e : OrNoMemory Refusal) → IsUnbuilt r e → IsWhy r e
why_unbuilt r (or.Fault why) is = inr is
why_unbuilt r or.NoMemory is = tt

pub said_unbuilt : (r : Request) (e : OrNoMemory Refusal) → is_built r ≡ false → Fails e (refusal code.NotBuilt (decimal (line (procedure_of r)).number)) → IsSaid [] r (refused_by e)
said_unbuilt r e not_built fails = said_refused [] r e (plain_is_built r not_built) refl (why_unbuilt r e (unbuilt r e not_built fails))

-- ---- what takes no memory
pub said_open : (name : Option (List ℕ)) (flags : ℕ) → IsSaid [] (request.ConnectOpen name flags) asked.Connection
said_open name flags before after = record { asks = refl; heard = record { built = refl; shown = refl }; plain = refl; made = refl }

pub said_close : IsSaid [] request.ConnectClose asked.Connection
said_close before after = record { asks = refl; heard = record { built = refl; shown = refl }; plain = refl; made = refl }

pub said_all : IsSaid [] request.ListAll (asked.List listing.All)
said_all before after = record { asks = refl; heard = record { built = refl; shown = refl }; plain = refl; made = refl }

pub said_titles : IsSaid [] request.Titles (asked.List listing.Titles)
said_titles before after = record { asks = refl; heard = record { built = refl; shown = refl }; plain = refl; made = refl }
