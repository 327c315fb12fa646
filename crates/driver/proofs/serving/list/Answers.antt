use Rattle.std.proofs.Common.{◌≡◌, ℤ, FitsSigned, of_z, rules, subst, sym, to_z, w32}
use Rattle.std.proofs.lemmas.Int.{to_z-of_z}
use Rattle.driver.specs.Called.{HasListed}
use Rattle.request_asks.specs.declared.asked.Listing.{Listing}
use Rattle.request_asks.specs.declared.asked.Listing.TheVariants as listing
use Rattle.driver.proofs.serving.list.Goals as goal

pub returns-in-Idle-clause-listed : goal.returns-in-Idle-clause-listed
returns-in-Idle-clause-listed g c =
    let came = c.list_defined.ensures in
    let fits : FitsSigned w32 c.in-Idle.most = search rules in
    let back : to_z w32 (of_z w32 c.in-Idle.most) ≡ c.in-Idle.most = to_z-of_z w32 c.in-Idle.most fits in
    subst (λ (l : Listing). HasListed l c.args.row c.list_defined.result.0 c.list_defined.result.1) (sym c.in-Idle.is)
    (subst (λ (m : ℤ). HasListed (listing.Idle m) c.args.row c.list_defined.result.0 c.list_defined.result.1) back (record { outcome = came.outcome; now = came.now; others = came.others; unmarked = came.unmarked }))

pub returns-in-All-clause-listed : goal.returns-in-All-clause-listed
returns-in-All-clause-listed g c =
    let came = c.list_all.ensures in
    subst (λ (l : Listing). HasListed l c.args.row c.list_all.result.0 c.list_all.result.1) (sym c.in-All.is) (record { outcome = came.outcome; now = came.now; others = came.others; unmarked = came.unmarked })

pub returns-in-Titles-clause-listed : goal.returns-in-Titles-clause-listed
returns-in-Titles-clause-listed g c =
    let came = c.tell_titles.ensures in
    subst (λ (l : Listing). HasListed l c.args.row c.tell_titles.result.0 c.tell_titles.result.1) (sym c.in-Titles.is) (record { outcome = came.outcome; now = came.now; others = came.others; unmarked = came.unmarked })
