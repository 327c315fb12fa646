use Rattle.std.proofs.Common.{sym, ap, ◌∙◌, subst}
use Rattle.held_tasks.specs.OfRows.{DriverRow, known}
use Rattle.held_tasks.specs.OfOutcomes.{IsLater, level}
use Rattle.held_tasks.specs.OfDesks.{StorePass}
use Rattle.driver.proofs.Going.{gone_on, parts_on}
use Rattle.driver.proofs.Rejoined.{called, now_of, outcome_of, rejoined}
use Rattle.driver.proofs.serving.serve.Goals as goal

pub returns-clause-called : goal.returns-clause-called
returns-clause-called g c =
    let parts = c.into_parts-list.result in
    let had = c.of-row.result in
    let row = rejoined c.args.row had parts.0 parts.1 c.new.result parts.2 parts.3 parts.4 c.into_parts-list.ensures c.of-row.ensures in
    let was = ap (λ (r : DriverRow _). r.store) c.into_parts-list.ensures ∙ sym c.into_pass.ensures in
    let is = ap (λ (r : DriverRow _). r.store) c.of-row.ensures ∙ c.new.ensures in
    let found = c.read_request-pass.ensures.found in (
      found.0,
      called g.F.Files.told g.G.Guests.faults g.G.E.Ears.ends g.G.E.Ears.faults g.G.E.Ears.unheard g.F.Files.faults c.args.who c.args.request.now found.0 c.read_request-pass.result.1 c.args.row had c.serve_asked.result.0 c.serve_asked.result.1
          c.into_pass.result c.read_request-pass.result.0 row was is found.1 c.read_request-pass.ensures.leaves c.serve_asked.ensures.came,
      found.2,
    )

pub returns-clause-gone : goal.returns-clause-gone
returns-clause-gone g c =
    let parts = c.into_parts-list.result in
    let had = c.of-row.result in
    let row = rejoined c.args.row had parts.0 parts.1 c.new.result parts.2 parts.3 parts.4 c.into_parts-list.ensures c.of-row.ensures in
    let was = ap (λ (r : DriverRow _). r.store) c.into_parts-list.ensures ∙ sym c.into_pass.ensures in
    let is = ap (λ (r : DriverRow _). r.store) c.of-row.ensures ∙ c.new.ensures in
    gone_on c.args.row had c.serve_asked.result.0 row
    (subst (λ (x : StorePass × StorePass). IsLater level (known x.0) (known x.1)) (λ i. (sym was i, sym is i)) c.read_request-pass.ensures.later) c.serve_asked.ensures.gone

pub returns-clause-parts : goal.returns-clause-parts
returns-clause-parts g c =
    let parts = c.into_parts-list.result in
    let had = c.of-row.result in
    let row = rejoined c.args.row had parts.0 parts.1 c.new.result parts.2 parts.3 parts.4 c.into_parts-list.ensures c.of-row.ensures in
    let was = ap (λ (r : DriverRow _). r.store) c.into_parts-list.ensures ∙ sym c.into_pass.ensures in
    let is = ap (λ (r : DriverRow _). r.store) c.of-row.ensures ∙ c.new.ensures in
    parts_on c.args.row had c.serve_asked.result.0 row
    (ap (λ (p : StorePass). p.parts) is ∙ (c.read_request-pass.ensures.same.parts ∙ ap (λ (p : StorePass). p.parts) (sym was))) c.serve_asked.ensures.parts

pub returns-clause-outcome : goal.returns-clause-outcome
returns-clause-outcome g c =
    let parts = c.into_parts-list.result in
    let had = c.of-row.result in
    let row = rejoined c.args.row had parts.0 parts.1 c.new.result parts.2 parts.3 parts.4 c.into_parts-list.ensures c.of-row.ensures in
    let was = ap (λ (r : DriverRow _). r.store) c.into_parts-list.ensures ∙ sym c.into_pass.ensures in
    let is = ap (λ (r : DriverRow _). r.store) c.of-row.ensures ∙ c.new.ensures in
    let found = c.read_request-pass.ensures.found in
    outcome_of g.F.Files.told g.G.Guests.faults g.G.E.Ears.ends g.G.E.Ears.faults g.G.E.Ears.unheard g.F.Files.faults c.args.who c.args.request.now found.0 c.read_request-pass.result.1 c.args.row had c.serve_asked.result.0 c.serve_asked.result.1
    c.into_pass.result c.read_request-pass.result.0 row was is found.1 c.read_request-pass.ensures.leaves c.serve_asked.ensures.came c.serve_asked.ensures.gone

pub returns-clause-now : goal.returns-clause-now
returns-clause-now g c =
    let parts = c.into_parts-list.result in
    let had = c.of-row.result in
    let row = rejoined c.args.row had parts.0 parts.1 c.new.result parts.2 parts.3 parts.4 c.into_parts-list.ensures c.of-row.ensures in
    let was = ap (λ (r : DriverRow _). r.store) c.into_parts-list.ensures ∙ sym c.into_pass.ensures in
    let is = ap (λ (r : DriverRow _). r.store) c.of-row.ensures ∙ c.new.ensures in
    let found = c.read_request-pass.ensures.found in
    now_of g.F.Files.told g.G.Guests.faults g.G.E.Ears.ends g.G.E.Ears.faults g.G.E.Ears.unheard g.F.Files.faults c.args.who c.args.request.now found.0 c.read_request-pass.result.1 c.args.row had c.serve_asked.result.0 c.serve_asked.result.1
    c.into_pass.result c.read_request-pass.result.0 row was is found.1 c.serve_asked.ensures.came
