-- The machine's answer was counted.
use Rattle.std.proofs.Common.{◌∙◌, inl}
use Rattle.monitor_link.specs.Counting.{after_answer}
use Rattle.guest_model.proofs.guest.SimGuest.ask.Goals as goal

pub returns-in-Ok-clause-machine : goal.returns-in-Ok-clause-machine
returns-in-Ok-clause-machine c =
    let guest = c.in-Ok.ensures.guest in
    let answer = c.in-Ok.ensures.answer in
    inl (record {
      answer = answer;
      guest = λ i. record (guest i) { counts = (c.count_answer.ensures.counts ∙ (λ j. after_answer (guest j).counts (answer j))) i };
    })
