use Rattle.std.proofs.Common.{rules, ◌≡◌, length, refl, sym, ◌∙◌, arith}
use Rattle.job_rules.proofs.Places.{is_crowded}
use Rattle.job_rules.proofs.queue.count_look.Goals as goal

pub returns-then-len-ge-MOST_WAITING-clause-crowded : goal.returns-then-len-ge-MOST_WAITING-clause-crowded
returns-then-len-ge-MOST_WAITING-clause-crowded c =
    (λ e. is_crowded c.args.callers.now.items c.args.who c.requires.distinct (let most = c.requires.most in omega (arith, most)) (search rules), λ h. refl)
