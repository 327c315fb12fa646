use Rattle.core_steps.proofs.MayAnswer.{by_answer}
use Rattle.core_steps.proofs.Resumed.{away_answers, away_not_ended, done_answers, done_balance, phased_answers, phased_balance}
use Rattle.core_steps.proofs.answering.back.Goals as goal

pub back-requires-clause-may : goal.back-requires-clause-may
back-requires-clause-may c =
    by_answer c.args.answer c.args.kept.now c.end_first.new.kept c.args.by.number c.requires.away c.requires.may c.is_away.ensures.waits c.end_first.ensures.ends c.is_away-2.ensures.waits

pub returns-in-Done-clause-answers : goal.returns-in-Done-clause-answers
returns-in-Done-clause-answers c =
    done_answers c.args.kept.now c.end_first.new.kept c.back.new.self c.apply_all.new.kept c.args.by.number c.args.answer c.args.held.now c.in-Done.reply c.end_first.ensures.ends c.in-Done.ensures.back
    c.state.ensures.lost c.is_away-in-Done.ensures.waits c.apply_all.ensures.applies

pub returns-in-Done-clause-balance : goal.returns-in-Done-clause-balance
returns-in-Done-clause-balance c =
    done_balance c.end_first.new.kept c.back.new.self c.apply_all.new.kept c.args.by.number c.args.answer c.args.held.now c.in-Done.reply _ _ _ _ c.in-Done.ensures.back c.apply_all.ensures.applies
    c.end_first.ensures.balance c.in-Done.ensures.spare c.apply_all.ensures.balance

pub returns-in-Phased-clause-answers : goal.returns-in-Phased-clause-answers
returns-in-Phased-clause-answers c =
    phased_answers c.args.kept.now c.end_first.new.kept c.back.new.self c.apply_all-in-Phased.new.kept c.args.by.number c.args.answer c.args.held.now c.in-Phased.step c.end_first.ensures.ends c.in-Phased.ensures.back
    c.state-in-Phased.ensures.lost c.is_away-in-Phased.ensures.waits c.apply_all-in-Phased.ensures.applies

pub returns-in-Phased-clause-balance : goal.returns-in-Phased-clause-balance
returns-in-Phased-clause-balance c =
    phased_balance c.end_first.new.kept c.back.new.self c.apply_all-in-Phased.new.kept c.args.by.number c.args.answer c.args.held.now c.in-Phased.step _ _ _ _ c.in-Phased.ensures.back c.apply_all-in-Phased.ensures.applies
    c.end_first.ensures.balance c.in-Phased.ensures.spare c.apply_all-in-Phased.ensures.balance

pub returns-in-Away-clause-answers : goal.returns-in-Away-clause-answers
returns-in-Away-clause-answers c =
    away_answers c.args.kept.now c.end_first.new.kept c.back.new.self c.args.by.number c.args.answer c.args.held.now c.in-Away.ask c.end_first.ensures.ends
    (by_answer c.args.answer c.args.kept.now c.end_first.new.kept c.args.by.number c.requires.away c.requires.may c.is_away.ensures.waits c.end_first.ensures.ends c.is_away-2.ensures.waits) c.in-Away.ensures.back

pub returns-in-Away-clause-left : goal.returns-in-Away-clause-left
returns-in-Away-clause-left c =
    c.end_first.ensures.same (away_not_ended c.end_first.new.kept.course c.end_first.new.kept c.back.new.self c.args.by.number c.args.answer c.in-Away.ask c.in-Away.ensures.back c.is_away-in-Away.ensures.waits)
