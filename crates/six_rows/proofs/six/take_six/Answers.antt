use Rattle.six_rows.proofs.Taken.{six_taken}
use Rattle.six_rows.proofs.six.take_six.Goals as goal

pub returns-clause-list : goal.returns-clause-list
returns-clause-list g c =
    six_taken c.args.rows.now.list c.pop.new.self.list c.pop-2.new.self.list c.pop-3.new.self.list c.pop-4.new.self.list c.pop-5.new.self.list c.pop-6.new.self.list
    c.pop-6.result c.pop-5.result c.pop-4.result c.pop-3.result c.pop-2.result c.pop.result
    c.unwrap-first.result c.unwrap-second.result c.unwrap-third.result c.unwrap-fourth.result c.unwrap-fifth.result c.unwrap-sixth.result
    c.pop.ensures.list c.unwrap-sixth.ensures c.pop-2.ensures.list c.unwrap-fifth.ensures c.pop-3.ensures.list c.unwrap-fourth.ensures
    c.pop-4.ensures.list c.unwrap-third.ensures c.pop-5.ensures.list c.unwrap-second.ensures c.pop-6.ensures.list c.unwrap-first.ensures
