use Rattle.six_rows.proofs.Taken.{six_put}
use Rattle.six_rows.proofs.six.put_six.Goals as goal

pub returns-clause-list : goal.returns-clause-list
returns-clause-list g c =
    six_put c.args.rows.now.list c.push.new.self.list c.push-2.new.self.list c.push-3.new.self.list c.push-4.new.self.list c.push-5.new.self.list c.push-6.new.self.list
    c.args.six.first c.args.six.second c.args.six.third c.args.six.fourth c.args.six.fifth c.args.six.sixth
    c.push.ensures.list c.push-2.ensures.list c.push-3.ensures.list c.push-4.ensures.list c.push-5.ensures.list c.push-6.ensures.list
