use Rattle.work_threads.proofs.Given.{all_given}
use Rattle.work_threads.proofs.all.do_all.Goals as goal

pub returns : goal.returns
returns g c = all_given _ _ (g.J.Work.has_done c.args.shared.now) (λ one left met. met) c.args.all c.map_vec.result c.map_vec.ensures.len c.map_vec.ensures.each
