use Rattle.held_tasks.proofs.Requests.{tasks_answer}
use Rattle.held_tasks.proofs.laws.tasks_answer_requests.Goals as goal

pub returns : goal.returns
returns c = tasks_answer
