-- Words of domain_requests that are passed on: crates above name them here.
pub use Rattle.list_replies.specs.Below.domain_requests.declared.task.Task.{Task}
