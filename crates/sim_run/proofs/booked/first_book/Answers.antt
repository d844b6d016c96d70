use Rattle.std.proofs.lemmas.Result.{IfOk-weaker}
use Rattle.sim_run.proofs.Books.{first-opened, opens-first}
use Rattle.sim_run.proofs.booked.first_book.Goals as goal

pub opened_for-requires : goal.opened_for-requires
opened_for-requires c = opens-first c.args.plan c.in-Ok.disk.timeline.medium.bytes c.in-Ok.ensures

pub returns-in-Ok-clause-own : goal.returns-in-Ok-clause-own
returns-in-Ok-clause-own c =
    IfOk-weaker c.opened_for.result _ _ (λ book is. (first-opened c.args.plan c.in-Ok.disk.timeline.medium.bytes book c.in-Ok.ensures is).0) c.opened_for.ensures

pub returns-in-Ok-clause-graph : goal.returns-in-Ok-clause-graph
returns-in-Ok-clause-graph c =
    IfOk-weaker c.opened_for.result _ _ (λ book is. (first-opened c.args.plan c.in-Ok.disk.timeline.medium.bytes book c.in-Ok.ensures is).1) c.opened_for.ensures
