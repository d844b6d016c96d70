use Rattle.std.proofs.lemmas.Result.{IfOk-weaker}
use Rattle.order_policy.specs.Answers.{rank_by}
use Rattle.shared_book.proofs.Firsts.{is-opened}
use Rattle.controller_run.proofs.opening.open_known.Goals as goal

pub returns-clause-opening : goal.returns-clause-opening
returns-clause-opening g c = IfOk-weaker c.open.result _ _ (λ book new. is-opened g.D.Disk.told book.chronicle (rank_by book.policy.now.answers) new) c.open.ensures.book

pub returns-clause-has : goal.returns-clause-has
returns-clause-has g c = IfOk-weaker c.open.result _ _ (λ book new. new.has) c.open.ensures.book
