use Rattle.shared_book.proofs.Batched.{batch-is}
use Rattle.shared_book.proofs.laws.a_round_makes_a_batch.Goals as goal

pub returns : goal.returns
returns c = λ o h answers. batch-is o.rollout.problem o.rollout.plan o.policy h answers
