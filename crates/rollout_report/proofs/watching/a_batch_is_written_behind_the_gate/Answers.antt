use Rattle.rollout_report.proofs.Appended.{batch-goes_on}
use Rattle.rollout_report.proofs.watching.a_batch_is_written_behind_the_gate.Goals as goal

pub returns : goal.returns
returns c = λ home now batch body image rest is_body torn. batch-goes_on home now rest batch body image is_body torn
