use Rattle.rollout_report.proofs.Appended.{gate-goes_on}
use Rattle.rollout_report.proofs.watching.its_gate_is_opened_last.Goals as goal

pub returns : goal.returns
returns c = λ home now batch body image rest is_body torn. gate-goes_on home now rest batch body image is_body torn
