use Rattle.std.proofs.Common.{◌∙◌}
use Rattle.rollout_report.proofs.Peaked.{peaks-are}
use Rattle.rollout_report.proofs.peaks.Peaks.over.Goals as goal

pub returns : goal.returns
returns c = c.into_peaks.ensures ∙ peaks-are c.args.plan.now c.args.history.now c.in_ok-pass.pass c.in_ok-pass.ensures
