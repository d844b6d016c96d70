use Rattle.rollout_rules.proofs.Pairs.{held_after-probe}
use Rattle.takeover_laws.proofs.Floors.{probe-guarded}
use Rattle.takeover_laws.proofs.terms.a_probe_changes_no_pair.Goals as goal

pub returns : goal.returns
returns c = record { held = held_after-probe; guarded = probe-guarded }
