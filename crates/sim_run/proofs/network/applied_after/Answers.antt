use Rattle.std.proofs.Common.{ap, ap₂, ◌∙◌, if◌then◌else◌}
use Rattle.rollout_rules.specs.Agent.{is_next_command}
use Rattle.rollout_rules.specs.declared.held.Held.{Held}
use Rattle.sim_run.proofs.Switches.{applied-next}
use Rattle.sim_run.proofs.network.applied_after.Goals as goal

pub returns : goal.returns
returns c =
    ap (λ (h : Held). h.number) c.pair_after-held.ensures
    ∙ ap₂ (λ (held asked : Held). (if is_next_command held asked then asked else held).number) c.first_held.ensures c.first_held-2.ensures
    ∙ applied-next c.args.applied c.args.asked
