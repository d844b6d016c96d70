use Rattle.std.proofs.Common.{◌∙◌, ap}
use Rattle.switch_agent.specs.Items.{holding}
use Rattle.wan_edge.specs.Switches.{Holdings, after_command}
use Rattle.lossy_link.proofs.Traffics.{after-replicate}
use Rattle.lossy_link.proofs.line.deliver.Goals as goal

pub loop-time-preserved : goal.loop-time-preserved
loop-time-preserved c =
    c.in_ok-apply.ensures.applied ∙ ap (λ (held : Holdings). after_command held c.args.command.now) c.loop-time.invariant ∙ after-replicate (holding c.args.agent.now) c.loop-time._time c.args.command.now
