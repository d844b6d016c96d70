use Rattle.std.proofs.Common.{◌≡◌, ◌≤◌, ℕ, replicate, arith}
use Rattle.lists.proofs.Results.{at_err}
use Rattle.switch_agent.specs.Items.{holding}
use Rattle.wan_edge.specs.Switches.{after_commands}
use Rattle.lossy_link.proofs.faithful_port.answer.Goals as goal

pub returns-clause-perhaps : goal.returns-clause-perhaps
returns-clause-perhaps c =
    let once : (n : ℕ) × (n ≤ 1) × (holding c.apply.new.self ≡ after_commands (holding c.args.agent.now) (replicate n c.args.command.now)) = (1, omega arith, c.in_ok-migration.ensures.applied) in
    at_err _ once
