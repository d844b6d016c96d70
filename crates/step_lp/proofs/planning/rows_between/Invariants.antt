use Rattle.std.proofs.Common.{◌≡◌, ◌*◌}
use Rattle.step_lp.specs.Points as points
use Rattle.step_lp.specs.Program as program
use Rattle.rollout_rules.specs.Sums.{list_below}
use Rattle.step_lp.proofs.planning.rows_between.Given as goal

abbrev pub invariant-loop-block : goal.invariant-loop-block
invariant-loop-block l =
    l.rows ≡ list_below l.block (λ b. points.rate_row l.problem l.scale l.point (b * program.used_count l.problem))
