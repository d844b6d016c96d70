use Rattle.std.proofs.Common.{◌≤◌, List, subst, sym, arith}
use Rattle.rollout_rules.specs.declared.limits.TheConstants.{LARGEST_SCALE}
use Rattle.fraction_lp.specs.Ratio.{Ratio}
use Rattle.step_lp.specs.Points.{HaveRates}
use Rattle.step_lp.proofs.Fitting.{rates_fit}
use Rattle.step_lp.proofs.Multiples.{is_within}
use Rattle.step_lp.proofs.planning.plan_of.Goals as goal

pub rows_between-requires-clause-point : goal.rows_between-requires-clause-point
rows_between-requires-clause-point c =
    let is = is_within _ c.in-Some.scale c.in-Some.ensures in
    let few : c.in-Some.scale ≤ LARGEST_SCALE = omega (arith, is.0, is.1) in
    subst (λ (xs : List Ratio). HaveRates c.args.problem.now c.args.q c.in-Some.scale xs) (sym c.as_slice-point.ensures)
    (rates_fit c.args.problem.now c.args.q c.in-Some.scale c.args.point.now c.used_count.ensures.network c.requires.point few)
