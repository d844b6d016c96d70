use Rattle.std.proofs.Common.{length, sym, ap, ◌∙◌, arith}
use Rattle.plan_check.proofs.Firsts.{first_below_stops}
use Rattle.scratch_plan.specs.Lacks.{lack_at}
use Rattle.scratch_plan.proofs.links.first_over.Goals as goal

pub returns-in-Some : goal.returns-in-Some
returns-in-Some c =
    sym (first_below_stops (lack_at c.args.rule c.args.problem.now) (length c.args.problem.now.links) c.loop-l.l c.in-Some.cause
    (omega (arith, ap length c.links-l-end.ensures.list, c.loop-l-test.true)) c.loop-l.invariant (sym c.lack_at.ensures ∙ c.in-Some.is))
