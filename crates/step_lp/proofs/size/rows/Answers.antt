use Rattle.std.proofs.Common.{ap, ◌∙◌, length}
use Rattle.step_lp.proofs.Sizes.{rows_by, rows_are}
use Rattle.step_lp.proofs.size.rows.Goals as goal

pub returns-clause-value : goal.returns-clause-value
returns-clause-value c =
    ap (λ q. rows_by c.from-used.result (length c.links.result.now) (length c.flows.result.now) q) c.from-steps.ensures
    ∙ rows_are c.args.problem.now c.args.q c.from-used.result (length c.links.result.now) (length c.flows.result.now)
    (c.from-used.ensures ∙ c.used_count.ensures.value) (ap length c.links.ensures.list) (ap length c.flows.ensures.list)
