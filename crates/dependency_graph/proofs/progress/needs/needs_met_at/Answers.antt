use Rattle.std.proofs.Common.{◌∙◌, [], sym, ap}
use Rattle.rollout_rules.specs.Needs as needs
use Rattle.dependency_graph.specs.Ahead.{places_with}
use Rattle.dependency_graph.proofs.progress.needs.needs_met_at.Goals as goal

pub returns-in-Entry : goal.returns-in-Entry
returns-in-Entry c =
    let r = c.args.plan.now in
    c.entry_may_change.ensures c.in-Entry.hop ∙ ap (λ i. needs.needs_met_at r.problem r.plan (places_with r c.args.progress.now []) i c.args.s) (sym c.in-Entry.is)
