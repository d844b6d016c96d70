use Rattle.std.proofs.Common.{length, ap, sym, ◌∙◌}
use Rattle.rollout_rules.specs.Items.{content}
use Rattle.rollout_rules.specs.Wan.{flow_at, rate_at, tunnel_of}
use Rattle.rollout_rules.specs.declared.item.Item.{Item}
use Rattle.rollout_rules.proofs.Rows.{list_below-length}
use Rattle.rollout_book.proofs.contents.rate_count.Goals as goal

pub returns-in-Flow-clause-count : goal.returns-in-Flow-clause-count
returns-in-Flow-clause-count c =
    let r = c.args.plan.now in
    λ s. ap (λ (i : Item). length (content r.problem r.plan i s)) c.in-Flow.is
    ∙ list_below-length (flow_at r.problem c.in-Flow.flow).tunnels (λ j. rate_at r.plan s (tunnel_of r.problem c.in-Flow.flow j))
    ∙ sym c.tunnel_count.ensures.value
