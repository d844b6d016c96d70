use Rattle.std.proofs.Common.{◌≡◌, ◌∙◌, sym, ap, length, ltb-true}
use Rattle.rollout_rules.specs.Wan.{Rollout}
use Rattle.rollout_rules.specs.Items.{item_at}
use Rattle.rollout_rules.specs.declared.item.Item.TheVariants as item
use Rattle.rollout_rules.proofs.OverItems.{entry-is_item}
use Rattle.dependency_graph.proofs.Standings.{is_item-read, needs-number}
use Rattle.dependency_graph.proofs.progress.needs.needs_met.Goals as goal

pub carriers_stand-requires-clause-flow : goal.carriers_stand-requires-clause-flow
carriers_stand-requires-clause-flow c =
    let r = c.args.plan.now in
    let same : r ≡ c.lookup.result.now = c.requires.own ∙ sym c.lookup.ensures in
    let here = is_item-read r c.lookup.result.now c.args.item (item.Flow c.in-Flow.flow) same c.requires.item (sym c.in-Flow.is ∙ c.item.ensures) in
    ltb-true c.in-Flow.flow (length r.problem.flows) here

pub entry_may_change-requires-clause-tunnel : goal.entry_may_change-requires-clause-tunnel
entry_may_change-requires-clause-tunnel c =
    let r = c.args.plan.now in
    let same : r ≡ c.lookup.result.now = c.requires.own ∙ sym c.lookup.ensures in
    let here = is_item-read r c.lookup.result.now c.args.item (item.Entry c.in-Entry.tunnel c.in-Entry.hop) same c.requires.item (sym c.in-Entry.is ∙ c.item.ensures) in
    (entry-is_item r.problem c.in-Entry.tunnel c.in-Entry.hop here).row

pub returns-in-Flow : goal.returns-in-Flow
returns-in-Flow c =
    let r = c.args.plan.now in
    let same : c.lookup.result.now ≡ r = c.lookup.ensures ∙ sym c.requires.own in
    let is = sym c.in-Flow.is ∙ c.item.ensures ∙ ap (λ (q : Rollout). item_at q.problem c.args.item) same in
    c.carriers_stand.ensures ∙ needs-number r c.args.progress.now c.args.ahead.now c.args.item c.stand-s.result (item.Flow c.in-Flow.flow) c.requires.item is c.stand-s.ensures.value

pub returns-in-Entry : goal.returns-in-Entry
returns-in-Entry c =
    let r = c.args.plan.now in
    let same : c.lookup.result.now ≡ r = c.lookup.ensures ∙ sym c.requires.own in
    let is = sym c.in-Entry.is ∙ c.item.ensures ∙ ap (λ (q : Rollout). item_at q.problem c.args.item) same in
    c.entry_may_change.ensures c.in-Entry.hop ∙ needs-number r c.args.progress.now c.args.ahead.now c.args.item c.stand-s.result (item.Entry c.in-Entry.tunnel c.in-Entry.hop) c.requires.item is c.stand-s.ensures.value
