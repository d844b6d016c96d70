use Rattle.std.proofs.Common.{ℕ, ◌<◌, ◌∙◌, List, length, slice_index_or, sym, ap, subst}
use Rattle.rollout_rules.specs.Items.{item_count}
use Rattle.rollout_rules.specs.History.{History, begun}
use Rattle.rollout_rules.specs.World.{in_flight, no_op}
use Rattle.rollout_rules.specs.declared.op.Entry.{Entry}
use Rattle.rollout_core.proofs.Flying.{flying-count, flying-below, flying-op}
use Rattle.rollout_core.proofs.history.History.flying.Goals as goal

abbrev past : List ℕ → List Entry → History
past start entries = record { start = start; entries = entries }

pub item-item-requires : goal.item-item-requires
item-item-requires c =
    let h = c.self.inside in
    let inside = subst (λ s. c.args.n < length (in_flight s.rollout.problem s.history)) (sym c.self.view_is) c.requires in
    subst (λ m. c.args.n < m) (sym (flying-count h.plan.now.problem (past h.start.items h.entries) h.flights c.self.invariant.flights)) inside

pub begun-number-requires : goal.begun-number-requires
begun-number-requires c =
    let h = c.self.inside in
    let inside = subst (λ s. c.args.n < length (in_flight s.rollout.problem s.history)) (sym c.self.view_is) c.requires in
    subst (λ s. c.item-item.result < item_count s.rollout.problem) c.self.view_is
    (flying-below h.plan.now.problem (past h.start.items h.entries) h.flights c.self.invariant.flights c.args.n c.item-item.result inside c.item-item.ensures)

pub returns-clause-item : goal.returns-clause-item
returns-clause-item c =
    let h = c.self.inside in
    let inside = subst (λ s. c.args.n < length (in_flight s.rollout.problem s.history)) (sym c.self.view_is) c.requires in
    subst (λ s. c.item-item.result < item_count s.rollout.problem) c.self.view_is
    (flying-below h.plan.now.problem (past h.start.items h.entries) h.flights c.self.invariant.flights c.args.n c.item-item.result inside c.item-item.ensures)

pub returns-clause-operation : goal.returns-clause-operation
returns-clause-operation c =
    let h = c.self.inside in
    let inside = subst (λ s. c.args.n < length (in_flight s.rollout.problem s.history)) (sym c.self.view_is) c.requires in
    flying-op h.plan.now.problem (past h.start.items h.entries) h.flights c.self.invariant.flights c.args.n c.item-item.result inside c.item-item.ensures c.begun-number.result
    (c.begun-number.ensures ∙ ap (λ s. begun s.history c.item-item.result) (sym c.self.view_is))
    ∙ ap (λ s. slice_index_or (in_flight s.rollout.problem s.history) c.args.n no_op) c.self.view_is
