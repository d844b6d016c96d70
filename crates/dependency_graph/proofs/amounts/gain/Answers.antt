use Rattle.std.proofs.Common.{◌≡◌, ◌<◌, ◌^◌, ◌∙◌, true, List, ℕ, length, slice_index, sym, ap, subst, ltb-true}
use Rattle.rollout_rules.specs.Sums.{sum_below}
use Rattle.rollout_rules.specs.Items.{is_item}
use Rattle.dependency_graph.specs.Cells.{resource_at}
use Rattle.dependency_graph.specs.Touched.{TakesBy, beyond, gain}
use Rattle.dependency_graph.proofs.Gains.{gain-link, gain-few, gain-table}
use Rattle.dependency_graph.proofs.amounts.gain.Goals as goal

pub rates_beyond-requires-clause-tunnels : goal.rates_beyond-requires-clause-tunnels
rates_beyond-requires-clause-tunnels c =
    let p = c.args.plan.now.problem in
    let link = subst (λ i. TakesBy p i c.args.row.now c.args.k) c.in-Flow.is (c.requires.row.each c.args.k c.requires.place) in
    subst (λ (xs : List ℕ). (j : ℕ) → j < length xs → slice_index xs j < length p.tunnels) (sym c.tunnels.ensures) link.crossing.tunnels

pub rates_beyond-requires-clause-few : goal.rates_beyond-requires-clause-few
rates_beyond-requires-clause-few c =
    let p = c.args.plan.now.problem in
    let plan = c.args.plan.now.plan in
    let link = subst (λ i. TakesBy p i c.args.row.now c.args.k) c.in-Flow.is (c.requires.row.each c.args.k c.requires.place) in
    let lt = ltb-true c.in-Flow.field-0 (length p.flows) (subst (λ i. is_item p i ≡ true) c.in-Flow.is c.requires.item) in
    subst (λ (xs : List ℕ). sum_below (length xs) (λ j. beyond plan c.args.from c.args.to (slice_index xs j)) < 2 ^ 64) (sym c.tunnels.ensures)
    (gain-few p plan c.args.from c.args.to c.in-Flow.field-0 c.args.k c.args.row.now c.checked_plan_is_valid.ensures.network c.checked_plan_is_valid.ensures.valid lt c.requires.to link)

pub returns-in-Flow : goal.returns-in-Flow
returns-in-Flow c =
    let p = c.args.plan.now.problem in
    let plan = c.args.plan.now.plan in
    let link = subst (λ i. TakesBy p i c.args.row.now c.args.k) c.in-Flow.is (c.requires.row.each c.args.k c.requires.place) in
    c.rates_beyond.ensures
    ∙ ap (λ (xs : List ℕ). sum_below (length xs) (λ j. beyond plan c.args.from c.args.to (slice_index xs j))) c.tunnels.ensures
    ∙ sym (gain-link p plan c.args.from c.args.to c.in-Flow.field-0 c.args.k c.args.row.now link)
    ∙ ap (λ i. gain p plan c.args.from c.args.to i (resource_at p (slice_index c.args.row.now.resources c.args.k))) (sym c.in-Flow.is)

pub returns-in-Entry : goal.returns-in-Entry
returns-in-Entry c =
    let p = c.args.plan.now.problem in
    let plan = c.args.plan.now.plan in
    let q = slice_index c.args.row.now.resources c.args.k in
    let table = subst (λ i. TakesBy p i c.args.row.now c.args.k) c.in-Entry.is (c.requires.row.each c.args.k c.requires.place) in
    c.width_beyond.ensures
    ∙ sym (gain-table p plan c.args.from c.args.to c.in-Entry.tunnel c.in-Entry.hop q table)
    ∙ ap (λ i. gain p plan c.args.from c.args.to i (resource_at p q)) (sym c.in-Entry.is)
