use Rattle.std.proofs.Common.{ℕ, ◌<◌, ◌≤◌, length, set, slice_index, sym, subst}
use Rattle.dependency_graph.specs.StageCounts.{ItemStages}
use Rattle.dependency_graph.proofs.StageCounts.{above-moved}
use Rattle.dependency_graph.proofs.stands.Stands.set.Goals as goal

pub least_from-self-inside-requires-clause-none : goal.least_from-self-inside-requires-clause-none
least_from-self-inside-requires-clause-none c =
    let s = c.self.inside in
    let inside = subst (λ (v : ItemStages). c.args.item < length v.stages) (sym c.self.view_is) c.requires.item in
    let above = above-moved s.counts s.least c.args.item c.args.stage c.self.invariant inside in
    subst (λ (v : ItemStages). (k : ℕ) → k < length v.stages → c.min-low.result ≤ slice_index v.stages k) (sym c.set.ensures)
    (subst (λ m. (k : ℕ) → k < length (set s.counts.stages c.args.item c.args.stage) → m ≤ slice_index (set s.counts.stages c.args.item c.args.stage) k) (sym c.min-low.ensures) above)
