use Rattle.std.proofs.Common.{◌≡◌, ◌+◌, ◌-◌, ◌<◌, length, set, slice_index, refl, sym, ◌∙◌, subst, arith}
use Rattle.dependency_graph.specs.Wakes.{Keeping, AreKept, AreFreeOf}
use Rattle.dependency_graph.proofs.Elements.{read_from}
use Rattle.dependency_graph.proofs.Keepings.{kept-none, first-inside, first-lacks, kept-less}
use Rattle.dependency_graph.proofs.waiting_items.WaitingItems.pop.Goals as goal

pub returns-then-head-eq0-clause-none : goal.returns-then-head-eq0-clause-none
returns-then-head-eq0-clause-none c =
    let s = c.self.inside in
    let q = c.args.resource in
    let low = subst (λ (v : Keeping). q < v.resources) (sym c.self.view_is) c.requires in
    let read = read_from s.heads.items s.heads.items q c.index-head.result.now 0 refl low c.index-head.ensures in
    subst (λ (v : Keeping). AreFreeOf q v.lacks) c.self.view_is (kept-none s.lacks.items s.heads.items s.nexts.items c.self.invariant q low (sym read ∙ c.if-head-eq0.true))

pub index-requires : goal.index-requires
index-requires c =
    let s = c.self.inside in
    let q = c.args.resource in
    let low = subst (λ (v : Keeping). q < v.resources) (sym c.self.view_is) c.requires in
    let read = read_from s.heads.items s.heads.items q c.index-head.result.now 0 refl low c.index-head.ensures in
    let head : slice_index s.heads.items q ≡ (c.index-head.result.now - 1) + 1 = omega (arith, read, c.if-head-eq0.false) in
    omega (arith, first-inside s.lacks.items s.heads.items s.nexts.items c.self.invariant q low (c.index-head.result.now - 1) head, c.self.invariant.items, s.nexts.ok.0)

pub index_mut-requires-2 : goal.index_mut-requires-2
index_mut-requires-2 c =
    let s = c.self.inside in
    let q = c.args.resource in
    let low = subst (λ (v : Keeping). q < v.resources) (sym c.self.view_is) c.requires in
    let read = read_from s.heads.items s.heads.items q c.index-head.result.now 0 refl low c.index-head.ensures in
    let head : slice_index s.heads.items q ≡ (c.index-head.result.now - 1) + 1 = omega (arith, read, c.if-head-eq0.false) in
    omega (arith, first-inside s.lacks.items s.heads.items s.nexts.items c.self.invariant q low (c.index-head.result.now - 1) head, s.lacks.ok.0)

pub invariant_of-self : goal.invariant_of-self
invariant_of-self c =
    let s = c.self.inside in
    let q = c.args.resource in
    let i = c.index-head.result.now - 1 in
    let low = subst (λ (v : Keeping). q < v.resources) (sym c.self.view_is) c.requires in
    let read = read_from s.heads.items s.heads.items q c.index-head.result.now 0 refl low c.index-head.ensures in
    let head : slice_index s.heads.items q ≡ (c.index-head.result.now - 1) + 1 = omega (arith, read, c.if-head-eq0.false) in
    let inside = first-inside s.lacks.items s.heads.items s.nexts.items c.self.invariant q low (c.index-head.result.now - 1) head in
    let next = read_from s.nexts.items s.nexts.items i c.index.result.now 0 refl (omega (arith, inside, c.self.invariant.items)) c.index.ensures in
    subst (λ m. AreKept (set s.lacks.items i 0) (set s.heads.items q m) s.nexts.items) (sym next) (kept-less s.lacks.items s.heads.items s.nexts.items c.self.invariant q low i head)

pub returns-clause-none : goal.returns-clause-none
returns-clause-none c =
    let s = c.self.inside in
    let q = c.args.resource in
    let low = subst (λ (v : Keeping). q < v.resources) (sym c.self.view_is) c.requires in
    let read = read_from s.heads.items s.heads.items q c.index-head.result.now 0 refl low c.index-head.ensures in
    let head : slice_index s.heads.items q ≡ (c.index-head.result.now - 1) + 1 = omega (arith, read, c.if-head-eq0.false) in
    subst (λ (v : Keeping). (c.index-head.result.now - 1) < length v.lacks) c.self.view_is (first-inside s.lacks.items s.heads.items s.nexts.items c.self.invariant q low (c.index-head.result.now - 1) head)

pub returns-clause-own : goal.returns-clause-own
returns-clause-own c =
    let s = c.self.inside in
    let q = c.args.resource in
    let low = subst (λ (v : Keeping). q < v.resources) (sym c.self.view_is) c.requires in
    let read = read_from s.heads.items s.heads.items q c.index-head.result.now 0 refl low c.index-head.ensures in
    let head : slice_index s.heads.items q ≡ (c.index-head.result.now - 1) + 1 = omega (arith, read, c.if-head-eq0.false) in
    subst (λ (v : Keeping). slice_index v.lacks (c.index-head.result.now - 1) ≡ q + 1) c.self.view_is (first-lacks s.lacks.items s.heads.items s.nexts.items c.self.invariant q low (c.index-head.result.now - 1) head)
