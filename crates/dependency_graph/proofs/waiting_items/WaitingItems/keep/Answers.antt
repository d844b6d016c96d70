use Rattle.std.proofs.Common.{◌≡◌, ◌+◌, ◌<◌, length, set, slice_index, refl, sym, subst}
use Rattle.dependency_graph.specs.Wakes.{Keeping, AreKept}
use Rattle.dependency_graph.proofs.Elements.{read_from}
use Rattle.dependency_graph.proofs.Keepings.{kept-more}
use Rattle.dependency_graph.proofs.waiting_items.WaitingItems.keep.Goals as goal

pub invariant_of-self : goal.invariant_of-self
invariant_of-self c =
    let s = c.self.inside in
    let i = c.args.item in
    let q = c.args.resource in
    let lt = subst (λ (v : Keeping). i < length v.lacks) (sym c.self.view_is) c.requires.item in
    let low = subst (λ (v : Keeping). q < v.resources) (sym c.self.view_is) c.requires.resource in
    let free = subst (λ (v : Keeping). slice_index v.lacks i ≡ 0) (sym c.self.view_is) c.requires.free in
    let read = read_from s.heads.items s.heads.items q c.index.result.now 0 refl low c.index.ensures in
    subst (λ m. AreKept (set s.lacks.items i (q + 1)) (set s.heads.items q (i + 1)) (set s.nexts.items i m)) (sym read) (kept-more s.lacks.items s.heads.items s.nexts.items c.self.invariant i q lt low free)
