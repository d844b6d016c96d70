use Rattle.std.proofs.Common.{◌<◌, nat_lt, refl, sym, ap, ◌∙◌, subst, arith}
use Rattle.dependency_graph.specs.Cells.{has}
use Rattle.dependency_graph.specs.Wakes.{ItemSet}
use Rattle.dependency_graph.proofs.Elements.{read_from}
use Rattle.dependency_graph.proofs.Orders.{is-member}
use Rattle.dependency_graph.proofs.woken.Woken.has.Goals as goal

pub returns : goal.returns
returns c =
    let s = c.self.inside in
    let i = c.args.item in
    let lt = subst (λ (v : ItemSet). i < v.items) (sym c.self.view_is) c.requires in
    let read = read_from s.places.items s.places.items i c.index.result.now 0 refl (omega (arith, lt, c.self.invariant.inverse.all)) c.index.ensures in
    ap (λ m. nat_lt m s.count) read
    ∙ sym (is-member s.order.items s.places.items c.self.invariant.inverse s.count i c.self.invariant.within lt)
    ∙ ap (λ (v : ItemSet). has v.row i) c.self.view_is
