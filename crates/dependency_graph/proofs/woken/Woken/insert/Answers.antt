use Rattle.std.proofs.Common.{◌≡◌, ◌<◌, ◌||◌, ◌==◌, true, take, slice_index, refl, sym, ap, ◌∙◌, subst, arith, lt-ltb}
use Rattle.dependency_graph.specs.Cells.{has}
use Rattle.dependency_graph.specs.Wakes.{ItemSet, AreExchanged}
use Rattle.dependency_graph.proofs.Elements.{read_from}
use Rattle.dependency_graph.proofs.Orders.{is-member, put-in, there-already}
use Rattle.dependency_graph.proofs.woken.Woken.insert.Goals as goal

pub returns-then-place-self-clause-row : goal.returns-then-place-self-clause-row
returns-then-place-self-clause-row c n low =
    let s = c.self.inside in
    let i = c.args.item in
    let inverse = c.self.invariant.inverse in
    let lt = subst (λ (v : ItemSet). i < v.items) (sym c.self.view_is) c.requires in
    let n-lt = subst (λ (v : ItemSet). n < v.items) (sym c.self.view_is) low in
    let read = read_from s.places.items s.places.items i c.index-place.result.now 0 refl (omega (arith, lt, inverse.all)) c.index-place.ensures in
    let moved = subst (λ m. AreExchanged m s.count s.places.items c.exchange.new.places.items) read c.exchange.ensures.places in
    put-in s.order.items s.places.items c.exchange.new.order.items c.exchange.new.places.items s.count i inverse c.exchange.ensures.inverse c.exchange.ensures.all
    (omega (arith, inverse.there i lt, read, c.if-place-self.true)) lt moved (omega (arith, read, c.if-place-self.true)) n n-lt
    ∙ ap (λ (v : ItemSet). has v.row n || (i == n)) c.self.view_is

pub returns-else-place-self-clause-row : goal.returns-else-place-self-clause-row
returns-else-place-self-clause-row c n low =
    let s = c.self.inside in
    let i = c.args.item in
    let inverse = c.self.invariant.inverse in
    let lt = subst (λ (v : ItemSet). i < v.items) (sym c.self.view_is) c.requires in
    let read = read_from s.places.items s.places.items i c.index-place.result.now 0 refl (omega (arith, lt, inverse.all)) c.index-place.ensures in
    let here : has (take s.count s.order.items) i ≡ true = is-member s.order.items s.places.items inverse s.count i c.self.invariant.within lt ∙ lt-ltb (slice_index s.places.items i) s.count (omega (arith, read, c.if-place-self.false)) in
    there-already (has c.args.self.now.row n) i n (λ same. ap (λ (v : ItemSet). has v.row n) (sym c.self.view_is) ∙ ap (has (take s.count s.order.items)) (sym same) ∙ here)
