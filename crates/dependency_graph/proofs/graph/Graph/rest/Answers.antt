use Rattle.std.proofs.Common.{◌≡◌, ◌&&◌, false, sym, subst}
use Rattle.dependency_graph.specs.Graph.{Followed, has_next, are_needs_met}
use Rattle.dependency_graph.proofs.Blocked.{let-go-waiting, waits-idle}
use Rattle.dependency_graph.proofs.graph.Graph.rest.Goals as goal

pub invariant_of-self : goal.invariant_of-self
invariant_of-self c =
    let s = c.self.inside in
    let n = c.args.item in
    let idle = subst (λ (g : Followed). (has_next g n && are_needs_met g n) ≡ false) (sym c.self.view_is) c.requires.idle in
    record { graph = c.self.invariant.graph; waiting = let-go-waiting s.course n 0 s.wakes c.rest.new.self c.self.invariant.waiting c.rest.ensures (waits-idle s.course n idle) }
