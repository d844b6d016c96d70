use Rattle.std.proofs.Common.{◌≡◌, ℕ, ◌+◌, ◌≤◌, ◌-◌, ◌∙◌, ap, arith, length, take, drop, sym}
use Rattle.std.proofs.lemmas.Grind.{common_steps}
use Rattle.std.proofs.lemmas.List.{length-take-le}
use Rattle.host_edge.specs.Inboxes.{Held}
use Rattle.host_edge.proofs.Sorting.{given_front}
use Rattle.host_edge.proofs.inbox.Inbox.give.Goals as goal

pub returns-clause-next : goal.returns-clause-next
returns-clause-next c =
    let inside = c.self.inside in
    let few : c.min-n.result ≤ inside.whole - inside.given = grind (arith, common_steps, c.min-n.ensures) in
    let fits : c.min-n.result ≤ length c.args.into.now = grind (arith, common_steps, c.min-n.ensures) in
    let same : (inside.given + c.min-n.result) - inside.given ≡ c.min-n.result = omega arith in
    let long = c.copy_from_slice.ensures.len ∙ length-take-le c.min-n.result c.args.into.now fits in
    sym (ap (λ (h : Held). h.ready) c.self.view_is) ∙ given_front inside.bytes c.args.into.now c.copy_from_slice.new.self inside.given inside.whole c.min-n.result few long (c.copy_from_slice.ensures.after ∙ ap (λ (k : ℕ). take k (drop inside.given inside.bytes)) same)
