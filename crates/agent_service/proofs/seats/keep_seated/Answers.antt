use Rattle.std.proofs.Common.{◌∙◌, List, length, sym, ap, arith}
use Rattle.std.proofs.lemmas.List.{length_push}
use Rattle.agent_service.specs.Services.{after_leaving}
use Rattle.agent_service.proofs.Rows.{leaving_push}
use Rattle.agent_service.proofs.seats.keep_seated.Goals as goal

pub keep_guest-requires : goal.keep_guest-requires
keep_guest-requires g c = omega (arith, c.loop-guest.invariant.known, ap length c.in-Some.ensures.items, length_push c.pop.new.self.items c.in-Some.guest)

pub loop-guest-preserved : goal.loop-guest-preserved
loop-guest-preserved g c =
    let i = c.loop-guest.invariant in
    let parts = c.in-Some.ensures.items in
    let long = length_push c.pop.new.self.items c.in-Some.guest in
    let served = (g.F.Fleet.told c.loop-guest.fleet).served in
    record {
      back = ap (λ (back : List _). after_leaving back c.pop.new.self.items) c.keep_guest.ensures.back ∙ sym (leaving_push served c.pop.new.self.items c.in-Some.guest) ∙ sym (ap (after_leaving served) parts) ∙ i.back;
      visiting = omega (arith, i.visiting, c.keep_guest.ensures.place, ap length parts, long);
      known = omega (arith, i.known, c.keep_guest.ensures.place, ap length parts, long);
      coming = c.keep_guest.ensures.others ∙ i.coming;
      waiting = c.keep_guest.ensures.ports.0 ∙ i.waiting;
      kept = c.keep_guest.ensures.ports.1 ∙ i.kept;
      lent = c.keep_guest.ensures.ports.2 ∙ i.lent;
      named = c.keep_guest.ensures.ports.3 ∙ i.named;
      count = omega (arith, i.count, c.keep_guest.ensures.count);
    }
