use Rattle.std.proofs.Common.{[], ◌∷◌, ◌++◌, ◌∙◌, IsPermutation, List, map, ap, subst, sym, arith}
use Rattle.std.specs.Prelude.{nat_eq}
use Rattle.std.specs.List.{IsDistinct}
use Rattle.port_session.specs.Sessions.{SessionView, first_session}
use Rattle.switch_ports.specs.declared.ports.Berth.{Berth}
use Rattle.switch_ports.specs.Hands.{first_sessions}
use Rattle.controller_run.specs.Shifts.{AreFresh}
use Rattle.controller_run.proofs.Rows.{map_push}
use Rattle.controller_run.proofs.Taking.{apart_in, apart_out, grown, left, new, same_in, same_out, shorter}
use Rattle.controller_run.proofs.caller_ports.CallerPorts.take_over.Goals as goal

pub add-requires : goal.add-requires
add-requires g c =
    let i = c.loop-berth.invariant in
    record { new = new c.loop-berth.self.ports c.loop-berth.ports c.take.new.self c.in-Some.berth.switch c.in-Some.berth.port c.in-Some.ensures i.left i.apart }

pub loop-berth-preserved-in-Err : goal.loop-berth-preserved-in-Err
loop-berth-preserved-in-Err g c =
    let i = c.loop-berth.invariant in
    let whole = c.args.self.now.ports ++ (first_sessions c.args.self.now.spare.items ++ c.args.ports) in
    let own = c.loop-berth.self.ports in
    let spare = first_sessions c.loop-berth.self.spare.items in
    let rest = c.take.new.self in
    let switch = c.in-Some.berth.switch in
    let port = c.in-Some.berth.port in
    let short = shorter own c.loop-berth.ports rest switch port c.in-Some.ensures i.left in
    let same_own = sym c.in-Err.ensures.err.1 in
    let items = ap first_sessions c.push_reserved.ensures.items ∙ map_push (λ (b : Berth g.row.T.Denot). first_session b.switch b.port) c.loop-berth.self.spare.items (record { switch = switch; port = c.in-Err.port })
    ∙ ap (λ (p : g.row.T.Denot). spare ++ first_session switch p ∷ []) c.in-Err.ensures.err.0 in
    record {
      fresh = subst (λ (l : List (SessionView g.row.T.Denot)). AreFresh l) same_own i.fresh;
      left = left own c.loop-berth.ports rest switch port c.in-Some.ensures i.left;
      same = subst (λ (l : List (SessionView g.row.T.Denot)). IsPermutation whole (l ++ (first_sessions c.push_reserved.new.self.items ++ rest))) same_own
          (subst (λ (l : List (SessionView g.row.T.Denot)). IsPermutation whole (own ++ (l ++ rest))) (sym items) (same_out own c.loop-berth.ports rest switch port c.in-Some.ensures i.left whole spare i.same));
      apart = subst (λ (l : List (SessionView g.row.T.Denot)). IsDistinct nat_eq (map (λ (t : SessionView g.row.T.Denot). t.switch) (l ++ rest))) same_own (apart_out own c.loop-berth.ports rest switch port c.in-Some.ensures i.left i.apart);
      room = omega (arith, i.room, short, c.push_reserved.ensures.len, c.push_reserved.ensures.capacity);
      same_room = c.push_reserved.ensures.capacity ∙ i.same_room;
    }

pub loop-berth-preserved : goal.loop-berth-preserved
loop-berth-preserved g c =
    let i = c.loop-berth.invariant in
    let whole = c.args.self.now.ports ++ (first_sessions c.args.self.now.spare.items ++ c.args.ports) in
    let own = c.loop-berth.self.ports in
    let spare = first_sessions c.loop-berth.self.spare.items in
    let rest = c.take.new.self in
    let switch = c.in-Some.berth.switch in
    let port = c.in-Some.berth.port in
    let short = shorter own c.loop-berth.ports rest switch port c.in-Some.ensures i.left in
    let more = sym c.in_default-add.ensures.ok in
    record {
      fresh = subst (λ (l : List (SessionView g.row.T.Denot)). AreFresh l) more (grown own c.loop-berth.ports rest switch port c.in-Some.ensures i.left i.fresh);
      left = left own c.loop-berth.ports rest switch port c.in-Some.ensures i.left;
      same = subst (λ (l : List (SessionView g.row.T.Denot)). IsPermutation whole (l ++ (spare ++ rest))) more (same_in own c.loop-berth.ports rest switch port c.in-Some.ensures i.left whole spare i.same);
      apart = subst (λ (l : List (SessionView g.row.T.Denot)). IsDistinct nat_eq (map (λ (t : SessionView g.row.T.Denot). t.switch) (l ++ rest))) more (apart_in own c.loop-berth.ports rest switch port c.in-Some.ensures i.left i.apart);
      room = omega (arith, i.room, short);
      same_room = i.same_room;
    }
