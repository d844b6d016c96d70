use Rattle.std.proofs.Common.{◌≡◌, ◌+◌, ◌-◌, ◌<◌, List, length, subst, sym, arith}
use Rattle.switch_ports.specs.declared.ports.Berth.{Berth}
use Rattle.switch_ports.specs.Hands.{hands}
use Rattle.switch_ports.proofs.Turns.{TakenBack, all_back, back_long, none_back, take_next, take_there}
use Rattle.switch_ports.proofs.dealing.take_back.Goals as goal

pub loop-place-init : goal.loop-place-init
loop-place-init g c = record {
  so_far = λ berths count are. none_back (length c.args.workers.now.items) berths c.args.left.now.items c.args.workers.now.items c.args.dealt (sym count) are;
  long = omega arith;
  within = omega arith;
  room = omega (arith, c.requires.room, c.args.left.now.ok.0);
}

pub take_one-requires-clause-there : goal.take_one-requires-clause-there
take_one-requires-clause-there g c =
    let i = c.loop-place.invariant in
    let d = c.requires.dealt in
    take_there (length c.args.workers.now.items) d.0 c.args.left.now.items c.loop-place.left.items c.loop-place.workers.items c.loop-place.place (c.loop-place.place - 1) (i.so_far d.0 d.1 d.2)
    (omega (arith, c.loop-place-test.true)) (c.requires.some (omega (arith, c.loop-place-test.true, i.within))) (omega (arith, i.within, d.1))

pub loop-place-preserved : goal.loop-place-preserved
loop-place-preserved g c =
    let i = c.loop-place.invariant in
    let d = c.requires.dealt in
    let n = length c.args.workers.now.items in
    let place = c.loop-place.place - 1 in
    let one : c.loop-place.place ≡ place + 1 = omega (arith, c.loop-place-test.true) in
    let some : 0 < n = c.requires.some (omega (arith, c.loop-place-test.true, i.within)) in
    let next : (berths : List (Berth _)) → length berths ≡ c.args.dealt → c.args.workers.now.items ≡ hands n berths → TakenBack n berths c.args.left.now.items c.push_reserved.new.self.items c.take_one.new.workers.items place =
    λ berths count are. subst (λ left. TakenBack n berths c.args.left.now.items left c.take_one.new.workers.items place) (sym c.push_reserved.ensures.items)
    (take_next n berths c.args.left.now.items c.loop-place.left.items c.loop-place.workers.items c.take_one.new.workers.items c.loop-place.place place c.take_one.result (i.so_far berths count are) one some (omega (arith, i.within, count)) c.take_one.ensures) in
    record {
      so_far = next;
      long = omega (arith, c.take_one.new.workers.ok.0, back_long n d.0 c.args.left.now.items c.push_reserved.new.self.items c.take_one.new.workers.items place (next d.0 d.1 d.2), c.args.workers.now.ok.0);
      within = omega (arith, i.within);
      room = omega (arith, i.room, c.push_reserved.ensures.len, c.push_reserved.ensures.capacity, c.loop-place-test.true);
    }

pub returns : goal.returns
returns g c = λ berths count are.
    all_back (length c.args.workers.now.items) berths c.args.left.now.items c.loop-place.left.items c.loop-place.workers.items c.loop-place.place (c.loop-place.invariant.so_far berths count are) (omega (arith, c.loop-place-test.false))
