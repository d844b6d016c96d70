use Rattle.std.proofs.Common.{◌<◌, ◌∷◌, ◌++◌, [], length, reverse, sym, ap, ◌∙◌, arith}
use Rattle.switch_ports.proofs.Turns.{dealt_back, dealt_long, dealt_new, dealt_next, dealt_none, dealt_so}
use Rattle.switch_ports.proofs.dealing.deal_each.Goals as goal

pub loop-berth-init : goal.loop-berth-init
loop-berth-init g c = record {
  so_far = dealt_none (length c.args.workers.now.items) c.args.left.now.items c.args.workers.now.items c.requires.fresh;
  long = omega arith;
  count = omega arith;
  room = omega (arith, c.args.left.now.ok.1);
}

pub deal_one-requires-clause-new : goal.deal_one-requires-clause-new
deal_one-requires-clause-new g c =
    let i = c.loop-berth.invariant in
    dealt_new (length c.args.workers.now.items) (reverse c.args.left.now.items) c.loop-berth.left.items c.pop.new.self.items c.loop-berth.workers.items c.loop-berth.dealt c.in-Some.berth i.so_far c.in-Some.ensures.items
    (c.requires.some (omega (arith, i.count, c.in-Some.ensures.len, c.args.left.now.ok.0))) c.requires.apart

pub loop-berth-preserved : goal.loop-berth-preserved
loop-berth-preserved g c =
    let i = c.loop-berth.invariant in
    let n = length c.args.workers.now.items in
    let some : 0 < n = c.requires.some (omega (arith, i.count, c.in-Some.ensures.len, c.args.left.now.ok.0)) in
    let next = dealt_next n (reverse c.args.left.now.items) c.loop-berth.left.items c.pop.new.self.items c.loop-berth.workers.items c.deal_one.new.workers.items c.loop-berth.dealt c.in-Some.berth
    i.so_far c.in-Some.ensures.items some c.in_default-deal_one.ensures.ok in
    record {
      so_far = next;
      long = omega (arith, c.deal_one.new.workers.ok.0, dealt_long _ _ _ _ _ next, c.args.workers.now.ok.0);
      count = omega (arith, i.count, c.in-Some.ensures.len);
      room = omega (arith, i.room, c.pop.ensures.capacity);
    }

pub take_back-requires-clause-dealt : goal.take_back-requires-clause-dealt
take_back-requires-clause-dealt g c =
    let so = c.loop-berth.invariant.so_far in
    (so.earlier, so.long, dealt_so (length c.args.workers.now.items) (reverse c.args.left.now.items) c.loop-berth.left.items c.loop-berth.workers.items c.deal_one.new.workers.items c.loop-berth.dealt so c.in-Err.ensures.err.1)

pub returns-in-Err-clause-err : goal.returns-in-Err-clause-err
returns-in-Err-clause-err g c =
    let so = c.loop-berth.invariant.so_far in
    let are = dealt_so (length c.args.workers.now.items) (reverse c.args.left.now.items) c.loop-berth.left.items c.loop-berth.workers.items c.deal_one.new.workers.items c.loop-berth.dealt so c.in-Err.ensures.err.1 in
    let left = c.push_reserved.ensures.items ∙ ap (λ b. c.pop.new.self.items ++ b ∷ []) c.in-Err.ensures.err.0 ∙ sym c.in-Some.ensures.items in
    c.take_back.ensures so.earlier so.long are ∙ ap (λ bs. bs ++ reverse so.earlier) left
    ∙ dealt_back (length c.args.workers.now.items) c.args.left.now.items c.loop-berth.left.items c.loop-berth.workers.items c.loop-berth.dealt so
