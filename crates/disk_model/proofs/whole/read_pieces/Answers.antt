use Rattle.std.proofs.Common.{arith}
use Rattle.disk_model.proofs.Pieces.{ends, front_empty, goes_on}
use Rattle.disk_model.proofs.Quiet.{more_calls, no_call}
use Rattle.disk_model.proofs.whole.read_pieces.Goals as goal

pub loop-turn-init : goal.loop-turn-init
loop-turn-init g c = record {
  some = c.requires.some;
  front = front_empty (g.D.Disk.told c.args.disk.now).bytes c.args.image.now c.requires.empty;
  quiet = no_call g.D.Disk.told c.args.disk.now (g.met.D.Disk.only_now c.args.disk.now);
  count = omega arith;
}

pub loop-turn-preserved : goal.loop-turn-preserved
loop-turn-preserved g c = record {
  some = omega (arith, c.loop-turn.invariant.some, c.read_more.ensures.buffer);
  front = goes_on (g.D.Disk.told c.args.disk.now).bytes (g.D.Disk.told c.loop-turn.disk).bytes _ c.loop-turn.image c.read_more.new.image c.loop-turn.invariant.quiet.same c.loop-turn.invariant.front c.in_ok-more.ensures.read;
  quiet = more_calls g.D.Disk.told c.args.disk.now c.loop-turn.disk c.read_more.new.disk c.loop-turn.invariant.quiet c.read_more.ensures.quiet;
  count = omega (arith, c.loop-turn.invariant.count, c.read_more.ensures.count);
}

pub returns-in_err-more-clause-quiet : goal.returns-in_err-more-clause-quiet
returns-in_err-more-clause-quiet g c =
    more_calls g.D.Disk.told c.args.disk.now c.loop-turn.disk c.read_more.new.disk c.loop-turn.invariant.quiet c.read_more.ensures.quiet

pub returns-then-not-more-clause-quiet : goal.returns-then-not-more-clause-quiet
returns-then-not-more-clause-quiet g c =
    more_calls g.D.Disk.told c.args.disk.now c.loop-turn.disk c.read_more.new.disk c.loop-turn.invariant.quiet c.read_more.ensures.quiet

pub returns-then-not-more-clause-read : goal.returns-then-not-more-clause-read
returns-then-not-more-clause-read g c =
    ends (g.D.Disk.told c.args.disk.now).bytes (g.D.Disk.told c.loop-turn.disk).bytes _ c.loop-turn.image c.read_more.new.image c.loop-turn.invariant.quiet.same c.loop-turn.invariant.front c.if-not-more.true c.in_ok-more.ensures.read

pub returns-clause-quiet : goal.returns-clause-quiet
returns-clause-quiet g c = c.loop-turn.invariant.quiet
