use Rattle.std.proofs.Common.{arith}
use Rattle.disk_mirror.proofs.Alone.{more_calls, no_call}
use Rattle.disk_model.proofs.Pieces.{front_empty}
use Rattle.disk_mirror.proofs.Pieces.{ends, goes_on}
use Rattle.disk_mirror.proofs.image.read_pieces.Goals as goal

pub loop-turn-init : goal.loop-turn-init
loop-turn-init g c = record {
  some = c.requires.some;
  front = front_empty (g.D.Disk.told c.args.disk.now).bytes c.args.image.now.items c.requires.empty;
  alone = no_call (g.D.Disk.told c.args.disk.now);
}

pub loop-turn-preserved : goal.loop-turn-preserved
loop-turn-preserved g c = record {
  some = omega (arith, c.loop-turn.invariant.some, c.read_more.ensures.buffer);
  front = goes_on (g.D.Disk.told c.loop-turn.disk).bytes (g.D.Disk.told c.read_more.new.disk).bytes _ c.loop-turn.image.items c.read_more.new.image.items c.read_more.ensures.alone.same c.loop-turn.invariant.front c.in_ok-more.ensures.read;
  alone = more_calls (g.D.Disk.told c.args.disk.now) (g.D.Disk.told c.loop-turn.disk) (g.D.Disk.told c.read_more.new.disk) c.loop-turn.invariant.alone c.read_more.ensures.alone;
}

pub returns-then-not-more-clause-read : goal.returns-then-not-more-clause-read
returns-then-not-more-clause-read g c =
    ends (g.D.Disk.told c.loop-turn.disk).bytes (g.D.Disk.told c.read_more.new.disk).bytes _ c.loop-turn.image.items c.read_more.new.image.items c.read_more.ensures.alone.same c.loop-turn.invariant.front c.if-not-more.true c.in_ok-more.ensures.read
