use Rattle.std.proofs.Common.{◌≡◌, ◌-◌, ◌≤◌, length, take, drop}
use Rattle.std.specs.Prelude.{IsTrue}
use Rattle.fenced_ports.specs.Framing.{Frames}
use Rattle.fenced_ports.proofs.framing.frame_each.Given as goal

abbrev pub invariant-loop-rest : goal.invariant-loop-rest
invariant-loop-rest l = record {
  behind : l.rest ≡ drop (length l.from - length l.rest) l.from;
  within : length l.rest ≤ length l.from;
  frames : Frames l.term (record { kept = l.fn.reader.kept; out = l.fn.out.items }) (take (length l.from - length l.rest) l.from) (record { kept = l.reader.kept; out = l.out.items });
  live : IsTrue l.reader.live;
}

abbrev pub decreases-loop-rest : goal.decreases-loop-rest
decreases-loop-rest l = length l.rest
