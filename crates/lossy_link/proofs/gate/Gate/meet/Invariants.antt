use Rattle.std.proofs.Common.{◌≡◌}
use mathlib.Core.List.{IsPrefix}
use Rattle.lossy_link.proofs.gate.Gate.meet.Given as goal

abbrev pub invariant-loop-look : goal.invariant-loop-look
invariant-loop-look l = record {
  seen : IsPrefix l.initial.self.seen l.self.seen;
  half : (l.self.gate ≡ l.initial.self.gate) × (l.self.second ≡ l.initial.self.second);
}
