use Rattle.std.proofs.Common.{◌≡◌, ◌++◌, replicate}
use Rattle.lossy_link.proofs.line.set_out.Given as goal

abbrev pub invariant-loop-time : goal.invariant-loop-time
invariant-loop-time l = l.row.items ≡ l.initial.row.items ++ replicate l._time l.waiting
