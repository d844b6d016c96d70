-- The bytes so far were added.
use Rattle.std.proofs.Common.{◌≡◌, ◌++◌, take}
use Rattle.byte_history.specs.Histories.{bytes_in}
use Rattle.byte_history.proofs.history.add_each.Given as goal

abbrev pub invariant-loop-byte : goal.invariant-loop-byte
invariant-loop-byte l = bytes_in l.all ≡ bytes_in l.fn.all ++ take l.byte-index l.bytes
