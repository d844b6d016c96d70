use Rattle.std.proofs.Common.{◌≡◌, length}
use Rattle.text_commands.specs.Words.{are_digits}
use Rattle.text_commands.proofs.words.are_digits.Given as goal

-- the bytes are digits exactly where those that are left are
abbrev pub invariant-loop-rest : goal.invariant-loop-rest
invariant-loop-rest l = are_digits l.fn.bytes ≡ are_digits l.rest

abbrev pub decreases-loop-rest : goal.decreases-loop-rest
decreases-loop-rest l = length l.rest
