use Rattle.std.proofs.Common.{◌≡◌, map, string_bytes, length}
use Rattle.text_commands.specs.Words.{are_pairs}
use Rattle.swanroll_top.specs.Words.{names_of}
use Rattle.swanroll_top.proofs.words.are_pairs.Given as goal

-- the words are pairs exactly where those that are left are
abbrev pub invariant-loop-rest : goal.invariant-loop-rest
invariant-loop-rest l = are_pairs (names_of l.kind) (map string_bytes l.fn.words) ≡ are_pairs (names_of l.kind) (map string_bytes l.rest)

abbrev pub decreases-loop-rest : goal.decreases-loop-rest
decreases-loop-rest l = length l.rest
