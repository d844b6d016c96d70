use Rattle.std.proofs.Common.{◌≡◌, map, string_bytes, length}
use Rattle.retarget_top.specs.Words.{retarget_names}
use Rattle.text_commands.specs.Words.{are_pairs}
use Rattle.retarget_top.proofs.words.are_retarget_pairs.Given as goal

-- the words are pairs exactly where those that are left are
abbrev pub invariant-loop-rest : goal.invariant-loop-rest
invariant-loop-rest l = are_pairs retarget_names (map string_bytes l.fn.words) ≡ are_pairs retarget_names (map string_bytes l.rest)

abbrev pub decreases-loop-rest : goal.decreases-loop-rest
decreases-loop-rest l = length l.rest
