use Rattle.std.proofs.Common.{◌≡◌, map, string_bytes, length}
use Rattle.takeover_top.specs.TakingWords.{taking_names}
use Rattle.text_commands.specs.Words.{are_pairs}
use Rattle.takeover_top.proofs.taking_words.are_taking_pairs.Given as goal

-- the words are pairs exactly where those that are left are
abbrev pub invariant-loop-rest : goal.invariant-loop-rest
invariant-loop-rest l = are_pairs taking_names (map string_bytes l.fn.words) ≡ are_pairs taking_names (map string_bytes l.rest)

abbrev pub decreases-loop-rest : goal.decreases-loop-rest
decreases-loop-rest l = length l.rest
