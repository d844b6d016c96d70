use Rattle.std.proofs.Common.{◌≡◌, map, string_bytes, length}
use Rattle.text_commands.specs.Words.{text_names_of, are_pairs}
use Rattle.text_commands.proofs.words.are_text_pairs.Given as goal

-- the words are pairs exactly where those that are left are
abbrev pub invariant-loop-rest : goal.invariant-loop-rest
invariant-loop-rest l = are_pairs (text_names_of l.kind) (map string_bytes l.fn.words) ≡ are_pairs (text_names_of l.kind) (map string_bytes l.rest)

abbrev pub decreases-loop-rest : goal.decreases-loop-rest
decreases-loop-rest l = length l.rest
