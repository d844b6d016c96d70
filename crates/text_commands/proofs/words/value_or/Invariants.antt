use Rattle.std.proofs.Common.{◌≡◌, ◌++◌, map, string_bytes, length, option_map, option_to_list}
use Rattle.text_commands.specs.Words.{values_of}
use Rattle.text_commands.proofs.words.value_or.Given as goal

-- after the value that was found come those of the pairs that are left
abbrev pub invariant-loop-rest : goal.invariant-loop-rest
invariant-loop-rest l = values_of l.name (map string_bytes l.fn.pairs) ≡ option_to_list (option_map (λ value. value.now) l.found) ++ values_of l.name (map string_bytes l.rest)

abbrev pub decreases-loop-rest : goal.decreases-loop-rest
decreases-loop-rest l = length l.rest
