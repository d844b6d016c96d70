use Rattle.std.proofs.Common.{◌≡◌, length}
use Rattle.problem_json.specs.GrammarFractions.{spelled_from}
use Rattle.problem_json.specs.declared.spelling.Spelling.TheVariants.{Front}
use Rattle.problem_json.proofs.spelling.spell.Given as goal

-- what was read so far goes on with the bytes that are left as all of them do from the front
abbrev pub invariant-loop-rest : goal.invariant-loop-rest
invariant-loop-rest l = spelled_from Front l.fn.bytes ≡ spelled_from l.spelling l.rest

abbrev pub decreases-loop-rest : goal.decreases-loop-rest
decreases-loop-rest l = length l.rest
