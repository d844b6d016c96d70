use Rattle.std.proofs.Common.{map}
use Rattle.serde_json.specs.Written.{compact_text}
use Rattle.problem_json.specs.Writing.{list_data}
use Rattle.problem_json.specs.WritingLeast.{fraction_data}
use Rattle.problem_json.proofs.Rows.{Leads}
use Rattle.problem_json.proofs.writing.least.push_fractions.Given as goal

abbrev pub invariant-loop-number : goal.invariant-loop-number
invariant-loop-number g l = let ds = map fraction_data l.fractions in Leads g.P.Pieces.pushes (compact_text (list_data ds)) l.fn.text l.text l.number ds
