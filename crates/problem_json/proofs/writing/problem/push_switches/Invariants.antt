use Rattle.std.proofs.Common.{map}
use Rattle.serde_json.specs.Written.{compact_text}
use Rattle.problem_json.specs.Writing.{list_data, switch_data}
use Rattle.problem_json.proofs.Rows.{Leads}
use Rattle.problem_json.proofs.writing.problem.push_switches.Given as goal

abbrev pub invariant-loop-number : goal.invariant-loop-number
invariant-loop-number g l = let ds = map switch_data l.switches in Leads g.P.Pieces.pushes (compact_text (list_data ds)) l.fn.text l.text l.number ds
