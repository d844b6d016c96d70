use Rattle.std.proofs.Common.{length}
use Rattle.rollout_rules.specs.Sums.{list_below}
use Rattle.serde_json.specs.Written.{compact_text}
use Rattle.problem_json.specs.Writing.{list_data, flow_data}
use Rattle.problem_json.proofs.Rows.{Leads}
use Rattle.problem_json.proofs.writing.problem.push_flows.Given as goal

abbrev pub invariant-loop-number : goal.invariant-loop-number
invariant-loop-number g l = let ds = list_below (length l.problem.flows) (flow_data l.problem) in Leads g.P.Pieces.pushes (compact_text (list_data ds)) l.fn.text l.text l.number ds
