use Rattle.std.proofs.Common.{◌+◌, ◌-◌}
use Rattle.rollout_rules.specs.Sums.{list_below}
use Rattle.serde_json.specs.Written.{compact_text}
use Rattle.problem_json.specs.Writing.{list_data, tunnel_data}
use Rattle.problem_json.proofs.Rows.{Leads}
use Rattle.problem_json.proofs.writing.problem.push_tunnels.Given as goal

abbrev pub invariant-loop-number : goal.invariant-loop-number
invariant-loop-number g l = let ds = list_below (l.fn.end - l.fn.begin) (λ j. tunnel_data l.problem (l.fn.begin + j)) in Leads g.P.Pieces.pushes (compact_text (list_data ds)) l.fn.text l.text (l.number - l.fn.begin) ds
