use Rattle.std.proofs.Common.{◌≡◌, map}
use Rattle.rollout_rules.specs.Wan.{Problem}
use Rattle.serde_json.specs.Written.{compact_text}
use Rattle.problem_json.specs.Writing.{list_data, name_data}
use Rattle.wan_text.specs.Named.{quoted_name}
use Rattle.problem_json.proofs.Rows.{Leads}
use Rattle.problem_json.proofs.writing.problem.push_path.Given as goal

abbrev pub invariant-loop-number : goal.invariant-loop-number
invariant-loop-number g l = (p : Problem) → l.names ≡ map quoted_name p.switches → Leads g.P.Pieces.pushes (compact_text (list_data (map (name_data p) l.path))) l.fn.text l.text l.number (map (name_data p) l.path)
