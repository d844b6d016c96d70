use Rattle.std.proofs.Common.{false, length, map, get_or, arith}
use Rattle.std.proofs.lemmas.List.{length-map}
use Rattle.serde_json.specs.Written.{compact_text}
use Rattle.rollout_rules.specs.declared.event.Act.TheVariants.{Round}
use Rattle.problem_json.specs.WritingScripts.{act_data}
use Rattle.problem_json.specs.Writing.{list_data}
use Rattle.problem_json.proofs.ReadScripts.{one_within_more}
use Rattle.problem_json.proofs.Rows.{begins, ends, goes_on, of_map}
use Rattle.problem_json.proofs.writing.script.push_script.Goals as goal

pub loop-number-init : goal.loop-number-init
loop-number-init g c = (begins g.P.Pieces.pushes g.met.P.Pieces.pushed_further (map (act_data) c.args.script.now) c.push_str.ensures, λ s less. absurd (omega (arith, less)))

pub loop-number-preserved : goal.loop-number-preserved
loop-number-preserved g c = (goes_on g.P.Pieces.pushes g.met.P.Pieces.pushed_further _ (map (act_data) c.args.script.now) c.loop-number.number ((act_data) (get_or c.args.script.now c.loop-number.number Round)) (of_map act_data c.args.script.now c.loop-number.number Round c.loop-number-test.true) c.loop-number.invariant.0 c.push_comma.ensures c.push_act.ensures.text, one_within_more c.args.script.now c.loop-number.number c.loop-number.invariant.1 c.push_act.ensures.within)

pub returns-clause-text : goal.returns-clause-text
returns-clause-text g c = ends g.P.Pieces.pushes (compact_text (list_data (map (act_data) c.args.script.now))) (map (act_data) c.args.script.now) c.loop-number.number (omega (arith, length-map c.args.script.now (act_data), c.loop-number-test.false)) c.loop-number.invariant.0 c.push_str-2.ensures
