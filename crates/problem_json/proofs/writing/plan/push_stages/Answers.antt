use Rattle.std.proofs.Common.{false, length, map, arith}
use Rattle.std.proofs.lemmas.List.{length-map}
use Rattle.serde_json.specs.Written.{compact_text}
use Rattle.problem_json.specs.Writing.{list_data, stage_data}
use Rattle.problem_json.proofs.Words.{one_stage_more}
use Rattle.problem_json.proofs.Rows.{begins, ends, goes_on, of_element}
use Rattle.problem_json.proofs.writing.plan.push_stages.Goals as goal

pub loop-number-init : goal.loop-number-init
loop-number-init g c = (begins g.P.Pieces.pushes g.met.P.Pieces.pushed_further (map (stage_data) c.args.stages.now) c.push_str.ensures, λ s less. absurd (omega (arith, less)))

pub loop-number-preserved : goal.loop-number-preserved
loop-number-preserved g c = (goes_on g.P.Pieces.pushes g.met.P.Pieces.pushed_further _ (map (stage_data) c.args.stages.now) c.loop-number.number ((stage_data) c.index-stages-number.result) (of_element stage_data c.args.stages.now c.loop-number.number c.index-stages-number.result c.loop-number-test.true c.index-stages-number.is) c.loop-number.invariant.0 c.push_comma.ensures c.push_stage.ensures.text, one_stage_more c.args.stages.now c.loop-number.number c.index-stages-number.result c.loop-number-test.true c.index-stages-number.is c.loop-number.invariant.1 c.push_stage.ensures.words)

pub returns-clause-text : goal.returns-clause-text
returns-clause-text g c = ends g.P.Pieces.pushes (compact_text (list_data (map (stage_data) c.args.stages.now))) (map (stage_data) c.args.stages.now) c.loop-number.number (omega (arith, length-map c.args.stages.now (stage_data), c.loop-number-test.false)) c.loop-number.invariant.0 c.push_str-2.ensures
