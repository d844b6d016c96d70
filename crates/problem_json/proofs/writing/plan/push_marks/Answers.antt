use Rattle.std.proofs.Common.{false, length, map, get_or, arith}
use Rattle.std.proofs.lemmas.List.{length-map}
use Rattle.serde_json.specs.Written.{compact_text}
use Rattle.serde_json.specs.Data.{boolean}
use Rattle.problem_json.specs.Writing.{list_data}
use Rattle.problem_json.proofs.Rows.{begins, ends, goes_on, of_map}
use Rattle.problem_json.proofs.writing.plan.push_marks.Goals as goal

pub loop-number-init : goal.loop-number-init
loop-number-init g c = begins g.P.Pieces.pushes g.met.P.Pieces.pushed_further (map (boolean) c.args.marks.now) c.push_str.ensures

pub loop-number-preserved : goal.loop-number-preserved
loop-number-preserved g c = goes_on g.P.Pieces.pushes g.met.P.Pieces.pushed_further _ (map (boolean) c.args.marks.now) c.loop-number.number ((boolean) (get_or c.args.marks.now c.loop-number.number false)) (of_map boolean c.args.marks.now c.loop-number.number false c.loop-number-test.true) c.loop-number.invariant c.push_comma.ensures c.push_mark.ensures

pub returns : goal.returns
returns g c = ends g.P.Pieces.pushes (compact_text (list_data (map (boolean) c.args.marks.now))) (map (boolean) c.args.marks.now) c.loop-number.number (omega (arith, length-map c.args.marks.now (boolean), c.loop-number-test.false)) c.loop-number.invariant c.push_str-2.ensures
