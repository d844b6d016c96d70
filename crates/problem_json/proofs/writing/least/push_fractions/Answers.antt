use Rattle.std.proofs.Common.{false, length, map, arith}
use Rattle.std.proofs.lemmas.List.{length-map}
use Rattle.serde_json.specs.Written.{compact_text}
use Rattle.problem_json.specs.WritingLeast.{fraction_data}
use Rattle.problem_json.specs.Writing.{list_data}
use Rattle.problem_json.proofs.Rows.{begins, ends, goes_on, of_element}
use Rattle.problem_json.proofs.writing.least.push_fractions.Goals as goal

pub loop-number-init : goal.loop-number-init
loop-number-init g c = begins g.P.Pieces.pushes g.met.P.Pieces.pushed_further (map (fraction_data) c.args.fractions.now) c.push_str.ensures

pub loop-number-preserved : goal.loop-number-preserved
loop-number-preserved g c = goes_on g.P.Pieces.pushes g.met.P.Pieces.pushed_further _ (map (fraction_data) c.args.fractions.now) c.loop-number.number ((fraction_data) c.index-fractions-number.result) (of_element fraction_data c.args.fractions.now c.loop-number.number c.index-fractions-number.result c.loop-number-test.true c.index-fractions-number.is) c.loop-number.invariant c.push_comma.ensures c.in_ok-push_fraction.ensures

pub returns : goal.returns
returns g c = ends g.P.Pieces.pushes (compact_text (list_data (map (fraction_data) c.args.fractions.now))) (map (fraction_data) c.args.fractions.now) c.loop-number.number (omega (arith, length-map c.args.fractions.now (fraction_data), c.loop-number-test.false)) c.loop-number.invariant c.push_str-2.ensures
