use Rattle.std.proofs.Common.{false, length, map, get_or, arith}
use Rattle.std.proofs.lemmas.List.{length-map}
use Rattle.serde_json.specs.Written.{compact_text}
use Rattle.problem_json.specs.Writing.{list_data, number_data}
use Rattle.problem_json.proofs.Rows.{begins, ends, goes_on, of_map}
use Rattle.problem_json.proofs.writing.plan.push_rates.Goals as goal

pub loop-number-init : goal.loop-number-init
loop-number-init g c = begins g.P.Pieces.pushes g.met.P.Pieces.pushed_further (map (number_data) c.args.rates.now) c.push_str.ensures

pub loop-number-preserved : goal.loop-number-preserved
loop-number-preserved g c = goes_on g.P.Pieces.pushes g.met.P.Pieces.pushed_further _ (map (number_data) c.args.rates.now) c.loop-number.number ((number_data) (get_or c.args.rates.now c.loop-number.number 0)) (of_map number_data c.args.rates.now c.loop-number.number 0 c.loop-number-test.true) c.loop-number.invariant c.push_comma.ensures c.push_number.ensures

pub returns-clause-text : goal.returns-clause-text
returns-clause-text g c = ends g.P.Pieces.pushes (compact_text (list_data (map (number_data) c.args.rates.now))) (map (number_data) c.args.rates.now) c.loop-number.number (omega (arith, length-map c.args.rates.now (number_data), c.loop-number-test.false)) c.loop-number.invariant c.push_str-2.ensures
