use Rattle.std.proofs.Common.{false, length, map, arith}
use Rattle.std.proofs.lemmas.List.{length-map}
use Rattle.serde_json.specs.Written.{compact_text}
use Rattle.problem_json.specs.Writing.{list_data, switch_data}
use Rattle.problem_json.proofs.Rows.{begins, ends, goes_on, of_element}
use Rattle.problem_json.proofs.writing.problem.push_switches.Goals as goal

pub loop-number-init : goal.loop-number-init
loop-number-init g c = begins g.P.Pieces.pushes g.met.P.Pieces.pushed_further (map (switch_data) c.args.switches.now) c.push_str.ensures

pub loop-number-preserved : goal.loop-number-preserved
loop-number-preserved g c = goes_on g.P.Pieces.pushes g.met.P.Pieces.pushed_further _ (map (switch_data) c.args.switches.now) c.loop-number.number ((switch_data) c.index-switches-number.result) (of_element switch_data c.args.switches.now c.loop-number.number c.index-switches-number.result c.loop-number-test.true c.index-switches-number.is) c.loop-number.invariant c.push_comma.ensures c.push_switch.ensures

pub returns : goal.returns
returns g c = ends g.P.Pieces.pushes (compact_text (list_data (map (switch_data) c.args.switches.now))) (map (switch_data) c.args.switches.now) c.loop-number.number (omega (arith, length-map c.args.switches.now (switch_data), c.loop-number-test.false)) c.loop-number.invariant c.push_str-2.ensures
