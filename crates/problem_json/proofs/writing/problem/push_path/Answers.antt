use Rattle.std.proofs.Common.{◌≤◌, length, map, get_or, ◌∙◌, arith}
use Rattle.std.proofs.lemmas.List.{length-map}
use Rattle.text_writer.proofs.Pushing.{at_value}
use Rattle.serde_json.specs.Written.{compact_text}
use Rattle.problem_json.specs.Writing.{list_data, name_data}
use Rattle.problem_json.proofs.Rows.{begins, ends, goes_on, of_map, quoted_at}
use Rattle.problem_json.proofs.writing.problem.push_path.Goals as goal

pub loop-number-init : goal.loop-number-init
loop-number-init g c p is = begins g.P.Pieces.pushes g.met.P.Pieces.pushed_further (map (name_data p) c.args.path.now) c.push_str.ensures

pub loop-number-preserved : goal.loop-number-preserved
loop-number-preserved g c p is =
    let k = c.loop-number.number in
    let path = c.args.path.now in
    let names = c.args.names.now in
    let w = get_or path k 0 in
    let name = c.as_str.ensures ∙ quoted_at names p w c.index-names-switch.result is (c.requires k c.loop-number-test.true) c.index-names-switch.is in
    goes_on g.P.Pieces.pushes g.met.P.Pieces.pushed_further _ (map (name_data p) path) k (name_data p w) (of_map (name_data p) path k 0 c.loop-number-test.true) (c.loop-number.invariant p is) c.push_comma.ensures
    (at_value g.P.Pieces.pushes (λ t. t) name c.push_str-in-loop-number.ensures)

pub returns : goal.returns
returns g c p is =
    let ds = map (name_data p) c.args.path.now in
    ends g.P.Pieces.pushes (compact_text (list_data ds)) ds c.loop-number.number (omega (arith, length-map c.args.path.now (name_data p), c.loop-number-test.false)) (c.loop-number.invariant p is) c.push_str-2.ensures
