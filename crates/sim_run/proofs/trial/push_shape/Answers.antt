use Rattle.std.proofs.lemmas.Result.{on_ok_weaker}
use Rattle.sim_run.proofs.Shapes.{shape_told}
use Rattle.sim_run.proofs.trial.push_shape.Goals as goal

pub returns : goal.returns
returns c =
    on_ok_weaker c.push_str.result
    (shape_told c.args.shape.now c.args.text.now c.push_pair.new.text c.push_pair-2.new.text c.push_pair-3.new.text c.push_str.new.self c.from-switches.result c.from-flows.result c.from-k.result
    c.from-switches.ensures c.from-flows.ensures c.from-k.ensures c.in_ok-push_pair.ensures c.in_ok-push_pair-2.ensures c.in_ok-push_pair-3.ensures)
    c.push_str.ensures.ok
