use Rattle.std.proofs.Common.{◌≡◌, ◌<◌, length, subst, ap, arith}
use Rattle.rollout_rules.specs.Sums.{list_below}
use Rattle.serde_json.specs.Written.{compact_text}
use Rattle.rollout_rules.proofs.Rows.{list_below-length}
use Rattle.problem_json.specs.Writing.{flow_data, list_data}
use Rattle.problem_json.proofs.Rows.{begins, ends, goes_on, of_below}
use Rattle.problem_json.proofs.writing.problem.push_flows.Goals as goal

pub loop-number-init : goal.loop-number-init
loop-number-init g c = begins g.P.Pieces.pushes g.met.P.Pieces.pushed_further (list_below (length c.args.problem.now.flows) (flow_data c.args.problem.now)) c.push_str.ensures

pub loop-number-preserved : goal.loop-number-preserved
loop-number-preserved g c =
    let p = c.args.problem.now in
    let k = c.loop-number.number in
    let n = length p.flows in
    goes_on g.P.Pieces.pushes g.met.P.Pieces.pushed_further _ (list_below n (flow_data p)) k (flow_data p k) (of_below (flow_data p) n k (subst (λ fs. k < length fs) c.flows-number-end.ensures.list c.loop-number-test.true)) c.loop-number.invariant c.push_comma.ensures c.push_flow.ensures

pub returns : goal.returns
returns g c =
    let p = c.args.problem.now in
    let ds = list_below (length p.flows) (flow_data p) in
    let all : length c.flows-number-end.result.now ≡ length p.flows = ap length c.flows-number-end.ensures.list in
    ends g.P.Pieces.pushes (compact_text (list_data ds)) ds c.loop-number.number (omega (arith, all, c.loop-number-test.false, list_below-length (length p.flows) (flow_data p))) c.loop-number.invariant c.push_str-2.ensures
