use Rattle.std.proofs.Common.{◌≡◌, ◌<◌, ◌≤◌, ◌+◌, ◌-◌, ℕ, length, subst, arith}
use Rattle.rollout_rules.specs.Sums.{list_below}
use Rattle.text_writer.proofs.Pushing.{at_value}
use Rattle.serde_json.specs.Data.{Data}
use Rattle.serde_json.specs.Written.{compact_text}
use Rattle.rollout_rules.proofs.Rows.{list_below-length}
use Rattle.problem_json.specs.Writing.{tunnel_data, list_data}
use Rattle.problem_json.proofs.Rows.{Leads, begins, ends, goes_on, of_below}
use Rattle.problem_json.proofs.writing.problem.push_tunnels.Goals as goal

pub loop-number-init : goal.loop-number-init
loop-number-init g c =
    let ds = list_below (c.args.end - c.args.begin) (λ j. tunnel_data c.args.problem.now (c.args.begin + j)) in
    let first : 0 ≡ c.args.begin - c.args.begin = omega arith in
    subst (λ n. Leads g.P.Pieces.pushes (compact_text (list_data ds)) c.args.text.now c.push_str.new.self n ds) first (begins g.P.Pieces.pushes g.met.P.Pieces.pushed_further ds c.push_str.ensures)

pub loop-number-preserved : goal.loop-number-preserved
loop-number-preserved g c =
    let p = c.args.problem.now in
    let begin = c.args.begin in
    let k = c.loop-number.number - begin in
    let tunnel : ℕ → Data = λ j. tunnel_data p (begin + j) in
    let ds = list_below (c.args.end - begin) tunnel in
    let there : c.loop-number.number ≡ begin + k = omega (arith, c.loop-number.auto.number) in
    let inside : k < c.args.end - begin = omega (arith, c.loop-number.auto.number, c.loop-number-test.true) in
    let next : k + 1 ≡ c.loop-number.number + 1 - begin = omega (arith, c.loop-number.auto.number) in
    subst (λ n. Leads g.P.Pieces.pushes (compact_text (list_data ds)) c.args.text.now c.push_tunnel.new.text n ds) next
    (goes_on g.P.Pieces.pushes g.met.P.Pieces.pushed_further (compact_text (list_data ds)) ds k (tunnel k) (of_below tunnel (c.args.end - begin) k inside) c.loop-number.invariant c.push_comma.ensures
    (at_value g.P.Pieces.pushes (λ n. compact_text (tunnel_data p n)) there c.push_tunnel.ensures))

pub returns : goal.returns
returns g c =
    let count = c.args.end - c.args.begin in
    let tunnel : ℕ → Data = λ j. tunnel_data c.args.problem.now (c.args.begin + j) in
    let ds = list_below count tunnel in
    let k = c.loop-number.number - c.args.begin in
    let over : length ds ≤ k = omega (arith, c.loop-number.auto.number, c.loop-number-test.false, list_below-length count tunnel) in
    ends g.P.Pieces.pushes (compact_text (list_data ds)) ds k over c.loop-number.invariant c.push_str-2.ensures
