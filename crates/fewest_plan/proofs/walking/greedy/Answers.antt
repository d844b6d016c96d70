use Rattle.std.proofs.Common.{◌≡◌, length, subst, sym, ap, ◌∙◌, arith}
use Rattle.std.proofs.lemmas.Result.{IfOk-weaker}
use Rattle.fewest_plan.specs.Greedy.{AreShares}
use Rattle.fewest_plan.proofs.Arrivals.{first-walk, before-are, arrives-at, goes-on, stuck, none-found}
use Rattle.fewest_plan.proofs.walking.greedy.Goals as goal

pub loop-i-init : goal.loop-i-init
loop-i-init c =
    first-walk c.args.problem.now c.args.scale c.args.order.now c.in_ok-shares.shares.items c.new-rows.result c.in_ok-shares.ensures c.new-rows.ensures

pub step-requires-clause-shares : goal.step-requires-clause-shares
step-requires-clause-shares c = before-are c.args.problem.now c.args.scale c.args.order.now c.loop-i.i c.loop-i.shares.items c.loop-i.rows c.loop-i.invariant c.as_slice-before.result.now c.as_slice-before.ensures.value

pub have_arrived-requires : goal.have_arrived-requires
have_arrived-requires c = ap length c.as_slice-after.ensures.value ∙ c.in_ok-next.ensures.shares.count

pub returns-then-have_arrived : goal.returns-then-have_arrived
returns-then-have_arrived c =
    IfOk-weaker c.accept_frame.result _ _ (λ found e. e ∙ arrives-at c.args.problem.now c.args.scale c.args.order.now c.loop-i.i c.loop-i.shares.items c.loop-i.rows c.loop-i.invariant c.as_slice-before.result.now c.as_slice-before.ensures.value c.in_ok-next.next.items c.as_slice-after.result.now c.in_ok-next.ensures.value c.as_slice-after.ensures.value c.args.most c.loop-i-test.true (sym c.have_arrived.ensures ∙ c.if-have_arrived.true)) c.accept_frame.ensures

pub are_same-requires : goal.are_same-requires
are_same-requires c =
    let are = before-are c.args.problem.now c.args.scale c.args.order.now c.loop-i.i c.loop-i.shares.items c.loop-i.rows c.loop-i.invariant c.as_slice-before.result.now c.as_slice-before.ensures.value in
    are.count ∙ sym (ap length c.as_slice-after.ensures.value ∙ c.in_ok-next.ensures.shares.count)

pub returns-then-are_same : goal.returns-then-are_same
returns-then-are_same c =
    sym (stuck c.args.problem.now c.args.scale c.args.order.now c.loop-i.i c.loop-i.shares.items c.loop-i.rows c.loop-i.invariant c.as_slice-before.result.now c.as_slice-before.ensures.value c.in_ok-next.next.items c.as_slice-after.result.now c.in_ok-next.ensures.value c.as_slice-after.ensures.value (c.are_same.ensures c.if-are_same.true) c.args.most (sym c.have_arrived.ensures ∙ c.if-have_arrived.false))

pub row-requires-clause-shares : goal.row-requires-clause-shares
row-requires-clause-shares c =
    subst (λ xs. AreShares c.args.problem.now c.args.scale xs) (sym c.as_slice-after.ensures.value) c.in_ok-next.ensures.shares

pub loop-i-preserved : goal.loop-i-preserved
loop-i-preserved c =
    goes-on c.args.problem.now c.args.scale c.args.order.now c.loop-i.i c.loop-i.shares.items c.loop-i.rows c.loop-i.invariant c.as_slice-before.result.now c.as_slice-before.ensures.value c.in_ok-next.next.items c.as_slice-after.result.now c.in_ok-next.ensures.value c.as_slice-after.ensures.value c.in_ok-rates.rates _ (sym c.have_arrived.ensures ∙ c.if-have_arrived.false) c.in_ok-rates.ensures c.in_ok-push.ensures.ok c.in_ok-next.ensures.shares

pub returns : goal.returns
returns c =
    let all : c.loop-i.i ≡ c.args.most = omega (arith, c.loop-i-test.false, c.loop-i.auto.i-end) in
    sym (none-found c.args.problem.now c.args.scale c.args.order.now c.loop-i.i c.loop-i.shares.items c.loop-i.rows c.args.most all c.loop-i.invariant)
