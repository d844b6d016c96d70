use Rattle.std.proofs.Common.{◌≡◌, ◌<◌, length, Some, sym, ap, ◌∙◌, arith}
use Rattle.plan_check.specs.First.{first_below, provided}
use Rattle.plan_check.proofs.Firsts.{first_below_stops}
use Rattle.fewest_plan.specs.Stuck.{is_stuck, stuck_link}
use Rattle.fewest_plan.proofs.stuck.first_stuck.Goals as goal

pub returns-then-stuck : goal.returns-then-stuck
unfolding stuck_link
returns-then-stuck c =
    let p = c.args.problem.now in
    let l = c.loop-l.l in
    let inside : l < length p.links = grind arith in
    let at : provided (is_stuck p l) l ≡ Some l = ap (λ b. provided b l) (sym c.in_ok-stuck.ensures ∙ c.if-stuck.true) in
    sym (first_below_stops (λ k. provided (is_stuck p k) k) (length p.links) l l inside c.loop-l.invariant at)

pub returns : goal.returns
unfolding stuck_link
returns c =
    let p = c.args.problem.now in
    let all : c.loop-l.l ≡ length p.links = grind arith in
    sym (ap (λ n. first_below n (λ k. provided (is_stuck p k) k)) (sym all) ∙ c.loop-l.invariant)
