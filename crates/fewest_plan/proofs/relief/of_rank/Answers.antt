use Rattle.std.proofs.Common.{◌≡◌, ℕ, length, Option, Some, unwrap_or, sym, ap, ◌∙◌, arith}
use Rattle.plan_check.specs.First.{first_below, provided}
use Rattle.plan_check.proofs.Firsts.{first_below_stops}
use Rattle.fewest_plan.specs.Relief.{has_rank}
use Rattle.fewest_plan.proofs.relief.of_rank.Goals as goal

pub returns-then-has_rank : goal.returns-then-has_rank
returns-then-has_rank c =
    let row = c.args.row.now in
    let f = c.loop-f.f in
    let at : provided (has_rank row c.args.i f) f ≡ Some f = ap (λ b. provided b f) (sym c.has_rank.ensures ∙ c.if-has_rank.true) in
    sym (ap (λ (o : Option ℕ). unwrap_or o 0) (first_below_stops (λ g. provided (has_rank row c.args.i g) g) (length row) f f (omega (arith, c.loop-f-test.true)) c.loop-f.invariant at))

pub returns : goal.returns
returns c =
    let row = c.args.row.now in
    let all : c.loop-f.f ≡ length row = omega (arith, c.loop-f-test.false, c.loop-f.auto.f-end) in
    sym (ap (λ n. unwrap_or (first_below n (λ g. provided (has_rank row c.args.i g) g)) 0) (sym all) ∙ ap (λ (o : Option ℕ). unwrap_or o 0) c.loop-f.invariant)
