use Rattle.std.proofs.Common.{◌≡◌, ◌<◌, Bool, true, Some, length, sym, ap, arith}
use Rattle.plan_check.specs.First.{provided}
use Rattle.plan_check.proofs.Firsts.{first_below_stops}
use Rattle.lp_proof.specs.Shown.{is_overloaded}
use Rattle.lp_proof.specs.Least.{overload_at}
use Rattle.lp_proof.proofs.direct.first_overloaded.Goals as goal

pub returns-then-is_overloaded-clause-value : goal.returns-then-is_overloaded-clause-value
returns-then-is_overloaded-clause-value c =
    let p = c.args.problem.now in
    let link = c.loop-link.link in
    let inside : link < length p.links = grind arith in
    let over : is_overloaded p link ≡ true = cc in
    let has : overload_at p link ≡ Some link = ap (λ (b : Bool). provided b link) over in
    sym (first_below_stops (overload_at p) (length p.links) link link inside c.loop-link.invariant has)
