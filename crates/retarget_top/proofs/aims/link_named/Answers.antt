use Rattle.std.proofs.Common.{◌≡◌, ◌<◌, ◌∙◌, List, length, sym, ap, arith}
use Rattle.rollout_rules.specs.Wan.{Link}
use Rattle.plan_check.proofs.Firsts.{first_below_stops}
use Rattle.retarget_plan.proofs.Found.{none-all, none-next, none-where_not, some-where}
use Rattle.retarget_top.specs.Aims.{named_at}
use Rattle.retarget_top.proofs.aims.link_named.Goals as goal

pub loop-link-preserved : goal.loop-link-preserved
loop-link-preserved c = none-next (named_at c.args.problem.now c.args.name.now) c.loop-link.link c.loop-link.invariant (none-where_not _ _ (sym c.in_ok-found.ensures ∙ c.if-found.false))

pub returns-then-found : goal.returns-then-found
returns-then-found c =
    let inside : c.loop-link.link < length c.args.problem.now.links = omega (arith, ap (λ (xs : List Link). length xs) c.links-link-end.ensures.list) in
    sym (first_below_stops (named_at c.args.problem.now c.args.name.now) (length c.args.problem.now.links) c.loop-link.link _ inside c.loop-link.invariant (some-where _ _ (sym c.in_ok-found.ensures ∙ c.if-found.true)))

pub returns : goal.returns
returns c =
    let all : c.loop-link.link ≡ length c.args.problem.now.links = omega (arith, ap (λ (xs : List Link). length xs) c.links-link-end.ensures.list) in
    none-all (named_at c.args.problem.now c.args.name.now) c.loop-link.link (length c.args.problem.now.links) all c.loop-link.invariant
