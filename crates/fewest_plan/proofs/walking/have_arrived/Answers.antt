use Rattle.std.proofs.Common.{◌≡◌, length, sym, ap, ◌∙◌, ◌==◌, slice_index, arith, ne_eqb}
use Rattle.rollout_rules.specs.Sums.{all_below}
use Rattle.rollout_rules.proofs.Below.{all_below_stops}
use Rattle.fewest_plan.proofs.walking.have_arrived.Goals as goal

pub returns-then-share-whole : goal.returns-then-share-whole
returns-then-share-whole c =
    let xs = c.args.shares.now in
    sym (all_below_stops (λ f. slice_index xs f == c.args.scale) (length c.args.problem.now.flows) c.loop-f.f (omega (arith, c.requires, c.loop-f-test.true))
    (ne_eqb (slice_index xs c.loop-f.f) c.args.scale (λ e. c.if-share-whole.true (e ∙ sym c.from-whole.ensures))))

pub returns : goal.returns
returns c =
    let all : c.loop-f.f ≡ length c.args.problem.now.flows = omega (arith, c.requires, c.loop-f-test.false, c.loop-f.auto.f-end) in
    sym (sym (ap (λ n. all_below n (λ f. slice_index c.args.shares.now f == c.args.scale)) all) ∙ c.loop-f.invariant)
