use Rattle.std.proofs.Common.{◌≡◌, ◌≤◌, ◌∙◌, ◌||◌, ℕ, Bool, true, nat_lt, sym, ap, subst, arith, lt-ltb, le-ltb}
use Rattle.std.proofs.lemmas.Bool.{or_left}
use Rattle.rollout_rules.specs.Sums.{all_below}
use Rattle.rollout_rules.specs.Wan.{last_stage}
use Rattle.rollout_rules.specs.Items.{item_count}
use Rattle.rollout_rules.specs.Room.{least_stage, fits_at}
use Rattle.rollout_rules.proofs.Below.{all_below-from, all_below_stops, least_below-top}
use Rattle.dependency_graph.specs.Ahead.{stand_with, places_begun}
use Rattle.dependency_graph.proofs.Touched.{least-numbers}
use Rattle.rollout_core.proofs.room.fits.Goals as goal

pub loop-stage-init : goal.loop-stage-init
loop-stage-init c =
    let r = c.args.plan.now in
    let places = places_begun r c.args.progress.now c.args.ahead.now c.args.op in
    let least = least_stage r.problem r.plan places in
    let low : c.least_stage-stage.result ≡ least = c.least_stage-stage.ensures ∙ least-numbers r c.args.progress.now c.args.ahead.now c.args.op in
    let test : ℕ → Bool = λ s. nat_lt s least || fits_at r.problem r.plan places s in
    all_below-from c.least_stage-stage.result test (λ s before. or_left (nat_lt s least) (fits_at r.problem r.plan places s) (lt-ltb s least (omega (arith, before, low))))

pub returns-then-not-fit_at : goal.returns-then-not-fit_at
returns-then-not-fit_at c =
    let r = c.args.plan.now in
    let places = places_begun r c.args.progress.now c.args.ahead.now c.args.op in
    let least = least_stage r.problem r.plan places in
    let low : c.least_stage-stage.result ≡ least = c.least_stage-stage.ensures ∙ least-numbers r c.args.progress.now c.args.ahead.now c.args.op in
    let test : ℕ → Bool = λ s. nat_lt s least || fits_at r.problem r.plan places s in
    let s = c.loop-stage.stage in
    let near = le-ltb s least (omega (arith, low, c.loop-stage.auto.stage)) in
    let fails = ap (λ b. b || fits_at r.problem r.plan places s) near ∙ sym c.fit_at.ensures ∙ c.if-not-fit_at.true in
    sym (all_below_stops test (last_stage r.plan) s (omega (arith, c.loop-stage-test.true, c.last_stage-stage-end.ensures.value)) fails)

pub returns : goal.returns
returns c =
    let r = c.args.plan.now in
    let places = places_begun r c.args.progress.now c.args.ahead.now c.args.op in
    let least = least_stage r.problem r.plan places in
    let within : c.least_stage-stage.result ≤ last_stage r.plan = subst (λ n. n ≤ last_stage r.plan) (sym c.least_stage-stage.ensures) (least_below-top (item_count r.problem) (last_stage r.plan) (stand_with r c.args.progress.now c.args.ahead.now)) in
    let test : ℕ → Bool = λ s. nat_lt s least || fits_at r.problem r.plan places s in
    let end : c.loop-stage.stage ≡ last_stage r.plan = omega (arith, within, c.loop-stage-test.false, c.loop-stage.auto.stage-end, c.last_stage-stage-end.ensures.value) in
    sym (subst (λ n. all_below n test ≡ true) end c.loop-stage.invariant)
