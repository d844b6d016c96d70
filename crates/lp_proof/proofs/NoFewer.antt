-- What shows that fewer rate steps are impossible shows it of every valid plan, at any scale.
use Rattle.std.proofs.Common.{◌≡◌, ℕ, zero, suc, ◌+◌, ◌-◌, ◌*◌, ◌<◌, ◌≤◌, ◌⊎◌, max, Bool, true, false, List, length, if◌then◌else◌, inl, inr, refl, sym, ap, ◌∙◌, subst, arith, eq-eqb, mul-le-mul_left}
use Rattle.std.specs.Prelude.{◌==◌}
use Rattle.std.proofs.Math.Nat.{eq_of_mul-eq-mul_left}
use Rattle.std.proofs.lemmas.Bool.{both_ways, cases_lt}
use Rattle.rollout_rules.specs.Sums.{sum_below}
use Rattle.rollout_rules.specs.Wan.{Problem, Plan, tunnel_at, link_at, old_rate, new_rate, crosses, rate_at, last_stage, next_stage}
use Rattle.rollout_rules.specs.Network.{IsNetwork}
use Rattle.rollout_rules.specs.Items.{load, greater_rate}
use Rattle.rollout_rules.proofs.Below.{all_below-from}
use Rattle.scratch_plan.specs.Frame.{has_equal_rates}
use Rattle.scratch_plan.proofs.Frames.{load-mono}
use Rattle.fraction_lp.specs.Ratio.{Ratio}
use Rattle.fraction_lp.proofs.Farkas.{no_feasible_point}
use Rattle.step_lp.specs.Program.{move_program}
use Rattle.step_lp.proofs.Both.{move_is_feasible}
use Rattle.fraction_lp.specs.declared.proof.Proof.{Proof}
use Rattle.fraction_lp.specs.declared.proof.Proof.TheVariants.{Plain, Link, Rows}
use Rattle.lp_proof.specs.RateSteps.{rate_steps, TakesAtLeast}
use Rattle.lp_proof.specs.Shown.{greater_end, direct_load, NeedsTwo, HasMultipliers, ShowsLeast}
use Rattle.plan_check.proofs.Opened.{MovesWithin, moves_within}
use Rattle.lp_proof.proofs.Moving.{stand_at, rates-same, stand-most, stand-first, stand-last, stand-next}
use Rattle.lp_proof.proofs.Numbered.{point_of, is_move}

-- ---- without a rate step rates are equal

same_units : (scale a b : ℕ) → 1 ≤ scale → scale * a ≡ scale * b → a ≡ b
same_units scale a b some e = eq_of_mul-eq-mul_left scale some a b e

pub still_is_equal : (p : Problem) (plan : Plan) → MovesWithin p plan → rate_steps p plan ≤ 0 → has_equal_rates p ≡ true
still_is_equal p plan within none =
    all_below-from (length p.tunnels) (λ t. old_rate (tunnel_at p t) == new_rate (tunnel_at p t)) (λ t lt.
    eq-eqb (old_rate (tunnel_at p t)) (new_rate (tunnel_at p t))
    (same_units plan.scale (old_rate (tunnel_at p t)) (new_rate (tunnel_at p t)) within.some
    (sym (within.first t lt) ∙ rates-same p plan 0 (last_stage plan) t (omega arith) lt (omega arith) ∙ within.last t lt)))

-- ---- with one the larger rates of both splits fit

times_if : (b : Bool) (k n : ℕ) → (if b then k * n else 0) ≡ k * (if b then n else 0)
times_if true k n = refl
times_if false k n = omega arith

sum_times : (n k : ℕ) (test : ℕ → Bool) (f : ℕ → ℕ) → sum_below n (λ t. if test t then k * f t else 0) ≡ k * sum_below n (λ t. if test t then f t else 0)
sum_times zero k test f = omega arith
sum_times (suc n) k test f =
    spread (sum_below n (λ t. if test t then k * f t else 0)) (if test n then k * f n else 0) k (sum_below n (λ t. if test t then f t else 0)) (if test n then f n else 0)
    (sum_times n k test f) (times_if (test n) k (f n))
  where
    spread : (a b k c d : ℕ) → a ≡ k * c → b ≡ k * d → a + b ≡ k * (c + d)
    spread a b k c d e f = omega arith

load-times : (p : Problem) (k : ℕ) (f : ℕ → ℕ) (l : ℕ) → load p (λ t. k * f t) l ≡ k * load p f l
load-times p k f l = sum_times (length p.tunnels) k (λ t. crosses p t l) f

times-max : (k a b : ℕ) → k * max a b ≤ max (k * a) (k * b)
times-max k a b = elim (cases_lt a b) as (λ c. k * max a b ≤ max (k * a) (k * b)) [
  | inl less ↦ let same : max a b ≡ b = omega arith in subst (λ (m : ℕ). k * m ≤ max (k * a) (k * b)) (sym same) (omega arith)
  | inr more ↦ let same : max a b ≡ a = omega arith in subst (λ (m : ℕ). k * m ≤ max (k * a) (k * b)) (sym same) (omega arith)
]

pub one_step_fits : (p : Problem) (plan : Plan) (l : ℕ) → MovesWithin p plan → rate_steps p plan ≤ 1 → l < length p.links →
    plan.scale * direct_load p l ≤ (link_at p l).capacity * plan.scale
one_step_fits p plan l within few inside =
    let x : ℕ = stand_at p plan 0 in
    let less : load p (λ t. plan.scale * greater_end p t) l ≤ load p (greater_rate plan x) l =
    load-mono p (λ t. plan.scale * greater_end p t) (greater_rate plan x) l (λ t lt. ends t lt) in
    joined (plan.scale * direct_load p l) (load p (λ t. plan.scale * greater_end p t) l) (load p (greater_rate plan x) l) ((link_at p l).capacity * plan.scale)
    (sym (load-times p plan.scale (greater_end p) l)) less (within.links x l (stand-most p plan 0) inside)
  where
    joined : (a b c d : ℕ) → a ≡ b → b ≤ c → c ≤ d → a ≤ d
    joined a b c d e f g = omega arith

    before : (t : ℕ) → t < length p.tunnels → plan.scale * old_rate (tunnel_at p t) ≡ rate_at plan (stand_at p plan 0) t
    before t lt = sym (within.first t lt) ∙ stand-first p plan t lt

    behind : (t : ℕ) → t < length p.tunnels → plan.scale * new_rate (tunnel_at p t) ≡ rate_at plan (next_stage plan (stand_at p plan 0)) t
    behind t lt = sym (within.last t lt) ∙ ap (λ k. rate_at plan k t) (sym (stand-last p plan 1 few)) ∙ sym (stand-next p plan 0 t lt)

    ends : (t : ℕ) → t < length p.tunnels → plan.scale * greater_end p t ≤ greater_rate plan (stand_at p plan 0) t
    ends t lt =
        subst (λ n. plan.scale * greater_end p t ≤ max n (rate_at plan (next_stage plan (stand_at p plan 0)) t)) (before t lt)
        (subst (λ n. plan.scale * greater_end p t ≤ max (plan.scale * old_rate (tunnel_at p t)) n) (behind t lt)
        (times-max plan.scale (old_rate (tunnel_at p t)) (new_rate (tunnel_at p t))))

too_much : (s c d : ℕ) → 1 ≤ s → c < d → s * d ≤ c * s → ⊥
too_much s c d some above fits =
    let more : s * (c + 1) ≤ s * d = mul-le-mul_left s (omega arith) in
    let spread : s * (c + 1) ≡ c * s + s = turned s c in
    omega (arith, more, spread)
  where
    turned : (s c : ℕ) → s * (c + 1) ≡ c * s + s
    turned s c = omega arith

-- ---- each kind

at_least : (n q : ℕ) → (n < q → ⊥) → q ≤ n
at_least n q none = elim (cases_lt n q) as (λ c. q ≤ n) [
  | inl less ↦ absurd (none less)
  | inr more ↦ more
]

plain_least : (p : Problem) (q : ℕ) → IsNetwork p → (q ≡ 0) ⊎ ((q ≡ 1) × (has_equal_rates p ≡ false)) → TakesAtLeast p q
plain_least p q net (inl none) plan valid rest = omega arith
plain_least p q net (inr one) plan valid rest =
    let single : q ≡ 1 = one.0 in
    at_least (rate_steps p plan) q (λ less.
    let still : rate_steps p plan ≤ 0 = omega arith in
    both_ways (has_equal_rates p) one.1 (still_is_equal p plan (moves_within p plan net valid) still))

link_least : (p : Problem) (q l : ℕ) → IsNetwork p → NeedsTwo p q l → TakesAtLeast p q
link_least p q l net needs plan valid rest =
    let pair : q ≡ 2 = needs.two in
    at_least (rate_steps p plan) q (λ less.
    let within : MovesWithin p plan = moves_within p plan net valid in
    let few : rate_steps p plan ≤ 1 = omega arith in
    too_much plan.scale (link_at p l).capacity (direct_load p l) within.some needs.above (one_step_fits p plan l within few needs.inside))

rows_least : (p : Problem) (q : ℕ) (ys : List Ratio) → IsNetwork p → HasMultipliers p q ys → TakesAtLeast p q
rows_least p q ys net has plan valid rest =
    let many : 3 ≤ q = has.least in
    at_least (rate_steps p plan) q (λ less.
    let within : MovesWithin p plan = moves_within p plan net valid in
    let few : rate_steps p plan ≤ q - 1 = omega arith in
    let two : 2 ≤ q - 1 = omega arith in
    no_feasible_point (move_program p (q - 1)) (point_of p plan (q - 1)) ys has.certificate
    (move_is_feasible p (q - 1) (point_of p plan (q - 1)) net (is_move p plan (q - 1) net within rest few two)))

pub takes_at_least : (p : Problem) (q : ℕ) (proof : Proof) → IsNetwork p → ShowsLeast p q proof → TakesAtLeast p q
takes_at_least p q Plain net shows = plain_least p q net shows
takes_at_least p q (Link l) net shows = link_least p q l net shows
takes_at_least p q (Rows ys) net shows = rows_least p q ys net shows
