-- The rates of a feasible point are within the totals of their flows, so they fit a rate of a plan.
use Rattle.std.proofs.Common.{◌≡◌, ℕ, zero, suc, ◌+◌, ◌-◌, ◌*◌, ◌/◌, ◌^◌, ◌<◌, ◌≤◌, max, true, false, nat_abs, List, length, ap, ◌∙◌, sym, refl, arith}
use Rattle.std.specs.Prelude.{◌==◌}
use Rattle.std.specs.Int.{◌∣◌}
use Rattle.std.proofs.Math.Nat.{div-mul_cancel, mul-div-le, mul-le-mul_left, mul-le-mul_right, le_of_mul-le-mul_left}
use Rattle.std.proofs.lemmas.Bool.{ne_eqb}
use Rattle.rollout_rules.specs.declared.limits.TheConstants.{LARGEST_SCALE, LARGEST_RATE}
use Rattle.rollout_rules.specs.Wan.{Problem, tunnel_at, tunnel_of, old_rate, new_rate}
use Rattle.rollout_rules.specs.Valid.{flow_total}
use Rattle.rollout_rules.specs.Network.{IsNetwork}
use Rattle.rollout_rules.proofs.Below.{sum_below-most, sum_below-at}
use Rattle.rollout_rules.proofs.Tunnels.{tunnels_of, tunnel_of-below, place_of-below, tunnel_of-place_of}
use Rattle.rollout_rules.proofs.Tunnels as tunnels
use Rattle.fraction_lp.specs.Ratio.{Ratio, zero_ratio, bottom-pos}
use Rattle.fraction_lp.specs.Program.{IsFeasible}
use Rattle.rollout_rules.proofs.Rates.{rate_within}
use Rattle.step_lp.specs.Program.{used_at, used_count, rate_blocks, blocks, old_sum, new_sum, move_program}
use Rattle.step_lp.specs.Moves.{place_of, number_in, rate_in, AreMoves}
use Rattle.step_lp.specs.Points.{common_bottom, units_of, HaveRates}
use Rattle.step_lp.proofs.Multiples.{common_bottom-pos, common_bottom-each}
use Rattle.step_lp.proofs.Standing.{number-inside}
use Rattle.step_lp.proofs.Both.{units_at, feasible_has_units, rows_are_moves}

-- ---- totals

-- the most that a flow has in a split
abbrev most_total : ℕ
most_total = 16000000000

total-most : (p : Problem) (f : ℕ) (rate : ℕ → ℕ) → IsNetwork p → f < length p.flows → ((t : ℕ) → t < length p.tunnels → rate t ≤ LARGEST_RATE) → flow_total p rate f ≤ most_total
total-most p f rate net lt h =
    let each : flow_total p rate f ≤ tunnels_of p f * 1000000000 = sum_below-most (tunnels_of p f) 1000000000 (λ j. rate (tunnel_of p f j)) (λ j few. h (tunnel_of p f j) (tunnel_of-below p f j net lt few)) in
    omega (arith, net.flows.few f lt)

totals-most : (p : Problem) (f : ℕ) → IsNetwork p → f < length p.flows → max (old_sum p f) (new_sum p f) ≤ most_total
totals-most p f net lt =
    let old : old_sum p f ≤ most_total = total-most p f (λ t. old_rate (tunnel_at p t)) net lt (λ t inside. rate_within (tunnel_at p t).old (net.tunnels t inside).old) in
    let new : new_sum p f ≤ most_total = total-most p f (λ t. new_rate (tunnel_at p t)) net lt (λ t inside. rate_within (tunnel_at p t).new (net.tunnels t inside).new) in
    omega arith

-- ---- a rate is within its flow's total

within_total : (p : Problem) (q scale b t : ℕ) (n : ℕ → ℕ → ℕ) → IsNetwork p → AreMoves p q scale n → b < rate_blocks q → t < length p.tunnels → n b t ≤ scale * most_total
within_total p q scale b t n net moves low lt =
    let f : ℕ = (tunnel_at p t).flow in
    let inside : f < length p.flows = (net.tunnels t lt).flow in
    let term : rate_in p q scale n (b + 1) (tunnel_of p f (tunnels.place_of p t)) ≤ flow_total p (rate_in p q scale n (b + 1)) f =
    sum_below-at (tunnels_of p f) (λ j. rate_in p q scale n (b + 1) (tunnel_of p f j)) (tunnels.place_of p t) (place_of-below p t net lt) in
    let own : n b t ≡ rate_in p q scale n (b + 1) (tunnel_of p f (tunnels.place_of p t)) =
    between ∙ ap (rate_in p q scale n (b + 1)) (sym (tunnel_of-place_of p t net lt)) in
    let most : scale * max (old_sum p f) (new_sum p f) ≤ scale * most_total = mul-le-mul_left scale (totals-most p f net inside) in
    omega (arith, term, own, most, moves.most (b + 1) f (omega arith) (omega arith) inside)
  where
    between : n b t ≡ rate_in p q scale n (b + 1) t
    between =
        let first : ((b + 1) == 0) ≡ false = ne_eqb (b + 1) 0 (λ (e : b + 1 ≡ 0). omega arith) in
        let last : ((b + 1) == q) ≡ false = ne_eqb (b + 1) q (λ (e : b + 1 ≡ q). omega arith) in
        let back : (b + 1) - 1 ≡ b = omega arith in
        rw first (rw last (rw back refl))

-- ---- so it is in units of any scale

small_units : (top bottom most scale other : ℕ) → bottom ∣ other → 0 < other → 0 < bottom → top * (other / bottom) ≤ other * most → top * (scale / bottom) ≤ scale * most
small_units top bottom most scale other over p some h =
    let whole : other / bottom * bottom ≡ other = div-mul_cancel bottom over in
    let share : 0 < other / bottom = positive (other / bottom) bottom other whole p in
    let ratio : top ≤ bottom * most =
    le_of_mul-le-mul_left {m = top} {n = bottom * most} {k = other / bottom} (turned top (other / bottom) bottom other most whole h) share in
    let scaled : top * (scale / bottom) ≤ bottom * most * (scale / bottom) = mul-le-mul_right (scale / bottom) ratio in
    let less : bottom * (scale / bottom) * most ≤ scale * most = mul-le-mul_right most (mul-div-le scale bottom) in
    omega (arith, scaled, less, exchanged bottom most (scale / bottom))
  where
    positive : (x b o : ℕ) → x * b ≡ o → 0 < o → 0 < x
    positive zero b o e p = absurd (omega arith)
    positive (suc x) b o e p = omega arith

    turned : (t x b o m : ℕ) → x * b ≡ o → t * x ≤ o * m → x * t ≤ x * (b * m)
    turned t x b o m e h = omega (arith, h, ap (λ k. k * m) e)

    exchanged : (b m s : ℕ) → b * m * s ≡ b * s * m
    exchanged b m s = omega arith

pub rates_fit : (p : Problem) (q scale : ℕ) (xs : List Ratio) → IsNetwork p → IsFeasible (move_program p q) xs → scale ≤ LARGEST_SCALE → HaveRates p q scale xs
rates_fit p q scale xs net feasible few b low = record {
  inside = λ t lt used. inside t lt used;
  small = λ t lt used. small t lt used;
}
  where
    other : ℕ
    other = common_bottom 1 xs

    inside : (t : ℕ) → t < length p.tunnels → used_at p t ≡ true → b * used_count p + place_of p t < length xs
    inside t lt used = number-inside p (blocks q) b t (length xs) (omega arith) lt used feasible.one_each

    small : (t : ℕ) → t < length p.tunnels → used_at p t ≡ true → units_of scale (number_in p xs b t) < 2 ^ 64
    small t lt used =
        let x : Ratio = number_in p xs b t in
        let units = feasible_has_units p q xs feasible in
        let moves = rows_are_moves p q (common_bottom 1 xs) (units_at p (common_bottom 1 xs) xs) xs net units feasible.rows_hold in
        let total : units_at p (common_bottom 1 xs) xs b t ≤ common_bottom 1 xs * most_total = within_total p q (common_bottom 1 xs) b t (units_at p (common_bottom 1 xs) xs) net moves low lt in
        let own : units_of (common_bottom 1 xs) x ≡ units_at p (common_bottom 1 xs) xs b t = rw used refl in
        let bound : nat_abs x.top * (common_bottom 1 xs / x.bottom) ≤ common_bottom 1 xs * most_total = omega (arith, own, total) in
        let here : nat_abs x.top * (scale / x.bottom) ≤ scale * most_total =
        small_units (nat_abs x.top) x.bottom most_total scale (common_bottom 1 xs)
        (common_bottom-each 1 xs (b * used_count p + place_of p t) zero_ratio (inside t lt used)) (common_bottom-pos 1 xs (omega arith)) (bottom-pos x) bound in
        let most : scale * most_total ≤ 65536 * most_total = mul-le-mul_right most_total few in
        omega (arith, here, most)
