-- That no plan of any number of steps moves anything across links that stay full.
use Rattle.std.proofs.Common.{◌≡◌, ◌⊎◌, ℕ, zero, suc, ◌*◌, ◌<◌, ◌≤◌, min, Bool, true, false, not, ◌&&◌, ◌||◌, List, length, ◌==◌, if◌then◌else◌, Some, refl, sym, ap, ◌∙◌, inl, inr, arith, leb-true, eq-eqb}
use Rattle.std.proofs.lemmas.Bool.{cases_lt, and_parts}
use Rattle.std.proofs.Math.Nat.{mul-le-mul_left, mul-le-mul_right, le_of_mul-le-mul_right}
use Rattle.lists.proofs.Conditions.{not_both}
use Rattle.lists.proofs.Numbers.{at_most_through}
use Rattle.rollout_rules.specs.declared.limits.TheConstants.{MOST_HOPS}
use Rattle.rollout_rules.specs.Sums.{sum_below}
use Rattle.rollout_rules.specs.Wan.{Problem, Plan, tunnel_at, link_at, tunnel_of, old_rate, new_rate, crosses, rate_at, last_stage, next_stage}
use Rattle.rollout_rules.specs.Items.{load, greater_rate}
use Rattle.rollout_rules.specs.Network.{IsNetwork}
use Rattle.rollout_rules.specs.Valid.{flow_total, is_valid_plan}
use Rattle.rollout_rules.proofs.Below.{sum_below-mono, all_below-fails, least_below-at}
use Rattle.rollout_rules.proofs.Totals.{sum_below-tunnels}
use Rattle.rollout_rules.proofs.Tunnels.{tunnels_of}
use Rattle.rollout_rules.proofs.Rows.{list_below-at}
use Rattle.plan_check.specs.First.{provided}
use Rattle.plan_check.proofs.Firsts.{first_below_some}
use Rattle.plan_check.proofs.Opened.{MovesWithin, moves_within}
use Rattle.fewest_plan.specs.declared.stuck.Weight.TheVariants.{Alone, Leaving, Entering}
use Rattle.fewest_plan.specs.Marked.{is_marked, crossed}
use Rattle.fewest_plan.specs.Stuck.{least_crossed, kept_by, kept, room_on, room, stay_full, rests_at, rests, weighs, weighed, is_full, stays_full, is_stuck, stuck_link}
use Rattle.fewest_plan.proofs.Weighing.{marked-load, crossed-some, squeezed, times-least, sum-times}

-- ---- numbers

joined : (a b c d : ℕ) → a ≡ b → b ≤ c → c ≡ d → a ≤ d
joined a b c d x y z = omega arith

other-way : (a b k : ℕ) → k * a ≡ k * b → a * k ≡ b * k
other-way a b k e = omega (arith, e)

same-over : (a b k : ℕ) → 1 ≤ k → a * k ≡ b * k → a ≡ b
same-over a b k some e =
    let up : a * k ≤ b * k = omega (arith, e) in
    let down : b * k ≤ a * k = omega (arith, e) in
    let more : a ≤ b = le_of_mul-le-mul_right {k = k} up (omega arith) in
    let less : b ≤ a = le_of_mul-le-mul_right {k = k} down (omega arith) in
    omega arith

-- ---- a stage
-- the smaller of two totals, as often as each tunnel crosses a marked link
least-kept : (least a b k total : ℕ) → min (k * a) (k * b) ≤ total → least * min a b * k ≤ least * total
least-kept least a b k total le = elim (cases_lt b a) as (λ c. least * min a b * k ≤ least * total) [
  | inl less ↦
      let small : min a b ≡ b = omega arith in
      let scaled : k * b ≤ k * a = mul-le-mul_left k (omega arith) in
      let low : k * b ≤ total = omega arith in
      rw small (as-often least b k total (mul-le-mul_left least low))
  | inr more ↦
      let small : min a b ≡ a = omega arith in
      let scaled : k * a ≤ k * b = mul-le-mul_left k (omega arith) in
      let low : k * a ≤ total = omega arith in
      rw small (as-often least a k total (mul-le-mul_left least low))
]
  where
    as-often : (least a k total : ℕ) → least * (k * a) ≤ least * total → least * a * k ≤ least * total
    as-often least a k total le = omega (arith, le)

module _ (p : Problem) (plan : Plan) (marks : List Bool) (net : IsNetwork p) (is : MovesWithin p plan) where
  abbrev often : ℕ → ℕ
  often t = crossed p marks t

  -- what all tunnels load the marked links with at a stage
  abbrev taken : ℕ → ℕ
  taken s = sum_below (length p.tunnels) (λ t. rate_at plan s t * often t)

  of-flow : (s f : ℕ) → s ≤ last_stage plan → f < length p.flows → kept_by p marks f * plan.scale ≤ sum_below (tunnels_of p f) (λ j. rate_at plan s (tunnel_of p f j) * often (tunnel_of p f j))
  of-flow s f most inside =
      let least = least_crossed p marks f in
      let low = least-kept least (flow_total p (λ t. old_rate (tunnel_at p t)) f) (flow_total p (λ t. new_rate (tunnel_at p t)) f) plan.scale (flow_total p (rate_at plan s) f) (is.least s f most inside) in
      let each = times-least (tunnels_of p f) least (λ j. rate_at plan s (tunnel_of p f j)) (λ j. often (tunnel_of p f j)) (λ j lt. least_below-at (tunnels_of p f) MOST_HOPS (λ i. crossed p marks (tunnel_of p f i)) j lt) in
      at_most_through (kept_by p marks f * plan.scale) (least * flow_total p (rate_at plan s) f) (sum_below (tunnels_of p f) (λ j. rate_at plan s (tunnel_of p f j) * often (tunnel_of p f j))) low each

  keeps : (s : ℕ) → s ≤ last_stage plan → kept p marks * plan.scale ≤ taken s
  keeps s most =
      let sums = sum-times (length p.flows) plan.scale (kept_by p marks) in
      let flows = sum_below-mono (length p.flows) (λ f. kept_by p marks f * plan.scale) (λ f. sum_below (tunnels_of p f) (λ j. rate_at plan s (tunnel_of p f j) * often (tunnel_of p f j))) (λ f inside. of-flow s f most inside) in
      let all = sum_below-tunnels p (λ t. rate_at plan s t * often t) net in
      joined (kept p marks * plan.scale) (sum_below (length p.flows) (λ f. kept_by p marks f * plan.scale)) (sum_below (length p.flows) (λ f. sum_below (tunnels_of p f) (λ j. rate_at plan s (tunnel_of p f j) * often (tunnel_of p f j)))) (taken s) sums flows all

  on-marked : (b : Bool) (taken capacity k : ℕ) → taken ≤ capacity * k → (if b then taken else 0) ≤ (if b then capacity else 0) * k
  on-marked true taken capacity k le = le
  on-marked false taken capacity k le = omega arith

  -- what they may load them with in a step
  steps : (s : ℕ) → s ≤ last_stage plan → sum_below (length p.tunnels) (λ t. greater_rate plan s t * often t) ≤ room p marks * plan.scale
  steps s most =
      let loads = marked-load p marks (greater_rate plan s) net in
      let rooms = sum-times (length p.links) plan.scale (room_on p marks) in
      let fits = sum_below-mono (length p.links) (λ l. if is_marked marks l then load p (greater_rate plan s) l else 0) (λ l. room_on p marks l * plan.scale)
      (λ l inside. on-marked (is_marked marks l) (load p (greater_rate plan s) l) (link_at p l).capacity plan.scale (is.links s l most inside)) in
      joined (sum_below (length p.tunnels) (λ t. greater_rate plan s t * often t)) (sum_below (length p.links) (λ l. if is_marked marks l then load p (greater_rate plan s) l else 0)) (sum_below (length p.links) (λ l. room_on p marks l * plan.scale)) (room p marks * plan.scale) (sym loads) fits (sym rooms)

  module _ (full : stay_full p marks ≡ true) where
    tight : room p marks * plan.scale ≤ kept p marks * plan.scale
    tight = mul-le-mul_right plan.scale (leb-true (room p marks) (kept p marks) full)

    fills : (s r : ℕ) → s ≤ last_stage plan → r ≤ last_stage plan → sum_below (length p.tunnels) (λ u. greater_rate plan s u * often u) ≤ taken r
    fills s r most other =
        at_most_through (sum_below (length p.tunnels) (λ u. greater_rate plan s u * often u)) (room p marks * plan.scale) (taken r) (steps s most)
        (at_most_through (room p marks * plan.scale) (kept p marks * plan.scale) (taken r) tight (keeps r other))

    -- both ends of a step load them with as much as it may take, tunnel by tunnel
    begins : (s t : ℕ) → s ≤ last_stage plan → t < length p.tunnels → greater_rate plan s t * often t ≡ rate_at plan s t * often t
    begins s t most lt =
        squeezed (length p.tunnels) (λ u. rate_at plan s u * often u) (λ u. greater_rate plan s u * often u)
        (λ u low. mul-le-mul_right (often u) (omega arith)) (fills s s most most) t lt

    ends : (s t : ℕ) → s ≤ last_stage plan → t < length p.tunnels → greater_rate plan s t * often t ≡ rate_at plan (next_stage plan s) t * often t
    ends s t most lt =
        squeezed (length p.tunnels) (λ u. rate_at plan (next_stage plan s) u * often u) (λ u. greater_rate plan s u * often u)
        (λ u low. mul-le-mul_right (often u) (omega arith)) (fills s (next_stage plan s) most (omega arith)) t lt

    module _ (t : ℕ) (lt : t < length p.tunnels) (some : 1 ≤ often t) where
      moves-not : (s : ℕ) → s ≤ last_stage plan → rate_at plan (next_stage plan s) t ≡ rate_at plan s t
      moves-not s most = same-over (rate_at plan (next_stage plan s) t) (rate_at plan s t) (often t) some (sym (ends s t most lt) ∙ begins s t most lt)

      still : (s : ℕ) → s ≤ last_stage plan → rate_at plan s t ≡ rate_at plan 0 t
      still zero most = refl
      still (suc s) most =
          let next : next_stage plan s ≡ suc s = omega arith in
          sym (ap (λ r. rate_at plan r t) next) ∙ moves-not s (omega arith) ∙ still s (omega arith)

      keeps-rate : old_rate (tunnel_at p t) ≡ new_rate (tunnel_at p t)
      keeps-rate =
          let same : plan.scale * old_rate (tunnel_at p t) ≡ plan.scale * new_rate (tunnel_at p t) =
          sym (is.first t lt) ∙ sym (still (last_stage plan) (omega arith)) ∙ is.last t lt in
          same-over (old_rate (tunnel_at p t)) (new_rate (tunnel_at p t)) plan.scale is.some (other-way (old_rate (tunnel_at p t)) (new_rate (tunnel_at p t)) plan.scale same)

-- ---- no plan
moves-parts : (a b : Bool) → (not a || b) ≡ false → (a ≡ true) × (b ≡ false)
moves-parts true b e = (refl, e)
moves-parts false b e = cc

pub full-none : (p : Problem) (marks : List Bool) (l : ℕ) → IsNetwork p → stay_full p marks ≡ true → is_marked marks l ≡ true → rests p l ≡ false → (plan : Plan) → is_valid_plan p plan ≡ true → ⊥
full-none p marks l net full mark moves plan valid =
    let there = all_below-fails (length p.tunnels) (rests_at p l) moves in
    let t = there.0 in
    let parts = moves-parts (crosses p t l) (old_rate (tunnel_at p t) == new_rate (tunnel_at p t)) there.2 in
    let same = keeps-rate p plan marks net (moves_within p plan net valid) full t there.1 (crossed-some p marks t l mark parts.0) in
    not_both (old_rate (tunnel_at p t) == new_rate (tunnel_at p t)) (eq-eqb (old_rate (tunnel_at p t)) (new_rate (tunnel_at p t)) same) parts.1

-- ---- by the weights that are tried
or-first : (a b c : Bool) → (a || b || c) ≡ true → (a ≡ true) ⊎ ((b ≡ true) ⊎ (c ≡ true))
or-first true b c e = inl refl
or-first false true c e = inr (inl refl)
or-first false false c e = inr (inr e)

provided-is : (b : Bool) (a x : ℕ) → provided b a ≡ Some x → (a ≡ x) × (b ≡ true)
provided-is true a x e = let same : a ≡ x = cc in (same, refl)
provided-is false a x e = cc

not-false : (b : Bool) → not b ≡ true → b ≡ false
not-false true e = sym e
not-false false e = refl

pub stuck-none : (p : Problem) (link : ℕ) → IsNetwork p → stuck_link p ≡ Some link → (plan : Plan) → is_valid_plan p plan ≡ true → ⊥
unfolding stuck_link
stuck-none p link net e plan valid =
    let there = first_below_some (λ l. provided (is_stuck p l) l) (length p.links) link e in
    let l = there.0 in
    let parts = and_parts (is_full p l && not (rests p l)) (stays_full p l) (provided-is (is_stuck p l) l link there.2).1 in
    let moves : rests p l ≡ false = not-false (rests p l) (and_parts (is_full p l) (not (rests p l)) parts.0).1 in
    elim (or-first (stay_full p (weighed Alone p l)) (stay_full p (weighed Leaving p l)) (stay_full p (weighed Entering p l)) parts.1) as (λ c. ⊥) [
      | inl alone ↦ full-none p (weighed Alone p l) l net alone (list_below-at (length p.links) (weighs Alone p l) l false there.1 ∙ eq-eqb l l refl) moves plan valid
      | inr (inl leaving) ↦ full-none p (weighed Leaving p l) l net leaving (list_below-at (length p.links) (weighs Leaving p l) l false there.1 ∙ eq-eqb (link_at p l).from (link_at p l).from refl) moves plan valid
      | inr (inr entering) ↦ full-none p (weighed Entering p l) l net entering (list_below-at (length p.links) (weighs Entering p l) l false there.1 ∙ eq-eqb (link_at p l).to (link_at p l).to refl) moves plan valid
    ]
