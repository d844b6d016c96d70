-- What a flow that goes on its way adds to the tops of links.
use Rattle.std.proofs.Common.{◌≡◌, ℕ, zero, suc, ◌+◌, ◌-◌, ◌*◌, ◌<◌, ◌≤◌, max, Bool, true, false, List, length, slice_index, slice_set, ◌==◌, if◌then◌else◌, refl, sym, ap, ◌∙◌, inl, inr, arith, eq-eqb, ne_eqb}
use Rattle.std.proofs.lemmas.Bool.{cases_eq, cases_lt}
use Rattle.std.proofs.lemmas.List.{get_or-set_same, get_or-set_other}
use Rattle.lists.proofs.Conditions.{counted_if, uncounted_if}
use Rattle.rollout_rules.specs.Sums.{sum_below}
use Rattle.rollout_rules.specs.Wan.{Problem, Tunnel, tunnel_at, tunnel_of, crosses, old_rate, new_rate}
use Rattle.rollout_rules.specs.Network.{IsNetwork}
use Rattle.rollout_rules.proofs.Below.{sum_below-same, sum_below-plus, sum_below-zero, sum_below-but}
use Rattle.rollout_rules.proofs.Tunnels.{tunnels_of, flow-tunnel_of}
use Rattle.rollout_rules.proofs.Totals.{sum_below-tunnels}
use Rattle.plan_check.specs.Parts.{rate_share}
use Rattle.scratch_plan.specs.Scratch.{blended}
use Rattle.fewest_plan.specs.Growth.{gain, growth}
use Rattle.fewest_plan.specs.Greedy.{rate_after, top}

-- ---- the sum of one flow's tunnels, taken over all tunnels

module _ (p : Problem) (f : ℕ) (g : ℕ → ℕ) (net : IsNetwork p) (lt : f < length p.flows) where
  abbrev of_flow : ℕ → ℕ
  of_flow t = if (tunnel_at p t).flow == f then g t else 0

  abbrev in_row : ℕ → ℕ
  in_row h = sum_below (tunnels_of p h) (λ j. of_flow (tunnel_of p h j))

  own : in_row f ≡ sum_below (tunnels_of p f) (λ j. g (tunnel_of p f j))
  own = sum_below-same (tunnels_of p f) (λ j. of_flow (tunnel_of p f j)) (λ j. g (tunnel_of p f j))
      (λ j few. counted_if ((tunnel_at p (tunnel_of p f j)).flow == f) (g (tunnel_of p f j)) (eq-eqb (tunnel_at p (tunnel_of p f j)).flow f (flow-tunnel_of p f j net lt few)))

  others : (h : ℕ) → h < length p.flows → (h ≡ f → ⊥) → in_row h ≡ 0
  others h inside other = sum_below-zero (tunnels_of p h) (λ j. of_flow (tunnel_of p h j))
      (λ j few. uncounted_if ((tunnel_at p (tunnel_of p h j)).flow == f) (g (tunnel_of p h j))
      (ne_eqb (tunnel_at p (tunnel_of p h j)).flow f (λ e. other (sym (flow-tunnel_of p h j net inside few) ∙ e))))

  sum-of_flow : sum_below (length p.tunnels) of_flow ≡ sum_below (tunnels_of p f) (λ j. g (tunnel_of p f j))
  sum-of_flow =
      let only = sum_below-but (length p.flows) f in_row (λ h. 0) lt others in
      let all : sum_below (length p.flows) in_row ≡ sum_below (length p.tunnels) of_flow = sum_below-tunnels p of_flow net in
      omega (arith, only, all, own, sum_below-zero (length p.flows) (λ h. 0) (λ h low. refl))

sum_times : (n m : ℕ) (g : ℕ → ℕ) → sum_below n (λ j. g j * m) ≡ sum_below n g * m
sum_times zero m g = omega arith
sum_times (suc n) m g = omega (arith, sum_times n m g)

-- ---- the larger rate
times : (x y z n : ℕ) → x ≡ y + z → x * n ≡ y * n + z * n
times x y z n e = rw e (omega arith)

spread : (b w o g : ℕ) → w ≡ o + g → b * w ≡ b * o + b * g
spread b w o g e = rw e (omega arith)

-- so many parts after x2, x1, x0 are left, and y0, y1, y2 are gone
rises : (o w g x0 x1 x2 y0 y1 y2 b m : ℕ) → w ≡ o + g → x0 ≡ x1 + b → x1 ≡ x2 + m → y1 ≡ y0 + b → y2 ≡ y1 + m → max (x0 * o + y0 * w) (x2 * o + y2 * w) ≡ max (x0 * o + y0 * w) (x1 * o + y1 * w) + g * m
rises o w g x0 x1 x2 y0 y1 y2 b m ew e0 e1 f1 f2 =
    let turned : g * m ≡ m * g = omega arith in
    omega (arith, times x0 x1 b o e0, times x1 x2 m o e1, times y1 y0 b w f1, times y2 y1 m w f2, spread b w o g ew, spread m w o g ew, turned)

sinks : (o w g x0 x1 x2 y0 y1 y2 b m : ℕ) → o ≡ w + g → x0 ≡ x1 + b → x1 ≡ x2 + m → y1 ≡ y0 + b → y2 ≡ y1 + m → max (x0 * o + y0 * w) (x2 * o + y2 * w) ≡ max (x0 * o + y0 * w) (x1 * o + y1 * w)
sinks o w g x0 x1 x2 y0 y1 y2 b m eo e0 e1 f1 f2 =
    omega (arith, times x0 x1 b o e0, times x1 x2 m o e1, times y1 y0 b w f1, times y2 y1 m w f2, spread b o w g eo, spread m o w g eo)

blended_more : (d a0 a later m : ℕ) (row : Tunnel) → later ≡ a + m → a0 ≤ a → a + m ≤ d → max (blended d a0 row) (blended d later row) ≡ max (blended d a0 row) (blended d a row) + (new_rate row - old_rate row) * m
blended_more d a0 a later m row is grows most = elim (cases_lt (new_rate row) (old_rate row)) as (λ _. max (blended d a0 row) (blended d later row) ≡ max (blended d a0 row) (blended d a row) + (new_rate row - old_rate row) * m) [
  | inl less ↦
      let none : new_rate row - old_rate row ≡ 0 = omega arith in
      let same = sinks (old_rate row) (new_rate row) (old_rate row - new_rate row) (d - a0) (d - a) (d - later) a0 a later (a - a0) m (omega arith) (omega arith) (omega arith) (omega arith) is in
      rw none (omega (arith, same))
  | inr more ↦
      rises (old_rate row) (new_rate row) (new_rate row - old_rate row) (d - a0) (d - a) (d - later) a0 a later (a - a0) m (omega arith) (omega arith) (omega arith) (omega arith) is
]

blended_stays : (d a0 a later m : ℕ) (row : Tunnel) → later ≡ a → max (blended d a0 row) (blended d later row) ≡ max (blended d a0 row) (blended d a row) + 0
blended_stays d a0 a later m row is = rw is (omega arith)

-- what is added where the tunnel crosses the link
crossed : (c b : Bool) (x y g m : ℕ) → x ≡ y + (if b then g * m else 0) → (if c then x else 0) ≡ (if c then y else 0) + (if b then (if c then g else 0) * m else 0)
crossed true b x y g m e = e
crossed false true x y g m e = omega arith
crossed false false x y g m e = refl

module _ (p : Problem) (d : ℕ) (before after : List ℕ) (f m : ℕ) (net : IsNetwork p) (lt : f < length p.flows) (count : length after ≡ length p.flows) (grows : slice_index before f ≤ slice_index after f) (most : slice_index after f + m ≤ d) where
  abbrev later : List ℕ
  later = slice_set after f (slice_index after f + m)

  larger : (t : ℕ) → max (rate_after p d before t) (rate_after p d later t) ≡ max (rate_after p d before t) (rate_after p d after t) + (if (tunnel_at p t).flow == f then gain p t * m else 0)
  larger t = elim (cases_eq (tunnel_at p t).flow f) as (λ _. max (rate_after p d before t) (rate_after p d later t) ≡ max (rate_after p d before t) (rate_after p d after t) + (if (tunnel_at p t).flow == f then gain p t * m else 0)) [
    | inl same ↦
        let here : slice_index after (tunnel_at p t).flow ≡ slice_index after f = ap (slice_index after) same in
        let first : slice_index before (tunnel_at p t).flow ≡ slice_index before f = ap (slice_index before) same in
        let set_to : slice_index later (tunnel_at p t).flow ≡ slice_index after f + m = ap (slice_index later) same ∙ get_or-set_same after f (slice_index after f + m) 0 (omega (arith, count)) in
        let there : slice_index later (tunnel_at p t).flow ≡ slice_index after (tunnel_at p t).flow + m = omega (arith, set_to, here) in
        rw (eq-eqb (tunnel_at p t).flow f same)
        (blended_more d (slice_index before (tunnel_at p t).flow) (slice_index after (tunnel_at p t).flow) (slice_index later (tunnel_at p t).flow) m (tunnel_at p t) there (omega (arith, here, first, grows)) (omega (arith, here, most)))
    | inr other ↦
        rw (ne_eqb (tunnel_at p t).flow f other)
        (blended_stays d (slice_index before (tunnel_at p t).flow) (slice_index after (tunnel_at p t).flow) (slice_index later (tunnel_at p t).flow) m (tunnel_at p t) (get_or-set_other after f (tunnel_at p t).flow (slice_index after f + m) 0 other))
  ]

  pub top-later : (l : ℕ) → top p d before later l ≡ top p d before after l + growth p f l * m
  unfolding top growth
  top-later l =
      let was : ℕ → ℕ = λ t. if crosses p t l then max (rate_after p d before t) (rate_after p d after t) else 0 in
      let is : ℕ → ℕ = λ t. if crosses p t l then max (rate_after p d before t) (rate_after p d later t) else 0 in
      let more : ℕ → ℕ = λ t. if (tunnel_at p t).flow == f then rate_share p (gain p) t l * m else 0 in
      sum_below-same (length p.tunnels) is (λ t. was t + more t)
      (λ t low. crossed (crosses p t l) ((tunnel_at p t).flow == f) (max (rate_after p d before t) (rate_after p d later t)) (max (rate_after p d before t) (rate_after p d after t)) (gain p t) m (larger t))
      ∙ sum_below-plus (length p.tunnels) was more
      ∙ ap (λ n. sum_below (length p.tunnels) was + n)
      (sum-of_flow p f (λ t. rate_share p (gain p) t l * m) net lt ∙ sum_times (tunnels_of p f) m (λ j. rate_share p (gain p) (tunnel_of p f j) l))
