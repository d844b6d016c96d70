-- A share 1/k of every link that is free in both splits gives rate steps: k - 1 equal ones (SWAN).
use Rattle.std.proofs.Common.{◌≡◌, ℕ, zero, suc, ◌+◌, ◌-◌, ◌*◌, ◌<◌, ◌≤◌, min, max, true, ◌&&◌, List, [], ◌∷◌, ◌++◌, map, length, slice_index, nat_le, nat_lt, refl, sym, ap, ap₂, subst, ◌∙◌, inl, inr, arith, lt-ltb, le-leb, leb-true}
use Rattle.std.proofs.lemmas.Bool.{and_parts, and_from, or_right}
use Rattle.std.proofs.lemmas.List.{length-map, length-append}
use Rattle.rollout_rules.specs.Sums.{list_below}
use Rattle.rollout_rules.specs.Wan.{Problem, tunnel_at, link_at, flow_at, tunnel_of, old_rate, new_rate}
use Rattle.rollout_rules.specs.Network.{IsNetwork}
use Rattle.rollout_rules.specs.Items.{load}
use Rattle.rollout_rules.specs.Valid.{flow_total, is_valid_plan}
use Rattle.rollout_rules.specs.Slack.{has_slack, has_table_room, old_load, new_load}
use Rattle.rollout_rules.proofs.Below.{sum_below-same, all_below-at}
use Rattle.rollout_rules.proofs.Tunnels.{tunnel_of-below}
use Rattle.rollout_rules.proofs.Rows.{list_below-length}
use Rattle.scratch_plan.specs.Marks.{is_wanted, is_used}
use Rattle.scratch_plan.specs.Frame.{old_row, new_row}
use Rattle.scratch_plan.specs.Steps.{last_of, Follows, keeps_total, IsRow, IsRateStep, AreRateSteps}
use Rattle.scratch_plan.specs.Scratch.{blended, blended_row, blended_rows, by_slack}
use Rattle.scratch_plan.proofs.Installed.{rate-row, wanted-used, ending-wanted}
use Rattle.scratch_plan.proofs.Frames.{load-mono, last-step, frame-valid}
use Rattle.scratch_plan.proofs.Blends.{load-mixed, total-mixed, max-neighbours, parts-fit, between-low, between-high, positive-part}

-- ---- lists that grow at the end
Chain : {A : Type 0} → (A → A → Type 0) → A → List A → Type 0
Chain R a [] = Unit {0}
Chain R a (b ∷ rest) = R a b × Chain R b rest

chain-push : {A : Type 0} (R : A → A → Type 0) (a b : A) (xs : List A) → Chain R a xs → R (last_of a xs) b → Chain R a (xs ++ b ∷ [])
unfolding Chain
chain-push R a b [] chain last = (last, tt)
chain-push R a b (x ∷ xs) chain last = (chain.0, chain-push R x b xs chain.1 last)

pub last-push : {A : Type 0} (a b : A) (xs : List A) → last_of a (xs ++ b ∷ []) ≡ b
last-push a b [] = refl
last-push a b (x ∷ xs) = last-push x b xs

follows-push : {A : Type 0} (R : A → A → Type 0) (a b : A) (xs : List A) → Chain R a xs → R (last_of a xs) b → R b b → Follows R a (xs ++ b ∷ [])
unfolding Chain
follows-push R a b [] chain last end = (last, end)
follows-push R a b (x ∷ xs) chain last end = (chain.0, follows-push R x b xs chain.1 last end)

module _ {A : Type 0} (R : A → A → Type 0) (f : ℕ → A) where
  last-below : (m : ℕ) → last_of (f 0) (list_below m (λ a. f (a + 1))) ≡ f m
  last-below zero = refl
  last-below (suc m) = let e : m + 1 ≡ suc m = omega arith in last-push (f 0) (f (m + 1)) (list_below m (λ a. f (a + 1))) ∙ ap f e

  chain-below : (m : ℕ) → ((a : ℕ) → a < m → R (f a) (f (a + 1))) → Chain R (f 0) (list_below m (λ a. f (a + 1)))
  unfolding Chain
  chain-below zero steps = tt
  chain-below (suc m) steps =
      chain-push R (f 0) (f (m + 1)) (list_below m (λ a. f (a + 1))) (chain-below m (λ a lt. steps a (omega arith)))
      (subst (λ x. R x (f (m + 1))) (sym (last-below m)) (steps m (omega arith)))

map-same : {A B : Type 0} (f g : A → B) (xs : List A) → ((x : A) → f x ≡ g x) → map f xs ≡ map g xs
map-same f g [] same = refl
map-same f g (x ∷ xs) same = ap₂ ◌∷◌ (same x) (map-same f g xs same)

all-old : (n o w : ℕ) → (n - 0) * o + 0 * w ≡ n * o
all-old n o w = let e : n - 0 ≡ n = omega arith in rw e (omega arith)

all-new : (n o w : ℕ) → (n - n) * o + n * w ≡ n * w
all-new n o w = let e : n - n ≡ 0 = omega arith in rw e (omega arith)

-- ---- blended rates
module _ (p : Problem) (n : ℕ) where
  abbrev row : ℕ → List ℕ
  row = blended_row p n

  abbrev old : ℕ → ℕ
  old t = old_rate (tunnel_at p t)

  abbrev new : ℕ → ℕ
  new t = new_rate (tunnel_at p t)

  rate : (a t : ℕ) → t < length p.tunnels → slice_index (row a) t ≡ (n - a) * old t + a * new t
  rate a t inside = rate-row p (blended n a) t inside

  used-blended : (a t : ℕ) → t < length p.tunnels → 0 < slice_index (row a) t → is_used (tunnel_at p t) ≡ true
  used-blended a t inside flows = elim (positive-part (n - a) a (old t) (new t) (subst (λ x. 0 < x) (rate a t inside) flows)) as (λ c. is_used (tunnel_at p t) ≡ true) [
    | inl carries ↦ or_right (is_wanted (tunnel_at p t)) (nat_lt 0 (old t)) (lt-ltb 0 (old t) carries)
    | inr ends ↦ wanted-used (tunnel_at p t) (ending-wanted (tunnel_at p t) ends)
  ]

  total-blended : IsNetwork p → (a f : ℕ) → f < length p.flows → flow_total p (slice_index (row a)) f ≡ (n - a) * flow_total p old f + a * flow_total p new f
  total-blended net a f inside =
      sum_below-same (flow_at p f).tunnels (λ j. slice_index (row a) (tunnel_of p f j)) (λ j. (n - a) * old (tunnel_of p f j) + a * new (tunnel_of p f j)) (λ j few. rate a (tunnel_of p f j) (tunnel_of-below p f j net inside few))
      ∙ total-mixed p (n - a) a old new f

  keeps : (rate : ℕ → ℕ) (x y f : ℕ) → x + y ≡ n → flow_total p rate f ≡ x * flow_total p old f + y * flow_total p new f → keeps_total p n rate f ≡ true
  keeps rate x y f parts total =
      let o = flow_total p old f in
      let w = flow_total p new f in
      and_from _ _
      (le-leb (min (n * o) (n * w)) (flow_total p rate f) (subst (λ z. min (n * o) (n * w) ≤ z) (sym total) (between-low n x y o w parts)))
      (le-leb (flow_total p rate f) (max (n * o) (n * w)) (subst (λ z. z ≤ max (n * o) (n * w)) (sym total) (between-high n x y o w parts)))

  pub row-blended : IsNetwork p → (a : ℕ) → a ≤ n → IsRow p n (row a)
  row-blended net a le = record {
    count = length-map p.tunnels (blended n a);
    used = used-blended a;
    totals = λ f inside. keeps (slice_index (row a)) (n - a) a f (omega arith) (total-blended net a f inside);
  }

  max-blended : (a t : ℕ) → a < n → t < length p.tunnels → max (slice_index (row a) t) (slice_index (row (a + 1)) t) ≤ (n - a) * old t + (a + 1) * new t
  max-blended a t lt inside =
      let r = n - (a + 1) in
      let e : n - a ≡ r + 1 = omega arith in
      let here : slice_index (row a) t ≡ (r + 1) * old t + a * new t = rate a t inside ∙ ap (λ x. x * old t + a * new t) e in
      let there : slice_index (row (a + 1)) t ≡ r * old t + (a + 1) * new t = rate (a + 1) t inside in
      rw (here, there, e) (max-neighbours r a (old t) (new t))

  module _ (slack : has_slack p (n + 1) ≡ true) where
    free : (l : ℕ) → l < length p.links → ((n + 1) * old_load p l ≤ n * (link_at p l).capacity) × ((n + 1) * new_load p l ≤ n * (link_at p l).capacity)
    free l inside =
        let c = (link_at p l).capacity in
        let old_fits = nat_le ((n + 1) * old_load p l) ((n + 1 - 1) * c) in
        let new_fits = nat_le ((n + 1) * new_load p l) ((n + 1 - 1) * c) in
        let both = and_parts old_fits new_fits (all_below-at (length p.links) (λ k. nat_le ((n + 1) * old_load p k) ((n + 1 - 1) * (link_at p k).capacity) && nat_le ((n + 1) * new_load p k) ((n + 1 - 1) * (link_at p k).capacity)) slack l inside) in
        let e : n + 1 - 1 ≡ n = omega arith in (
          subst (λ m. (n + 1) * old_load p l ≤ m * c) e (leb-true ((n + 1) * old_load p l) ((n + 1 - 1) * c) both.0),
          subst (λ m. (n + 1) * new_load p l ≤ m * c) e (leb-true ((n + 1) * new_load p l) ((n + 1 - 1) * c) both.1),
        )

    step-fits : (a l : ℕ) → a < n → l < length p.links → load p (λ t. max (slice_index (row a) t) (slice_index (row (a + 1)) t)) l ≤ (link_at p l).capacity * n
    step-fits a l lt inside =
        let less = load-mono p (λ t. max (slice_index (row a) t) (slice_index (row (a + 1)) t)) (λ t. (n - a) * old t + (a + 1) * new t) l (λ t low. max-blended a t lt low) in
        let mixed = load-mixed p (n - a) (a + 1) old new l in
        let fits = parts-fit (n + 1) (n - a) (a + 1) n (link_at p l).capacity (old_load p l) (new_load p l) (omega arith) (omega arith) (free l inside).0 (free l inside).1 in
        omega (arith, less, mixed, fits)

    step-blended : IsNetwork p → (a : ℕ) → a < n → IsRateStep p n (row a) (row (a + 1))
    step-blended net a lt = record {
      before = row-blended net a (omega arith);
      after = row-blended net (a + 1) (omega arith);
      fits = λ l inside. step-fits a l lt inside;
    }

  pub old-blended : row 0 ≡ old_row p n
  old-blended = map-same (blended n 0) (λ t. n * old_rate t) p.tunnels (λ t. all-old n (old_rate t) (new_rate t))

  pub new-blended : row n ≡ new_row p n
  new-blended = map-same (blended n n) (λ t. n * new_rate t) p.tunnels (λ t. all-new n (old_rate t) (new_rate t))

  rows-steps : IsNetwork p → 1 ≤ n → n ≤ 63 → has_slack p (n + 1) ≡ true → AreRateSteps p n (blended_rows p n ++ new_row p n ∷ [])
  rows-steps net some few slack =
      let e : n - 1 + 1 ≡ n = omega arith in
      let last : IsRateStep p n (row (n - 1)) (new_row p n) = subst (IsRateStep p n (row (n - 1))) (ap row e ∙ new-blended) (step-blended slack net (n - 1) (omega arith)) in
      record {
        low = some;
        high = omega (arith, few);
        few = omega (arith, length-append (blended_rows p n) (new_row p n ∷ []), list_below-length (n - 1) (λ a. row (a + 1)));
        last = last-push (old_row p n) (new_row p n) (blended_rows p n);
        steps = subst (λ first. Follows (IsRateStep p n) first (blended_rows p n ++ new_row p n ∷ [])) old-blended
            (follows-push (IsRateStep p n) (row 0) (new_row p n) (blended_rows p n)
            (chain-below (IsRateStep p n) row (n - 1) (λ a lt. step-blended slack net a (omega arith)))
            (subst (λ x. IsRateStep p n x (new_row p n)) (sym (last-below (IsRateStep p n) row (n - 1))) last)
            (last-step p n (row (n - 1)) (new_row p n) last));
      }

pub slack-valid : (p : Problem) (k : ℕ) → IsNetwork p → has_table_room p ≡ true → 2 ≤ k → k ≤ 64 → has_slack p k ≡ true → is_valid_plan p (by_slack p k) ≡ true
slack-valid p k net room low high slack =
    let e : k ≡ k - 1 + 1 = omega arith in
    frame-valid p (k - 1) (blended_rows p (k - 1) ++ new_row p (k - 1) ∷ []) room (rows-steps p (k - 1) net (omega arith) (omega arith) (subst (λ m. has_slack p m ≡ true) e slack)) net
