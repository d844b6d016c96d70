-- Rows of numbers that grow at the end, and are read.
use Rattle.std.proofs.Common.{◌≡◌, ℕ, zero, suc, ◌+◌, ◌-◌, ◌<◌, List, [], ◌∷◌, ◌++◌, length, get_or, slice_index, slice_index_or, true, ◌==◌, refl, sym, ap, ap₂, ◌∙◌, arith}
use Rattle.rollout_rules.specs.Sums.{list_below}
use Rattle.rollout_rules.specs.Wan.{Problem, Plan, tunnel_at, rate_at, mark_at, last_stage}
use Rattle.rollout_rules.specs.Operations.{changes_behind}
use Rattle.rollout_rules.specs.Release.{chain}
use Rattle.rollout_rules.proofs.Rows.{list_below-at, list_below-length}
use Rattle.rollout_rules.specs.declared.item.Item.TheVariants as item
use Rattle.dependency_graph.specs.Chains.{AreAhead, longest_own, longest_departure, longest_arrival, is_removed, is_entered}
use Rattle.dependency_graph.proofs.LongestFrom.{longest-end}

pub inside-below : {A : Type 0} (n : ℕ) (f : ℕ → A) (xs : List A) (k : ℕ) → xs ≡ list_below n f → k < n → k < length xs
inside-below n f xs k is lt = omega (arith, ap length is, list_below-length n f)

pub read-below : {A : Type 0} (n : ℕ) (f : ℕ → A) (xs : List A) (k : ℕ) (d : A) → xs ≡ list_below n f → k < n → get_or xs k d ≡ f k
read-below n f xs k d is lt = ap (λ ys. get_or ys k d) is ∙ list_below-at n f k d lt

pub push-below : {A : Type 0} (n : ℕ) (f : ℕ → A) (xs ys : List A) (x : A) → xs ≡ list_below n f → ys ≡ xs ++ x ∷ [] → x ≡ f n → ys ≡ list_below (n + 1) f
push-below n f xs ys x is new here =
    let up : suc n ≡ n + 1 = omega arith in
    new ∙ ap₂ (λ a b. a ++ b ∷ []) is here ∙ ap (λ m. list_below m f) up

pub below-same : {A : Type 0} (n : ℕ) (f g : ℕ → A) → ((k : ℕ) → k < n → f k ≡ g k) → list_below n f ≡ list_below n g
below-same zero f g each = refl
below-same (suc n) f g each = ap₂ (λ a b. a ++ b ∷ []) (below-same n f g (λ k lt. each k (omega arith))) (each n (omega arith))

-- ahead of the last stage there is nothing
pub nothing-ahead : (p : Problem) (plan : Plan) (flows own departures arrivals : List ℕ) (n m : ℕ) → n ≡ length p.flows → m ≡ length p.tunnels
    → flows ≡ list_below n (λ k. 0) → own ≡ list_below m (λ k. 0) → departures ≡ list_below m (λ k. 0) → arrivals ≡ list_below m (λ k. 0)
    → AreAhead p plan (last_stage plan) flows own departures arrivals
nothing-ahead p plan flows own departures arrivals n m nf mt a b c d = record {
  flows = a ∙ ap (λ k. list_below k (λ j. 0)) nf ∙ sym (below-same (length p.flows) (λ f. longest_own p plan (item.Flow f) (last_stage plan)) (λ k. 0) (λ f lt. longest-end (last_stage plan) (λ u. true) (changes_behind p plan (item.Flow f)) (chain p plan (item.Flow f))));
  own = b ∙ ap (λ k. list_below k (λ j. 0)) mt ∙ sym (below-same (length p.tunnels) (λ t. longest_own p plan (item.Entry t 0) (last_stage plan)) (λ k. 0) (λ t lt. longest-end (last_stage plan) (λ u. true) (changes_behind p plan (item.Entry t 0)) (chain p plan (item.Entry t 0))));
  departures = c ∙ ap (λ k. list_below k (λ j. 0)) mt ∙ sym (below-same (length p.tunnels) (λ t. longest_departure p plan t (last_stage plan)) (λ k. 0) (λ t lt. longest-end (last_stage plan) (λ u. rate_at plan u t == 0) (is_removed p plan t) (chain p plan (item.Entry t 0))));
  arrivals = d ∙ ap (λ k. list_below k (λ j. 0)) mt ∙ sym (below-same (length p.tunnels) (λ t. longest_arrival p plan t (last_stage plan)) (λ k. 0) (λ t lt. longest-end (last_stage plan) (λ u. mark_at plan u t) (is_entered p plan t) (chain p plan (item.Flow (tunnel_at p t).flow))));
}

-- a number read from a list of rows, which stand from the last stage but one on down
pub rows-long : (last n : ℕ) (f : ℕ → ℕ → ℕ) (rows : List (List ℕ)) (s : ℕ) → rows ≡ list_below last (λ k. list_below n (f (last - 1 - k))) → s < last → s < length rows
rows-long last n f rows s is lt = omega (arith, ap length is, list_below-length last (λ k. list_below n (f (last - 1 - k))), lt)

row-of : (last n : ℕ) (f : ℕ → ℕ → ℕ) (rows : List (List ℕ)) (s : ℕ) → rows ≡ list_below last (λ k. list_below n (f (last - 1 - k))) → s < last → slice_index_or rows (length rows - 1 - s) [] ≡ list_below n (f s)
row-of last n f rows s is lt =
    let count : length rows ≡ last = ap length is ∙ list_below-length last (λ k. list_below n (f (last - 1 - k))) in
    let turn : length rows - 1 - s < last = omega (arith, count, lt) in
    let back : last - 1 - (length rows - 1 - s) ≡ s = omega (arith, count, lt) in
    read-below last (λ k. list_below n (f (last - 1 - k))) rows (length rows - 1 - s) [] is turn ∙ ap (λ k. list_below n (f k)) back

pub row-wide : (last n : ℕ) (f : ℕ → ℕ → ℕ) (rows : List (List ℕ)) (s k : ℕ) → rows ≡ list_below last (λ k. list_below n (f (last - 1 - k))) → s < last → k < n → k < length (slice_index_or rows (length rows - 1 - s) [])
row-wide last n f rows s k is lt few = inside-below n (f s) (slice_index_or rows (length rows - 1 - s) []) k (row-of last n f rows s is lt) few

pub row-read : (last n : ℕ) (f : ℕ → ℕ → ℕ) (rows : List (List ℕ)) (s k : ℕ) → rows ≡ list_below last (λ k. list_below n (f (last - 1 - k))) → s < last → k < n → slice_index (slice_index_or rows (length rows - 1 - s) []) k ≡ f s k
row-read last n f rows s k is lt few = read-below n (f s) (slice_index_or rows (length rows - 1 - s) []) k 0 (row-of last n f rows s is lt) few
