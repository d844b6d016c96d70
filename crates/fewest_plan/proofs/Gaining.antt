-- The links on which a flow grows: that each has a growth above 0, and what their growths add up to on a link.
use Rattle.std.proofs.Common.{◌≡◌, ℕ, zero, suc, ◌+◌, ◌*◌, ◌<◌, ◌≤◌, Bool, true, false, List, [], ◌∷◌, ◌++◌, length, ◌==◌, if◌then◌else◌, refl, sym, ap, ap₂, ◌∙◌, inl, inr, subst, arith, lt-ltb, eq-eqb, ne_eqb}
use Rattle.std.specs.Prelude.{All, nat_lt, slice_index, slice_index_or}
use Rattle.std.proofs.lemmas.Bool.{cases_Bool, cases_lt, ltb-true}
use Rattle.std.proofs.lemmas.List.Elements.{All-append}
use Rattle.std.proofs.lemmas.List.{length-append, get_or_append_left, get_or-append-add}
use Rattle.rollout_rules.specs.Sums.{sum_below}
use Rattle.rollout_rules.specs.Wan.{Problem, flow_at}
use Rattle.rollout_rules.proofs.Below.{sum_below-same, sum_below-split, sum_below-zero, sum_below-but}
use Rattle.rollout_rules.proofs.Rows.{list_below-length, list_below-at}
use Rattle.plan_check.proofs.Rows.{list_below-from}
use Rattle.plan_check.proofs.Shares.{AreSums}
use Rattle.fewest_plan.specs.declared.gain.Gain.{Gain}
use Rattle.fewest_plan.specs.Growth.{part_at, growth, growths, all_gains, gain_on, gains_in, gains_of, gain_at, no_gain, IsGain, AreGains, gained}

-- ---- each has a growth above 0
gain_on-are : (p : Problem) (l n : ℕ) → l < length p.links → All (IsGain p) (gain_on l n)
gain_on-are p l n lt = elim (cases_Bool (nat_lt 0 n)) as (λ _. All (IsGain p) (gain_on l n)) [
  | inl some ↦ rw some (one (record { link = l; growth = n }) (record { link = lt; growth = ltb-true 0 n some }))
  | inr none ↦ rw none nothing
]
  where
    nothing : All (IsGain p) []
    nothing k d low = absurd (omega arith)

    one : (g : Gain) → IsGain p g → All (IsGain p) (g ∷ [])
    one g is zero d low = is
    one g is (suc k) d low = absurd (omega arith)

gains_in-are : (p : Problem) (g : ℕ → ℕ) (n : ℕ) → n ≤ length p.links → All (IsGain p) (gains_in g n)
gains_in-are p g zero le = none
  where
    none : All (IsGain p) []
    none k d low = absurd (omega arith)
gains_in-are p g (suc n) le = All-append (IsGain p) (gains_in g n) (gain_on n (g n)) (gains_in-are p g n (omega arith)) (gain_on-are p n (g n) (omega arith))

pub gains_of-are : (p : Problem) (f : ℕ) → AreGains p (gains_of p f)
unfolding gains_of
gains_of-are p f i lt = gains_in-are p (growth p f) (length p.links) (omega arith) i no_gain lt

-- ---- what they add up to
module _ (m l : ℕ) where
  abbrev part : List Gain → ℕ → ℕ
  part gains i = if (gain_at gains i).link == l then (gain_at gains i).growth * m else 0

  abbrev amount : Gain → ℕ
  amount g = if g.link == l then g.growth * m else 0

  gained-append : (xs ys : List Gain) → gained (xs ++ ys) m l ≡ gained xs m l + gained ys m l
  gained-append xs ys =
      ap (λ n. sum_below n (part (xs ++ ys))) (length-append xs ys)
      ∙ sum_below-split (length xs) (length ys) (part (xs ++ ys))
      ∙ ap₂ (λ x y. x + y)
      (sum_below-same (length xs) (part (xs ++ ys)) (part xs) (λ i lt. ap amount (get_or_append_left xs ys no_gain i lt)))
      (sum_below-same (length ys) (λ i. part (xs ++ ys) (length xs + i)) (part ys) (λ i lt. ap amount (get_or-append-add xs ys i no_gain)))

  on_one : (k n : ℕ) → (if k == l then n * m else 0) ≡ gained (record { link = k; growth = n } ∷ []) m l
  on_one k n = omega arith

  nothing : (b : Bool) (n : ℕ) → n ≡ 0 → 0 ≡ (if b then n * m else 0)
  nothing true n e = rw e (omega arith)
  nothing false n e = refl

  gained-on : (k n : ℕ) → gained (gain_on k n) m l ≡ (if k == l then n * m else 0)
  gained-on k n = elim (cases_lt 0 n) as (λ _. gained (gain_on k n) m l ≡ (if k == l then n * m else 0)) [
    | inl some ↦ rw (lt-ltb 0 n some) (sym (on_one k n))
    | inr none ↦ let e : n ≡ 0 = omega arith in rw e (nothing (k == l) 0 refl)
  ]

  gained-in : (g : ℕ → ℕ) (n : ℕ) → gained (gains_in g n) m l ≡ sum_below n (λ k. if k == l then g k * m else 0)
  gained-in g zero = refl
  gained-in g (suc n) =
      gained-append (gains_in g n) (gain_on n (g n))
      ∙ ap₂ (λ x y. x + y) (gained-in g n) (gained-on n (g n))

  one_of : (n : ℕ) (g : ℕ → ℕ) → l < n → sum_below n (λ k. if k == l then g k * m else 0) ≡ g l * m
  one_of n g lt =
      let f : ℕ → ℕ = λ k. if k == l then g k * m else 0 in
      let only = sum_below-but n l f (λ k. 0) lt (λ j low other. rw (ne_eqb j l other) refl) in
      let at : f l ≡ g l * m = rw (eq-eqb l l refl) refl in
      omega (arith, only, at, sum_below-zero n (λ k. 0) (λ k low. refl))

  -- so many parts of a flow add its growth on the link as often
  pub gained-gains_of : (p : Problem) (f : ℕ) → l < length p.links → gained (gains_of p f) m l ≡ growth p f l * m
  unfolding gains_of
  gained-gains_of p f lt = gained-in (growth p f) (length p.links) ∙ one_of (length p.links) (growth p f) lt

-- ---- where growths stand in a list
in-same : (n : ℕ) (f g : ℕ → ℕ) → ((k : ℕ) → k < n → f k ≡ g k) → gains_in f n ≡ gains_in g n
in-same zero f g e = refl
in-same (suc n) f g e = ap₂ (λ xs ys. xs ++ ys) (in-same n f g (λ k lt. e k (omega arith))) (ap (gain_on n) (e n (omega arith)))

pub growing-is : (p : Problem) (f : ℕ) (sums : List ℕ) → sums ≡ growths p f → gains_in (slice_index sums) (length sums) ≡ gains_of p f
unfolding gains_of
growing-is p f sums are =
    let count : length sums ≡ length p.links = ap length are ∙ list_below-length (length p.links) (growth p f) in
    rw count (in-same (length p.links) (slice_index sums) (growth p f) (λ l lt. ap (λ xs. slice_index xs l) are ∙ list_below-at (length p.links) (growth p f) l 0 lt))

-- what the tunnels of a flow add up to
pub growths-from : (p : Problem) (f : ℕ) (sums : List ℕ) (n : ℕ) → n ≡ (flow_at p f).tunnels → AreSums sums (length p.links) n (part_at p f) → sums ≡ growths p f
unfolding growth
growths-from p f sums n all so =
    list_below-from sums (length p.links) (growth p f) so.count (λ l lt. so.each l lt ∙ ap (λ m. sum_below m (λ j. part_at p f j l)) all)

-- ---- the links of a flow in the list of all
pub all_gains-count : (p : Problem) → length (all_gains p) ≡ length p.flows
all_gains-count p = list_below-length (length p.flows) (gains_of p)

pub links-are : (p : Problem) (gains : List (List Gain)) (f : ℕ) (links : List Gain) → gains ≡ all_gains p → f < length p.flows → links ≡ slice_index_or gains f links → links ≡ gains_of p f
links-are p gains f links are lt is = is ∙ ap (λ gs. slice_index_or gs f links) are ∙ list_below-at (length p.flows) (gains_of p) f links lt
