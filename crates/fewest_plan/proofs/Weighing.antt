-- What marked links carry is what tunnels carry as often as they cross one.
use Rattle.std.proofs.Common.{◌≡◌, ◌≢◌, ℕ, zero, suc, ◌+◌, ◌*◌, ◌<◌, ◌≤◌, Bool, true, false, List, [], ◌∷◌, length, slice_index, ◌==◌, if◌then◌else◌, refl, sym, ap, ◌∙◌, inl, inr, arith, eq-eqb, ne_eqb, eqb-true}
use Rattle.std.specs.List.{list_any}
use Rattle.std.proofs.lemmas.Bool.{cases_Bool, cases_lt}
use Rattle.std.proofs.Math.Nat.{mul-le-mul_left}
use Rattle.lists.proofs.Conditions.{if_either}
use Rattle.rollout_rules.specs.Sums.{sum_below, count_below}
use Rattle.rollout_rules.specs.Wan.{Problem, tunnel_at, link_at, crosses}
use Rattle.rollout_rules.specs.Items.{load}
use Rattle.rollout_rules.specs.Network.{IsPath, IsNetwork}
use Rattle.rollout_rules.proofs.Below.{sum_below-same, sum_below-zero, sum_below-front, sum_below-swap, sum_below-mono}
use Rattle.step_lp.proofs.Sums.{sum_below-one}
use Rattle.plan_check.specs.Parts.{added}
use Rattle.fewest_plan.specs.Marked.{is_marked, marked_in, crossed}

-- ---- sums
-- a choice goes into a sum
inside : (b : Bool) (n : ℕ) (f : ℕ → ℕ) → (if b then sum_below n f else 0) ≡ sum_below n (λ h. if b then f h else 0)
inside true n f = refl
inside false n f = sym (sum_below-zero n (λ h. 0) (λ h lt. refl))

-- an amount for each number that passes
each-passes : (n amount : ℕ) (test : ℕ → Bool) → sum_below n (λ h. if test h then amount else 0) ≡ amount * count_below n test
each-passes zero amount test = omega arith
each-passes (suc n) amount test = elim (cases_Bool (test n)) as (λ c. sum_below (suc n) (λ h. if test h then amount else 0) ≡ amount * count_below (suc n) test) [
  | inl passes ↦ rw passes (one_more amount (count_below n test) (sum_below n (λ h. if test h then amount else 0)) (each-passes n amount test))
  | inr fails ↦ rw fails (no_more amount (count_below n test) (sum_below n (λ h. if test h then amount else 0)) (each-passes n amount test))
]
  where
    one_more : (amount count sum : ℕ) → sum ≡ amount * count → sum + amount ≡ amount * (count + 1)
    one_more amount count sum e = omega (arith, e)

    no_more : (amount count sum : ℕ) → sum ≡ amount * count → sum + 0 ≡ amount * (count + 0)
    no_more amount count sum e = omega (arith, e)

pub some-passes : (n h : ℕ) (test : ℕ → Bool) → h < n → test h ≡ true → 1 ≤ count_below n test
some-passes zero h test lt e = absurd (omega arith)
some-passes (suc n) h test lt e = elim (cases_lt h n) as (λ c. 1 ≤ count_below (suc n) test) [
  | inl below ↦ omega (arith, some-passes n h test below e)
  | inr above ↦
      let at : h ≡ n = omega arith in
      let passes : test n ≡ true = sym (ap test at) ∙ e in
      rw passes (omega arith)
]

-- ---- one row of links
abbrev pub IsOnce : List ℕ → Type 0
IsOnce row = (g h : ℕ) → g < length row → h < length row → slice_index row g ≡ slice_index row h → g ≡ h

-- where a row has no number twice, it adds the amount once to each number that it has
added-once : (row : List ℕ) (amount k : ℕ) → IsOnce row → added row amount k ≡ (if list_any (λ j. j == k) row then amount else 0)
added-once [] amount k once = refl
added-once (x ∷ row) amount k once =
    let split : added (x ∷ row) amount k ≡ (if x == k then amount else 0) + added row amount k =
    sum_below-front (length row) (λ h. if slice_index (x ∷ row) h == k then amount else 0) in
    elim (cases_Bool (x == k)) as (λ c. added (x ∷ row) amount k ≡ (if list_any (λ j. j == k) (x ∷ row) then amount else 0)) [
      | inl same ↦
          let none : added row amount k ≡ 0 = sum_below-zero (length row) (λ h. if slice_index row h == k then amount else 0) (λ h lt.
          elim (cases_Bool (slice_index row h == k)) as (λ c. (if slice_index row h == k then amount else 0) ≡ 0) [
            | inl again ↦
                let back : 0 ≡ suc h = once 0 (suc h) (omega arith) (omega arith) (eqb-true x k same ∙ sym (eqb-true (slice_index row h) k again)) in
                absurd (omega arith)
            | inr differs ↦ rw differs refl
          ]) in
          split ∙ rw same (omega (arith, none))
      | inr other ↦
          let rest = added-once row amount k (λ g h gl hl e. let up = once (suc g) (suc h) (omega arith) (omega arith) e in omega arith) in
          split ∙ rw other (omega (arith, rest))
    ]

-- an amount at one number alone
at-one : (n x amount : ℕ) (test : ℕ → Bool) → x < n → sum_below n (λ l. if test l then (if x == l then amount else 0) else 0) ≡ (if test x then amount else 0)
at-one n x amount test lt =
    sum_below-one n x (λ l. if test l then (if x == l then amount else 0) else 0) lt (λ j low other. elsewhere j other) ∙ here
  where
    elsewhere : (j : ℕ) → j ≢ x → (if test j then (if x == j then amount else 0) else 0) ≡ 0
    elsewhere j other = rw (ne_eqb x j (λ e. other (sym e))) (if_either (test j) 0)

    here : (if test x then (if x == x then amount else 0) else 0) ≡ (if test x then amount else 0)
    here = rw (eq-eqb x x refl) refl

module _ (n : ℕ) (marks : List Bool) (amount : ℕ) (row : List ℕ) (once : IsOnce row) (known : (h : ℕ) → h < length row → slice_index row h < n) where
  abbrev part : ℕ → ℕ → ℕ
  part l h = if is_marked marks l then (if slice_index row h == l then amount else 0) else 0

  on-link : (l : ℕ) → (if is_marked marks l then (if list_any (λ j. j == l) row then amount else 0) else 0) ≡ sum_below (length row) (part l)
  on-link l =
      ap (λ x. if is_marked marks l then x else 0) (sym (added-once row amount l once))
      ∙ inside (is_marked marks l) (length row) (λ h. if slice_index row h == l then amount else 0)

  pub row-marked : sum_below n (λ l. if is_marked marks l then (if list_any (λ j. j == l) row then amount else 0) else 0) ≡ amount * marked_in marks row
  row-marked =
      sum_below-same n (λ l. if is_marked marks l then (if list_any (λ j. j == l) row then amount else 0) else 0) (λ l. sum_below (length row) (part l)) (λ l lt. on-link l)
      ∙ sum_below-swap n (length row) part
      ∙ sum_below-same (length row) (λ h. sum_below n (λ l. part l h)) (λ h. if is_marked marks (slice_index row h) then amount else 0) (λ h lt. at-one n (slice_index row h) amount (is_marked marks) (known h lt))
      ∙ each-passes (length row) amount (λ h. is_marked marks (slice_index row h))

-- ---- all tunnels
links-once : (p : Problem) (path along : List ℕ) → IsPath p path along → IsOnce along
links-once p path along is g h gl hl e =
    is.once g h (omega (arith, is.between)) (omega (arith, is.between)) (sym (is.from g gl) ∙ ap (λ l. (link_at p l).from) e ∙ is.from h hl)

module _ (p : Problem) (marks : List Bool) (rate : ℕ → ℕ) where
  -- what a tunnel adds to a marked link
  abbrev share : ℕ → ℕ → ℕ
  share l t = if is_marked marks l then (if crosses p t l then rate t else 0) else 0

  of_tunnel : (t : ℕ) → IsNetwork p → t < length p.tunnels → sum_below (length p.links) (λ l. share l t) ≡ rate t * crossed p marks t
  of_tunnel t net lt =
      let path = (net.tunnels t lt).path in
      row-marked (length p.links) marks (rate t) (tunnel_at p t).links (links-once p (tunnel_at p t).path (tunnel_at p t).links path) path.links

  pub marked-load : IsNetwork p → sum_below (length p.links) (λ l. if is_marked marks l then load p rate l else 0) ≡ sum_below (length p.tunnels) (λ t. rate t * crossed p marks t)
  marked-load net =
      sum_below-same (length p.links) (λ l. if is_marked marks l then load p rate l else 0) (λ l. sum_below (length p.tunnels) (share l))
      (λ l lt. inside (is_marked marks l) (length p.tunnels) (λ t. if crosses p t l then rate t else 0))
      ∙ sum_below-swap (length p.links) (length p.tunnels) share
      ∙ sum_below-same (length p.tunnels) (λ t. sum_below (length p.links) (λ l. share l t)) (λ t. rate t * crossed p marks t) (λ t lt. of_tunnel t net lt)

-- a tunnel that crosses a marked link crosses one
any-at : (row : List ℕ) (l : ℕ) → list_any (λ j. j == l) row ≡ true → (h : ℕ) × (h < length row) × (slice_index row h ≡ l)
any-at [] l e = cc
any-at (x ∷ row) l e = elim (cases_Bool (x == l)) as (λ c. (h : ℕ) × (h < length (x ∷ row)) × (slice_index (x ∷ row) h ≡ l)) [
  | inl same ↦ (0, omega arith, eqb-true x l same)
  | inr other ↦ let there = any-at row l (rw other at e) in (suc there.0, omega (arith, there.1), there.2)
]

pub crossed-some : (p : Problem) (marks : List Bool) (t l : ℕ) → is_marked marks l ≡ true → crosses p t l ≡ true → 1 ≤ crossed p marks t
crossed-some p marks t l mark e =
    let row = (tunnel_at p t).links in
    let at = any-at row l e in
    some-passes (length row) at.0 (λ h. is_marked marks (slice_index row h)) at.1 (ap (is_marked marks) at.2 ∙ mark)

-- a sum that is no smaller than a larger one is the same, number by number
pub squeezed : (n : ℕ) (f g : ℕ → ℕ) → ((k : ℕ) → k < n → f k ≤ g k) → sum_below n g ≤ sum_below n f → (k : ℕ) → k < n → g k ≡ f k
squeezed zero f g le sums k lt = absurd (omega arith)
squeezed (suc n) f g le sums k lt =
    let before : sum_below n f ≤ sum_below n g = sum_below-mono n f g (λ j low. le j (omega arith)) in
    let last : f n ≤ g n = le n (omega arith) in
    elim (cases_lt k n) as (λ c. g k ≡ f k) [
      | inl below ↦ squeezed n f g (λ j low. le j (omega arith)) (omega arith) k below
      | inr above ↦
          let at : n ≡ k = omega arith in
          let same : g n ≡ f n = omega arith in
          sym (ap g at) ∙ same ∙ ap f at
    ]

-- so many times a sum is a sum of products, or less where each has as many at least
pub times-least : (n least : ℕ) (rate often : ℕ → ℕ) → ((j : ℕ) → j < n → least ≤ often j) → least * sum_below n rate ≤ sum_below n (λ j. rate j * often j)
times-least zero least rate often h = omega arith
times-least (suc n) least rate often h =
    one_more least (sum_below n rate) (rate n) (rate n * often n) (sum_below n (λ j. rate j * often j))
    (times-least n least rate often (λ j low. h j (omega arith))) (mul-le-mul_left (rate n) (h n (omega arith)))
  where
    one_more : (least sum last product sums : ℕ) → least * sum ≤ sums → last * least ≤ product → least * (sum + last) ≤ sums + product
    one_more least sum last product sums a b = omega (arith, a, b)

pub sum-times : (n k : ℕ) (f : ℕ → ℕ) → sum_below n f * k ≡ sum_below n (λ i. f i * k)
sum-times zero k f = omega arith
sum-times (suc n) k f = one_more (sum_below n f) (f n) k (sum_below n (λ i. f i * k)) (sum-times n k f)
  where
    one_more : (sum last k sums : ℕ) → sum * k ≡ sums → (sum + last) * k ≡ sums + last * k
    one_more sum last k sums e = omega (arith, e)
