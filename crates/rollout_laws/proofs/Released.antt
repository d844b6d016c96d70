-- A release begins at least one operation where some operation may begin that the policy doesn't hold back.
use Rattle.std.proofs.Common.{◌≡◌, ℕ, zero, suc, ◌<◌, ◌⊎◌, Bool, true, false, not, ◌&&◌, ◌||◌, ◌==◌, if◌then◌else◌, cond, List, [], ◌∷◌, length, filter, refl, inl, inr, sym, ap, ◌∙◌, subst, arith, eq-eqb, lt-ltb, eqb-true, nat_lt}
use Rattle.std.proofs.lemmas.Bool.{and_from, cond_both, both_ways, not-true, cases_Bool, cases_lt, or_cases, or_left, or_right, not_from_false}
use Rattle.std.proofs.lemmas.List.Folds.{list_any-append}
use Rattle.std.proofs.lemmas.List.Elements.{All-cons, All-head, All-tail, All-weaker, filter_passes}
use Rattle.std.specs.List.{All, list_any}
use Rattle.rollout_rules.specs.Sums.{list_below}
use Rattle.rollout_rules.specs.Wan.{Problem, Plan, last_stage}
use Rattle.rollout_rules.specs.Network.{IsNetwork}
use Rattle.rollout_rules.specs.Items.{item_count, number_of, item_at}
use Rattle.rollout_rules.specs.Valid.{is_valid_plan}
use Rattle.rollout_rules.specs.Operations.{operations}
use Rattle.rollout_rules.specs.History.{History, settled, flies}
use Rattle.rollout_rules.specs.Legal.{may_begin, is_legal, is_finished}
use Rattle.rollout_rules.specs.Release.{next_op, view_of, waiting, insert_by, in_order_of, begin_each, is_held_back, released, release}
use Rattle.rollout_rules.specs.declared.item.Item.{Item}
use Rattle.rollout_rules.specs.declared.op.OpView.{OpView}
use Rattle.rollout_laws.specs.Waiting.{NothingFlies, WaitsBehind, SomeMayBegin, HoldsNothing}
use Rattle.rollout_laws.proofs.Histories.{begins}
use Rattle.rollout_laws.proofs.Stuck.{least-begins, some-begins}
use Rattle.rollout_laws.proofs.Validity.{plan-is_valid}

-- whether a number is in a list
abbrev has : ℕ → List ℕ → Bool
has n ns = list_any (λ m. m == n) ns

has-below : (k n : ℕ) → n < k → has n (list_below k (λ m. m)) ≡ true
has-below zero n lt = absurd (omega arith)
has-below (suc k) n lt =
    list_any-append (λ m. m == n) (list_below k (λ m. m)) (k ∷ [])
    ∙ elim (cases_lt n k) as (λ c. (has n (list_below k (λ m. m)) || has n (k ∷ [])) ≡ true) [
      | inl below ↦ or_left (has n (list_below k (λ m. m))) (has n (k ∷ [])) (has-below k n below)
      | inr top ↦ or_right (has n (list_below k (λ m. m))) (has n (k ∷ [])) (or_left (k == n) false (eq-eqb k n (omega arith)))
    ]

has-filter : (test : ℕ → Bool) (n : ℕ) (ns : List ℕ) → test n ≡ true → has n ns ≡ true → has n (filter test ns) ≡ true
has-filter test n [] passes e = e
has-filter test n (m ∷ ms) passes e = elim (or_cases (m == n) (has n ms) e) as (λ c. has n (filter test (m ∷ ms)) ≡ true) [
  | inl same ↦
      let at : test m ≡ true = ap test (eqb-true m n same) ∙ passes in
      rw at (or_left (m == n) (has n (filter test ms)) same)
  | inr later ↦ either (test m) (has-filter test n ms passes later)
]
  where
    either : (b : Bool) → has n (filter test ms) ≡ true → has n (cond b (m ∷ filter test ms) (filter test ms)) ≡ true
    either true there = or_right (m == n) (has n (filter test ms)) there
    either false there = there

has-inserted : (rank : ℕ → ℕ) (n m : ℕ) (ms : List ℕ) → ((m == n) || has n ms) ≡ true → has n (insert_by rank m ms) ≡ true
has-inserted rank n m [] e = e
has-inserted rank n m (k ∷ ks) e = either (nat_lt (rank m) (rank k) || ((rank m == rank k) && nat_lt m k)) (swapped (or_cases (m == n) ((k == n) || has n ks) e)) (λ rest. has-inserted rank n m ks rest)
  where
    swapped : ((m == n) ≡ true) ⊎ (((k == n) || has n ks) ≡ true) → ((k == n) ≡ true) ⊎ (((m == n) || has n ks) ≡ true)
    swapped (inl this) = inr (or_left (m == n) (has n ks) this)
    swapped (inr that) = elim (or_cases (k == n) (has n ks) that) as (λ c. ((k == n) ≡ true) ⊎ (((m == n) || has n ks) ≡ true)) [
      | inl here ↦ inl here
      | inr later ↦ inr (or_right (m == n) (has n ks) later)
    ]

    either : (b : Bool) → ((k == n) ≡ true) ⊎ (((m == n) || has n ks) ≡ true) → (((m == n) || has n ks) ≡ true → has n (insert_by rank m ks) ≡ true) → has n (if b then m ∷ k ∷ ks else k ∷ insert_by rank m ks) ≡ true
    either true parts step = e
    either false (inl here) step = or_left (k == n) (has n (insert_by rank m ks)) here
    either false (inr rest) step = or_right (k == n) (has n (insert_by rank m ks)) (step rest)

has-in_order : (rank : ℕ → ℕ) (n : ℕ) (ns : List ℕ) → has n ns ≡ true → has n (in_order_of rank ns) ≡ true
has-in_order rank n [] e = e
has-in_order rank n (m ∷ ms) e = has-inserted rank n m (in_order_of rank ms) (elim (or_cases (m == n) (has n ms) e) as (λ c. ((m == n) || has n (in_order_of rank ms)) ≡ true) [
  | inl same ↦ or_left (m == n) (has n (in_order_of rank ms)) same
  | inr later ↦ or_right (m == n) (has n (in_order_of rank ms)) (has-in_order rank n ms later)
])

-- what holds of each number holds of each in order
All-inserted : (P : ℕ → Type 0) (rank : ℕ → ℕ) (n : ℕ) (ms : List ℕ) → P n → All P ms → All P (insert_by rank n ms)
All-inserted P rank n [] here all = All-cons P n [] here all
All-inserted P rank n (m ∷ ms) here all =
    cond_both (nat_lt (rank n) (rank m) || ((rank n == rank m) && nat_lt n m)) (n ∷ m ∷ ms) (m ∷ insert_by rank n ms) (All P)
    (λ _. All-cons P n (m ∷ ms) here all) (λ _. All-cons P m (insert_by rank n ms) (All-head P m ms all) (All-inserted P rank n ms here (All-tail P m ms all)))

pub All-in_order : (P : ℕ → Type 0) (rank : ℕ → ℕ) (ns : List ℕ) → All P ns → All P (in_order_of rank ns)
All-in_order P rank [] all = all
All-in_order P rank (n ∷ ns) all = All-inserted P rank n (in_order_of rank ns) (All-head P n ns all) (All-in_order P rank ns (All-tail P n ns all))

module _ (p : Problem) (plan : Plan) (h : History) where
  -- going through items that hold one that may begin begins one
  begin_each-begins : (n : ℕ) (ns : List ℕ) → may_begin p plan h (next_op h n) ≡ true → has n ns ≡ true → 0 < length (begin_each p plan h ns)
  begin_each-begins n [] may e = absurd (none e)
    where
      none : false ≡ true → ⊥
      none q = cc
  begin_each-begins n (m ∷ ms) may e = elim (cases_Bool (may_begin p plan h (next_op h m))) as (λ c. 0 < length (begin_each p plan h (m ∷ ms))) [
    | inl begins_m ↦ rw begins_m (omega arith)
    | inr stays ↦ elim (or_cases (m == n) (has n ms) e) as (λ c. 0 < length (begin_each p plan h (m ∷ ms))) [
      | inl same ↦ absurd (both_ways (may_begin p plan h (next_op h m)) stays (subst (λ k. may_begin p plan h (next_op h k) ≡ true) (sym (eqb-true m n same)) may))
      | inr later ↦ rw stays (begin_each-begins n ms may later)
    ]
  ]

  -- and through items none of which may, none
  begin_each-none : (ns : List ℕ) → All (λ n. may_begin p plan h (next_op h n) ≡ false) ns → begin_each p plan h ns ≡ []
  begin_each-none [] all = refl
  begin_each-none (n ∷ ns) all =
      let stays = All-head (λ m. may_begin p plan h (next_op h m) ≡ false) n ns all in
      rw stays (begin_each-none ns (All-tail (λ m. may_begin p plan h (next_op h m) ≡ false) n ns all))

  -- an operation that may begin is waited for
  begins-waits : (n : ℕ) → may_begin p plan h (next_op h n) ≡ true → has n (waiting p plan h) ≡ true
  begins-waits n may =
      let begin = begins p plan h (next_op h n) may in
      has-filter (λ m. not (flies h m) && nat_lt (settled h m) (operations p plan (item_at p m))) n (list_below (item_count p) (λ m. m))
      (and_from (not (flies h n)) (nat_lt (settled h n) (operations p plan (item_at p n))) (not_from_false (flies h n) begin.next.idle) (lt-ltb (settled h n) (operations p plan (item_at p n)) (omega (arith, begin.next.exists))))
      (has-below (item_count p) n begin.next.within)

module _ (p : Problem) (plan : Plan) (policy : OpView → ℕ) (h : History) where
  -- whether the policy doesn't hold an item back
  abbrev is_free : ℕ → Bool
  is_free n = not (is_held_back policy (view_of p plan h n))

  -- the items of a release in order
  abbrev in_order : List ℕ
  in_order = in_order_of (λ n. policy (view_of p plan h n)) (released p plan policy h)

  pub release-begins : (n : ℕ) → may_begin p plan h (next_op h n) ≡ true → is_held_back policy (view_of p plan h n) ≡ false → 0 < length (release p plan policy h)
  release-begins n may free =
      let here = has-filter is_free n (waiting p plan h) (not_from_false (is_held_back policy (view_of p plan h n)) free) (begins-waits p plan h n may) in
      begin_each-begins p plan h n in_order may (has-in_order (λ m. policy (view_of p plan h m)) n (released p plan policy h) here)

  -- so a release that begins nothing is one where all that may begin is held back
  pub none-held : release p plan policy h ≡ [] → (n : ℕ) → may_begin p plan h (next_op h n) ≡ true → is_held_back policy (view_of p plan h n) ≡ true
  none-held none n may = elim (cases_Bool (is_held_back policy (view_of p plan h n))) as (λ c. is_held_back policy (view_of p plan h n) ≡ true) [
    | inl held ↦ held
    | inr free ↦ absurd (omega (arith, ap length none, release-begins n may free))
  ]

  abbrev Stays : ℕ → Type 0
  Stays n = may_begin p plan h (next_op h n) ≡ false

  pub held-none : ((n : ℕ) → may_begin p plan h (next_op h n) ≡ true → is_held_back policy (view_of p plan h n) ≡ true) → release p plan policy h ≡ []
  held-none held =
      begin_each-none p plan h in_order (All-in_order Stays (λ n. policy (view_of p plan h n)) (released p plan policy h)
      (All-weaker (λ n. is_free n ≡ true) Stays stays (released p plan policy h) (filter_passes is_free (waiting p plan h))))
    where
      stays : (n : ℕ) → is_free n ≡ true → Stays n
      stays n free = elim (cases_Bool (may_begin p plan h (next_op h n))) as (λ c. Stays n) [
        | inl may ↦ absurd (both_ways (is_held_back policy (view_of p plan h n)) (not-true _ free) (held n may))
        | inr no' ↦ no'
      ]

pub least-goes_on : (p : Problem) (plan : Plan) (h : History) → IsNetwork p → is_valid_plan p plan ≡ true → is_legal p plan h ≡ true → (i : Item) → WaitsBehind p plan h i → may_begin p plan h (next_op h (number_of p i)) ≡ true
least-goes_on p plan h net valid legal i waits =
    least-begins p plan net (plan-is_valid p plan valid) h legal i waits.found waits.least (subst (λ s. s < last_stage plan) waits.least waits.left) waits.idle

pub never-stuck : (p : Problem) (plan : Plan) (h : History) → IsNetwork p → is_valid_plan p plan ≡ true → is_legal p plan h ≡ true → is_finished p plan h ≡ false → NothingFlies p h → SomeMayBegin p plan h
never-stuck p plan h net valid legal unfinished idle = some-begins p plan net (plan-is_valid p plan valid) h legal unfinished idle

pub release-goes_on : (p : Problem) (plan : Plan) (policy : OpView → ℕ) (h : History) → IsNetwork p → is_valid_plan p plan ≡ true → is_legal p plan h ≡ true → is_finished p plan h ≡ false → NothingFlies p h → HoldsNothing policy → 0 < length (release p plan policy h)
release-goes_on p plan policy h net valid legal unfinished idle free =
    let some = never-stuck p plan h net valid legal unfinished idle in
    release-begins p plan policy h some.0 some.1 (free (view_of p plan h some.0))
