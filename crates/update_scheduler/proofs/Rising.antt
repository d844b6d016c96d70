-- Candidates in order: which is before which, and that a list in order is known by what it has.
use Rattle.std.proofs.Common.{◌≡◌, ℕ, suc, ◌+◌, ◌<◌, ◌≤◌, ◌⊎◌, Bool, true, false, ◌&&◌, ◌||◌, ◌==◌, nat_lt, if◌then◌else◌, cond, List, [], ◌∷◌, IsSorted, refl, inl, inr, sym, ap, ap₂, ◌∙◌, subst, arith, ltb-true, eq-eqb, eqb-true, Less, Equal, Greater, is_lt}
use Rattle.std.specs.List.{AllByRecursion}
use Rattle.std.specs.Ordering.{ordering_then}
use Rattle.std.proofs.lemmas.Bool.{cases_Bool, and_parts, and_from, or_parts, and_cases, both_ways, cases_lt, ltb-false}
use Rattle.update_scheduler.specs.declared.candidate.Candidate.{Candidate}
use Rattle.update_scheduler.specs.Candidates.{compared}

-- whether a candidate has the lower rank, or the same rank and the lower item
abbrev pub is_before : Candidate → Candidate → Bool
is_before a b = nat_lt a.rank b.rank || ((a.rank == b.rank) && nat_lt a.item b.item)

-- the order that code sorts by tells the same
pub before-compared : (a b : Candidate) → is_lt (compared a b) ≡ is_before a b
before-compared a b = told (nat_lt a.rank b.rank) (a.rank == b.rank) (nat_lt a.item b.item) (a.item == b.item)
  where
    told : (less same low equal : Bool) → is_lt (ordering_then (cond less Less (cond same Equal Greater)) (cond low Less (cond equal Equal Greater))) ≡ (less || (same && low))
    told true same low equal = refl
    told false false low equal = refl
    told false true true equal = refl
    told false true false true = refl
    told false true false false = refl

-- a candidate that isn't after another
abbrev pub AtMost : Candidate → Candidate → Type 0
AtMost a b = (a.rank < b.rank) ⊎ ((a.rank ≡ b.rank) × (a.item ≤ b.item))

pub most-itself : (a : Candidate) → AtMost a a
most-itself a = inr (refl, omega arith)

pub most-chain : (a b c : Candidate) → AtMost a b → AtMost b c → AtMost a c
most-chain a b c (inl p) (inl q) = inl (omega (arith, p, q))
most-chain a b c (inl p) (inr q) = inl (omega (arith, p, q.0))
most-chain a b c (inr p) (inl q) = inl (omega (arith, p.0, q))
most-chain a b c (inr p) (inr q) = inr (p.0 ∙ q.0, omega (arith, p.1, q.1))

pub most-same : (a b : Candidate) → AtMost a b → AtMost b a → a ≡ b
most-same a b (inl p) (inl q) = absurd (omega (arith, p, q))
most-same a b (inl p) (inr q) = absurd (omega (arith, p, q.0))
most-same a b (inr p) (inl q) = absurd (omega (arith, p.0, q))
most-same a b (inr p) (inr q) =
    let items : a.item ≡ b.item = omega (arith, p.1, q.1) in
    λ i. record { rank = p.0 i; item = items i }

-- one that is before another is at most that, and one that isn't has that at most itself
pub before-most : (a b : Candidate) → is_before a b ≡ true → AtMost a b
before-most a b e = elim (cases_Bool (nat_lt a.rank b.rank)) as (λ c. AtMost a b) [
  | inl less ↦ inl (ltb-true a.rank b.rank less)
  | inr not-less ↦
      let rest = and_parts (a.rank == b.rank) (nat_lt a.item b.item) (ap (λ c. c || ((a.rank == b.rank) && nat_lt a.item b.item)) (sym not-less) ∙ e) in
      let low : a.item < b.item = ltb-true a.item b.item rest.1 in
      inr (eqb-true a.rank b.rank rest.0, omega (arith, low))
]

pub behind-most : (a b : Candidate) → is_before a b ≡ false → AtMost b a
behind-most a b e =
    let parts = or_parts (nat_lt a.rank b.rank) ((a.rank == b.rank) && nat_lt a.item b.item) e in
    let high : b.rank ≤ a.rank = ltb-false a.rank b.rank parts.0 in
    elim (and_cases (a.rank == b.rank) (nat_lt a.item b.item) parts.1) as (λ c. AtMost b a) [
      | inl other ↦ inl (apart high other)
      | inr later ↦ at-or-below high (ltb-false a.item b.item later)
    ]
  where
    apart : b.rank ≤ a.rank → (a.rank == b.rank) ≡ false → b.rank < a.rank
    apart le no' = elim (cases_lt b.rank a.rank) as (λ c. b.rank < a.rank) [ inl lt ↦ lt | inr ge ↦ absurd (both_ways (a.rank == b.rank) no' (eq-eqb a.rank b.rank (omega (arith, le, ge)))) ]

    at-or-below : b.rank ≤ a.rank → b.item ≤ a.item → AtMost b a
    at-or-below le low = elim (cases_lt b.rank a.rank) as (λ c. AtMost b a) [ inl lt ↦ inl lt | inr ge ↦ inr (omega (arith, le, ge), low) ]

-- Each candidate is at most all after it.
abbrev pub Rises : List Candidate → Type 0
Rises [] = Unit {0}
Rises (c ∷ cs) = AllByRecursion (AtMost c) cs × Rises cs

pub all-most : (a b : Candidate) (cs : List Candidate) → AtMost a b → AllByRecursion (AtMost b) cs → AllByRecursion (AtMost a) cs
all-most a b [] most all = tt
all-most a b (c ∷ cs) most all = (most-chain a b c most all.0, all-most a b cs most all.1)

-- what a sort leaves rises
pub sorted-rises : (cs : List Candidate) → IsSorted compared cs → Rises cs
sorted-rises [] sorted = tt
sorted-rises (c ∷ cs) sorted =
    let rest : IsSorted compared cs = λ k d p q. rw Rattle.std.proofs.Common.add-one (rw Rattle.std.proofs.Common.add-one at (sorted (suc k) d (omega arith) (omega arith))) in
    let up = sorted-rises cs rest in
    (below c cs sorted up, up)
  where
    below : (a : Candidate) (bs : List Candidate) → IsSorted compared (a ∷ bs) → Rises bs → AllByRecursion (AtMost a) bs
    below a [] order up = tt
    below a (b ∷ bs) order up =
        let first : AtMost a b = behind-most b a (sym (before-compared b a) ∙ order 0 a (omega arith) (omega arith)) in
        (first, all-most a b bs first up.0)

-- a sum over candidates
abbrev pub total : (Candidate → ℕ) → List Candidate → ℕ
total f [] = 0
total f (c ∷ cs) = f c + total f cs

abbrev is_same : Candidate → Candidate → Bool
is_same a b = (a.rank == b.rank) && (a.item == b.item)

same-itself : (a : Candidate) → is_same a a ≡ true
same-itself a = and_from (a.rank == a.rank) (a.item == a.item) (eq-eqb a.rank a.rank refl) (eq-eqb a.item a.item refl)

same-equal : (a b : Candidate) → is_same a b ≡ true → a ≡ b
same-equal a b e =
    let parts = and_parts (a.rank == b.rank) (a.item == b.item) e in
    let ranks = eqb-true a.rank b.rank parts.0 in
    let items = eqb-true a.item b.item parts.1 in
    λ i. record { rank = ranks i; item = items i }

abbrev count_same : Candidate → Candidate → ℕ
count_same a b = if is_same a b then 1 else 0

-- what holds of all candidates holds of each that is among them
found : (P : Candidate → Type 0) (a : Candidate) (cs : List Candidate) → AllByRecursion P cs → 0 < total (count_same a) cs → P a
found P a [] all more = absurd (omega (arith, more))
found P a (c ∷ cs) all more = elim (cases_Bool (is_same a c)) as (λ b. P a) [
  | inl same ↦ subst P (sym (same-equal a c same)) all.0
  | inr other ↦ found P a cs all.1 (let none : count_same a c ≡ 0 = ap (λ t. if t then 1 else 0) other in omega (arith, more, none))
]

-- So lists that rise and have the same sums are the same.
pub same-list : (xs bs : List Candidate) → Rises xs → Rises bs → ((f : Candidate → ℕ) → total f xs ≡ total f bs) → xs ≡ bs
same-list [] [] up down sums = refl
same-list [] (b ∷ bs) up down sums = absurd (omega (arith, sums (λ c. 1)))
same-list (a ∷ xs) [] up down sums = absurd (omega (arith, sums (λ c. 1)))
same-list (a ∷ xs) (b ∷ bs) up down sums =
    let one : (c : Candidate) → count_same c c ≡ 1 = λ c. ap (λ t. if t then 1 else 0) (same-itself c) in
    let forth : AtMost b a = found (AtMost b) a (b ∷ bs) (most-itself b, down.0) (omega (arith, sums (count_same a), one a)) in
    let back : AtMost a b = found (AtMost a) b (a ∷ xs) (most-itself a, up.0) (omega (arith, sums (count_same b), one b)) in
    let heads = most-same a b back forth in
    let tails = same-list xs bs up.1 down.1 (λ f. omega (arith, sums f, ap f heads)) in
    ap₂ (λ c cs. c ∷ cs) heads tails
