-- Cells that are raised, one after another.
use Rattle.std.proofs.Common.{◌≡◌, ℕ, zero, suc, ◌+◌, ◌-◌, ◌*◌, ◌<◌, ◌≤◌, false, ◌&&◌, ◌==◌, if◌then◌else◌, List, [], ◌∷◌, length, length-set, set, slice_index, nat_le, nat_lt, le-ltb, inl, inr, refl, sym, ap, ap₂, ◌∙◌, subst, arith, eq-eqb, ne_eqb, le-leb, lt-ltb}
use Rattle.std.proofs.lemmas.Bool.{cases_Bool, cases_eq, cases_lt, lt-leb}
use Rattle.std.proofs.lemmas.List.{get_or-set_same, get_or-set_other}
use Rattle.lists.proofs.Conditions.{or_false_parts, if_either}
use Rattle.rollout_rules.proofs.Below.{sum_below-zero, sum_below-but}
use Rattle.dependency_graph.proofs.Changed.{place_in}
use Rattle.dependency_graph.specs.Cells.{Cells, cell, between, AreRaised, only, among, has, AreOnce}

-- ---- places of cells
times-up : (q n k : ℕ) → q < n → (q + 1) * k ≤ n * k
times-up q n k lt = grind arith

pub index-inside : (n stages q s : ℕ) → q < n → s < stages → q * stages + s < n * stages
index-inside n stages q s lt low = grind (arith, times-up q n stages lt)

pub index-apart : (stages q s k u : ℕ) → s < stages → u < stages → q * stages + s ≡ k * stages + u → q ≡ k
index-apart stages q s k u low low' e = elim (cases_lt q k) as (λ _. q ≡ k) [
  | inl less ↦ absurd (omega (arith, further q k stages less, low, e))
  | inr least ↦ elim (cases_lt k q) as (λ _. q ≡ k) [
    | inl more ↦ absurd (omega (arith, further k q stages more, low', e))
    | inr most ↦ omega arith
  ]
]
  where
    further : (q k n : ℕ) → q < k → q * n + n ≤ k * n
    further q k n lt = grind (arith, times-up q k n lt)

-- ---- numbers between stages
pub between-plus : (low high s a b : ℕ) → between low high s (a + b) ≡ between low high s a + between low high s b
between-plus low high s a b = elim (cases_Bool (nat_le low s && nat_lt s high)) as (λ _. between low high s (a + b) ≡ between low high s a + between low high s b) [
  | inl yes' ↦ rw yes' refl
  | inr no' ↦ rw no' refl
]

pub between-in : (low high s n : ℕ) → low ≤ s → s < high → between low high s n ≡ n
between-in low high s n le lt = let a = le-leb low s le in let b = lt-ltb s high lt in rw (a, b) refl

pub between-before : (low high s n : ℕ) → s < low → between low high s n ≡ 0
between-before low high s n lt = let a : nat_le low s ≡ false = lt-leb low s lt in rw a refl

pub between-past : (low high s n : ℕ) → high ≤ s → between low high s n ≡ 0
between-past low high s n le = elim (cases_Bool (nat_le low s)) as (λ _. between low high s n ≡ 0) [
  | inl near ↦ let b : nat_lt s high ≡ false = le-ltb s high le in rw (near, b) refl
  | inr far ↦ rw far refl
]

between-more : (low high s n : ℕ) → low ≤ high → between low (high + 1) s n ≡ between low high s n + between high (high + 1) s n
between-more low high s n le = elim (cases_lt s low) as (λ _. between low (high + 1) s n ≡ between low high s n + between high (high + 1) s n) [
  | inl before ↦ omega (arith, between-before low (high + 1) s n before, between-before low high s n before, between-before high (high + 1) s n (omega arith))
  | inr from ↦ elim (cases_lt s high) as (λ _. between low (high + 1) s n ≡ between low high s n + between high (high + 1) s n) [
    | inl within ↦ omega (arith, between-in low (high + 1) s n from (omega arith), between-in low high s n from within, between-before high (high + 1) s n within)
    | inr past ↦ elim (cases_eq s high) as (λ _. between low (high + 1) s n ≡ between low high s n + between high (high + 1) s n) [
      | inl here ↦ omega (arith, between-in low (high + 1) s n from (omega (arith, here)), between-past low high s n past, between-in high (high + 1) s n past (omega (arith, here)))
      | inr beyond ↦ omega (arith, between-past low (high + 1) s n (omega (arith, beyond)), between-past low high s n past, between-past high (high + 1) s n (omega (arith, beyond)))
    ]
  ]
]

-- ---- cells
pub raised-none : (low : ℕ) (amount : ℕ → ℕ) (t : Cells) → AreRaised low low amount t t
raised-none low amount t = record {
  stages = refl;
  all = refl;
  each = λ q s lt inside. elim (cases_lt s low) as (λ _. cell t q s ≡ cell t q s + between low low s (amount q)) [
    | inl before ↦ omega (arith, between-before low low s (amount q) before)
    | inr past ↦ omega (arith, between-past low low s (amount q) past)
  ];
}

pub raised-zero : (low high : ℕ) (amount : ℕ → ℕ) (t : Cells) → ((q : ℕ) → amount q ≡ 0) → AreRaised low high amount t t
raised-zero low high amount t none = record {
  stages = refl;
  all = refl;
  each = λ q s lt inside. elim (cases_Bool (nat_le low s && nat_lt s high)) as (λ _. cell t q s ≡ cell t q s + between low high s (amount q)) [
    | inl yes' ↦ rw yes' (omega (arith, none q))
    | inr no' ↦ rw no' (omega arith)
  ];
}

-- one cell, where the others are as they were
raised-at : (t later : Cells) (q s n : ℕ) → s < t.stages → later.stages ≡ t.stages → length later.cells ≡ length t.cells
    → slice_index later.cells (q * t.stages + s) ≡ cell t q s + n
    → ((m : ℕ) → (q * t.stages + s ≡ m → ⊥) → slice_index later.cells m ≡ slice_index t.cells m)
    → AreRaised s (s + 1) (only q n) t later
raised-at t later q s n low same all here others = record {
  stages = same;
  all = all;
  each = λ k u low' inside.
      let at : k * later.stages + u ≡ k * t.stages + u = ap (λ x. k * x + u) same in
      ap (slice_index later.cells) at ∙ each k u low';
}
  where
    each : (k u : ℕ) → u < t.stages → slice_index later.cells (k * t.stages + u) ≡ cell t k u + between s (s + 1) u (only q n k)
    each k u low' = elim (cases_eq (q * t.stages + s) (k * t.stages + u)) as (λ _. slice_index later.cells (k * t.stages + u) ≡ cell t k u + between s (s + 1) u (only q n k)) [
      | inl same ↦
          let row : q ≡ k = index-apart t.stages q s k u low low' same in
          let stage : s ≡ u = omega (arith, same, ap (λ x. x * t.stages) row) in
          let added = between-in s (s + 1) u (only q n k) (omega (arith, stage)) (omega (arith, stage)) in
          let is_n : only q n k ≡ n = ap (λ b. if b then n else 0) (eq-eqb q k row) in
          omega (arith, here, added, is_n, ap (slice_index later.cells) same, ap (slice_index t.cells) same)
      | inr other ↦
          let kept = others (k * t.stages + u) other in
          elim (cases_eq q k) as (λ _. slice_index later.cells (k * t.stages + u) ≡ cell t k u + between s (s + 1) u (only q n k)) [
            | inl row ↦ elim (cases_lt u s) as (λ _. slice_index later.cells (k * t.stages + u) ≡ cell t k u + between s (s + 1) u (only q n k)) [
              | inl before ↦ omega (arith, kept, between-before s (s + 1) u (only q n k) before)
              | inr from ↦ elim (cases_eq s u) as (λ _. slice_index later.cells (k * t.stages + u) ≡ cell t k u + between s (s + 1) u (only q n k)) [
                | inl here ↦ absurd (other (ap₂ (λ x y. x * t.stages + y) row here))
                | inr past ↦ omega (arith, kept, between-past s (s + 1) u (only q n k) (omega (arith, from, past)))
              ]
            ]
            | inr away ↦
                let none : only q n k ≡ 0 = ap (λ b. if b then n else 0) (ne_eqb q k away) in
                let zero' : between s (s + 1) u (only q n k) ≡ 0 = ap (between s (s + 1) u) none ∙ if_either (nat_le s u && nat_lt u (s + 1)) 0 in
                omega (arith, kept, zero')
          ]
    ]

-- one cell raised by a number, and lowered
pub raised-one : (t later : Cells) (q s n : ℕ) → s < t.stages → q * t.stages + s < length t.cells → later ≡ record t { cells = set t.cells (q * t.stages + s) (cell t q s + n) } → AreRaised s (s + 1) (only q n) t later
raised-one t later q s n low inside is =
    let m = q * t.stages + s in
    let put = set t.cells m (cell t q s + n) in
    subst (AreRaised s (s + 1) (only q n) t) (sym is)
    (raised-at t (record t { cells = put }) q s n low refl (length-set t.cells m (cell t q s + n)) (get_or-set_same t.cells m (cell t q s + n) 0 inside)
    (λ k other. get_or-set_other t.cells m k (cell t q s + n) 0 (λ e. other (sym e))))

pub lowered-one : (t later : Cells) (q s n : ℕ) → s < t.stages → q * t.stages + s < length t.cells → n ≤ cell t q s → later ≡ record t { cells = set t.cells (q * t.stages + s) (cell t q s - n) } → AreRaised s (s + 1) (only q n) later t
lowered-one t later q s n low inside le is =
    let m = q * t.stages + s in
    let put = set t.cells m (cell t q s - n) in
    subst (λ x. AreRaised s (s + 1) (only q n) x t) (sym is)
    (raised-at (record t { cells = put }) t q s n low refl (sym (length-set t.cells m (cell t q s - n))) (omega (arith, le, get_or-set_same t.cells m (cell t q s - n) 0 inside))
    (λ k other. sym (get_or-set_other t.cells m k (cell t q s - n) 0 (λ e. other (sym e)))))

-- a cell that isn't raised yet
pub raised-past : (low high : ℕ) (amount : ℕ → ℕ) (t later : Cells) → AreRaised low high amount t later → (q s : ℕ) → s < t.stages → q * t.stages + s < length t.cells → high ≤ s → cell later q s ≡ cell t q s
raised-past low high amount t later so q s lt inside past = omega (arith, so.each q s lt inside, between-past low high s (amount q) past)

-- one stage more
pub raised-more : (low high : ℕ) (amount : ℕ → ℕ) (t mid later : Cells) → low ≤ high → AreRaised low high amount t mid → AreRaised high (high + 1) amount mid later → AreRaised low (high + 1) amount t later
raised-more low high amount t mid later le first next = record {
  stages = next.stages ∙ first.stages;
  all = next.all ∙ first.all;
  each = λ q s lt inside.
      let lt' = subst (λ n. s < n) (sym first.stages) lt in
      let inside' : q * mid.stages + s < length mid.cells = omega (arith, inside, first.all, ap (λ n. q * n) first.stages) in
      omega (arith, first.each q s lt inside, next.each q s lt' inside', between-more low high s (amount q) le);
}

-- the same where that stage is raised first
pub raised-after : (low high : ℕ) (amount : ℕ → ℕ) (t mid later : Cells) → low ≤ high → AreRaised high (high + 1) amount t mid → AreRaised low high amount mid later → AreRaised low (high + 1) amount t later
raised-after low high amount t mid later le first next = record {
  stages = next.stages ∙ first.stages;
  all = next.all ∙ first.all;
  each = λ q s lt inside.
      let lt' = subst (λ n. s < n) (sym first.stages) lt in
      let inside' : q * mid.stages + s < length mid.cells = omega (arith, inside, first.all, ap (λ n. q * n) first.stages) in
      omega (arith, first.each q s lt inside, next.each q s lt' inside', between-more low high s (amount q) le);
}

-- one amount more
pub raised-both : (low high : ℕ) (amount more both : ℕ → ℕ) (t mid later : Cells) → AreRaised low high amount t mid → AreRaised low high more mid later → ((q : ℕ) → both q ≡ amount q + more q) → AreRaised low high both t later
raised-both low high amount more both t mid later first next is = record {
  stages = next.stages ∙ first.stages;
  all = next.all ∙ first.all;
  each = λ q s lt inside.
      let lt' = subst (λ n. s < n) (sym first.stages) lt in
      let inside' : q * mid.stages + s < length mid.cells = omega (arith, inside, first.all, ap (λ n. q * n) first.stages) in
      omega (arith, first.each q s lt inside, next.each q s lt' inside', between-plus low high s (amount q) (more q), ap (between low high s) (is q));
}

-- ---- amounts of a row
pub among-next : (row : List ℕ) (amount : ℕ → ℕ) (n k : ℕ) → among row amount (n + 1) k ≡ among row amount n k + only (slice_index row n) (amount (slice_index row n)) k
among-next row amount n k = let e : suc n ≡ n + 1 = omega arith in subst (λ m. among row amount m k ≡ among row amount n k + only (slice_index row n) (amount (slice_index row n)) k) e refl

-- those ahead of a place have nothing of its resource
pub among-ahead : (row : List ℕ) (amount : ℕ → ℕ) (n : ℕ) → AreOnce row → n < length row → among row amount n (slice_index row n) ≡ 0
among-ahead row amount n once lt =
    sum_below-zero n (λ j. only (slice_index row j) (amount (slice_index row j)) (slice_index row n)) (λ j before.
    ap (λ b. if b then amount (slice_index row j) else 0) (ne_eqb (slice_index row j) (slice_index row n) (λ e. let same = once j n (omega (arith, before, lt)) lt e in absurd (omega (arith, same, before)))))

-- a row that doesn't have a number has it nowhere
pub has-not : (row : List ℕ) (q : ℕ) → has row q ≡ false → (k : ℕ) → k < length row → slice_index row k ≡ q → ⊥
has-not [] q none k lt e = omega (arith, lt)
has-not (x ∷ row) q none zero lt e = let is = eq-eqb x q e in let a = (or_false_parts (x == q) (has row q) none).0 in absurd (cc)
has-not (x ∷ row) q none (suc k) lt e = has-not row q (or_false_parts (x == q) (has row q) none).1 k (omega (arith, lt)) e

-- a row with each of its resources once has all of each one's amount
pub among-all : (row : List ℕ) (amount : ℕ → ℕ) (q : ℕ) → AreOnce row → (has row q ≡ false → amount q ≡ 0) → among row amount (length row) q ≡ amount q
among-all row amount q once rest = elim (cases_Bool (has row q)) as (λ _. among row amount (length row) q ≡ amount q) [
  | inl there ↦
      let place = place_in q row there in
      let n = place.0 in
      let but = sum_below-but (length row) n (λ j. only (slice_index row j) (amount (slice_index row j)) q) (λ j. 0) place.1
      (λ j lt other. ap (λ b. if b then amount (slice_index row j) else 0) (ne_eqb (slice_index row j) q (λ e. other (once j n lt place.1 (e ∙ sym place.2))))) in
      let none = sum_below-zero (length row) (λ j. 0) (λ j lt. refl) in
      let here : only (slice_index row n) (amount (slice_index row n)) q ≡ amount q = subst (λ x. only x (amount x) q ≡ amount q) (sym place.2) (ap (λ b. if b then amount q else 0) (eq-eqb q q refl)) in
      omega (arith, but, none, here)
  | inr away ↦
      sum_below-zero (length row) (λ j. only (slice_index row j) (amount (slice_index row j)) q) (λ j lt. ap (λ b. if b then amount (slice_index row j) else 0) (ne_eqb (slice_index row j) q (has-not row q away j lt)))
      ∙ sym (rest away)
]
