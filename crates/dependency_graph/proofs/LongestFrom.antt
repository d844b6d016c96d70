-- The longest chains ahead, from one stage to the one before it.
use Rattle.std.proofs.Common.{◌≡◌, ℕ, zero, suc, ◌+◌, ◌<◌, ◌≤◌, ◌⊎◌, max, nat_le, Bool, true, false, not, ◌&&◌, ◌==◌, if◌then◌else◌, refl, sym, ap₂, ◌∙◌, subst, inl, inr, arith, le-leb, eq-eqb, ne_eqb}
use Rattle.std.proofs.lemmas.Bool.{lt-leb, and_right, cases_lt, cases_eq, cases_Bool}
use Rattle.lists.proofs.Conditions.{counted_if, uncounted_if}
use Rattle.rollout_rules.specs.Operations.{run_start}
use Rattle.rollout_rules.specs.Release.{most_below}
use Rattle.rollout_laws.proofs.Runs.{run_start-most, run_start-passes}
use Rattle.dependency_graph.specs.Chains.{longest_from}
use Rattle.dependency_graph.proofs.EnoughTurns.{most-same, most-none}

pub most-const : (n x : ℕ) → 0 < n → most_below n (λ k. x) ≡ x
most-const zero x some = absurd (omega arith)
most-const (suc zero) x some = omega arith
most-const (suc (suc n)) x some = omega (arith, most-const (suc n) x (omega arith))

pub most-max : (n : ℕ) (f g : ℕ → ℕ) → most_below n (λ k. max (f k) (g k)) ≡ max (most_below n f) (most_below n g)
most-max zero f g = refl
most-max (suc n) f g = omega (arith, most-max n f g)

pub most-one : (n v x : ℕ) → v < n → most_below n (λ k. if k == v then x else 0) ≡ x
most-one zero v x lt = absurd (omega arith)
most-one (suc n) v x lt = elim (cases_lt v n) as (λ c. most_below (suc n) (λ k. if k == v then x else 0) ≡ x) [
  | inl below ↦ omega (arith, most-one n v x below, uncounted_if (n == v) x (ne_eqb n v (λ e. omega (arith, e, below))))
  | inr at ↦ omega (arith, most-none n (λ k. if k == v then x else 0) (λ k low. uncounted_if (k == v) x (ne_eqb k v (λ e. omega (arith, e, low, at)))), counted_if (n == v) x (eq-eqb n v (omega (arith, at, lt))))
]

pub most-where : (b : Bool) (n : ℕ) (f : ℕ → ℕ) → most_below n (λ k. if b then f k else 0) ≡ (if b then most_below n f else 0)
most-where true n f = refl
most-where false n f = most-none n (λ k. 0) (λ k lt. refl)

-- a run begins after a stage that fails
pub run_start-stops : (run : ℕ → Bool) (u v : ℕ) → run_start run u ≡ v + 1 → run v ≡ false
run_start-stops run zero v e = absurd (omega (arith, e))
run_start-stops run (suc u) v e = elim (cases_Bool (run u)) as (λ c. run v ≡ false) [
  | inl passes ↦ let start : run_start run u ≡ v + 1 = rw passes at e in run_start-stops run u v start
  | inr fails ↦ let start : u + 1 ≡ v + 1 = rw fails at e in let at : u ≡ v = omega (arith, start) in subst (λ k. run k ≡ false) at fails
]

run-reaches : (run : ℕ → Bool) (u v : ℕ) → v < u → nat_le (run_start run u) v ≡ (run v && nat_le (run_start run u) (v + 1))
run-reaches run u v lt = elim (cases_lt (run_start run u) (v + 1)) as (λ c. nat_le (run_start run u) v ≡ (run v && nat_le (run_start run u) (v + 1))) [
  | inl low ↦
      let le : run_start run u ≤ v = omega (arith, low) in
      let a = le-leb (run_start run u) v le in
      let b = run_start-passes run u v le lt in
      let c = le-leb (run_start run u) (v + 1) (omega (arith, low)) in
      rw (a, b, c) refl
  | inr high ↦ elim (cases_eq (run_start run u) (v + 1)) as (λ c. nat_le (run_start run u) v ≡ (run v && nat_le (run_start run u) (v + 1))) [
    | inl at ↦
        let a = lt-leb (run_start run u) v (omega (arith, at)) in
        let b = run_start-stops run u v at in
        rw (a, b) refl
    | inr other ↦
        let a = lt-leb (run_start run u) v (omega (arith, high)) in
        let c = lt-leb (run_start run u) (v + 1) (apart (run_start run u) (v + 1) high other) in
        a ∙ sym (and_right (run v) (nat_le (run_start run u) (v + 1)) c)
  ]
]
  where
    apart : (a b : ℕ) → b ≤ a → (a ≡ b → ⊥) → b < a
    apart a b le ne = elim (cases_lt b a) as (λ c. b < a) [
      | inl less ↦ less
      | inr more ↦ absurd (ne (omega (arith, le, more)))
    ]

ahead-of : (a b c : Bool) (x : ℕ) → (if true && a && (b && c) then x else 0) ≡ max 0 (if b then (if true && a && c then x else 0) else 0)
ahead-of true true true x = omega arith
ahead-of true true false x = omega arith
ahead-of true false true x = omega arith
ahead-of true false false x = omega arith
ahead-of false true true x = omega arith
ahead-of false true false x = omega arith
ahead-of false false true x = omega arith
ahead-of false false false x = omega arith

here-of : (a b : Bool) (x : ℕ) → (if true && a && true then x else 0) ≡ max (if a then x else 0) (if b then 0 else 0)
here-of true true x = omega arith
here-of true false x = omega arith
here-of false true x = omega arith
here-of false false x = omega arith

none-of : (b : Bool) → 0 ≡ max 0 (if b then 0 else 0)
none-of true = refl
none-of false = refl

-- From one stage to the one before it: what counts there, and what is ahead where the run goes on.
pub longest-step : (last : ℕ) (run counts : ℕ → Bool) (number : ℕ → ℕ) (v : ℕ) → v < last → longest_from last run counts number v ≡ max (if counts v then number v else 0) (if run v then longest_from last run counts number (v + 1) else 0)
longest-step last run counts number v lt =
    most-same last _ (λ u. max (if u == v then (if counts v then number v else 0) else 0) (if run v then (if nat_le (v + 1) u && counts u && nat_le (run_start run u) (v + 1) then number u else 0) else 0)) (λ u low. each u)
    ∙ most-max last (λ u. if u == v then (if counts v then number v else 0) else 0) (λ u. if run v then (if nat_le (v + 1) u && counts u && nat_le (run_start run u) (v + 1) then number u else 0) else 0)
    ∙ ap₂ max (most-one last v (if counts v then number v else 0) lt) (most-where (run v) last (λ u. if nat_le (v + 1) u && counts u && nat_le (run_start run u) (v + 1) then number u else 0))
  where
    each : (u : ℕ) → (if nat_le v u && counts u && nat_le (run_start run u) v then number u else 0) ≡ max (if u == v then (if counts v then number v else 0) else 0) (if run v then (if nat_le (v + 1) u && counts u && nat_le (run_start run u) (v + 1) then number u else 0) else 0)
    each u = elim (cases_lt v u) as (λ c. (if nat_le v u && counts u && nat_le (run_start run u) v then number u else 0) ≡ max (if u == v then (if counts v then number v else 0) else 0) (if run v then (if nat_le (v + 1) u && counts u && nat_le (run_start run u) (v + 1) then number u else 0) else 0)) [
      | inl past ↦
          let a = le-leb v u (omega (arith, past)) in
          let b = le-leb (v + 1) u (omega (arith, past)) in
          let c = ne_eqb u v (λ e. omega (arith, e, past)) in
          let d = run-reaches run u v past in
          rw (a, b, c, d) (ahead-of (counts u) (run v) (nat_le (run_start run u) (v + 1)) (number u))
      | inr low ↦ elim (cases_eq u v) as (λ c. (if nat_le v u && counts u && nat_le (run_start run u) v then number u else 0) ≡ max (if u == v then (if counts v then number v else 0) else 0) (if run v then (if nat_le (v + 1) u && counts u && nat_le (run_start run u) (v + 1) then number u else 0) else 0)) [
        | inl at ↦
            let a = le-leb v u (omega (arith, at)) in
            let b = lt-leb (v + 1) u (omega (arith, at)) in
            let c = eq-eqb u v at in
            let d = le-leb (run_start run u) v (omega (arith, at, run_start-most run u)) in
            let e = here-of (counts u) (run v) (number u) in
            rw (a, b, c, d) (subst (λ k. (if true && counts u && true then number u else 0) ≡ max (if counts k then number k else 0) (if run v then 0 else 0)) at e)
        | inr other ↦
            let a = lt-leb v u (below u v low other) in
            let b = lt-leb (v + 1) u (omega (arith, low)) in
            let c = ne_eqb u v other in
            rw (a, b, c) (none-of (run v))
      ]
    ]
      where
        below : (a b : ℕ) → a ≤ b → (a ≡ b → ⊥) → a < b
        below a b le ne = elim (cases_lt a b) as (λ c. a < b) [
          | inl less ↦ less
          | inr more ↦ absurd (ne (omega (arith, le, more)))
        ]

-- at the end there is nothing ahead
pub longest-end : (last : ℕ) (run counts : ℕ → Bool) (number : ℕ → ℕ) → longest_from last run counts number last ≡ 0
longest-end last run counts number = most-none last _ (λ u low. let a = lt-leb last u low in rw a refl)

both-of : (a b c : Bool) (x : ℕ) → (if a && (b && c) then x else 0) ≡ (if b && a && c then x else 0)
both-of true true true x = refl
both-of true true false x = refl
both-of true false true x = refl
both-of true false false x = refl
both-of false true true x = refl
both-of false true false x = refl
both-of false false true x = refl
both-of false false false x = refl

-- what counts in the run that begins after a stage
pub longest-run : (last : ℕ) (run counts : ℕ → Bool) (number : ℕ → ℕ) (s : ℕ) → most_below last (λ u. if counts u && (run_start run u == s + 1) then number u else 0) ≡ (if not (run s) then longest_from last run counts number (s + 1) else 0)
longest-run last run counts number s =
    most-same last _ (λ u. if not (run s) then (if nat_le (s + 1) u && counts u && nat_le (run_start run u) (s + 1) then number u else 0) else 0) (λ u low. each u (cases_Bool (run s)))
    ∙ most-where (not (run s)) last (λ u. if nat_le (s + 1) u && counts u && nat_le (run_start run u) (s + 1) then number u else 0)
  where
    begins : (u : ℕ) → run s ≡ false → (run_start run u == s + 1) ≡ (nat_le (s + 1) u && nat_le (run_start run u) (s + 1))
    begins u fails = elim (cases_eq (run_start run u) (s + 1)) as (λ c. (run_start run u == s + 1) ≡ (nat_le (s + 1) u && nat_le (run_start run u) (s + 1))) [
      | inl at ↦
          let a = eq-eqb (run_start run u) (s + 1) at in
          let b = le-leb (s + 1) u (omega (arith, at, run_start-most run u)) in
          let c = le-leb (run_start run u) (s + 1) (omega (arith, at)) in
          rw (a, b, c) refl
      | inr other ↦ ne_eqb (run_start run u) (s + 1) other ∙ sym (elim (cases_lt s u) as (λ c. (nat_le (s + 1) u && nat_le (run_start run u) (s + 1)) ≡ false) [
        | inr low ↦ let b = lt-leb (s + 1) u (omega (arith, low)) in rw b refl
        | inl past ↦ elim (cases_lt s (run_start run u)) as (λ c. (nat_le (s + 1) u && nat_le (run_start run u) (s + 1)) ≡ false) [
          | inr low ↦ absurd (clash (run s) fails (run_start-passes run u s low past))
          | inl high ↦ elim (cases_lt (s + 1) (run_start run u)) as (λ c. (nat_le (s + 1) u && nat_le (run_start run u) (s + 1)) ≡ false) [
            | inl more ↦ and_right (nat_le (s + 1) u) (nat_le (run_start run u) (s + 1)) (lt-leb (run_start run u) (s + 1) more)
            | inr less ↦ absurd (other (omega (arith, high, less)))
          ]
        ]
      ])
    ]
      where
        clash : (b : Bool) → b ≡ false → b ≡ true → ⊥
        clash b p q = cc

    each : (u : ℕ) → (run s ≡ true) ⊎ (run s ≡ false) → (if counts u && (run_start run u == s + 1) then number u else 0) ≡ (if not (run s) then (if nat_le (s + 1) u && counts u && nat_le (run_start run u) (s + 1) then number u else 0) else 0)
    each u (inl passes) = rw passes (uncounted_if (counts u && (run_start run u == s + 1)) (number u) (and_right (counts u) (run_start run u == s + 1) (ne_eqb (run_start run u) (s + 1) (λ e. clash (run s) (run_start-stops run u s e) passes))))
      where
        clash : (b : Bool) → b ≡ false → b ≡ true → ⊥
        clash b p q = cc
    each u (inr fails) = let same = begins u fails in rw (fails, same) (both-of (counts u) (nat_le (s + 1) u) (nat_le (run_start run u) (s + 1)) (number u))
