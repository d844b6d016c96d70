-- The order of the pairs that a switch may hold of an item.
use Rattle.std.proofs.Common.{List, arith, eq-eqb, eqb-true, inl, inr, leb-true, ltb-true, nat_le, nat_lt, refl, sym, true, ℕ, ⊎_elim, ◌&&◌, ◌+◌, ◌<◌, ◌==◌, ◌≡◌, ◌≤◌, ◌⊎◌, Bool, ap, ap₂, false, if◌then◌else◌, ◌||◌, ◌∙◌}
use Rattle.std.proofs.lemmas.Bool.{and_from, and_parts, cond_both, le-leb, lt-ltb, or_cases, or_left, or_right, ne_eqb}
use Rattle.lists.proofs.Conditions.{and_with_false}
use Rattle.rollout_rules.specs.declared.held.Held.{Held}
use Rattle.rollout_rules.specs.Agent.{Holding, held_after, is_at_most, is_next_command, pair_of}

-- a pair is at most another: by its migration, or in the same one by its number
abbrev pub AtMost : Held → Held → Type 0
AtMost a b = (a.migration < b.migration) ⊎ ((a.migration ≡ b.migration) × (a.number ≤ b.number))

-- an operation is the next: by its number in the same migration, or as any of a later one
abbrev pub IsNextCommand : Held → Held → Type 0
IsNextCommand held asked = ((asked.migration ≡ held.migration) × (asked.number ≡ held.number + 1)) ⊎ ((held.migration < asked.migration) × (1 ≤ asked.number))

pub at_most-is : (a b : Held) → is_at_most a b ≡ true → AtMost a b
at_most-is a b e =
    ⊎_elim
    (λ (lt : nat_lt a.migration b.migration ≡ true). inl (ltb-true _ _ lt))
    (λ (same : ((a.migration == b.migration) && nat_le a.number b.number) ≡ true).
    let parts = and_parts (a.migration == b.migration) (nat_le a.number b.number) same in
    inr (eqb-true _ _ parts.0, leb-true _ _ parts.1))
    (or_cases (nat_lt a.migration b.migration) ((a.migration == b.migration) && nat_le a.number b.number) e)

pub at_most-from : (a b : Held) → AtMost a b → is_at_most a b ≡ true
at_most-from a b (inl lt) = or_left _ _ (lt-ltb a.migration b.migration lt)
at_most-from a b (inr same) = or_right (nat_lt a.migration b.migration) _ (and_from _ _ (eq-eqb a.migration b.migration same.0) (le-leb a.number b.number same.1))

pub at_most-refl : (a : Held) → is_at_most a a ≡ true
at_most-refl a = at_most-from a a (inr (refl, omega arith))

pub both_at_most : (a b c : Held) → AtMost a b → AtMost b c → AtMost a c
both_at_most a b c (inl x) (inl y) = inl (omega (arith, x, y))
both_at_most a b c (inl x) (inr y) = inl (omega (arith, x, y.0))
both_at_most a b c (inr x) (inl y) = inl (omega (arith, x.0, y))
both_at_most a b c (inr x) (inr y) = inr (omega (arith, x.0, y.0), omega (arith, x.1, y.1))

pub at_most-trans : (a b c : Held) → is_at_most a b ≡ true → is_at_most b c ≡ true → is_at_most a c ≡ true
at_most-trans a b c x y = at_most-from a c (both_at_most a b c (at_most-is a b x) (at_most-is b c y))

pub next_command-is : (held asked : Held) → is_next_command held asked ≡ true → IsNextCommand held asked
next_command-is held asked e =
    ⊎_elim
    (λ (same : ((asked.migration == held.migration) && (asked.number == held.number + 1)) ≡ true).
    let parts = and_parts (asked.migration == held.migration) (asked.number == held.number + 1) same in
    inl (eqb-true _ _ parts.0, eqb-true _ _ parts.1))
    (λ (later : (nat_lt held.migration asked.migration && nat_le 1 asked.number) ≡ true).
    let parts = and_parts (nat_lt held.migration asked.migration) (nat_le 1 asked.number) later in
    inr (ltb-true _ _ parts.0, leb-true _ _ parts.1))
    (or_cases ((asked.migration == held.migration) && (asked.number == held.number + 1)) (nat_lt held.migration asked.migration && nat_le 1 asked.number) e)

pub next_is_more : (held asked : Held) → IsNextCommand held asked → AtMost held asked
next_is_more held asked (inl same) = inr (sym same.0, omega (arith, same.1))
next_is_more held asked (inr later) = inl later.0

pub after-more : (holding : Holding) (asked : Held) (content : List ℕ) → is_at_most holding.held (held_after holding asked content).held ≡ true
after-more holding asked content =
    cond_both (is_next_command holding.held asked) (record { held = asked; content = content }) holding (λ v. is_at_most holding.held v.held ≡ true)
    (λ e. at_most-from holding.held asked (next_is_more holding.held asked (next_command-is holding.held asked e)))
    (λ _. at_most-refl holding.held)

-- number 0 is the next after no pair, so that a question changes nothing of what is held
pub probe_never_next : (held : Held) (migration : ℕ) → is_next_command held (pair_of migration 0) ≡ false
probe_never_next held migration =
    let other : (0 == held.number + 1) ≡ false = ne_eqb 0 (held.number + 1) (λ same. omega (arith, same)) in
    ap₂ (λ (a b : Bool). a || b) (ap (λ (b : Bool). (migration == held.migration) && b) other ∙ and_with_false (migration == held.migration)) (and_with_false (nat_lt held.migration migration))

pub held_after-probe : (holding : Holding) (migration : ℕ) (content : List ℕ) → held_after holding (pair_of migration 0) content ≡ holding
held_after-probe holding migration content = ap (λ (b : Bool). if b then record { held = pair_of migration 0; content = content } else holding) (probe_never_next holding.held migration)
