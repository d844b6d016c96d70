-- The order of pairs, the number for which a pair stands, and what is held after a command.
use Rattle.std.proofs.Common.{◌≡◌, ℕ, ◌+◌, ◌<◌, ◌≤◌, ◌⊎◌, true, ◌&&◌, ◌==◌, List, ⊎_elim, inl, inr, arith, eq-eqb, ne_eqb}
use Rattle.std.proofs.lemmas.Bool.{and_from, or_left, or_right, cond-true, cond-false, lt-ltb, le-leb, false_from_ne_true}
use Rattle.rollout_rules.specs.Agent.{is_at_most, Holding, is_next_command, held_after}
use Rattle.rollout_rules.specs.World.{number_at}
use Rattle.rollout_rules.specs.declared.held.Held.{Held}
use Rattle.rollout_rules.proofs.Pairs.{AtMost, IsNextCommand, at_most-is, next_command-is}
use Rattle.rollout_laws.specs.Kept.{IsEarlierPair}

pub next_command-from : (held asked : Held) → IsNextCommand held asked → is_next_command held asked ≡ true
next_command-from held asked (inl same) =
    or_left _ _ (and_from _ _ (eq-eqb asked.migration held.migration same.0) (eq-eqb asked.number (held.number + 1) same.1))
next_command-from held asked (inr later) =
    or_right ((asked.migration == held.migration) && (asked.number == held.number + 1)) _ (and_from _ _ (lt-ltb held.migration asked.migration later.0) (le-leb 1 asked.number later.1))

none_at_most_is_next : (held asked : Held) → AtMost asked held → IsNextCommand held asked → ⊥
none_at_most_is_next held asked (inl lt) (inl same) = absurd (omega (arith, lt, same.0))
none_at_most_is_next held asked (inl lt) (inr later) = absurd (omega (arith, lt, later.0))
none_at_most_is_next held asked (inr le) (inl same) = absurd (omega (arith, le.1, same.1))
none_at_most_is_next held asked (inr le) (inr later) = absurd (omega (arith, le.0, later.0))

pub after-late : (holding : Holding) (asked : Held) (content : List ℕ) → is_at_most asked holding.held ≡ true → held_after holding asked content ≡ holding
after-late holding asked content late =
    cond-false (is_next_command holding.held asked) (record { held = asked; content = content }) holding
    (false_from_ne_true (is_next_command holding.held asked) (λ e. none_at_most_is_next holding.held asked (at_most-is asked holding.held late) (next_command-is holding.held asked e)))

pub after-next : (holding : Holding) (asked : Held) (content : List ℕ) → IsNextCommand holding.held asked → held_after holding asked content ≡ record { held = asked; content = content }
after-next holding asked content next =
    cond-true (is_next_command holding.held asked) (record { held = asked; content = content }) holding (next_command-from holding.held asked next)

-- the number for which a pair stands: its own in the same migration, the start in another
pub number-same : (migration start : ℕ) (held : Held) → held.migration ≡ migration → number_at migration start held ≡ held.number
number-same migration start held same = cond-true (held.migration == migration) held.number start (eq-eqb held.migration migration same)

pub number-other : (migration start : ℕ) (held : Held) → (held.migration ≡ migration → ⊥) → number_at migration start held ≡ start
number-other migration start held other = cond-false (held.migration == migration) held.number start (ne_eqb held.migration migration other)

-- an answer of this migration that is at most what is held stands for no more than it does
pub number-answered : (migration start : ℕ) (first a held : Held) → a.migration ≡ migration → is_at_most a held ≡ true → (held.migration ≡ migration) ⊎ IsEarlierPair migration first held → a.number ≤ number_at migration start held
number-answered migration start first a held of late (inr e) =
    let earlier = e.earlier in
    ⊎_elim (λ (lt : a.migration < held.migration). absurd (omega (arith, lt, of, earlier))) (λ (le : (a.migration ≡ held.migration) × (a.number ≤ held.number)). absurd (omega (arith, le.0, of, earlier))) (at_most-is a held late)
number-answered migration start first a held of late (inl same) =
    let number = number-same migration start held same in
    ⊎_elim (λ (lt : a.migration < held.migration). absurd (omega (arith, lt, of, same))) (λ (le : (a.migration ≡ held.migration) × (a.number ≤ held.number)). omega (arith, le.1, number)) (at_most-is a held late)
