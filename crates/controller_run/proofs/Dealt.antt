-- Berths that are dealt in turn are the same ones, in another order.
use Rattle.std.proofs.Common.{◌≡◌, ◌≢◌, ◌⊎◌, ℕ, zero, suc, ◌+◌, ◌<◌, ◌≤◌, ◌%◌, ◌==◌, Bool, true, false, List, [], ◌∷◌, ◌++◌, IsPermutation, append-nil, append_assoc, map, length, inl, inr, refl, sym, ap, ap₂, ◌∙◌, subst, arith, eq-eqb, if◌then◌else◌}
use Rattle.std.proofs.lemmas.Bool.{cases_eq, ne_eqb}
use Rattle.std.proofs.lemmas.List.Sorted.{IsPermutation-append, IsPermutation-append_left, IsPermutation-map, IsPermutation-refl, IsPermutation-sym, IsPermutation-trans}
use Rattle.std.proofs.Math.Nat.{mod-lt}
use Rattle.std.specs.List.{flat_map}
use Rattle.rollout_rules.specs.Sums.{list_below}
use Rattle.port_session.specs.Sessions.{SessionView, first_session}
use Rattle.switch_ports.specs.declared.ports.Berth.{Berth}
use Rattle.switch_ports.specs.Hands.{at_places, first_sessions, hand, hand_count, hands}
use Rattle.controller_run.specs.Workers.{all_ports}
use Rattle.controller_run.proofs.Rows.{flat_push, map_both}
use Rattle.controller_run.proofs.Shuffles.{end_in, same}

-- rows f 0 .. f (n - 1), one after the other
abbrev pub rows : {A : Type 0} → ℕ → (ℕ → List A) → List A
rows zero f = []
rows (suc n) f = rows n f ++ f n

pub rows_are : {A : Type 0} (n : ℕ) (f : ℕ → List A) → flat_map (λ l. l) (list_below n f) ≡ rows n f
rows_are zero f = refl
rows_are (suc n) f = flat_push (λ l. l) (list_below n f) (f n) ∙ ap (λ l. l ++ f n) (rows_are n f)

pub rows_mapped : {A B : Type 0} (t : A → B) (n : ℕ) (f : ℕ → List A) → rows n (λ w. map t (f w)) ≡ map t (rows n f)
rows_mapped t zero f = refl
rows_mapped t (suc n) f = ap (λ l. l ++ map t (f n)) (rows_mapped t n f) ∙ sym (map_both t (rows n f) (f n))

module _ {A : Type 0} where
  crossed : (a b c d : List A) → IsPermutation ((a ++ b) ++ (c ++ d)) ((a ++ c) ++ (b ++ d))
  crossed a b c d =
      IsPermutation-trans _ _ _ (same _ _ (sym (append_assoc (a ++ b) c d)))
      (IsPermutation-trans _ _ _ (IsPermutation-append_left d _ _ (end_in a b c)) (same _ _ (append_assoc (a ++ c) b d)))

  -- each row's beginning before all their ends
  rows_both : (n : ℕ) (f g : ℕ → List A) → IsPermutation (rows n (λ w. f w ++ g w)) (rows n f ++ rows n g)
  rows_both zero f g = IsPermutation-refl []
  rows_both (suc n) f g = IsPermutation-trans _ _ _ (IsPermutation-append_left (f n ++ g n) _ _ (rows_both n f g)) (crossed (rows n f) (rows n g) (f n) (g n))

  rows_none : (n : ℕ) → rows {A = A} n (λ w. []) ≡ []
  rows_none zero = refl
  rows_none (suc n) = append-nil (rows {A = A} n (λ w. [])) ∙ rows_none n

  module _ (x : A) where
    abbrev turn : ℕ → ℕ → List A
    turn p w = if p == w then x ∷ [] else []

    if_turn : (p w : ℕ) (b : Bool) → (p == w) ≡ b → turn p w ≡ (if b then x ∷ [] else [])
    if_turn p w b is = ap (λ c. if c then x ∷ [] else []) is

    -- it is no one's turn
    no_turn : (n p : ℕ) → n ≤ p → rows n (turn p) ≡ []
    no_turn zero p le = refl
    no_turn (suc n) p le = ap₂ (λ (a b : List A). a ++ b) (no_turn n p (omega (arith, le))) (if_turn p n false (ne_eqb p n (λ is. omega (arith, is, le))))

    -- it is the turn of one
    one_turn : (n p : ℕ) → p < n → rows n (turn p) ≡ x ∷ []
    one_turn zero p lt = absurd (omega (arith, lt))
    one_turn (suc n) p lt = at (cases_eq p n) (λ before. one_turn n p before)
      where
        at : (p ≡ n) ⊎ (p ≢ n) → (p < n → rows n (turn p) ≡ x ∷ []) → rows n (turn p) ++ turn p n ≡ x ∷ []
        at (inl is) before = ap₂ (λ (a b : List A). a ++ b) (no_turn n p (omega (arith, is))) (if_turn p n true (eq-eqb p n is))
        at (inr other) before = ap₂ (λ (a b : List A). a ++ b) (before (omega (arith, lt, other))) (if_turn p n false (ne_eqb p n other)) ∙ append-nil (x ∷ [])

  -- all that were dealt, whatever the turn of the first
  dealt_from : (n : ℕ) → 0 < n → (place : ℕ) (xs : List A) → IsPermutation (rows n (λ w. at_places (λ k. (k % n) == w) place xs)) xs
  dealt_from n some place [] = same _ _ (rows_none n)
  dealt_from n some place (x ∷ xs) =
      IsPermutation-trans _ _ _ (rows_both n (turn x (place % n)) (λ w. at_places (λ k. (k % n) == w) (place + 1) xs))
      (IsPermutation-append _ _ _ _ (same _ _ (one_turn x n (place % n) (mod-lt place some))) (dealt_from n some (place + 1) xs))

module _ {P : Type 0} where
  -- the ports of all hands are those of the berths
  hands_are : (n : ℕ) (berths : List (Berth P)) → all_ports (hands n berths) ≡ first_sessions (rows n (λ w. hand n w berths))
  hands_are n berths = rows_are n (λ w. first_sessions (hand n w berths)) ∙ rows_mapped (λ (b : Berth P). first_session b.switch b.port) n (λ w. hand n w berths)

  some_dealt : (n : ℕ) (berths : List (Berth P)) → 0 < n → IsPermutation (first_sessions berths) (all_ports (hands n berths))
  some_dealt n berths some =
      subst (λ (l : List (SessionView P)). IsPermutation (first_sessions berths) l) (sym (hands_are n berths))
      (IsPermutation-sym (first_sessions (rows n (λ w. hand n w berths))) (first_sessions berths)
      (IsPermutation-map (λ (b : Berth P). first_session b.switch b.port) (rows n (λ w. hand n w berths)) berths (dealt_from n some 0 berths)))

  pub all_dealt : (workers : ℕ) (berths : List (Berth P)) → IsPermutation (first_sessions berths) (all_ports (hands (hand_count workers (length berths)) berths))
  all_dealt workers [] = same _ _ (ap (λ n. all_ports (hands n [])) (none workers))
    where
      none : (workers : ℕ) → 0 ≡ hand_count workers 0
      none workers = omega arith
  all_dealt workers (b ∷ berths) = some_dealt (hand_count workers (length (b ∷ berths))) (b ∷ berths) (omega arith)
