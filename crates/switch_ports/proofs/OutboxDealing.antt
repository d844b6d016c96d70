-- Commands are dealt out one after the other.
use Rattle.std.proofs.Common.{◌≡◌, ℕ, zero, suc, ◌<◌, ◌==◌, Bool, true, false, cond, List, [], ◌∷◌, ◌++◌, map, length, get_or, set, Option, Some, None, nat_eq, refl, sym, ap, ap₂, ◌∙◌, subst, arith, eqb-true, lt-ltb, ⊎_elim, position, append-nil}
use Rattle.std.proofs.lemmas.Bool.{cases_lt, cond-true}
use Rattle.std.proofs.lemmas.List.Sums.{fails_before_first}
use Rattle.std.proofs.lemmas.Option.{none-some}
use Rattle.std.specs.Cmp.{nat_eq_equiv}
use Rattle.std.proofs.lemmas.List.Elements.{filter-append}
use Rattle.std.proofs.lemmas.List.Quantifiers.{position-Some}
use Rattle.std.specs.List.{AllByRecursion, IsDistinct, position_or_len}
use Rattle.wan_edge.specs.Frames.{Command}
use Rattle.switch_ports.specs.Outboxes.{home_at, is_switch, own, place_of, with_put}

all_at : (P : ℕ → Type 0) (xs : List ℕ) (i : ℕ) → AllByRecursion P xs → i < length xs → P (get_or xs i 0)
all_at P [] i each inside = absurd (omega (arith, inside))
all_at P (x ∷ xs) zero each inside = each.0
all_at P (x ∷ xs) (suc i) each inside = all_at P xs i each.1 (omega (arith, inside))

all_from : (test : ℕ → Bool) (xs : List ℕ) → ((k d : ℕ) → k < length xs → test (get_or xs k d) ≡ false) → AllByRecursion (λ x. test x ≡ false) xs
all_from test [] each = tt
all_from test (x ∷ xs) each = (each 0 0 (omega arith), all_from test xs (λ k d inside. each (suc k) d (omega arith)))

-- where a test first passes nowhere, it fails at each place
fails_at_each : (test : ℕ → Bool) (xs : List ℕ) → position test xs ≡ None → (k d : ℕ) → k < length xs → test (get_or xs k d) ≡ false
fails_at_each test xs none k d inside =
    ⊎_elim
    (λ lt. absurd (none-some (position_or_len test xs) (sym none ∙ cond-true _ _ _ (lt-ltb _ _ lt))))
    (λ ge. fails_before_first test xs k d (omega arith))
    (cases_lt (position_or_len test xs) (length xs))

module _ (homes : List (Option ℕ)) (earlier : List Command) (c : Command) where
  abbrev before : ℕ → List Command
  before w = own homes w earlier

  abbrev after : ℕ → List Command
  after w = own homes w (earlier ++ c ∷ [])

  -- what a switch has with one command more
  more : (w : ℕ) → after w ≡ before w ++ cond (is_switch w (home_at homes c.item)) (c ∷ []) []
  more w = filter-append (λ d. is_switch w (home_at homes d.item)) earlier (c ∷ [])

  gets : (w : ℕ) → is_switch w (home_at homes c.item) ≡ true → after w ≡ before w ++ c ∷ []
  gets w here = more w ∙ ap (λ b. before w ++ cond b (c ∷ []) []) here

  gets_nothing : (w : ℕ) → is_switch w (home_at homes c.item) ≡ false → after w ≡ before w
  gets_nothing w elsewhere = more w ∙ ap (λ b. before w ++ cond b (c ∷ []) []) elsewhere ∙ append-nil (before w)

  none_get : (switches : List ℕ) → home_at homes c.item ≡ None → map before switches ≡ map after switches
  none_get [] nowhere = refl
  none_get (w ∷ ws) nowhere = ap₂ (λ x xs. x ∷ xs) (sym (gets_nothing w (ap (is_switch w) nowhere))) (none_get ws nowhere)

  others_get_none : (home : ℕ) (switches : List ℕ) → home_at homes c.item ≡ Some home → AllByRecursion (λ w. nat_eq home w ≡ false) switches → map before switches ≡ map after switches
  others_get_none home [] is other = refl
  others_get_none home (w ∷ ws) is other = ap₂ (λ x xs. x ∷ xs) (sym (gets_nothing w (ap (is_switch w) is ∙ other.0))) (others_get_none home ws is other.1)

  -- the switch at a place gets it, where that is the home, and no other does
  one_gets : (switches : List ℕ) (place home : ℕ) → home_at homes c.item ≡ Some home → place < length switches → nat_eq home (get_or switches place 0) ≡ true → IsDistinct nat_eq switches
      → set (map before switches) place (get_or (map before switches) place [] ++ c ∷ []) ≡ map after switches
  unfolding IsDistinct
  one_gets [] place home is inside same distinct = absurd (omega (arith, inside))
  one_gets (w ∷ ws) zero home is inside same distinct =
      ap₂ (λ x xs. x ∷ xs) (sym (gets w (ap (is_switch w) is ∙ same)))
      (others_get_none home ws is (subst (λ (h : ℕ). AllByRecursion (λ y. nat_eq h y ≡ false) ws) (sym (eqb-true home w same)) distinct.0))
  one_gets (w ∷ ws) (suc place) home is inside same distinct =
      let apart : nat_eq w (get_or ws place 0) ≡ false = all_at (λ y. nat_eq w y ≡ false) ws place distinct.0 (omega (arith, inside)) in
      let other : nat_eq home w ≡ false = ap (λ h. nat_eq h w) (eqb-true home (get_or ws place 0) same) ∙ nat_eq_equiv.symm (get_or ws place 0) w ∙ apart in
      ap₂ (λ x xs. x ∷ xs) (sym (gets_nothing w (ap (is_switch w) is ∙ other))) (one_gets ws place home is (omega (arith, inside)) same distinct.1)

  to_place : (switches : List ℕ) (home : ℕ) → IsDistinct nat_eq switches → home_at homes c.item ≡ Some home → (found : Option ℕ) → position (nat_eq home) switches ≡ found → with_put (map before switches) found c ≡ map after switches
  to_place switches home distinct is None nowhere = others_get_none home switches is (all_from (nat_eq home) switches (fails_at_each (nat_eq home) switches nowhere))
  to_place switches home distinct is (Some place) here =
      let found = position-Some (nat_eq home) switches place 0 here in
      one_gets switches place home is found.0 found.1 distinct

  to_home : (switches : List ℕ) → IsDistinct nat_eq switches → (home : Option ℕ) → home_at homes c.item ≡ home → with_put (map before switches) (place_of switches home) c ≡ map after switches
  to_home switches distinct None nowhere = none_get switches nowhere
  to_home switches distinct (Some home) is = to_place switches home distinct is (position (nat_eq home) switches) refl

  -- a command put to its home's place is dealt out
  pub put_is_dealt : (switches : List ℕ) → IsDistinct nat_eq switches → with_put (map before switches) (place_of switches (home_at homes c.item)) c ≡ map after switches
  put_is_dealt switches distinct = to_home switches distinct (home_at homes c.item) refl

-- of as many elements, the same list of empty lists
pub all_empty : (outboxes : List (List Command)) (switches : List ℕ) → length outboxes ≡ length switches → map {B = List Command} (λ l. []) outboxes ≡ map {B = List Command} (λ w. []) switches
all_empty [] [] same = refl
all_empty [] (w ∷ ws) same = absurd (omega (arith, same))
all_empty (l ∷ ls) [] same = absurd (omega (arith, same))
all_empty (l ∷ ls) (w ∷ ws) same = ap (λ (rest : List (List Command)). [] ∷ rest) (all_empty ls ws (omega (arith, same)))
