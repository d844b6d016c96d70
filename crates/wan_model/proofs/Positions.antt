-- Where a test first passes: at a place where it passes and at none before, the same over mapped rows, and nowhere where there
-- is no such place.
use Rattle.std.proofs.Common.{◌≡◌, ℕ, suc, nat_lt, ◌+◌, ◌<◌, Bool, true, false, cond, not, ◌&&◌, ◌==◌, List, [], ◌∷◌, ◌++◌, map, length, get_or, Some, None, nat_eq, bytes_eq, refl, sym, ap, ap₂, ◌∙◌, ⊎_elim, lt-ltb, position, arith}
use Rattle.std.proofs.lemmas.Bool.{cases_lt, cond-true, cond-false, le-ltb, or_from}
use Rattle.std.proofs.lemmas.List.{length-map, map_push}
use Rattle.std.proofs.lemmas.List.Sums.{fails_before_first, position_or_len_is}
use Rattle.std.proofs.lemmas.Option.{none-some}
use Rattle.std.specs.List.{list_any, position_or_len}
use Rattle.std.specs.Cmp.Lexicographic.{nat_list_eq_equiv}
use Rattle.std.specs.Cmp.{nat_eq_equiv}
use Rattle.rollout_rules.specs.Sums.{same_numbers}
use Rattle.indexmap.specs.IndexSet.{insert_key}
use Rattle.wan_model.specs.Numbered.{find_name, find_ends}

module _ {X : Type 0} (test : X → Bool) where
  -- where the test passes nowhere, it fails at each place
  pub fails_at_each : (xs : List X) → position test xs ≡ None → (k : ℕ) (d : X) → k < length xs → test (get_or xs k d) ≡ false
  fails_at_each xs none k d inside =
      ⊎_elim
      (λ lt. absurd (none-some (position_or_len test xs) (sym none ∙ cond-true _ _ _ (lt-ltb _ _ lt))))
      (λ ge. fails_before_first test xs k d (omega arith))
      (cases_lt (position_or_len test xs) (length xs))

  fails_in_all : (xs : List X) → ((k : ℕ) (d : X) → k < length xs → test (get_or xs k d) ≡ false) → list_any test xs ≡ false
  fails_in_all [] each = refl
  fails_in_all (x ∷ xs) each = or_from (test x) (list_any test xs) (each 0 x (omega arith)) (fails_in_all xs (λ k d inside. each (suc k) d (omega arith)))

  pub passes_nowhere : (xs : List X) → position test xs ≡ None → list_any test xs ≡ false
  passes_nowhere xs none = fails_in_all xs (fails_at_each xs none)

-- two tests that agree pass at one place
pub position_agrees : {X : Type 0} (p q : X → Bool) → ((x : X) → p x ≡ q x) → (xs : List X) → position p xs ≡ position q xs
position_agrees p q same xs = ap (λ test. position test xs) (λ i x. same x i)

module _ {X Y : Type 0} (test : Y → Bool) (f : X → Y) where
  position_or_len-map : (xs : List X) → position_or_len test (map f xs) ≡ position_or_len (λ x. test (f x)) xs
  position_or_len-map [] = refl
  position_or_len-map (x ∷ xs) = ap (λ n. cond (not (test (f x))) (1 + n) 0) (position_or_len-map xs)

  -- the place among what rows are mapped to is the place among the rows
  pub position-map : (xs : List X) → position test (map f xs) ≡ position (λ x. test (f x)) xs
  position-map xs = ap₂ (λ n m. cond (nat_lt n m) (Some n) None) (position_or_len-map xs) (length-map xs f)

-- where a test passes and at no place before, it first passes
module _ {X : Type 0} (test : X → Bool) (xs : List X) (d : X) where
  pub found_at : (w : ℕ) → w < length xs → test (get_or xs w d) ≡ true → ((k : ℕ) → k < w → test (get_or xs k d) ≡ false) → position test xs ≡ Some w
  found_at w lt here before =
      let is : position_or_len test xs ≡ w = position_or_len_is test xs w d (omega arith) before (λ _. here) in
      rw is (cond-true _ _ _ (lt-ltb w (length xs) lt))

  pub found_nowhere : ((k : ℕ) → k < length xs → test (get_or xs k d) ≡ false) → position test xs ≡ None
  found_nowhere fails =
      let is : position_or_len test xs ≡ length xs = position_or_len_is test xs (length xs) d (omega arith) fails (λ lt. absurd (omega arith)) in
      rw is (cond-false _ _ _ (le-ltb (length xs) (length xs) (omega arith)))

-- two texts are the same where their bytes are
pub same_numbers-bytes_eq : (xs ys : List ℕ) → same_numbers xs ys ≡ bytes_eq ys xs
same_numbers-bytes_eq [] [] = refl
same_numbers-bytes_eq [] (y ∷ ys) = refl
same_numbers-bytes_eq (x ∷ xs) [] = refl
same_numbers-bytes_eq (x ∷ xs) (y ∷ ys) = ap₂ (λ a b. a && b) (nat_eq_equiv.symm x y) (same_numbers-bytes_eq xs ys)

pub same_numbers-refl : (xs : List ℕ) → same_numbers xs xs ≡ true
same_numbers-refl xs = same_numbers-bytes_eq xs xs ∙ nat_list_eq_equiv.refl xs

-- what a set of keys holds after an insert of one that it hasn't: that one after the others
pub insert_key-absent : {K : Type 0} (eq : K → K → Bool) (keys : List K) (k : K) → position (eq k) keys ≡ None → insert_key eq keys k ≡ keys ++ k ∷ []
insert_key-absent eq keys k none = cond-false _ _ _ (passes_nowhere (eq k) keys none)

module _ {K : Type 0} (bytes : K → List ℕ) (keys : List K) (names : List (List ℕ)) (are : map bytes keys ≡ names) where
  -- the number of a name among the texts of keys, as a look-up by its bytes finds it
  pub find_name-keys : (name : List ℕ) → find_name names name ≡ position (λ k. bytes_eq name (bytes k)) keys
  find_name-keys name = ap (λ ns. find_name ns name) (sym are) ∙ position-map (λ n. same_numbers n name) bytes keys ∙ position_agrees _ _ (λ k. same_numbers-bytes_eq (bytes k) name) keys

  -- the texts of keys after an insert of a new name
  pub insert_name : (k : K) (name : List ℕ) → bytes k ≡ name → find_name names name ≡ None → map bytes (insert_key (λ j l. bytes_eq (bytes j) (bytes l)) keys k) ≡ names ++ name ∷ []
  insert_name k name e none =
      let absent = sym (find_name-keys (bytes k)) ∙ ap (find_name names) e ∙ none in
      ap (map bytes) (insert_key-absent (λ j l. bytes_eq (bytes j) (bytes l)) keys k absent) ∙ map_push bytes keys k ∙ ap₂ (λ ns n. ns ++ n ∷ []) are e

-- the ends of links after an insert of the ends of a new one
pub insert_ends : (keys ends : List (ℕ × ℕ)) (a b : ℕ) → keys ≡ ends → find_ends ends a b ≡ None → insert_key (λ x y. nat_eq x.0 y.0 && nat_eq x.1 y.1) keys (a, b) ≡ ends ++ (a, b) ∷ []
insert_ends keys ends a b are none =
    let flipped = position_agrees (λ y. nat_eq a y.0 && nat_eq b y.1) (λ y. (y.0 == a) && (y.1 == b)) (λ y i. nat_eq_equiv.symm a y.0 i && nat_eq_equiv.symm b y.1 i) ends in
    ap (λ ks. insert_key (λ x y. nat_eq x.0 y.0 && nat_eq x.1 y.1) ks (a, b)) are ∙ insert_key-absent (λ (x : ℕ × ℕ) y. nat_eq x.0 y.0 && nat_eq x.1 y.1) ends (a, b) (flipped ∙ none)
