-- Rows that grow at their end.
use Rattle.std.proofs.Common.{◌≡◌, ℕ, List, [], ◌∷◌, ◌++◌, Some, append-nil, map, inl, inr, refl, ap, ◌∙◌, arith}
use Rattle.std.specs.Prelude.{All}
use Rattle.std.specs.List.{flat_map}
use Rattle.std.proofs.lemmas.List.Concat.{flat_map-append, flat_map-cons}
use Rattle.std.proofs.lemmas.List.Elements.{All-pop}
use Rattle.controller_run.specs.Shifts.{IsOfOne, Shift}

pub map_push : {A B : Type 0} (f : A → B) (xs : List A) (x : A) → map f (xs ++ x ∷ []) ≡ map f xs ++ f x ∷ []
map_push f [] x = refl
map_push f (y ∷ xs) x = ap (λ l. f y ∷ l) (map_push f xs x)

pub map_both : {A B : Type 0} (f : A → B) (xs ys : List A) → map f (xs ++ ys) ≡ map f xs ++ map f ys
map_both f [] ys = refl
map_both f (x ∷ xs) ys = ap (λ l. f x ∷ l) (map_both f xs ys)

pub flat_push : {A B : Type 0} (f : A → List B) (xs : List A) (x : A) → flat_map f (xs ++ x ∷ []) ≡ flat_map f xs ++ f x
flat_push f xs x = flat_map-append f xs (x ∷ []) ∙ ap (λ l. flat_map f xs ++ l) (flat_map-cons f x [] ∙ append-nil (f x))

pub all_pop : {A : Type 0} (Q : A → Type 0) (xs : List A) (x : A) → All Q (xs ++ x ∷ []) → All Q xs × Q x
all_pop Q xs x all = All-pop Q (xs ++ x ∷ []) xs (Some x) refl all

-- a worker is one of a row that goes on
pub of_one_left : {P : Type 0} (shifts : List (Shift P)) (s : Shift P) (seat : ℕ) → IsOfOne shifts seat → IsOfOne (shifts ++ s ∷ []) seat
of_one_left [] s seat at = absurd at
of_one_left (r ∷ shifts) s seat (inl is) = inl is
of_one_left (r ∷ shifts) s seat (inr at) = inr (of_one_left shifts s seat at)

pub of_last : {P : Type 0} (shifts : List (Shift P)) (s : Shift P) (seat : ℕ) → s.given.seat ≡ seat → IsOfOne (shifts ++ s ∷ []) seat
of_last [] s seat is = inl is
of_last (r ∷ shifts) s seat is = inr (of_last shifts s seat is)
