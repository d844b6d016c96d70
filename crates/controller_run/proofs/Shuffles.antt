-- Ports that change hands: the same ones, in another order.
use Rattle.std.proofs.Common.{◌≡◌, List, ◌++◌, IsPermutation, append_assoc, sym, ap, ◌∙◌, subst}
use Rattle.std.proofs.lemmas.List.Sorted.{IsPermutation-refl, IsPermutation-trans, IsPermutation-append_left, IsPermutation-append_right, IsPermutation-append_comm}

module _ {X : Type 0} where
  -- by an equality
  pub same : (xs ys : List X) → xs ≡ ys → IsPermutation xs ys
  same xs ys is = subst (IsPermutation xs) is (IsPermutation-refl xs)

  -- the last part comes to the front one
  pub to_front : (a s r t : List X) → IsPermutation (a ++ (s ++ (r ++ t))) ((a ++ t) ++ (s ++ r))
  to_front a s r t =
      IsPermutation-trans _ _ _ (IsPermutation-append_right a _ _ (same _ _ (sym (append_assoc s r t))))
      (IsPermutation-trans _ _ _ (IsPermutation-append_right a _ _ (IsPermutation-append_comm (s ++ r) t)) (same _ _ (sym (append_assoc a t (s ++ r)))))

  -- the last part comes to the middle one
  pub to_middle : (a s r t : List X) → IsPermutation (a ++ (s ++ (r ++ t))) (a ++ ((s ++ t) ++ r))
  to_middle a s r t = IsPermutation-append_right a _ _ (IsPermutation-trans _ _ _ (IsPermutation-append_right s _ _ (IsPermutation-append_comm r t)) (same _ _ (sym (append_assoc s t r))))

  -- the last part comes before the one in front of it
  pub end_in : (a s t : List X) → IsPermutation ((a ++ s) ++ t) ((a ++ t) ++ s)
  end_in a s t =
      IsPermutation-trans _ _ _ (same _ _ (append_assoc a s t))
      (IsPermutation-trans _ _ _ (IsPermutation-append_right a _ _ (IsPermutation-append_comm s t)) (same _ _ (sym (append_assoc a t s))))

  -- the last part, seen from outside
  pub ends : (a s r t : List X) → a ++ (s ++ (r ++ t)) ≡ (a ++ (s ++ r)) ++ t
  ends a s r t = ap (λ l. a ++ l) (sym (append_assoc s r t)) ∙ sym (append_assoc a (s ++ r) t)

  -- the first two parts take the last one over, or leave some of it
  pub handed_in : (a s r p a' s' g : List X) → IsPermutation (a ++ (s ++ p)) ((a' ++ s') ++ g) → IsPermutation (a ++ (s ++ (r ++ p))) ((a' ++ (s' ++ r)) ++ g)
  handed_in a s r p a' s' g moved =
      IsPermutation-trans _ _ _ (IsPermutation-append_right a _ _ (IsPermutation-append_right s _ _ (IsPermutation-append_comm r p)))
      (IsPermutation-trans _ _ _ (same _ _ (ends a s p r))
      (IsPermutation-trans _ _ _ (IsPermutation-append_left r _ _ moved)
      (IsPermutation-trans _ _ _ (end_in (a' ++ s') g r) (same _ _ (ap (λ l. l ++ g) (append_assoc a' s' r))))))
