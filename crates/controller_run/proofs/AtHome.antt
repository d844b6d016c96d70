-- Homes of a list are those of the problem.
use Rattle.std.proofs.Common.{◌≡◌, ℕ, zero, suc, Bool, true, false, List, [], ◌∷◌, Option, Some, None, get_or, slice_get, refl, sym, ◌∙◌, ⊎_elim, ◌⊎◌, inl, inr, subst, arith, if◌then◌else◌}
use Rattle.std.specs.List.{Contains, filter}
use Rattle.rollout_rules.specs.Wan.{Problem}
use Rattle.wan_edge.specs.Frames.{Command}
use Rattle.shared_book.specs.Homes.{home_if_any, homes_of}
use Rattle.shared_book.proofs.HomeRows.{home-is}
use Rattle.switch_ports.specs.Outboxes.{home_at, home_in, is_switch, own}
use Rattle.controller_run.proofs.Chains.{is-home}
use Rattle.controller_run.proofs.Elements.{inside-cons, inside-later, none-inside}

pub read-home : (homes : List (Option ℕ)) (n : ℕ) → home_in (slice_get homes n) ≡ get_or homes n None
read-home [] n = refl
read-home (home ∷ homes) zero = refl
read-home (home ∷ homes) (suc n) = read-home homes n

module _ {A : Type 0} (test : A → Bool) where
  filter-cons : (x y : A) (xs : List A) (b : Bool) → test x ≡ b → Contains (if b then x ∷ filter test xs else filter test xs) y → (Contains (filter test xs) y → Contains xs y × (test y ≡ true)) → Contains (x ∷ xs) y × (test y ≡ true)
  filter-cons x y xs true is at later =
      ⊎_elim (λ (same : x ≡ y). ((0, omega arith, same), subst (λ (z : A). test z ≡ true) same is)) (λ (rest : Contains (filter test xs) y). let found = later rest in (inside-later x y xs found.0, found.1)) (inside-cons x y (filter test xs) at)
  filter-cons x y xs false is at later = let found = later at in (inside-later x y xs found.0, found.1)

  filter-found : (xs : List A) (y : A) → Contains (filter test xs) y → Contains xs y × (test y ≡ true)
  filter-found [] y at = absurd (none-inside y at)
  filter-found (x ∷ xs) y at = filter-cons x y xs (test x) refl at (filter-found xs y)

module _ (p : Problem) (homes : List (Option ℕ)) (same : homes ≡ homes_of p) where
  pub same-home : (switch n : ℕ) → home_at homes n ≡ Some switch → home_if_any p n ≡ Some switch
  same-home switch n home = sym (home-is p homes n same) ∙ sym (read-home homes n) ∙ home

  pub own-at-home : (switch : ℕ) (commands : List Command) (c : Command) → Contains (own homes switch commands) c → Contains commands c × (home_if_any p c.item ≡ Some switch)
  own-at-home switch commands c at =
      let found = filter-found (λ d. is_switch switch (home_at homes d.item)) commands c at in
      (found.0, same-home switch c.item (is-home switch (home_at homes c.item) found.1))
