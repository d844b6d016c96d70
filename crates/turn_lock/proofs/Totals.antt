-- Numbers of stages added up over the views.
use Rattle.std.proofs.Common.{◌≡◌, ℕ, zero, suc, ◌+◌, ◌<◌, ◌≤◌, List, [], ◌∷◌, ◌++◌, length, set, refl, sym, ap, ◌∙◌, subst, arith}
use mathlib.Core.Option.{some-injective, some-ne-none}
use Rattle.turn_lock.specs.declared.view.View.{View}
use Rattle.turn_lock.specs.declared.view.Stage.{Stage}
use Rattle.turn_lock.specs.declared.view.Stage.TheVariants.{Idle, Waiting, Turning, Joining, Spent}
use Rattle.turn_lock.specs.Tickets.{At, IsLive, HasTicket, tickets, lives, total}

module _ {E : Type 0} where
  -- the total after one view has changed
  pub total_set : (f : Stage E → ℕ) (vs : List (View E)) (i : ℕ) (v w : View E) → At vs i v → total f (set vs i w) + f v.stage ≡ total f vs + f w.stage
  total_set f [] i v w e = absurd (some-ne-none v (sym e))
  total_set f (x ∷ xs) zero v w e = let same : f x.stage ≡ f v.stage = ap (λ (u : View E). f u.stage) (some-injective x v e) in omega arith
  total_set f (x ∷ xs) (suc i) v w e = let rest = total_set f xs i v w e in omega arith

  pub total_append : (f : Stage E → ℕ) (vs : List (View E)) (w : View E) → total f (vs ++ w ∷ []) ≡ total f vs + f w.stage
  total_append f [] w = omega arith
  total_append f (x ∷ xs) w = let rest = total_append f xs w in omega arith

  pub tickets_one : (stage : Stage E) → tickets stage ≤ 1
  tickets_one Idle = omega arith
  tickets_one (Waiting t) = omega arith
  tickets_one (Turning t) = omega arith
  tickets_one (Joining a x b y n) = omega arith
  tickets_one Spent = omega arith

  pub ticket_counts : (stage : Stage E) (t : ℕ) → HasTicket t stage → tickets stage ≡ 1
  ticket_counts Idle t h = absurd h
  ticket_counts (Waiting u) t h = refl
  ticket_counts (Turning u) t h = refl
  ticket_counts (Joining a x b y n) t h = absurd h
  ticket_counts Spent t h = absurd h

  pub live_counts : (stage : Stage E) → IsLive stage → lives stage ≡ 1
  live_counts Idle h = refl
  live_counts (Waiting u) h = refl
  live_counts (Turning u) h = refl
  live_counts (Joining a x b y n) h = refl
  live_counts Spent h = absurd h

  -- there are no more tickets than views
  pub tickets_few : (vs : List (View E)) → total tickets vs ≤ length vs
  tickets_few [] = omega arith
  tickets_few (x ∷ xs) = let rest = tickets_few xs in let one = tickets_one x.stage in omega arith

  pub live_total : (vs : List (View E)) (j : ℕ) (w : View E) → At vs j w → IsLive w.stage → 1 ≤ total lives vs
  live_total [] j w e live = absurd (some-ne-none w (sym e))
  live_total (x ∷ xs) zero w e live =
      let one : lives x.stage ≡ 1 = live_counts x.stage (subst (λ (u : View E). IsLive u.stage) (sym (some-injective x w e)) live) in omega arith
  live_total (x ∷ xs) (suc j) w e live = let rest = live_total xs j w e live in omega arith

  -- where one view is live, it is the only one
  pub one_live : (vs : List (View E)) (i j : ℕ) (v w : View E) → At vs i v → At vs j w → IsLive v.stage → IsLive w.stage → total lives vs ≤ 1 → i ≡ j
  one_live [] i j v w at there a b few = absurd (some-ne-none v (sym at))
  one_live (x ∷ xs) zero zero v w at there a b few = refl
  one_live (x ∷ xs) zero (suc j) v w at there a b few =
      let one : lives x.stage ≡ 1 = live_counts x.stage (subst (λ (u : View E). IsLive u.stage) (sym (some-injective x v at)) a) in
      let more = live_total xs j w there b in absurd (omega arith)
  one_live (x ∷ xs) (suc i) zero v w at there a b few =
      let one : lives x.stage ≡ 1 = live_counts x.stage (subst (λ (u : View E). IsLive u.stage) (sym (some-injective x w there)) b) in
      let more = live_total xs i v at a in absurd (omega arith)
  one_live (x ∷ xs) (suc i) (suc j) v w at there a b few = ap suc (one_live xs i j v w at there a b (omega arith))

  -- a view that stands somewhere is one of them
  pub at_within : (vs : List (View E)) (i : ℕ) (v : View E) → At vs i v → i < length vs
  at_within [] i v e = absurd (some-ne-none v (sym e))
  at_within (x ∷ xs) zero v e = omega arith
  at_within (x ∷ xs) (suc i) v e = let rest = at_within xs i v e in omega arith

  pub same_at : (vs : List (View E)) (i : ℕ) (v w : View E) → At vs i v → At vs i w → v ≡ w
  same_at vs i v w e f = some-injective v w (sym e ∙ f)
