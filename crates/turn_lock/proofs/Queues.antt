-- How the queue of tickets changes.
use Rattle.std.proofs.Common.{◌≡◌, ◌≢◌, ℕ, ◌+◌, ◌%◌, ◌^◌, ◌<◌, ◌≤◌, List, set, refl, sym, ap, subst, ⊎_elim, arith, length-set}
use Rattle.atomic_table.proofs.Lists.{at_set, one_turn}
use Rattle.turn_lock.specs.declared.view.View.{View}
use Rattle.turn_lock.specs.declared.view.Stage.{Stage}
use Rattle.turn_lock.specs.declared.view.Stage.TheVariants.{Idle, Waiting, Turning}
use Rattle.turn_lock.specs.Tickets.{At, HasTicket, IsTurning, Queue, tickets, total}
use Rattle.turn_lock.proofs.Totals.{total_set, ticket_counts, tickets_few}

module _ {E : Type 0} where
  -- a ticket less than 2^64 above the turn is known by its remainder
  pub own_turn : (turn : ℕ) (views : List (View E)) (q : Queue turn views) (id : ℕ) (v : View E) (t : ℕ) → At views id v → HasTicket t v.stage → turn % 2 ^ 64 ≡ t % 2 ^ 64 → turn ≡ t
  own_turn turn views q id v t at has same =
      let from = q.from_turn id v t at has in let below = q.below_next id v t at has in let few = q.few in let held = tickets_few views in
      one_turn turn t (2 ^ 64) from (omega arith) same

  -- every view of the changed list: the changed one, or another
  pub each_set : (P : ℕ → View E → Type 0) (vs : List (View E)) (id : ℕ) (w : View E) → P id w → ((j : ℕ) (u : View E) → j ≢ id → At vs j u → P j u) → (j : ℕ) (u : View E) → At (set vs id w) j u → P j u
  each_set P vs id w mine others j u e = ⊎_elim (λ (t : (j ≡ id) × (w ≡ u)). subst (λ (x : ℕ × View E). P x.0 x.1) (λ i. (sym t.0 i, t.1 i)) mine)
      (λ (t : (j ≢ id) × (At vs j u)). others j u t.0 t.1) (at_set vs id j w u e)

  -- two views of the changed list
  pub pairs_set : (P : ℕ → View E → ℕ → View E → Type 0) (vs : List (View E)) (id : ℕ) (w : View E) → P id w id w → ((j : ℕ) (u : View E) → j ≢ id → At vs j u → P id w j u × P j u id w)
      → ((i j : ℕ) (u x : View E) → i ≢ id → j ≢ id → At vs i u → At vs j x → P i u j x) → (i j : ℕ) (u x : View E) → At (set vs id w) i u → At (set vs id w) j x → P i u j x
  pairs_set P vs id w mine one both i j u x e f = each_set (λ i u. (j : ℕ) (x : View E) → At (set vs id w) j x → P i u j x) vs id w
      (λ j x. each_set (λ j x. P id w j x) vs id w mine (λ j x other at. (one j x other at).0) j x)
      (λ i u other at j x. each_set (λ j x. P i u j x) vs id w (one i u other at).1 (λ j x apart there. both i j u x other apart at there) j x) i u e j x f

  -- the queue stays where one view keeps its ticket, or stays without one
  pub queue_same : (turn : ℕ) (views : List (View E)) (q : Queue turn views) (id : ℕ) (v w : View E) → At views id v → tickets w.stage ≡ tickets v.stage
      → ((t : ℕ) → HasTicket t w.stage → HasTicket t v.stage) → (IsTurning w.stage → HasTicket turn w.stage) → Queue turn (set views id w)
  queue_same turn views q id v w at as_many back its = let sum = total_set tickets views id v w at in let same : total tickets (set views id w) ≡ total tickets views = omega arith in record {
    few = let n = length-set views id w in let few = q.few in omega arith;
    from_turn = λ j u t e h. each_set (λ j u. HasTicket t u.stage → turn ≤ t) views id w (λ h. q.from_turn id v t at (back t h)) (λ j u _ there. q.from_turn j u t there) j u e h;
    below_next = λ j u t e h. each_set (λ j u. HasTicket t u.stage → t < turn + total tickets (set views id w)) views id w
        (λ h. let b = q.below_next id v t at (back t h) in omega arith) (λ j u _ there h. let b = q.below_next j u t there h in omega arith) j u e h;
    each_once = λ i j u x t e f. pairs_set (λ i u j x. HasTicket t u.stage → HasTicket t x.stage → i ≡ j) views id w (λ _ _. refl)
        (λ j u _ there. ((λ h k. q.each_once id j v u t at there (back t h) k), (λ k h. q.each_once j id u v t there at k (back t h))))
        (λ i j u x _ _ there here. q.each_once i j u x t there here) i j u x e f;
    its_turn = λ j u e. each_set (λ j u. IsTurning u.stage → HasTicket turn u.stage) views id w its (λ j u _ there. q.its_turn j u there) j u e;
  }

  -- a view without a ticket draws the next one
  pub queue_draws : (turn : ℕ) (views : List (View E)) (q : Queue turn views) (id : ℕ) (v w : View E) → At views id v → v.stage ≡ Idle → w.stage ≡ Waiting (turn + total tickets views) → Queue turn (set views id w)
  queue_draws turn views q id v w at was now =
      let sum = total_set tickets views id v w at in let none : tickets v.stage ≡ 0 = ap tickets was in let one : tickets w.stage ≡ 1 = ap tickets now in
      let more : total tickets (set views id w) ≡ total tickets views + 1 = omega arith in
      let mine : (t : ℕ) → HasTicket t w.stage → turn + total tickets views ≡ t = λ t h. subst (HasTicket t) now h in record {
        few = let n = length-set views id w in let few = q.few in omega arith;
        from_turn = λ j u t e h. each_set (λ j u. HasTicket t u.stage → turn ≤ t) views id w (λ h. let is = mine t h in omega arith) (λ j u _ there. q.from_turn j u t there) j u e h;
        below_next = λ j u t e h. each_set (λ j u. HasTicket t u.stage → t < turn + total tickets (set views id w)) views id w
            (λ h. let is = mine t h in omega arith) (λ j u _ there h. let b = q.below_next j u t there h in omega arith) j u e h;
        each_once = λ i j u x t e f. pairs_set (λ i u j x. HasTicket t u.stage → HasTicket t x.stage → i ≡ j) views id w (λ _ _. refl)
            (λ j u _ there. ((λ h k. let is = mine t h in let b = q.below_next j u t there k in absurd (omega arith)), (λ k h. let is = mine t h in let b = q.below_next j u t there k in absurd (omega arith))))
            (λ i j u x _ _ there here. q.each_once i j u x t there here) i j u x e f;
        its_turn = λ j u e. each_set (λ j u. IsTurning u.stage → HasTicket turn u.stage) views id w (λ h. absurd (subst IsTurning now h)) (λ j u _ there. q.its_turn j u there) j u e;
      }

  turning_has : (stage : Stage E) (t : ℕ) → stage ≡ Turning t → HasTicket t stage × IsTurning stage
  turning_has stage t is = subst (λ (x : Stage E). HasTicket t x × IsTurning x) (sym is) (refl, tt)

  -- the view whose turn it is passes it on
  pub queue_passes : (turn : ℕ) (views : List (View E)) (q : Queue turn views) (id : ℕ) (v w : View E) → At views id v → HasTicket turn v.stage → w.stage ≡ Idle → Queue (turn + 1) (set views id w)
  queue_passes turn views q id v w at has now =
      let sum = total_set tickets views id v w at in let one = ticket_counts v.stage turn has in let none : tickets w.stage ≡ 0 = ap tickets now in
      let less : total tickets (set views id w) + 1 ≡ total tickets views = omega arith in
      let mine : (t : ℕ) → HasTicket t w.stage → ⊥ = λ t h. subst (HasTicket t) now h in
      let later : (j : ℕ) (u : View E) (t : ℕ) → j ≢ id → At views j u → HasTicket t u.stage → turn + 1 ≤ t = λ j u t other there h.
      let from = q.from_turn j u t there h in
      let apart : turn ≢ t = λ is. other (q.each_once j id u v t there at h (subst (λ (n : ℕ). HasTicket n v.stage) is has)) in omega arith in record {
        few = let n = length-set views id w in let few = q.few in omega arith;
        from_turn = λ j u t e h. each_set (λ j u. HasTicket t u.stage → turn + 1 ≤ t) views id w (λ h. absurd (mine t h)) (λ j u other there. later j u t other there) j u e h;
        below_next = λ j u t e h. each_set (λ j u. HasTicket t u.stage → t < turn + 1 + total tickets (set views id w)) views id w
            (λ h. absurd (mine t h)) (λ j u _ there h. let b = q.below_next j u t there h in omega arith) j u e h;
        each_once = λ i j u x t e f. pairs_set (λ i u j x. HasTicket t u.stage → HasTicket t x.stage → i ≡ j) views id w (λ _ _. refl)
            (λ j u _ there. ((λ h k. absurd (mine t h)), (λ k h. absurd (mine t h))))
            (λ i j u x _ _ there here. q.each_once i j u x t there here) i j u x e f;
        its_turn = λ j u e. each_set (λ j u. IsTurning u.stage → HasTicket (turn + 1) u.stage) views id w (λ h. absurd (subst IsTurning now h))
            (λ j u other there h. let t = q.its_turn j u there h in absurd (other (q.each_once j id u v turn there at t has))) j u e;
      }
