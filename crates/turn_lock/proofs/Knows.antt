-- How what the seats know changes.
use Rattle.std.proofs.Common.{◌≡◌, ◌≢◌, ℕ, ◌+◌, ◌<◌, List, [], ◌++◌, length, set, refl, sym, ◌∙◌, subst, arith, length-set}
use Rattle.std.specs.Prelude.{All}
use mathlib.Core.Logic.{dite}
use native.Mathlib.Decide.{ℕ_discrete}
use Rattle.std.proofs.lemmas.List.{append-nil}
use Rattle.std.proofs.lemmas.List.Elements.{All-append, All-nil, All-weaker, All-cons}
use Rattle.atomic_table.proofs.Lists.{set_here, set_else}
use Rattle.turn_lock.specs.declared.view.View.{View}
use Rattle.turn_lock.specs.Tickets.{At, IsLive, IsTurning, lives, total}
use Rattle.turn_lock.specs.Histories.{Follows, Known, Meets, seats}
use Rattle.turn_lock.proofs.Totals.{total_set, live_counts, at_within, same_at}
use Rattle.turn_lock.proofs.Queues.{each_set, pairs_set}
use Rattle.turn_lock.proofs.Prefixes.{follows_on}

module _ {E : Type 0} (seat_of : E → ℕ) where
  -- the view speaks for the same seats, and counts the same
  pub record Alike (v w : View E) : Type 0 where
    pub was_live : IsLive v.stage
    pub live : IsLive w.stage
    pub seat : w.seat ≡ v.seat
    pub joined : w.joined ≡ v.joined
    pub given : w.given ≡ v.given
    pub out : w.out ≡ v.out

  -- some live seat has seen all, where one view has changed
  pub whole_set : (log : List E) (views : List (View E)) (id : ℕ) (v w : View E) → At views id v → IsLive w.stage → (v.seen ≡ log → w.seen ≡ log)
      → (seat : ℕ) × (u : View E) × At views seat u × IsLive u.stage × (u.seen ≡ log) → (seat : ℕ) × (u : View E) × At (set views id w) seat u × IsLive u.stage × (u.seen ≡ log)
  whole_set log views id v w at live sees (j, u, there, lives_on, all) = dite (ℕ_discrete j id)
      (λ here. (id, w, set_here views id w (at_within views id v at), live, sees (subst (λ (x : View E). x.seen ≡ log) (same_at views id u v (subst (λ (k : ℕ). At views k u) here there) at) all)))
      (λ other. (j, u, set_else views id j w other ∙ there, lives_on, all))

  -- one live view changes, and the history stays or goes on by entries of its seat
  pub known_changes : (log more : List E) (views : List (View E)) (known : Known seat_of log views) (id : ℕ) (v w : View E) → At views id v → Alike v w
      → All (λ e. seat_of e ≡ id) more → Follows seat_of (seats w) w.seen (log ++ more)
      → (seat : ℕ) × (u : View E) × At (set views id w) seat u × IsLive u.stage × (u.seen ≡ log ++ more)
      → (IsTurning w.stage → w.seen ≡ log ++ more) → ((j : ℕ) (u : View E) → j ≢ id → At views j u → IsTurning u.stage → u.seen ≡ log ++ more)
      → Meets seat_of w.stage w.seen w.out → Known seat_of (log ++ more) (set views id w)
  known_changes log more views known id v w at alike own follows whole turning others_turning meets = let n = length-set views id w in let inside = at_within views id v at in record {
    made = subst (λ (k : ℕ). All (λ e. seat_of e < k) (log ++ more)) (sym n) (All-append (λ e. seat_of e < length views) log more known.made (All-weaker (λ e. seat_of e ≡ id) (λ e. seat_of e < length views) (λ e same. let s : seat_of e ≡ id = same in omega arith) more own));
    numbered = λ j u e. each_set (λ j u. IsLive u.stage → u.seat ≡ j) views id w (λ _. alike.seat ∙ known.numbered id v at alike.was_live) (λ j u _ there. known.numbered j u there) j u e;
    follows = λ j u e. each_set (λ j u. IsLive u.stage → Follows seat_of (seats u) u.seen (log ++ more)) views id w (λ _. follows)
        (λ j u other there live. follows_on seat_of (seats u) u.seen log more id (known.follows j u there live) own
        (All-cons (λ k. k ≢ id) u.seat u.joined (λ same. other (sym (known.numbered j u there live) ∙ same)) (known.apart id j v u at alike.was_live there live))) j u e;
    apart = λ i j u x e a f b. pairs_set (λ i u j x. IsLive u.stage → IsLive x.stage → All (λ k. k ≢ i) x.joined) views id w
        (λ _ _. subst (λ (l : List ℕ). All (λ k. k ≢ id) l) (sym alike.joined) (known.apart id id v v at alike.was_live at alike.was_live))
        (λ j u _ there. ((λ _ b. known.apart id j v u at alike.was_live there b), (λ b _. subst (λ (l : List ℕ). All (λ k. k ≢ j) l) (sym alike.joined) (known.apart j id u v there b at alike.was_live))))
        (λ i j u x _ _ there here a b. known.apart i j u x there a here b) i j u x e f a b;
    joined_made = subst (λ (n : ℕ). (j : ℕ) (u : View E) → At (set views id w) j u → IsLive u.stage → All (λ k. k < n) u.joined) (sym n)
        (each_set (λ j u. IsLive u.stage → All (λ k. k < length views) u.joined) views id w
        (λ _. subst (λ (l : List ℕ). All (λ k. k < length views) l) (sym alike.joined) (known.joined_made id v at alike.was_live)) (λ j u _ there. known.joined_made j u there));
    first = λ u e. let sum = total_set lives views id v w at in let a = live_counts v.stage alike.was_live in let b = live_counts w.stage alike.live in
        each_set (λ j u. j ≡ 0 → IsLive u.stage × (u.given ≡ length (set views id w)) × (u.out + 1 ≡ total lives (set views id w))) views id w
        (λ zero_is. let f = known.first v (subst (λ (k : ℕ). At views k v) zero_is at) in let g = alike.given in let o = alike.out in let f1 = f.1 in let f2 = f.2 in (alike.live, omega arith, omega arith))
        (λ j u _ there zero_is. let f = known.first u (subst (λ (k : ℕ). At views k u) zero_is there) in let f1 = f.1 in let f2 = f.2 in (f.0, omega arith, omega arith)) 0 u e refl;
    whole = whole;
    turning = λ j u e. each_set (λ j u. IsTurning u.stage → u.seen ≡ log ++ more) views id w turning others_turning j u e;
    meets = λ j u e. each_set (λ j u. Meets seat_of u.stage u.seen u.out) views id w meets (λ j u _ there. known.meets j u there) j u e;
  }

  -- one live view changes, and the history stays
  pub known_same : (log : List E) (views : List (View E)) (known : Known seat_of log views) (id : ℕ) (v w : View E) → At views id v → Alike v w
      → Follows seat_of (seats w) w.seen log → (v.seen ≡ log → w.seen ≡ log) → (IsTurning w.stage → w.seen ≡ log) → Meets seat_of w.stage w.seen w.out → Known seat_of log (set views id w)
  known_same log views known id v w at alike follows sees turning meets = let same : log ++ [] ≡ log = append-nil log in
      subst (λ (l : List E). Known seat_of l (set views id w)) same (known_changes log [] views known id v w at alike (All-nil (λ e. seat_of e ≡ id)) (subst (λ (l : List E). Follows seat_of (seats w) w.seen l) (sym same) follows)
      (subst (λ (l : List E). (seat : ℕ) × (u : View E) × At (set views id w) seat u × IsLive u.stage × (u.seen ≡ l)) (sym same) (whole_set log views id v w at alike.live sees known.whole))
      (λ t. turning t ∙ sym same) (λ j u _ there t. known.turning j u there t ∙ sym same) meets)
