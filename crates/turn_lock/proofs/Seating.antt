-- Giving a seat out, taking one in, and the end keep the rule.
use Rattle.std.proofs.Common.{◌≡◌, ◌≢◌, ℕ, zero, suc, ◌+◌, ◌%◌, ◌^◌, ◌<◌, ◌≤◌, List, [], ◌∷◌, ◌++◌, length, set, refl, sym, ap, ◌∙◌, subst, ◌⊎◌, inl, inr, ⊎_elim, arith, Option, Some, None, length-append, length-set}
use Rattle.std.specs.Prelude.{All}
use mathlib.Core.Option as maybe
use mathlib.Core.Logic.{dite}
use native.Mathlib.Decide.{ℕ_discrete}
use lib.ListN.{get_elem?}
use lib.Seq.{set-get_or}
use Rattle.std.proofs.lemmas.List.Elements.{All-nil, All-cons, All-append, All-weaker}
use Rattle.atomic_table.specs.Table.{State, Me, step, keeps, Allows, Splits, Joins, Final, Seen}
use Rattle.atomic_table.proofs.Lists.{set_here, set_else, at_longer}
use Rattle.turn_lock.specs.declared.view.View.{View}
use Rattle.turn_lock.specs.declared.view.Stage.{Stage}
use Rattle.turn_lock.specs.declared.view.Stage.TheVariants.{Idle, Joining}
use Rattle.turn_lock.specs.Tickets.{At, HasTicket, IsTurning, IsLive, Queue, tickets, lives, total}
use Rattle.turn_lock.specs.Histories.{Follows, Known, Meets, seats}
use Rattle.turn_lock.specs.Rule.{AtHome, IsOut, Kept}
use Rattle.turn_lock.specs.Steps.{with_stage, giving, given_seat, joining, spent, settled}
use Rattle.turn_lock.proofs.Totals.{total_set, total_append, live_counts, live_total, one_live, at_within, same_at}
use Rattle.turn_lock.proofs.Queues.{each_set, pairs_set, queue_same}
use Rattle.turn_lock.proofs.Prefixes.{all_left, all_right, longer_follows}
use Rattle.turn_lock.proofs.Knows.{known_same, whole_set}
use Rattle.turn_lock.proofs.Turning.{value_stays, turning_lives}

module _ {E : Type 0} where
  -- a view of the longer list: one of the list, or the new one
  at_end : (vs : List (View E)) (w u : View E) (j : ℕ) → At (vs ++ w ∷ []) j u → At vs j u ⊎ ((j ≡ length vs) × (w ≡ u))
  at_end [] w u zero e = inr (refl, maybe.some-injective w u e)
  at_end [] w u (suc j) e = absurd (maybe.some-ne-none u (sym e))
  at_end (x ∷ xs) w u zero e = inl e
  at_end (x ∷ xs) w u (suc j) e = ⊎_elim (λ h. inl h) (λ (h : (j ≡ length xs) × (w ≡ u)). inr (ap suc h.0, h.1)) (at_end xs w u j e)

  each_end : (P : ℕ → View E → Type 0) (vs : List (View E)) (w : View E) → P (length vs) w → ((j : ℕ) (u : View E) → At vs j u → P j u) → (j : ℕ) (u : View E) → At (vs ++ w ∷ []) j u → P j u
  each_end P vs w last others j u e = ⊎_elim (others j u) (λ (t : (j ≡ length vs) × (w ≡ u)). subst (λ (x : ℕ × View E). P x.0 x.1) (λ i. (sym t.0 i, t.1 i)) last) (at_end vs w u j e)

  -- a new view without a ticket
  queue_end : (turn : ℕ) (views : List (View E)) (q : Queue turn views) (w : View E) → w.stage ≡ Idle → length views + 1 < 2 ^ 32 → Queue turn (views ++ w ∷ [])
  queue_end turn views q w idle few = let sum = total_append tickets views w in let none : tickets w.stage ≡ 0 = ap tickets idle in record {
    few = omega (arith, length-append views (w ∷ []));
    from_turn = λ j u t e h. each_end (λ j u. HasTicket t u.stage → turn ≤ t) views w (λ h. absurd (subst (HasTicket t) idle h)) (λ j u there. q.from_turn j u t there) j u e h;
    below_next = λ j u t e h. each_end (λ j u. HasTicket t u.stage → t < turn + total tickets (views ++ w ∷ [])) views w (λ h. absurd (subst (HasTicket t) idle h))
        (λ j u there h. let b = q.below_next j u t there h in omega arith) j u e h;
    each_once = λ i j u x t e f a b. each_end (λ i u. HasTicket t u.stage → i ≡ j) views w (λ h. absurd (subst (HasTicket t) idle h))
        (λ i u there a. each_end (λ j x. HasTicket t x.stage → i ≡ j) views w (λ h. absurd (subst (HasTicket t) idle h)) (λ j x here b. q.each_once i j u x t there here a b) j x f b) i u e a;
    its_turn = λ j u e. each_end (λ j u. IsTurning u.stage → HasTicket turn u.stage) views w (λ h. absurd (subst IsTurning idle h)) (λ j u there. q.its_turn j u there) j u e;
  }

  -- every view of the list in which one view has changed and another is spent
  each_two : (vs : List (View E)) (id other : ℕ) (both : View E) (P : ℕ → View E → Type 0) → P id both → P other spent → ((j : ℕ) (u : View E) → j ≢ id → j ≢ other → At vs j u → P j u)
      → (j : ℕ) (u : View E) → At (set (set vs id both) other spent) j u → P j u
  each_two vs id other both P mine gone others = each_set P (set vs id both) other spent gone
      (λ j u ne e. each_set (λ j u. j ≢ other → P j u) vs id both (λ _. mine) (λ j u ne' e' ne. others j u ne' ne e') j u e ne)

  -- some live view has seen all, where one has taken the other in
  whole_two : (log : List E) (vs : List (View E)) (id other : ℕ) (v w both : View E) → At vs id v → At vs other w → At (set (set vs id both) other spent) id both → IsLive both.stage → other ≢ id
      → (v.seen ≡ log → both.seen ≡ log) → (w.seen ≡ log → both.seen ≡ log) → (seat : ℕ) × (u : View E) × At vs seat u × IsLive u.stage × (u.seen ≡ log)
      → (seat : ℕ) × (u : View E) × At (set (set vs id both) other spent) seat u × IsLive u.stage × (u.seen ≡ log)
  whole_two log vs id other v w both at there here lives_on apart one second (j, u, e, live, all) = dite (ℕ_discrete j id)
      (λ is. (id, both, here, lives_on, one (subst (λ (x : View E). x.seen ≡ log) (same_at vs id u v (subst (λ (k : ℕ). At vs k u) is e) at) all)))
      (λ ne. dite (ℕ_discrete j other)
      (λ is. (id, both, here, lives_on, second (subst (λ (x : View E). x.seen ≡ log) (same_at vs other u w (subst (λ (k : ℕ). At vs k u) is e) there) all)))
      (λ ne'. (j, u, set_else (set vs id both) other j spent ne' ∙ (set_else vs id j both ne ∙ e), live, all)))

  module _ (seat_of : E → ℕ) where
    -- seat 0 gives a seat out
    known_gives : (log : List E) (views : List (View E)) (known : Known seat_of log views) (id : ℕ) (v : View E) → At views id v → v.stage ≡ Idle → v.seat ≡ 0 → Known seat_of log (set views id (giving v) ++ given_seat v ∷ [])
    known_gives log views known id v at idle first_seat =
        let left : View E = giving v in let right : View E = given_seat v in let live : IsLive v.stage = subst IsLive (sym idle) tt in
        let zero_is : id ≡ 0 = sym (known.numbered id v at live) ∙ first_seat in let f = known.first v (subst (λ (k : ℕ). At views k v) zero_is at) in
        let same = length-set views id left in let long : length (set views id left ++ right ∷ []) ≡ length views + 1 = omega (arith, length-append (set views id left) (right ∷ [])) in
        let given : v.given ≡ length views = f.1 in let out : v.out + 1 ≡ total lives views = f.2 in
        let sum = total_set lives views id v left at in let sum' = total_append lives (set views id left) right in let one = live_counts v.stage live in
        let alive : total lives (set views id left ++ right ∷ []) ≡ total lives views + 1 = omega arith in
        let vs : List (View E) = set views id left in
        let vf = known.follows id v at live in record {
          made = subst (λ (n : ℕ). All (λ e. seat_of e < n) log) (sym long) (All-weaker (λ e. seat_of e < length views) (λ e. seat_of e < length views + 1) (λ e (h : seat_of e < length views). omega arith) log known.made);
          numbered = each_end (λ j u. IsLive u.stage → u.seat ≡ j) vs right (λ _. given ∙ sym same) (each_set (λ j u. IsLive u.stage → u.seat ≡ j) views id left (λ _. known.numbered id v at live) (λ j u _ there. known.numbered j u there));
          follows = each_end (λ j u. IsLive u.stage → Follows seat_of (seats u) u.seen log) vs right
              (λ _. record {
                past = vf.past;
                is = vf.is;
                none = all_right seat_of (λ e. All (λ k. k ≢ seat_of e) (seats right)) v.seen vf.past (subst (All (λ e. All (λ k. k ≢ seat_of e) (seats right))) vf.is
                    (All-weaker (λ e. seat_of e < length views) (λ e. All (λ k. k ≢ seat_of e) (seats right)) (λ e (h : seat_of e < length views). All-cons (λ k. k ≢ seat_of e) v.given [] (omega arith) (All-nil (λ k. k ≢ seat_of e))) log known.made));
              })
              (each_set (λ j u. IsLive u.stage → Follows seat_of (seats u) u.seen log) views id left (λ _. vf) (λ j u _ there. known.follows j u there));
          apart = λ i j u x e a h b. each_end (λ j x. IsLive x.stage → All (λ k. k ≢ i) x.joined) vs right (λ _. All-nil (λ k. k ≢ i))
              (λ j x here b. each_end (λ i u. IsLive u.stage → All (λ k. k ≢ i) x.joined) vs right
              (λ _. each_set (λ j x. IsLive x.stage → All (λ k. k ≢ length vs) x.joined) views id left
              (λ _. All-weaker (λ k. k < length views) (λ k. k ≢ length vs) (λ k (h : k < length views). omega arith) v.joined (known.joined_made id v at live))
              (λ j x _ there b. All-weaker (λ k. k < length views) (λ k. k ≢ length vs) (λ k (h : k < length views). omega arith) x.joined (known.joined_made j x there b)) j x here b)
              (λ i u there a. pairs_set (λ i u j x. IsLive u.stage → IsLive x.stage → All (λ k. k ≢ i) x.joined) views id left (λ _ _. known.apart id id v v at live at live)
              (λ j u _ at_j. ((λ _ b. known.apart id j v u at live at_j b), (λ b _. known.apart j id u v at_j b at live))) (λ i j u x _ _ p q a b. known.apart i j u x p a q b) i j u x there here a b) i u e a) j x h b;
          joined_made = subst (λ (n : ℕ). (j : ℕ) (u : View E) → At (vs ++ right ∷ []) j u → IsLive u.stage → All (λ k. k < n) u.joined) (sym long)
              (each_end (λ j u. IsLive u.stage → All (λ k. k < length views + 1) u.joined) vs right (λ _. All-nil (λ k. k < length views + 1))
              (each_set (λ j u. IsLive u.stage → All (λ k. k < length views + 1) u.joined) views id left
              (λ _. All-weaker (λ k. k < length views) (λ k. k < length views + 1) (λ k (h : k < length views). omega arith) v.joined (known.joined_made id v at live))
              (λ j u _ there a. All-weaker (λ k. k < length views) (λ k. k < length views + 1) (λ k (h : k < length views). omega arith) u.joined (known.joined_made j u there a))));
          first = λ u e. let within = at_within views id v at in
              each_end (λ j u. j ≡ 0 → IsLive u.stage × (u.given ≡ length (vs ++ right ∷ [])) × (u.out + 1 ≡ total lives (vs ++ right ∷ []))) vs right (λ none. absurd (omega arith))
              (each_set (λ j u. j ≡ 0 → IsLive u.stage × (u.given ≡ length (vs ++ right ∷ [])) × (u.out + 1 ≡ total lives (vs ++ right ∷ []))) views id left (λ _. (live, omega arith, omega arith))
              (λ j u other there is. absurd (other (is ∙ sym zero_is)))) 0 u e refl;
          whole = let t = whole_set seat_of log views id v left at live (λ h. h) known.whole in (t.0, t.1, at_longer vs (right ∷ []) t.0 t.1 t.2, t.3, t.4);
          turning = each_end (λ j u. IsTurning u.stage → u.seen ≡ log) vs right (λ h. absurd h) (each_set (λ j u. IsTurning u.stage → u.seen ≡ log) views id left (λ h. known.turning id v at h) (λ j u _ there. known.turning j u there));
          meets = each_end (λ j u. Meets seat_of u.stage u.seen u.out) vs right tt
              (each_set (λ j u. Meets seat_of u.stage u.seen u.out) views id left (subst (λ (z : Stage E). Meets seat_of z v.seen (v.out + 1)) (sym idle) tt) (λ j u _ there. known.meets j u there));
        }

    -- seat 0 takes another seat in
    known_joins : (log : List E) (views : List (View E)) (known : Known seat_of log views) (id other : ℕ) (v w : View E) → At views id v → At views other w → other ≢ id → v.stage ≡ Idle → w.stage ≡ Idle → v.seat ≡ 0
        → Known seat_of log (set (set views id (joining v w)) other spent)
    known_joins log views known id other v w at there apart idle idle' first_seat =
        let both : View E = joining v w in let vs : List (View E) = set views id both in let live : IsLive v.stage = subst IsLive (sym idle) tt in let live' : IsLive w.stage = subst IsLive (sym idle') tt in
        let there' : At vs other w = set_else views id other both apart ∙ there in
        let zero_is : id ≡ 0 = sym (known.numbered id v at live) ∙ first_seat in let f = known.first v (subst (λ (k : ℕ). At views k v) zero_is at) in
        let same = length-set views id both in let same' = length-set vs other spent in let long : length (set vs other spent) ≡ length views = omega arith in
        let given : v.given ≡ length views = f.1 in let out : v.out + 1 ≡ total lives views = f.2 in
        let sum = total_set lives views id v both at in let sum' = total_set lives vs other w spent there' in let one = live_counts v.stage live in let one' = live_counts w.stage live' in
        let here : At (set vs other spent) id both = set_else vs other id spent (λ e. apart (sym e)) ∙ set_here views id both (at_within views id v at) in
        let some_left = live_total (set vs other spent) id both here tt in
        let alive : total lives (set vs other spent) ≡ v.out = omega arith in
        let number' = known.numbered other w there live' in let within' = at_within views other w there in
        let l = longer_follows seat_of (seats v) (seats w) v.seen w.seen log (known.follows id v at live) (known.follows other w there live') in
        let joins_all : (P : ℕ → Type 0) → All P v.joined → P w.seat → All P w.joined → All P both.joined = λ P a b c. All-append P v.joined (seats w) a (All-cons P w.seat w.joined b c) in record {
          made = subst (λ (n : ℕ). All (λ e. seat_of e < n) log) (sym long) known.made;
          numbered = each_two views id other both (λ j u. IsLive u.stage → u.seat ≡ j) (λ _. known.numbered id v at live) (λ h. absurd h) (λ j u _ _ e. known.numbered j u e);
          follows = each_two views id other both (λ j u. IsLive u.stage → Follows seat_of (seats u) u.seen log) (λ _. l.both) (λ h. absurd h) (λ j u _ _ e. known.follows j u e);
          apart = λ i j u x e a h b. each_two views id other both (λ j x. IsLive x.stage → All (λ k. k ≢ i) x.joined)
              (λ _. each_two views id other both (λ i u. IsLive u.stage → All (λ k. k ≢ i) both.joined)
              (λ _. joins_all (λ k. k ≢ id) (known.apart id id v v at live at live) (λ same. apart (sym number' ∙ same)) (known.apart id other v w at live there live'))
              (λ h. absurd h)
              (λ i u _ ne e a. joins_all (λ k. k ≢ i) (known.apart i id u v e a at live) (λ same. ne (sym same ∙ number')) (known.apart i other u w e a there live')) i u e a)
              (λ h. absurd h)
              (λ j x _ _ q b. each_two views id other both (λ i u. IsLive u.stage → All (λ k. k ≢ i) x.joined) (λ _. known.apart id j v x at live q b) (λ h. absurd h) (λ i u _ _ p a. known.apart i j u x p a q b) i u e a) j x h b;
          joined_made = subst (λ (n : ℕ). (j : ℕ) (u : View E) → At (set vs other spent) j u → IsLive u.stage → All (λ k. k < n) u.joined) (sym long)
              (each_two views id other both (λ j u. IsLive u.stage → All (λ k. k < length views) u.joined)
              (λ _. joins_all (λ k. k < length views) (known.joined_made id v at live) (omega arith) (known.joined_made other w there live')) (λ h. absurd h) (λ j u _ _ e. known.joined_made j u e));
          first = λ u e. each_two views id other both (λ j u. j ≡ 0 → IsLive u.stage × (u.given ≡ length (set vs other spent)) × (u.out + 1 ≡ total lives (set vs other spent)))
              (λ _. (tt, omega arith, omega arith)) (λ is. absurd (apart (is ∙ sym zero_is))) (λ j u ne _ _ is. absurd (ne (is ∙ sym zero_is))) 0 u e refl;
          whole = whole_two log views id other v w both at there here tt apart l.first_whole l.second_whole known.whole;
          turning = each_two views id other both (λ j u. IsTurning u.stage → u.seen ≡ log) (λ h. absurd h) (λ h. absurd h) (λ j u _ _ e. known.turning j u e);
          meets = each_two views id other both (λ j u. Meets seat_of u.stage u.seen u.out) (l.one, l.other, omega arith) tt (λ j u _ _ e. known.meets j u e);
        }

module _ {V E : Type 0} (history : V → List E) (seat_of : E → ℕ) where
  abbrev Rule : State (Option V) (View E) → Type 0
  Rule = Kept history seat_of

  value_ends : (homes : List (maybe.Option (Option V))) (log : List E) (views : List (View E)) (w : View E) → (IsTurning w.stage → ⊥) → AtHome history homes log views ⊎ IsOut history views → AtHome history homes log (views ++ w ∷ []) ⊎ IsOut history (views ++ w ∷ [])
  value_ends homes log views w not = ⊎_elim
      (λ (h : AtHome history homes log views). inl record { value = h.value; home = h.home; has_all = h.has_all; nobody = each_end (λ j u. IsTurning u.stage → ⊥) views w not h.nobody })
      (λ (o : IsOut history views). inr record { seat = o.seat; view = o.view; at = at_longer views (w ∷ []) o.seat o.view o.at; turning = o.turning })

  pub splits : (id : ℕ) (v : View E) → v.stage ≡ Idle → v.seat ≡ 0 → v.given < 4294967295 → Splits Rule id v (giving v) (given_seat v)
  splits id v idle first_seat room s r at = let left : View E = giving v in let right : View E = given_seat v in let vs : List (View E) = set s.views id left in
      let live : IsLive v.stage = subst IsLive (sym idle) tt in let zero_is : id ≡ 0 = sym (r.known.numbered id v at live) ∙ first_seat in
      let given = (r.known.first v (subst (λ (k : ℕ). At s.views k v) zero_is at)).1 in let same_length = length-set s.views id left in
      let not : IsTurning v.stage → ⊥ = λ h. subst IsTurning idle h in
      let sum = total_set tickets s.views id v left at in let sum' = total_append tickets vs right in let same : r.turn + total tickets s.views ≡ r.turn + total tickets (vs ++ right ∷ []) = omega arith in record {
        turn = r.turn;
        log = r.log;
        words = r.words ∙ ap (λ (n : ℕ). (n % 2 ^ 64) ∷ (r.turn % 2 ^ 64) ∷ length r.log ∷ []) same;
        queue = queue_end r.turn vs (queue_same r.turn s.views r.queue id v left at refl (λ t h. h) (λ h. absurd (not h))) right refl (omega arith);
        known = known_gives seat_of r.log s.views r.known id v at idle first_seat;
        value = value_ends s.homes r.log vs right (λ h. h) (value_stays history seat_of s.homes r.log s.views id v left at not not r.value);
      }

  pub joins : (id : ℕ) (v : View E) (other : ℕ) (w : View E) → v.stage ≡ Idle → w.stage ≡ Idle → v.seat ≡ 0 → Joins Rule id v other w (joining v w) spent
  joins id v other w idle idle' first_seat s r at apart there' = let both : View E = joining v w in let vs : List (View E) = set s.views id both in
      let there : At s.views other w = sym (set_else s.views id other both apart) ∙ there' in
      let sum = total_set tickets s.views id v both at in let sum' = total_set tickets vs other w spent there' in
      let none : tickets v.stage ≡ 0 = ap tickets idle in let none' : tickets w.stage ≡ 0 = ap tickets idle' in
      let same : r.turn + total tickets s.views ≡ r.turn + total tickets (set vs other spent) = omega arith in record {
        turn = r.turn;
        log = r.log;
        words = r.words ∙ ap (λ (n : ℕ). (n % 2 ^ 64) ∷ (r.turn % 2 ^ 64) ∷ length r.log ∷ []) same;
        queue = queue_same r.turn vs (queue_same r.turn s.views r.queue id v both at (sym none) (λ t h. absurd h) (λ h. absurd h)) other w spent there' (sym none') (λ t h. absurd h) (λ h. absurd h);
        known = known_joins seat_of r.log s.views r.known id other v w at there apart idle idle' first_seat;
        value = value_stays history seat_of s.homes r.log vs other w spent there' (λ h. subst IsTurning idle' h) (λ h. h)
            (value_stays history seat_of s.homes r.log s.views id v both at (λ h. subst IsTurning idle h) (λ h. h) r.value);
      }

  -- all that seat 0 has seen is of seats that were made
  seen_made : (log : List E) (views : List (View E)) (known : Known seat_of log views) (id : ℕ) (v : View E) → At views id v → IsLive v.stage → v.seat ≡ 0 → All (λ e. seat_of e < v.given) v.seen
  seen_made log views known id v at live first_seat =
      let zero_is : id ≡ 0 = sym (known.numbered id v at live) ∙ first_seat in
      let given : v.given ≡ length views = (known.first v (subst (λ (k : ℕ). At views k v) zero_is at)).1 in
      let f = known.follows id v at live in
      subst (λ (k : ℕ). All (λ e. seat_of e < k) v.seen) (sym given) (all_left seat_of (λ e. seat_of e < length views) v.seen f.past (subst (All (λ e. seat_of e < length views)) f.is known.made))

  -- a view with no ticket tells what it knows, and is idle
  tells : (slots id : ℕ) (me : Me (Option V) (View E)) → IsLive me.0.stage → tickets me.0.stage ≡ 0 → (IsTurning me.0.stage → ⊥) → Allows Rule slots id me 0 (λ k. k) (settled seat_of (step slots 0 0 0 maybe.none) me)
  tells slots id me live none idle s r _ at _ = let v : View E = me.0 in let w : View E = with_stage Idle v in
      let sum = total_set tickets s.views id v w at in
      let same : r.turn + total tickets s.views ≡ r.turn + total tickets (set s.views id w) = omega arith in (
        w,
        keeps,
        tt,
        record {
          turn = r.turn;
          log = r.log;
          words = set-get_or s.words 0 0 ∙ (r.words ∙ ap (λ (n : ℕ). (n % 2 ^ 64) ∷ (r.turn % 2 ^ 64) ∷ length r.log ∷ []) same);
          queue = queue_same r.turn s.views r.queue id v w at (sym none) (λ t h. absurd h) (λ h. absurd h);
          known = known_same seat_of r.log s.views r.known id v w at record { was_live = live; live = tt; seat = refl; joined = refl; given = refl; out = refl } (r.known.follows id v at live) (λ e. e) (λ h. absurd h) tt;
          value = value_stays history seat_of s.homes r.log s.views id v w at idle (λ h. h) r.value;
        },
        (refl, r.known.meets id v at, seen_made r.log s.views r.known id v at live),
      )

  -- one that has taken another in, and one that is idle
  pub settles : (slots id : ℕ) (me : Me (Option V) (View E)) (a : List ℕ) (x : List E) (b : List ℕ) (y : List E) (n : ℕ) → me.0.stage ≡ Joining a x b y n → Allows Rule slots id me 0 (λ k. k) (settled seat_of (step slots 0 0 0 maybe.none) me)
  settles slots id me a x b y n joins = tells slots id me (subst IsLive (sym joins) tt) (ap tickets joins) (λ h. subst IsTurning joins h)

  pub rests : (slots id : ℕ) (me : Me (Option V) (View E)) → me.0.stage ≡ Idle → Allows Rule slots id me 0 (λ k. k) (settled seat_of (step slots 0 0 0 maybe.none) me)
  rests slots id me idle = tells slots id me (subst IsLive (sym idle) tt) (ap tickets idle) (λ h. subst IsTurning idle h)

  -- what the value is in the end
  pub closes : (id : ℕ) (v : View E) (ws : List ℕ) (xs : List (Option V)) → v.stage ≡ Idle → v.seat ≡ 0 → v.out ≡ 0 → Final (Seen Rule id v) ws xs
      → (x : V) × (get_elem? xs 0 ≡ maybe.some (Some x)) × (history x ≡ v.seen) × All (λ e. seat_of e < v.given) (history x)
  closes id v ws xs idle first_seat none (s, (r, at), _, _, items) = let live : IsLive v.stage = subst IsLive (sym idle) tt in let zero_is : id ≡ 0 = sym (r.known.numbered id v at live) ∙ first_seat in
      let f = r.known.first v (subst (λ (k : ℕ). At s.views k v) zero_is at) in let given : v.given ≡ length s.views = f.1 in let out : v.out + 1 ≡ total lives s.views = f.2 in
      let t = r.known.whole in let mine : t.0 ≡ id = one_live s.views t.0 id t.1 v t.2 at t.3 live (omega arith) in
      let seen : v.seen ≡ r.log = subst (λ (u : View E). u.seen ≡ r.log) (same_at s.views id t.1 v (subst (λ (k : ℕ). At s.views k t.1) mine t.2) at) t.4 in
      ⊎_elim
      (λ (h : AtHome history s.homes r.log s.views). (
        h.value,
        items 0 (Some h.value) h.home,
        h.has_all ∙ sym seen,
        subst (λ (z : ℕ × List E). All (λ e. seat_of e < z.0) z.1) (λ i. (sym given i, sym h.has_all i)) r.known.made,
      ))
      (λ (o : IsOut history s.views). let is = one_live s.views o.seat id o.view v o.at at (turning_lives o.view.stage o.turning) live (omega arith) in
      absurd (subst IsTurning idle (subst (λ (u : View E). IsTurning u.stage) (same_at s.views id o.view v (subst (λ (k : ℕ). At s.views k o.view) is o.at) at) o.turning))) r.value

-- the slot has one value
pub same_value : {V : Type 0} (x value : V) (o : maybe.Option (Option V)) (slot : Option V) → o ≡ maybe.some (Some x) → o ≡ maybe.some slot → slot ≡ Some value → x ≡ value
same_value x value o slot e f is = cc

pub no_value : {V : Type 0} (x : V) (o : maybe.Option (Option V)) (slot : Option V) → o ≡ maybe.some (Some x) → o ≡ maybe.some slot → slot ≡ None → ⊥
no_value x o slot e f is = cc
