-- The steps of a turn keep the rule: drawing a ticket, looking at the turn, counting the entries, passing the turn.
use Rattle.std.proofs.Common.{◌≡◌, ◌≢◌, ℕ, zero, suc, ◌+◌, ◌-◌, ◌%◌, ◌^◌, ◌<◌, List, [], ◌∷◌, ◌++◌, length, set, get_or, refl, sym, ap, ◌∙◌, subst, ◌⊎◌, inl, inr, ⊎_elim, arith, Option, Some, length-append}
use Rattle.std.proofs.Math.Nat.{mod-add-mod}
use Rattle.std.specs.Prelude.{All}
use mathlib.Core.Option as maybe
use mathlib.Core.Logic.{dite}
use native.Mathlib.Decide.{ℕ_discrete}
use lib.Seq.{set-get_or}
use Rattle.std.proofs.lemmas.List.Elements.{All-nil}
use Rattle.atomic_table.specs.Table.{State, Me, step, keeps, takes, gives, rest, put_back, opening, stepped, Allows}
use Rattle.atomic_table.proofs.Lists.{at_set, set_here, set_again}
use Rattle.turn_lock.specs.declared.view.View.{View}
use Rattle.turn_lock.specs.declared.view.Stage.{Stage}
use Rattle.turn_lock.specs.declared.view.Stage.TheVariants.{Idle, Waiting, Turning, Joining, Spent}
use Rattle.turn_lock.specs.Tickets.{At, HasTicket, IsTurning, IsLive, ticket_of, tickets, total}
use Rattle.turn_lock.specs.Histories.{Follows, GoesOn, Meets, seats}
use Rattle.turn_lock.specs.Rule.{AtHome, IsOut, Kept}
use Rattle.turn_lock.specs.Steps.{with_stage, turning, seeing, newcomer, drawn, looked, counted, passed, carried}
use Rattle.turn_lock.proofs.Totals.{total_set, at_within, same_at}
use Rattle.turn_lock.proofs.Queues.{own_turn, each_set, queue_same, queue_draws, queue_passes}
use Rattle.turn_lock.proofs.Prefixes.{follows_all}
use Rattle.turn_lock.proofs.Knows.{known_changes, known_same}

module _ {E : Type 0} where
  pub turning_lives : (stage : Stage E) → IsTurning stage → IsLive stage
  turning_lives Idle h = absurd h
  turning_lives (Waiting t) h = absurd h
  turning_lives (Turning t) h = tt
  turning_lives (Joining a x b y n) h = absurd h
  turning_lives Spent h = absurd h

  turning_meets : (seat_of : E → ℕ) (stage : Stage E) (seen : List E) (out : ℕ) → IsTurning stage → Meets seat_of stage seen out
  turning_meets seat_of Idle seen out h = absurd h
  turning_meets seat_of (Waiting t) seen out h = absurd h
  turning_meets seat_of (Turning t) seen out h = tt
  turning_meets seat_of (Joining a x b y n) seen out h = absurd h
  turning_meets seat_of Spent seen out h = absurd h

  at_only : (x v : View E) (j : ℕ) → At (x ∷ []) j v → (j ≡ 0) × (x ≡ v)
  at_only x v zero e = (refl, maybe.some-injective x v e)
  at_only x v (suc j) e = absurd (maybe.some-ne-none v (sym e))

module _ {V E : Type 0} (history : V → List E) (seat_of : E → ℕ) where
  abbrev St : Type 0
  St = State (Option V) (View E)

  abbrev M : Type 0
  M = Me (Option V) (View E)

  abbrev Rule : St → Type 0
  Rule = Kept history seat_of

  -- where a view changes that is in its turn neither before nor after, the value stays where it is
  pub value_stays : (homes : List (maybe.Option (Option V))) (log : List E) (views : List (View E)) (id : ℕ) (v w : View E) → At views id v → (IsTurning v.stage → ⊥) → (IsTurning w.stage → ⊥)
      → AtHome history homes log views ⊎ IsOut history views → AtHome history homes log (set views id w) ⊎ IsOut history (set views id w)
  value_stays homes log views id v w at not_before not_after = ⊎_elim
      (λ (h : AtHome history homes log views). inl record {
        value = h.value;
        home = h.home;
        has_all = h.has_all;
        nobody = λ j u e. each_set (λ j u. IsTurning u.stage → ⊥) views id w not_after (λ j u _ there. h.nobody j u there) j u e;
      })
      (λ (o : IsOut history views). inr (dite (ℕ_discrete o.seat id)
      (λ here. absurd (not_before (subst (λ (u : View E). IsTurning u.stage) (same_at views id o.view v (subst (λ (k : ℕ). At views k o.view) here o.at) at) o.turning)))
      (λ other. record { seat = o.seat; view = o.view; at = Rattle.atomic_table.proofs.Lists.set_else views id o.seat w other ∙ o.at; turning = o.turning })))

  pub draws : (slots id : ℕ) (me : M) → me.0.stage ≡ Idle → Allows Rule slots id me 0 (λ n. (n + 1) % 2 ^ 64) (drawn (step slots 0 1 0 maybe.none) me)
  draws slots id me idle s r _ at _ = let v : View E = me.0 in let next : ℕ = r.turn + total tickets s.views in let w : View E = with_stage (Waiting next) v in
      let live : IsLive v.stage = subst IsLive (sym idle) tt in let sum = total_set tickets s.views id v w at in let none : tickets v.stage ≡ 0 = ap tickets idle in
      let more : next + 1 ≡ r.turn + total tickets (set s.views id w) = omega arith in (
        w,
        keeps,
        tt,
        record {
          turn = r.turn;
          log = r.log;
          words = ap (λ (ws : List ℕ). set ws 0 ((get_or ws 0 0 + 1) % 2 ^ 64)) r.words ∙ ap (λ (n : ℕ). n ∷ (r.turn % 2 ^ 64) ∷ length r.log ∷ []) (mod-add-mod next (2 ^ 64) 1 ∙ ap (λ (n : ℕ). n % 2 ^ 64) more);
          queue = queue_draws r.turn s.views r.queue id v w at idle refl;
          known = known_same seat_of r.log s.views r.known id v w at record { was_live = live; live = tt; seat = refl; joined = refl; given = refl; out = refl } (r.known.follows id v at live) (λ e. e) (λ h. absurd h) tt;
          value = value_stays s.homes r.log s.views id v w at (λ h. subst IsTurning idle h) (λ h. h) r.value;
        },
        (refl, ap (λ (ws : List ℕ). get_or ws 0 0) r.words),
      )

  -- a view whose ticket's turn has come, and which hasn't looked yet, finds the value at home
  finds_home : (s : St) (r : Rule s) (id : ℕ) (v : View E) → At s.views id v → HasTicket r.turn v.stage → (IsTurning v.stage → ⊥) → AtHome history s.homes r.log s.views
  finds_home s r id v at has not = ⊎_elim (λ (h : AtHome history s.homes r.log s.views). h)
      (λ (o : IsOut history s.views). let its = r.queue.its_turn o.seat o.view o.at o.turning in let here = r.queue.each_once o.seat id o.view v r.turn o.at at its has in
      absurd (not (subst (λ (u : View E). IsTurning u.stage) (same_at s.views id o.view v (subst (λ (k : ℕ). At s.views k o.view) here o.at) at) o.turning))) r.value

  -- the turn has come
  starts : (s : St) (r : Rule s) (id : ℕ) (cs : List (ℕ × Option V)) (v : View E) → At s.views id v → v.stage ≡ Waiting (ticket_of v.stage) → r.turn ≡ ticket_of v.stage → (h : AtHome history s.homes r.log s.views)
      → Rule (stepped s 1 (get_or s.words 1 0) id cs (turning v (history h.value)) (takes 0 (Some h.value)))
  starts s r id cs v at waits mine h = let w : View E = turning v (history h.value) in let live : IsLive v.stage = subst IsLive (sym waits) tt in let sum = total_set tickets s.views id v w at in
      let one : tickets v.stage ≡ 1 = ap tickets waits in let same : r.turn + total tickets s.views ≡ r.turn + total tickets (set s.views id w) = omega arith in record {
        turn = r.turn;
        log = r.log;
        words = set-get_or s.words 1 0 ∙ (r.words ∙ ap (λ (n : ℕ). (n % 2 ^ 64) ∷ (r.turn % 2 ^ 64) ∷ length r.log ∷ []) same);
        queue = queue_same r.turn s.views r.queue id v w at (sym one) (λ t h. subst (HasTicket t) (sym waits) h) (λ _. sym mine);
        known = known_same seat_of r.log s.views r.known id v w at record { was_live = live; live = tt; seat = refl; joined = refl; given = refl; out = refl }
            (subst (λ (l : List E). Follows seat_of (seats w) l r.log) (sym h.has_all) (follows_all seat_of (seats w) r.log)) (λ _. h.has_all) (λ _. h.has_all) tt;
        value = inr record { seat = id; view = w; at = set_here s.views id w (at_within s.views id v at); turning = tt };
      }

  pub looks : (slots id : ℕ) (me : M) → me.0.stage ≡ Waiting (ticket_of me.0.stage) → Allows Rule slots id me 1 (λ n. n) (looked history seat_of (step slots 1 0 0 maybe.none) me)
  looks slots id me waits s r _ at _ = let v : View E = me.0 in let t : ℕ = ticket_of v.stage in let word : get_or s.words 1 0 ≡ r.turn % 2 ^ 64 = ap (λ (ws : List ℕ). get_or ws 1 0) r.words in
      let has : HasTicket t v.stage = subst (HasTicket t) (sym waits) refl in dite (ℕ_discrete (get_or s.words 1 0) (t % 2 ^ 64))
      (λ hit. let mine : r.turn ≡ t = own_turn r.turn s.views r.queue id v t at has (sym word ∙ hit) in
      let h = finds_home s r id v at (subst (λ (n : ℕ). HasTicket n v.stage) (sym mine) has) (λ k. subst IsTurning waits k) in (
        turning v (history h.value),
        takes 0 (Some h.value),
        h.home,
        starts s r id me.1 v at waits mine h,
        ((λ _. (h.value, refl, subst (λ (l : List E). Follows seat_of (seats v) v.seen l) (sym h.has_all) (r.known.follows id v at (subst IsLive (sym waits) tt)))), (λ ne. absurd (ne hit))),
      ))
      (λ miss. (
        v,
        keeps,
        tt,
        subst (λ (z : List ℕ × List (View E)). Rule record { words = z.0; homes = s.homes; views = z.1 }) (λ i. (sym (set-get_or s.words 1 0) i, sym (set_again s.views id v at) i)) r,
        ((λ hit. absurd (miss hit)), (λ _. refl)),
      ))

  -- the history goes on by entries of the seat whose turn it is
  counts_past : (s : St) (r : Rule s) (id : ℕ) (v : View E) (log past : List E) (k : ℕ) → At s.views id v → IsTurning v.stage → log ≡ r.log ++ past → All (λ e. seat_of e ≡ id) past → length log ≡ length r.log + k → length log < 2 ^ 64
      → (cs : List (ℕ × Option V)) → Rule (stepped s 2 ((get_or s.words 2 0 + k) % 2 ^ 64) id cs (seeing v log) keeps)
  counts_past s r id v log past k at turns is own long small cs = let w : View E = seeing v log in let sum = total_set tickets s.views id v w at in
      let same : r.turn + total tickets s.views ≡ r.turn + total tickets (set s.views id w) = omega arith in let live = turning_lives v.stage turns in
      let here = set_here s.views id w (at_within s.views id v at) in
      let fits : (length r.log + k) % 2 ^ 64 ≡ length (r.log ++ past) = ap (λ (n : ℕ). n % 2 ^ 64) (sym long) ∙ (Rattle.std.proofs.Math.Nat.mod-eq_of_lt small ∙ ap length is) in record {
        turn = r.turn;
        log = r.log ++ past;
        words = ap (λ (ws : List ℕ). set ws 2 ((get_or ws 2 0 + k) % 2 ^ 64)) r.words ∙ (λ i. (same i % 2 ^ 64) ∷ (r.turn % 2 ^ 64) ∷ fits i ∷ []);
        queue = queue_same r.turn s.views r.queue id v w at refl (λ t h. h) (λ h. r.queue.its_turn id v at h);
        known = known_changes seat_of r.log past s.views r.known id v w at record { was_live = live; live = live; seat = refl; joined = refl; given = refl; out = refl } own
            (subst (λ (l : List E). Follows seat_of (seats w) l (r.log ++ past)) (sym is) (follows_all seat_of (seats w) (r.log ++ past))) (id, w, here, live, is) (λ _. is)
            (λ j u other there t. absurd (other (r.queue.each_once j id u v r.turn there at (r.queue.its_turn j u there t) (r.queue.its_turn id v at turns)))) (turning_meets seat_of v.stage log v.out turns);
        value = inr record { seat = id; view = w; at = here; turning = turns };
      }

  pub counts : (slots id : ℕ) (me : M) (k : ℕ) → IsTurning me.0.stage → GoesOn seat_of me.0.seat me.0.seen (carried history me.1) → length (carried history me.1) ≡ length me.0.seen + k → length (carried history me.1) < 2 ^ 64
      → Allows Rule slots id me 2 (λ n. (n + k) % 2 ^ 64) (counted history (step slots 2 k 0 maybe.none) me)
  counts slots id me k turns on long small s r _ at _ = let v : View E = me.0 in let seen : v.seen ≡ r.log = r.known.turning id v at turns in let number = r.known.numbered id v at (turning_lives v.stage turns) in (
    seeing v (carried history me.1),
    keeps,
    tt,
    counts_past s r id v (carried history me.1) on.past k at turns (on.is ∙ ap (λ (l : List E). l ++ on.past) seen) (subst (λ (n : ℕ). All (λ e. seat_of e ≡ n) on.past) number on.own) (long ∙ ap (λ (l : List E). length l + k) seen) small me.1,
    refl,
  )

  -- the value is put back, and the turn passed
  ends : (s : St) (r : Rule s) (id : ℕ) (v : View E) (x : V) → length s.homes ≡ 1 → At s.views id v → IsTurning v.stage → history x ≡ v.seen
      → Rule record { words = set s.words 1 ((get_or s.words 1 0 + 1) % 2 ^ 64); homes = set s.homes 0 (maybe.some (Some x)); views = set s.views id (with_stage Idle v) }
  ends s r id v x one at turns has = let w : View E = with_stage Idle v in let sum = total_set tickets s.views id v w at in let live = turning_lives v.stage turns in let its = r.queue.its_turn id v at turns in
      let counts = Rattle.turn_lock.proofs.Totals.ticket_counts v.stage r.turn its in let same : r.turn + total tickets s.views ≡ r.turn + 1 + total tickets (set s.views id w) = omega arith in record {
        turn = r.turn + 1;
        log = r.log;
        words = ap (λ (ws : List ℕ). set ws 1 ((get_or ws 1 0 + 1) % 2 ^ 64)) r.words ∙ (λ i. (same i % 2 ^ 64) ∷ mod-add-mod r.turn (2 ^ 64) 1 i ∷ length r.log ∷ []);
        queue = queue_passes r.turn s.views r.queue id v w at its refl;
        known = known_same seat_of r.log s.views r.known id v w at record { was_live = live; live = tt; seat = refl; joined = refl; given = refl; out = refl } (r.known.follows id v at live) (λ e. e) (λ h. absurd h) tt;
        value = inl record {
          value = x;
          home = set_here s.homes 0 (maybe.some (Some x)) (omega arith);
          has_all = has ∙ r.known.turning id v at turns;
          nobody = λ j u e. each_set (λ j u. IsTurning u.stage → ⊥) s.views id w (λ h. h)
              (λ j u other there t. other (r.queue.each_once j id u v r.turn there at (r.queue.its_turn j u there t) its)) j u e;
        };
      }

  pub passes : (slots id : ℕ) (me : M) (x : V) → slots ≡ 1 → IsTurning me.0.stage → me.1 ≡ (0, Some x) ∷ [] → history x ≡ me.0.seen → Allows Rule slots id me 1 (λ n. (n + 1) % 2 ^ 64) (passed (step slots 1 1 0 maybe.none) me)
  passes slots id me x one turns holds has s r wide at _ = (
    with_stage Idle me.0,
    gives,
    tt,
    subst (λ (c : List (ℕ × Option V)). Rule record { words = set s.words 1 ((get_or s.words 1 0 + 1) % 2 ^ 64); homes = put_back s.homes c; views = set s.views id (with_stage Idle me.0) }) (sym holds) (ends s r id me.0 x (wide ∙ one) at turns has),
    λ i. (with_stage Idle me.0, rest (holds i)),
  )

  -- the lock as it is made
  pub opens : (value : V) (slots : List (Option V)) → slots ≡ Some value ∷ [] → history value ≡ [] → Rule (opening (0 ∷ 0 ∷ 0 ∷ []) slots newcomer)
  opens value slots is none = subst (λ (xs : List (Option V)). Rule (opening (0 ∷ 0 ∷ 0 ∷ []) xs newcomer)) (sym is) record {
    turn = 0;
    log = [];
    words = refl;
    queue = record {
      few = omega arith;
      from_turn = λ j v t e h. omega arith;
      below_next = λ j v t e h. absurd (subst (λ (u : View E). HasTicket t u.stage) (sym (at_only newcomer v j e).1) h);
      each_once = λ i j v w t e f h k. (at_only newcomer v i e).0 ∙ sym (at_only newcomer w j f).0;
      its_turn = λ j v e h. absurd (subst (λ (u : View E). IsTurning u.stage) (sym (at_only newcomer v j e).1) h);
    };
    known = record {
      made = All-nil _;
      numbered = λ j v e _. let a = at_only newcomer v j e in sym (ap (λ (u : View E). u.seat) a.1) ∙ sym a.0;
      follows = λ j v e _. subst (λ (u : View E). Follows seat_of (seats u) u.seen []) (at_only newcomer v j e).1 (follows_all seat_of (0 ∷ []) []);
      apart = λ i j v w e _ f _. subst (λ (u : View E). All (λ k. k ≢ i) u.joined) (at_only newcomer w j f).1 (All-nil _);
      joined_made = λ j v e _. subst (λ (u : View E). All (λ k. k < 1) u.joined) (at_only newcomer v j e).1 (All-nil _);
      first = λ v e. subst (λ (u : View E). IsLive u.stage × (u.given ≡ 1) × (u.out + 1 ≡ 1)) (at_only newcomer v 0 e).1 (tt, refl, refl);
      whole = (0, newcomer, refl, tt, refl);
      turning = λ j v e h. absurd (subst (λ (u : View E). IsTurning u.stage) (sym (at_only newcomer v j e).1) h);
      meets = λ j v e. subst (λ (u : View E). Meets seat_of u.stage u.seen u.out) (at_only newcomer v j e).1 tt;
    };
    value = inl record { value = value; home = refl; has_all = none; nobody = λ j v e h. subst (λ (u : View E). IsTurning u.stage) (sym (at_only newcomer v j e).1) h };
  }

  -- the same for a value that was put into the slot again
  pub counts_held : (slots id : ℕ) (me : M) (v : View E) (x : V) (seen taken : ℕ) → me ≡ (v, (0, Some x) ∷ []) → v.stage ≡ Turning (ticket_of v.stage) → GoesOn seat_of v.seat v.seen (history x)
      → seen ≡ length (history x) → taken ≡ length v.seen → seen < 2 ^ 64 → Allows Rule slots id me 2 (λ n. (n + (seen - taken)) % 2 ^ 64) (counted history (step slots 2 (seen - taken) 0 maybe.none) me)
  counts_held slots id me v x seen taken is turns on counted_seen counted_taken small =
      let long : length (history x) ≡ length v.seen + length on.past = ap length on.is ∙ length-append v.seen on.past in
      let fits : length (history x) ≡ length v.seen + (seen - taken) = omega arith in let short : length (history x) < 2 ^ 64 = omega arith in
      subst (λ (m : M). Allows Rule slots id m 2 (λ n. (n + (seen - taken)) % 2 ^ 64) (counted history (step slots 2 (seen - taken) 0 maybe.none) m)) (sym is)
      (counts slots id (v, (0, Some x) ∷ []) (seen - taken) (subst IsTurning (sym turns) tt) on fits short)

  pub passes_held : (slots id : ℕ) (me m : M) (v : View E) (x : V) → slots ≡ 1 → m ≡ (v, (0, Some x) ∷ []) → me ≡ (seeing m.0 (carried history m.1), m.1) → v.stage ≡ Turning (ticket_of v.stage)
      → Allows Rule slots id me 1 (λ n. (n + 1) % 2 ^ 64) (passed (step slots 1 1 0 maybe.none) me)
  passes_held slots id me m v x one was is turns = subst (λ (m : M). Allows Rule slots id m 1 (λ n. (n + 1) % 2 ^ 64) (passed (step slots 1 1 0 maybe.none) m)) (sym (is ∙ ap (λ (m : M). (seeing m.0 (carried history m.1), m.1)) was))
      (passes slots id (seeing v (history x), (0, Some x) ∷ []) x one (subst IsTurning (sym turns) tt) refl refl)

-- a seat holds the slot that it took last
pub first_slot : {S W : Type 0} (m : Me S W) (w : W) (k : ℕ) (x : S) (cs : List (ℕ × S)) → m ≡ (w, (k, x) ∷ cs) → m.1 ≡ (k, x) ∷ rest m.1
first_slot {S} {W} m w k x cs e = ap (λ (z : Me S W). z.1) e ∙ sym (ap (λ (z : Me S W). (k, x) ∷ rest z.1) e)
