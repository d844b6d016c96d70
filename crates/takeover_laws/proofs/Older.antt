-- The older world: what each of its events keeps, before the last fence and after it.
use Rattle.std.proofs.Common.{◌≡◌, ℕ, Bool, true, ◌&&◌, nat_lt, List, [], ◌∷◌, length, take, Option, Some, None, slice_index_or, refl, sym, ap, subst, ⊎_elim, arith, ltb-true, get_or-set_other}
use Rattle.std.proofs.lemmas.Bool.{and_parts, cond_both, cond-true, cases_eq}
use Rattle.std.proofs.lemmas.List.Elements.{All-push, All-weaker}
use Rattle.rollout_rules.specs.Wan.{Problem, Plan}
use Rattle.rollout_rules.specs.Items.{item_count, item_at}
use Rattle.rollout_rules.specs.Operations.{operations, content_after}
use Rattle.rollout_rules.specs.History.{with_entries}
use Rattle.rollout_rules.specs.Legal.{may_follow}
use Rattle.rollout_rules.specs.Agent.{pair_of, is_at_most, Holding, nothing_held, held_after}
use Rattle.rollout_rules.specs.World.{World, no_op, holding_of, pair_at, held_of, in_flight, all_answered, allows, received, happens, after_event}
use Rattle.rollout_rules.specs.declared.held.Held.{Held}
use Rattle.rollout_rules.specs.declared.op.Op.{Op}
use Rattle.rollout_rules.specs.declared.op.Entry.{Entry}
use Rattle.rollout_rules.specs.declared.event.Event.{Event}
use Rattle.rollout_rules.proofs.Pairs.{at_most-refl, at_most-trans}
use Rattle.rollout_rules.specs.declared.event.Event.TheVariants as event
use Rattle.rollout_laws.specs.Kept.{IsBegun, IsKept, IsCommand}
use Rattle.rollout_laws.specs.SafeWorlds.{HasFrom, with_answer}
use Rattle.rollout_laws.proofs.Histories.{take_follows, is_legal-append, is_counted}
use Rattle.rollout_laws.proofs.Delivery.{kept-with_answer, passed_over, sent_are_commands}
use Rattle.rollout_laws.proofs.Worlds.{happens_is_kept}
use Rattle.rollout_laws.proofs.Durable.{goes_on_from, held_never_falls}
use Rattle.rollout_laws.proofs.Keeping.{begun-more, in_flight_is_begun}
use Rattle.takeover_rules.specs.Takeovers.{is_fenced, is_all_fenced, comes_to, behind_fence, after_older}
use Rattle.takeover_laws.specs.InHand.{IsListed, HoldsTheFirst}
use Rattle.takeover_laws.proofs.Fences.{fenced-with_operation}

module _ (p : Problem) (plan : Plan) where
  pub kept-listed : (w : World) → IsKept p plan w → IsListed p plan w
  kept-listed w kept = record { legal = kept.legal; follows = kept.follows; sent = kept.sent }

  -- whatever is held
  pub listed-holding : (w : World) (held : List Holding) → IsListed p plan w → IsListed p plan (record w { held = held })
  listed-holding w held listed = record { legal = listed.legal; follows = listed.follows; sent = listed.sent }

  listed-answered : (w : World) (n : ℕ) → IsListed p plan w → IsListed p plan (with_answer w n)
  listed-answered w n listed = record { legal = listed.legal; follows = listed.follows; sent = listed.sent }

  module _ (w : World) (listed : IsListed p plan w) where
    -- what was sent is for one of its item's operations
    listed-command : (op : Op) → IsBegun w.durable op → IsCommand p plan op
    listed-command op sent =
        let low = sent.low in
        let high = sent.high in
        let counted = is_counted p plan w.durable listed.legal op.item in
        let within = counted.within (omega (arith, low, high)) in
        let most = counted.exist within in
        record { item = within; low = omega (arith, low); high = omega (arith, high, most) }

    listed-Write : (b : List Entry) → allows p plan w (event.Write b) ≡ true → IsListed p plan (happens p plan w (event.Write b))
    listed-Write b allowed =
        let a = and_parts _ (all_answered w.migration w.handed b) allowed in
        let f = and_parts _ (may_follow p plan w.durable b) a.0 in
        record { legal = listed.legal; follows = f.1; sent = listed.sent }

    listed-EndWrite : IsListed p plan (happens p plan w event.EndWrite)
    listed-EndWrite =
        record {
          legal = is_legal-append p plan w.durable w.writing listed.legal listed.follows;
          follows = refl;
          sent = All-weaker (IsBegun w.durable) (IsBegun (with_entries w.durable w.writing)) (begun-more w.durable w.writing) w.sent listed.sent;
        }

    listed-Send : (n : ℕ) → allows p plan w (event.Send n) ≡ true → IsListed p plan (happens p plan w (event.Send n))
    listed-Send n allowed =
        let lt = ltb-true n (length (in_flight p w.durable)) (and_parts _ (nat_lt n (length (in_flight p w.durable))) allowed).1 in
        record {
          legal = listed.legal;
          follows = listed.follows;
          sent = All-push (IsBegun w.durable) w.sent _ listed.sent (in_flight_is_begun p w.durable n no_op lt);
        }

    listed-Crash : (n : ℕ) → IsListed p plan (happens p plan w (event.Crash n))
    listed-Crash n =
        record {
          legal = is_legal-append p plan w.durable (take n w.writing) listed.legal (take_follows p plan w.durable w.writing n listed.follows);
          follows = refl;
          sent = All-weaker (IsBegun w.durable) (IsBegun (with_entries w.durable (take n w.writing))) (begun-more w.durable (take n w.writing)) w.sent listed.sent;
        }

  listed-happens : (w : World) → IsListed p plan w → (e : Event) → allows p plan w e ≡ true → IsListed p plan (happens p plan w e)
  listed-happens w listed (event.Write b) allowed = listed-Write w listed b allowed
  listed-happens w listed event.EndWrite allowed = listed-EndWrite w listed
  listed-happens w listed (event.Send n) allowed = listed-Send w listed n allowed
  listed-happens w listed (event.Deliver n) allowed = record { legal = listed.legal; follows = listed.follows; sent = listed.sent }
  listed-happens w listed (event.Hand n) allowed = record { legal = listed.legal; follows = listed.follows; sent = listed.sent }
  listed-happens w listed (event.Old n m j) allowed = record { legal = listed.legal; follows = listed.follows; sent = listed.sent }
  listed-happens w listed (event.Crash n) allowed = listed-Crash w listed n
  listed-happens w listed event.Restart allowed = record { legal = listed.legal; follows = listed.follows; sent = listed.sent }

  -- What holds of the world, with an answer of what is held, and after each event that happens, holds after an event of the
  -- older controller.
  module _ (P : World → Type 0) (fenced : List Bool) (w : World) where
    behind-keeps : (at : Option ℕ) (done : World) → ((n : ℕ) → P (with_answer w n)) → P done → P (behind_fence p fenced w at done)
    behind-keeps None done answered so = so
    behind-keeps (Some n) done answered so = cond_both (is_fenced p fenced n) (with_answer w n) done P (λ _. answered n) (λ _. so)

    pub older-keeps : (e : Event) → P w → ((n : ℕ) → P (with_answer w n)) → (allows p plan w e ≡ true → P (happens p plan w e)) → P (after_older p plan fenced w e)
    older-keeps e was answered happened =
        cond_both (allows p plan w e) (behind_fence p fenced w (comes_to w e) (happens p plan w e)) w P
        (λ allowed. behind-keeps (comes_to w e) (happens p plan w e) answered (happened allowed))
        (λ _. was)

  -- an event that is allowed happens
  happened : (w : World) (e : Event) → allows p plan w e ≡ true → after_event p plan w e ≡ happens p plan w e
  happened w e allowed = cond-true (allows p plan w e) (happens p plan w e) w allowed

  pub older-listed : (fenced : List Bool) (w : World) (e : Event) → IsListed p plan w → IsListed p plan (after_older p plan fenced w e)
  older-listed fenced w e listed = older-keeps (IsListed p plan) fenced w e listed (λ n. listed-answered w n listed) (listed-happens w listed e)

  -- the migration, the start and the first pairs stay
  pub older-from : (fenced : List Bool) (w : World) (e : Event) → HasFrom w (after_older p plan fenced w e)
  older-from fenced w e =
      older-keeps (HasFrom w) fenced w e
      (record { migration = refl; first = refl; start = refl })
      (λ n. record { migration = refl; first = refl; start = refl })
      (λ allowed. subst (HasFrom w) (happened w e allowed) (goes_on_from p plan w (e ∷ [])))

  -- no switch goes back
  pub older-falls : (fenced : List Bool) (w : World) (e : Event) (n : ℕ) → is_at_most (held_of w n).held (held_of (after_older p plan fenced w e) n).held ≡ true
  older-falls fenced w e n =
      older-keeps (λ (v : World). is_at_most (held_of w n).held (held_of v n).held ≡ true) fenced w e
      (at_most-refl (held_of w n).held)
      (λ k. at_most-refl (held_of w n).held)
      (λ allowed. subst (λ (v : World). is_at_most (held_of w n).held (held_of v n).held ≡ true) (happened w e allowed) (held_never_falls p plan w (e ∷ []) n))

  -- before the last fence the older world is kept
  module _ (fenced : List Bool) (w : World) (kept : IsKept p plan w) where
    kept-behind : (e : Event) → allows p plan w e ≡ true → IsKept p plan (behind_fence p fenced w (comes_to w e) (happens p plan w e))
    kept-behind (event.Write b) allowed = happens_is_kept p plan w kept (event.Write b) allowed
    kept-behind event.EndWrite allowed = happens_is_kept p plan w kept event.EndWrite allowed
    kept-behind (event.Send n) allowed = happens_is_kept p plan w kept (event.Send n) allowed
    kept-behind (event.Deliver n) allowed =
        let op = slice_index_or w.sent n no_op in
        let item = (sent_are_commands p plan w kept n no_op (ltb-true n (length w.sent) allowed)).item in
        cond_both (is_fenced p fenced op.item) (with_answer w op.item) (happens p plan w (event.Deliver n)) (IsKept p plan)
        (λ _. kept-with_answer p plan w kept op.item item)
        (λ _. happens_is_kept p plan w kept (event.Deliver n) allowed)
    kept-behind (event.Hand n) allowed = happens_is_kept p plan w kept (event.Hand n) allowed
    kept-behind (event.Old n m j) allowed =
        let parts = and_parts (nat_lt n (item_count p) && nat_lt m w.migration) (is_at_most (pair_of m j) (pair_at w.first n)) allowed in
        let within = and_parts (nat_lt n (item_count p)) (nat_lt m w.migration) parts.0 in
        cond_both (is_fenced p fenced n) (with_answer w n) (happens p plan w (event.Old n m j)) (IsKept p plan)
        (λ _. kept-with_answer p plan w kept n (ltb-true n (item_count p) within.0))
        (λ _. happens_is_kept p plan w kept (event.Old n m j) allowed)
    kept-behind (event.Crash n) allowed = happens_is_kept p plan w kept (event.Crash n) allowed
    kept-behind event.Restart allowed = happens_is_kept p plan w kept event.Restart allowed

    pub older-kept : (e : Event) → IsKept p plan (after_older p plan fenced w e)
    older-kept e = cond_both (allows p plan w e) (behind_fence p fenced w (comes_to w e) (happens p plan w e)) w (IsKept p plan) (kept-behind e) (λ _. kept)

  -- After the last fence nothing that is held changes: what was sent is of an item with an operation, so its switch is
  -- fenced, and a late command is at most what was held at first.
  module _ (fenced : List Bool) (w : World) (all : is_all_fenced p plan fenced ≡ true) (listed : IsListed p plan w) (most : HoldsTheFirst p w) where
    held-behind : (e : Event) → allows p plan w e ≡ true → (behind_fence p fenced w (comes_to w e) (happens p plan w e)).held ≡ w.held
    held-behind (event.Write b) allowed = refl
    held-behind event.EndWrite allowed = refl
    held-behind (event.Send n) allowed = refl
    held-behind (event.Deliver n) allowed =
        let op = slice_index_or w.sent n no_op in
        let command = listed-command w listed op (listed.sent n no_op (ltb-true n (length w.sent) allowed)) in
        let low = command.low in
        let high = command.high in
        ap (λ (v : World). v.held)
        (cond-true (is_fenced p fenced op.item) (with_answer w op.item) (happens p plan w (event.Deliver n)) (fenced-with_operation p plan fenced all op.item command.item (omega (arith, low, high))))
    held-behind (event.Hand n) allowed = refl
    held-behind (event.Old n m j) allowed =
        let parts = and_parts (nat_lt n (item_count p) && nat_lt m w.migration) (is_at_most (pair_of m j) (pair_at w.first n)) allowed in
        let within = and_parts (nat_lt n (item_count p)) (nat_lt m w.migration) parts.0 in
        let late = at_most-trans (pair_of m j) (pair_at w.first n) (held_of w n).held parts.1 (most n (ltb-true n (item_count p) within.0)) in
        cond_both (is_fenced p fenced n) (with_answer w n) (happens p plan w (event.Old n m j)) (λ (v : World). v.held ≡ w.held)
        (λ _. refl)
        (λ _. ap (λ (v : World). v.held) (passed_over w n (pair_of m j) (holding_of p plan w.durable.start w.migration n (pair_of m j)).content late))
    held-behind (event.Crash n) allowed = refl
    held-behind event.Restart allowed = refl

    pub older-holds : (e : Event) → (after_older p plan fenced w e).held ≡ w.held
    older-holds e = cond_both (allows p plan w e) (behind_fence p fenced w (comes_to w e) (happens p plan w e)) w (λ (v : World). v.held ≡ w.held) (held-behind e) (λ _. refl)

  -- an item whose switch is fenced stays as it is held, whichever commands come
  module _ (fenced : List Bool) (w : World) (n : ℕ) (marked : is_fenced p fenced n ≡ true) where
    received-behind : (i : ℕ) (asked : Held) (content : List ℕ) → held_of (behind_fence p fenced w (Some i) (received w i asked content)) n ≡ held_of w n
    received-behind i asked content =
        ⊎_elim
        (λ (e : i ≡ n). ap (λ (v : World). held_of v n) (cond-true (is_fenced p fenced i) (with_answer w i) (received w i asked content) (subst (λ (m : ℕ). is_fenced p fenced m ≡ true) (sym e) marked)))
        (λ (o : i ≡ n → ⊥).
        cond_both (is_fenced p fenced i) (with_answer w i) (received w i asked content) (λ (v : World). held_of v n ≡ held_of w n)
        (λ _. refl)
        (λ _. get_or-set_other w.held i n (held_after (held_of w i) asked content) nothing_held (λ e. o (sym e))))
        (cases_eq i n)

    waits-behind : (e : Event) → held_of (behind_fence p fenced w (comes_to w e) (happens p plan w e)) n ≡ held_of w n
    waits-behind (event.Write b) = refl
    waits-behind event.EndWrite = refl
    waits-behind (event.Send k) = refl
    waits-behind (event.Deliver k) =
        let op = slice_index_or w.sent k no_op in
        received-behind op.item (pair_of w.migration op.number) (content_after p plan (item_at p op.item) op.number)
    waits-behind (event.Hand k) = refl
    waits-behind (event.Old k m j) = received-behind k (pair_of m j) (holding_of p plan w.durable.start w.migration k (pair_of m j)).content
    waits-behind (event.Crash k) = refl
    waits-behind event.Restart = refl

    pub older-waits : (e : Event) → held_of (after_older p plan fenced w e) n ≡ held_of w n
    older-waits e = cond_both (allows p plan w e) (behind_fence p fenced w (comes_to w e) (happens p plan w e)) w (λ (v : World). held_of v n ≡ held_of w n) (λ _. waits-behind e) (λ _. refl)
