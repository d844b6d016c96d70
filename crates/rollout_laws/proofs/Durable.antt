-- What stays, whatever comes: what is durable, where a world began, and how far each switch has come.
use Rattle.std.proofs.Common.{◌≡◌, ℕ, true, List, [], ◌∷◌, ◌++◌, take, length, slice_index_or, slice_set, refl, sym, ap, ◌∙◌, subst, ⊎_elim, append_assoc, append-nil, get_or-set_same, get_or-set_other}
use Rattle.std.proofs.lemmas.Bool.{cond_both, cond-true, cases_eq, cases_lt}
use Rattle.std.proofs.lemmas.List.{set_past}
use Rattle.rollout_rules.specs.Wan.{Problem, Plan}
use Rattle.rollout_rules.specs.Items.{item_at}
use Rattle.rollout_rules.specs.Operations.{content_after}
use Rattle.rollout_rules.specs.History.{History, with_entries}
use Rattle.rollout_rules.specs.Agent.{pair_of, is_at_most, Holding, nothing_held, held_after}
use Rattle.rollout_rules.specs.World.{World, no_op, holding_of, held_of, is_writing, allows, happens, after_event, after_events}
use Rattle.rollout_rules.specs.declared.op.Entry.{Entry}
use Rattle.rollout_rules.specs.declared.event.Event.{Event}
use Rattle.rollout_rules.proofs.Pairs.{after-more, at_most-refl, at_most-trans}
use Rattle.rollout_rules.specs.declared.event.Event.TheVariants as event
use Rattle.rollout_laws.specs.SafeWorlds.{IsBeginningOf, HasFrom}

itself : (h : History) → IsBeginningOf h h
itself h = record { start = refl; entries = ([], append-nil h.entries) }

onwards : (h k l : History) → IsBeginningOf h k → IsBeginningOf k l → IsBeginningOf h l
onwards h k l a b =
    record {
      start = b.start ∙ a.start;
      entries = (a.entries.0 ++ b.entries.0, sym (append_assoc h.entries a.entries.0 b.entries.0) ∙ ap (λ x. x ++ b.entries.0) a.entries.1 ∙ b.entries.1);
    }

more : (h : History) (es : List Entry) → IsBeginningOf h (with_entries h es)
more h es = record { start = refl; entries = (es, refl) }

-- of holdings of which one is replaced by one that is no lower, none falls
replaced_falls : (held : List Holding) (m : ℕ) (v : Holding) → is_at_most (slice_index_or held m nothing_held).held v.held ≡ true → (n : ℕ) → is_at_most (slice_index_or held n nothing_held).held (slice_index_or (slice_set held m v) n nothing_held).held ≡ true
replaced_falls held m v more n =
    ⊎_elim
    (λ (e : m ≡ n). subst (λ k. is_at_most (slice_index_or held k nothing_held).held (slice_index_or (slice_set held m v) k nothing_held).held ≡ true) e here)
    (λ (o : m ≡ n → ⊥). subst (λ u. is_at_most (slice_index_or held n nothing_held).held u.held ≡ true) (sym (get_or-set_other held m n v nothing_held (λ e. o (sym e)))) (at_most-refl (slice_index_or held n nothing_held).held))
    (cases_eq m n)
  where
    here : is_at_most (slice_index_or held m nothing_held).held (slice_index_or (slice_set held m v) m nothing_held).held ≡ true
    here =
        ⊎_elim
        (λ lt. subst (λ u. is_at_most (slice_index_or held m nothing_held).held u.held ≡ true) (sym (get_or-set_same held m v nothing_held lt)) more)
        (λ past. subst (λ us. is_at_most (slice_index_or held m nothing_held).held (slice_index_or us m nothing_held).held ≡ true) (sym (set_past held m v past)) (at_most-refl (slice_index_or held m nothing_held).held))
        (cases_lt m (length held))

module _ (p : Problem) (plan : Plan) where
  happens_stays : (w : World) (e : Event) → IsBeginningOf w.durable (happens p plan w e).durable
  happens_stays w (event.Write b) = itself w.durable
  happens_stays w event.EndWrite = more w.durable w.writing
  happens_stays w (event.Send n) = itself w.durable
  happens_stays w (event.Deliver n) = itself w.durable
  happens_stays w (event.Hand n) = itself w.durable
  happens_stays w (event.Old n m j) = itself w.durable
  happens_stays w (event.Crash n) = more w.durable (take n w.writing)
  happens_stays w event.Restart = itself w.durable

  event_stays : (w : World) (e : Event) → IsBeginningOf w.durable (after_event p plan w e).durable
  event_stays w e = cond_both (allows p plan w e) (happens p plan w e) w (λ v. IsBeginningOf w.durable v.durable) (λ _. happens_stays w e) (λ _. itself w.durable)

  pub durable_stays : (w : World) (es : List Event) → IsBeginningOf w.durable (after_events p plan w es).durable
  durable_stays w [] = itself w.durable
  durable_stays w (e ∷ es) = onwards w.durable (after_event p plan w e).durable _ (event_stays w e) (durable_stays (after_event p plan w e) es)

  pub ended_stays : (w : World) (es : List Event) → is_writing w ≡ true → IsBeginningOf (with_entries w.durable w.writing) (after_events p plan w (event.EndWrite ∷ es)).durable
  ended_stays w es writing =
      subst (λ h. IsBeginningOf h (after_events p plan w (event.EndWrite ∷ es)).durable)
      (ap (λ v. v.durable) (cond-true (is_writing w) (happens p plan w event.EndWrite) w writing))
      (durable_stays (after_event p plan w event.EndWrite) es)

  -- the migration, the start and the first pairs stay
  unchanged : (w : World) → HasFrom w w
  unchanged w = record { migration = refl; first = refl; start = refl }

  happens_from : (w : World) (e : Event) → HasFrom w (happens p plan w e)
  happens_from w (event.Write b) = record { migration = refl; first = refl; start = refl }
  happens_from w event.EndWrite = record { migration = refl; first = refl; start = refl }
  happens_from w (event.Send n) = record { migration = refl; first = refl; start = refl }
  happens_from w (event.Deliver n) = record { migration = refl; first = refl; start = refl }
  happens_from w (event.Hand n) = record { migration = refl; first = refl; start = refl }
  happens_from w (event.Old n m j) = record { migration = refl; first = refl; start = refl }
  happens_from w (event.Crash n) = record { migration = refl; first = refl; start = refl }
  happens_from w event.Restart = record { migration = refl; first = refl; start = refl }

  pub goes_on_from : (w : World) (es : List Event) → HasFrom w (after_events p plan w es)
  goes_on_from w [] = unchanged w
  goes_on_from w (e ∷ es) =
      let one = cond_both (allows p plan w e) (happens p plan w e) w (HasFrom w) (λ _. happens_from w e) (λ _. unchanged w) in
      let rest = goes_on_from (after_event p plan w e) es in
      record { migration = rest.migration ∙ one.migration; first = rest.first ∙ one.first; start = rest.start ∙ one.start }

  -- no switch goes back
  happens_falls : (w : World) (e : Event) (n : ℕ) → is_at_most (held_of w n).held (held_of (happens p plan w e) n).held ≡ true
  happens_falls w (event.Write b) n = at_most-refl (held_of w n).held
  happens_falls w event.EndWrite n = at_most-refl (held_of w n).held
  happens_falls w (event.Send k) n = at_most-refl (held_of w n).held
  happens_falls w (event.Deliver k) n =
      let op = slice_index_or w.sent k no_op in
      let asked = pair_of w.migration op.number in
      let content = content_after p plan (item_at p op.item) op.number in
      replaced_falls w.held op.item (held_after (held_of w op.item) asked content) (after-more (held_of w op.item) asked content) n
  happens_falls w (event.Hand k) n = at_most-refl (held_of w n).held
  happens_falls w (event.Old k m j) n =
      let content = (holding_of p plan w.durable.start w.migration k (pair_of m j)).content in
      replaced_falls w.held k (held_after (held_of w k) (pair_of m j) content) (after-more (held_of w k) (pair_of m j) content) n
  happens_falls w (event.Crash k) n = at_most-refl (held_of w n).held
  happens_falls w event.Restart n = at_most-refl (held_of w n).held

  pub held_never_falls : (w : World) (es : List Event) (n : ℕ) → is_at_most (held_of w n).held (held_of (after_events p plan w es) n).held ≡ true
  held_never_falls w [] n = at_most-refl (held_of w n).held
  held_never_falls w (e ∷ es) n =
      at_most-trans (held_of w n).held (held_of (after_event p plan w e) n).held (held_of (after_events p plan w (e ∷ es)) n).held
      (cond_both (allows p plan w e) (happens p plan w e) w (λ v. is_at_most (held_of w n).held (held_of v n).held ≡ true) (λ _. happens_falls w e n) (λ _. at_most-refl (held_of w n).held))
      (held_never_falls (after_event p plan w e) es n)
