-- A delivery keeps a world: its switch applies the command where it is the next, and answers what it holds then. A late
-- command of an earlier migration is only answered.
use Rattle.std.proofs.Common.{◌≡◌, ℕ, ◌+◌, ◌<◌, ◌≤◌, ◌⊎◌, true, ◌&&◌, nat_lt, List, [], ◌∷◌, ◌++◌, length, slice_index, slice_index_or, slice_set, refl, sym, ap, ◌∙◌, subst, ⊎_elim, inl, inr, arith, ltb-true, length-set, get_or-set_same, get_or-set_other}
use Rattle.std.proofs.lemmas.Bool.{and_parts, cases_eq, cond_both, cond-true, lt-ltb}
use Rattle.std.proofs.lemmas.List.{set-get_or}
use Rattle.std.proofs.lemmas.List.Elements.{All-push, All-weaker, Contains-append_left}
use Rattle.std.specs.List.{All, Contains}
use Rattle.rollout_rules.specs.Wan.{Problem, Plan}
use Rattle.rollout_rules.specs.Items.{item_count, item_at}
use Rattle.rollout_rules.specs.Operations.{content_after}
use Rattle.rollout_rules.specs.History.{begun, settled}
use Rattle.rollout_rules.specs.Agent.{pair_of, is_at_most, Holding, nothing_held, is_next_command, held_after}
use Rattle.rollout_rules.specs.World.{World, no_op, holding_of, pair_at, held_of, now, may_come_late, allows, received, delivered, happens, after_event}
use Rattle.rollout_rules.specs.declared.held.Held.{Held}
use Rattle.rollout_rules.specs.declared.held.Given.{Given}
use Rattle.rollout_rules.specs.declared.op.Op.{Op}
use Rattle.rollout_rules.proofs.Pairs.{IsNextCommand, after-more, at_most-from, at_most-refl, at_most-trans, next_command-is, next_is_more}
use Rattle.rollout_rules.specs.declared.event.Event.TheVariants as event
use Rattle.rollout_laws.specs.Kept.{IsBegun, IsEarlierPair, IsHeldRight, IsKept, IsCommand}
use Rattle.rollout_laws.specs.SafeWorlds.{with_answer, IsApplied}
use Rattle.rollout_laws.proofs.Histories.{is_counted}
use Rattle.rollout_laws.proofs.Pairs.{after-late, after-next, number-same, number-other}

-- what is at most the pair held is passed over, and answered with what is held
pub passed_over : (w : World) (n : ℕ) (asked : Held) (content : List ℕ) → is_at_most asked (held_of w n).held ≡ true → received w n asked content ≡ with_answer w n
passed_over w n asked content late =
    ap (λ v. record w { held = slice_set w.held n v; given = w.given ++ record { item = n; held = v.held } ∷ [] }) (after-late (held_of w n) asked content late)
    ∙ ap (λ h. record w { held = h; given = w.given ++ record { item = n; held = (held_of w n).held } ∷ [] }) (set-get_or w.held n nothing_held)

module _ (p : Problem) (plan : Plan) (w : World) (kept : IsKept p plan w) where
  sent_is_command : (op : Op) → IsBegun w.durable op → IsCommand p plan op
  sent_is_command op sent =
      let low = sent.low in
      let high = sent.high in
      let counted = is_counted p plan w.durable kept.legal op.item in
      let within = counted.within (omega (arith, low, high)) in
      let most = counted.exist within in
      record { item = within; low = omega (arith, low); high = omega (arith, high, most) }

  pub sent_are_commands : All (IsCommand p plan) w.sent
  sent_are_commands = All-weaker (IsBegun w.durable) (IsCommand p plan) sent_is_command w.sent kept.sent

  -- a late command is at most what its item is held with
  late_is_at_most : (n : ℕ) (late : Held) → may_come_late p w n late ≡ true → is_at_most late (held_of w n).held ≡ true
  late_is_at_most n late may =
      let parts = and_parts (nat_lt n (item_count p) && nat_lt late.migration w.migration) (is_at_most late (pair_at w.first n)) may in
      let within = and_parts (nat_lt n (item_count p)) (nat_lt late.migration w.migration) parts.0 in
      at_most-trans late (pair_at w.first n) (held_of w n).held parts.1 (kept.held n (ltb-true n (item_count p) within.0)).least

  -- so it changes nothing, and is answered with what is held
  pub late-received : (n : ℕ) (late : Held) (content : List ℕ) → may_come_late p w n late ≡ true → received w n late content ≡ with_answer w n
  late-received n late content may = passed_over w n late content (late_is_at_most n late may)

  -- an answer of what is held keeps a world
  pub kept-with_answer : (n : ℕ) → n < item_count p → IsKept p plan (with_answer w n)
  kept-with_answer n lt =
      let answer : Given = record { item = n; held = (held_of w n).held } in
      record {
        legal = kept.legal;
        follows = kept.follows;
        sent = kept.sent;
        items = kept.items;
        held = kept.held;
        given = All-push (λ a. is_at_most a.held (held_of w a.item).held ≡ true) w.given answer kept.given (at_most-refl (held_of w n).held);
        answering = All-push (λ a. a.item < item_count p) w.given answer kept.answering lt;
        handed = All-weaker (Contains w.given) (Contains (w.given ++ answer ∷ [])) (Contains-append_left w.given (answer ∷ [])) w.handed kept.handed;
        answered = kept.answered;
      }

  pub kept-Old : (n m j : ℕ) → allows p plan w (event.Old n m j) ≡ true → IsKept p plan (happens p plan w (event.Old n m j))
  kept-Old n m j allowed =
      let parts = and_parts (nat_lt n (item_count p) && nat_lt m w.migration) (is_at_most (pair_of m j) (pair_at w.first n)) allowed in
      let within = and_parts (nat_lt n (item_count p)) (nat_lt m w.migration) parts.0 in
      subst (IsKept p plan) (sym (late-received n (pair_of m j) (holding_of p plan w.durable.start w.migration n (pair_of m j)).content allowed)) (kept-with_answer n (ltb-true n (item_count p) within.0))

  module _ (op : Op) (sent : IsBegun w.durable op) where
    abbrev asked : Held
    asked = pair_of w.migration op.number

    -- what the switch holds then
    abbrev then_held : Holding
    then_held = held_after (held_of w op.item) asked (content_after p plan (item_at p op.item) op.number)

    is_an_item : op.item < item_count p
    is_an_item = (sent_is_command op sent).item

    -- and its answer
    abbrev answer : Given
    answer = record { item = op.item; held = then_held.held }

    held_here : held_of (delivered p plan w op) op.item ≡ then_held
    held_here = get_or-set_same w.held op.item then_held nothing_held (subst (λ n. op.item < n) (sym kept.items) is_an_item)

    held_elsewhere : (n : ℕ) → (op.item ≡ n → ⊥) → held_of (delivered p plan w op) n ≡ held_of w n
    held_elsewhere n other = get_or-set_other w.held op.item n then_held nothing_held (λ e. other (sym e))

    -- no switch goes back
    held_grows : (n : ℕ) → is_at_most (held_of w n).held (held_of (delivered p plan w op) n).held ≡ true
    held_grows n =
        ⊎_elim
        (λ (e : op.item ≡ n). subst (λ m. is_at_most (held_of w m).held (held_of (delivered p plan w op) m).held ≡ true) e (subst (λ v. is_at_most (held_of w op.item).held v.held ≡ true) (sym held_here) (after-more (held_of w op.item) asked (content_after p plan (item_at p op.item) op.number))))
        (λ (o : op.item ≡ n → ⊥). subst (λ v. is_at_most (held_of w n).held v.held ≡ true) (sym (held_elsewhere n o)) (at_most-refl (held_of w n).held))
        (cases_eq op.item n)

    -- The next command of this migration goes past what is settled: in its own migration as the next number, and where
    -- an earlier one left the item, as one after the start.
    past_settled : IsNextCommand (held_of w op.item).held asked → settled w.durable op.item ≤ op.number
    past_settled (inl same) =
        let low = (kept.held op.item is_an_item).low in
        let number = number-same w.migration (slice_index w.durable.start op.item) (held_of w op.item).held (sym same.0) in
        omega (arith, low, number, same.1)
    past_settled (inr later) =
        let low = (kept.held op.item is_an_item).low in
        let number = number-other w.migration (slice_index w.durable.start op.item) (held_of w op.item).held (λ e. omega (arith, e, later.0)) in
        let after = sent.low in
        omega (arith, low, number, after)

    next_is_right : IsNextCommand (held_of w op.item).held asked → IsHeldRight p plan w.migration (pair_at w.first op.item) w.durable op.item (record { held = asked; content = content_after p plan (item_at p op.item) op.number })
    next_is_right next =
        let number = number-same w.migration (slice_index w.durable.start op.item) asked refl in
        record {
          low = subst (λ k. settled w.durable op.item ≤ k) (sym number) (past_settled next);
          high = subst (λ k. k ≤ begun w.durable op.item) (sym number) sent.high;
          content = ap (content_after p plan (item_at p op.item)) (sym number);
          least = at_most-trans (pair_at w.first op.item) (held_of w op.item).held asked (kept.held op.item is_an_item).least (at_most-from (held_of w op.item).held asked (next_is_more (held_of w op.item).held asked next));
          pair = inl refl;
        }

    right_here : IsHeldRight p plan w.migration (pair_at w.first op.item) w.durable op.item then_held
    right_here =
        cond_both (is_next_command (held_of w op.item).held asked) (record { held = asked; content = content_after p plan (item_at p op.item) op.number }) (held_of w op.item)
        (IsHeldRight p plan w.migration (pair_at w.first op.item) w.durable op.item)
        (λ next. next_is_right (next_command-is (held_of w op.item).held asked next))
        (λ _. kept.held op.item is_an_item)

    held_right : (n : ℕ) → n < item_count p → IsHeldRight p plan w.migration (pair_at w.first n) w.durable n (held_of (delivered p plan w op) n)
    held_right n lt =
        ⊎_elim
        (λ (e : op.item ≡ n). subst (λ m. IsHeldRight p plan w.migration (pair_at w.first m) w.durable m (held_of (delivered p plan w op) m)) e (subst (IsHeldRight p plan w.migration (pair_at w.first op.item) w.durable op.item) (sym held_here) right_here))
        (λ (o : op.item ≡ n → ⊥). subst (IsHeldRight p plan w.migration (pair_at w.first n) w.durable n) (sym (held_elsewhere n o)) (kept.held n lt))
        (cases_eq op.item n)

    -- a command up to what was applied is passed over
    repeated : op.number ≤ now w op.item → delivered p plan w op ≡ with_answer w op.item
    repeated le =
        passed_over w op.item asked (content_after p plan (item_at p op.item) op.number) (at_most-from asked (held_of w op.item).held (inr (late (kept.held op.item is_an_item).pair)))
      where
        late : ((held_of w op.item).held.migration ≡ w.migration) ⊎ IsEarlierPair w.migration (pair_at w.first op.item) (held_of w op.item).held → (w.migration ≡ (held_of w op.item).held.migration) × (op.number ≤ (held_of w op.item).held.number)
        late (inl same) =
            let number = number-same w.migration (slice_index w.durable.start op.item) (held_of w op.item).held same in
            (sym same, omega (arith, number, le))
        late (inr first) =
            let earlier = first.earlier in
            let number = number-other w.migration (slice_index w.durable.start op.item) (held_of w op.item).held (λ e. omega (arith, e, earlier)) in
            let after = sent.low in
            absurd (omega (arith, number, le, after))

    -- and one past it is the next
    is_next_number : now w op.item < op.number → op.number ≡ now w op.item + 1
    is_next_number lt =
        let low = (kept.held op.item is_an_item).low in
        let high = sent.high in
        let one = (is_counted p plan w.durable kept.legal op.item).one_flies in
        omega (arith, lt, low, high, one)

    is_next : now w op.item < op.number → IsNextCommand (held_of w op.item).held asked
    is_next lt =
        ⊎_elim
        (λ same. let number = number-same w.migration (slice_index w.durable.start op.item) (held_of w op.item).held same in
        let next = is_next_number lt in
        inl (sym same, omega (arith, number, next)))
        (λ first. inr (first.earlier, omega (arith, lt)))
        (kept.held op.item is_an_item).pair

    applied : now w op.item < op.number → IsApplied p plan w op (delivered p plan w op)
    applied lt =
        let content = content_after p plan (item_at p op.item) op.number in
        let taken = after-next (held_of w op.item) asked content (is_next lt) in
        record {
          next = is_next_number lt;
          held = ap (λ v. v.held) (held_here ∙ taken);
          content = ap (λ v. v.content) (held_here ∙ taken);
          others = held_elsewhere;
          given = ap (λ v. w.given ++ record { item = op.item; held = v.held } ∷ []) taken;
        }

    kept-delivered : IsKept p plan (delivered p plan w op)
    kept-delivered =
        record {
          legal = kept.legal;
          follows = kept.follows;
          sent = kept.sent;
          items = length-set w.held op.item then_held ∙ kept.items;
          held = held_right;
          given = All-push (λ a. is_at_most a.held (held_of (delivered p plan w op) a.item).held ≡ true) w.given answer
              (All-weaker (λ a. is_at_most a.held (held_of w a.item).held ≡ true) (λ a. is_at_most a.held (held_of (delivered p plan w op) a.item).held ≡ true) (λ a le. at_most-trans a.held (held_of w a.item).held (held_of (delivered p plan w op) a.item).held le (held_grows a.item)) w.given kept.given)
              (subst (λ v. is_at_most then_held.held v.held ≡ true) (sym held_here) (at_most-refl then_held.held));
          answering = All-push (λ a. a.item < item_count p) w.given answer kept.answering is_an_item;
          handed = All-weaker (Contains w.given) (Contains (w.given ++ answer ∷ [])) (Contains-append_left w.given (answer ∷ [])) w.handed kept.handed;
          answered = kept.answered;
        }

  pub kept-Deliver : (n : ℕ) → allows p plan w (event.Deliver n) ≡ true → IsKept p plan (happens p plan w (event.Deliver n))
  kept-Deliver n allowed = kept-delivered (slice_index_or w.sent n no_op) (kept.sent n no_op (ltb-true n (length w.sent) allowed))

  -- the n-th command sent, at its switch
  nth_sent : (n : ℕ) → n < length w.sent → IsBegun w.durable (slice_index_or w.sent n no_op)
  nth_sent n lt = kept.sent n no_op lt

  comes : (n : ℕ) → n < length w.sent → after_event p plan w (event.Deliver n) ≡ delivered p plan w (slice_index_or w.sent n no_op)
  comes n lt = cond-true (allows p plan w (event.Deliver n)) (happens p plan w (event.Deliver n)) w (lt-ltb n (length w.sent) lt)

  pub sent-applied : (n : ℕ) → n < length w.sent → now w (slice_index_or w.sent n no_op).item < (slice_index_or w.sent n no_op).number → IsApplied p plan w (slice_index_or w.sent n no_op) (after_event p plan w (event.Deliver n))
  sent-applied n lt past = subst (IsApplied p plan w (slice_index_or w.sent n no_op)) (sym (comes n lt)) (applied (slice_index_or w.sent n no_op) (nth_sent n lt) past)

  pub sent-repeated : (n : ℕ) → n < length w.sent → (slice_index_or w.sent n no_op).number ≤ now w (slice_index_or w.sent n no_op).item → after_event p plan w (event.Deliver n) ≡ with_answer w (slice_index_or w.sent n no_op).item
  sent-repeated n lt le = comes n lt ∙ repeated (slice_index_or w.sent n no_op) (nth_sent n lt) le
