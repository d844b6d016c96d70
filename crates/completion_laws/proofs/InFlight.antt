-- After a round of the book all that may begin is held back by the policy, where nothing is in flight.
use Rattle.std.proofs.Common.{◌≡◌, ℕ, ◌+◌, ◌<◌, Bool, true, false, not, ◌&&◌, ◌==◌, inl, inr, List, [], ◌∷◌, ◌++◌, length, filter, refl, sym, ap, ap₂, ◌∙◌, subst, arith, append_assoc, append-nil, eqb-true, eq-eqb, lt-ltb}
use Rattle.std.proofs.lemmas.Bool.{and_parts, both_ways, cases_Bool}
use Rattle.std.proofs.lemmas.List.Elements.{All-head}
use Rattle.std.specs.List.{All}
use Rattle.std.proofs.lemmas.List.{length-map}
use Rattle.rollout_rules.specs.Wan.{Plan, Problem}
use Rattle.rollout_rules.specs.Network.{IsNetwork}
use Rattle.rollout_rules.specs.Items.{item_count}
use Rattle.rollout_rules.specs.Valid.{is_valid_plan}
use Rattle.rollout_rules.specs.History.{History, begins_in, begun, flies, settled, with_entries}
use Rattle.rollout_rules.specs.Legal.{is_finished, is_legal, may_begin, may_end, may_follow}
use Rattle.rollout_rules.specs.Release.{is_held_back, next_op, release, view_of}
use Rattle.rollout_rules.specs.World.{in_flight}
use Rattle.rollout_rules.specs.declared.op.Op.{Op}
use Rattle.rollout_rules.specs.declared.op.OpView.{OpView}
use Rattle.rollout_rules.specs.declared.op.Entry.{Entry}
use Rattle.rollout_rules.specs.declared.op.Entry.TheVariants.{Begin, Done}
use Rattle.rollout_laws.specs.Batches.{BeginsNext}
use Rattle.rollout_laws.specs.Waiting.{HoldsNothing, NothingFlies}
use Rattle.rollout_laws.proofs.Histories.{begun-with, is_counted, is_legal-append, front_is_legal, settled-with, with_both, with_none}
use Rattle.rollout_laws.proofs.Released.{held-none, none-held, release-goes_on}
use Rattle.rollout_laws.proofs.Rounds.{release_begins_next}
use Rattle.update_scheduler.specs.Rows.{bit, numbers, times}
use Rattle.update_scheduler.proofs.Batches.{begins-end}
use Rattle.update_scheduler.proofs.Rows.{times-filtered}
use Rattle.shared_book.specs.declared.note.What.{What}
use Rattle.shared_book.specs.declared.note.What.TheVariants as what
use Rattle.shared_book.specs.declared.note.Written.{Written}
use Rattle.shared_book.specs.Batches.{behind_dones, dones_ahead, ends, is_batch, items_rise, same_entries}
use Rattle.shared_book.specs.Histories.{Opening, history_of, segment_of}
use Rattle.shared_book.specs.Legal.{is_legal_shared, is_still, is_turn, may_say}
use Rattle.shared_book.specs.Notes.{calls_by, is_stopped}
use Rattle.shared_book.proofs.Going.{next_may_be, front_is_legal as front_goes}
use Rattle.shared_book.proofs.Lists.{history-next, list-is_legal}
use Rattle.shared_book.proofs.Alike.{dones_then_the_rest, same_entries-is}
use Rattle.controller_run.specs.Shifts.{HasTurned}

-- ---- lists of entries that are the same

-- ---- nothing in flight
no-item : (n : ℕ) (ns : List ℕ) → length ns ≡ 0 → times n ns ≡ 0
no-item n [] none = refl
no-item n (m ∷ ns) none = absurd (omega (arith, none))

pub still-flies : (p : Problem) (h : History) → is_still p h ≡ true → NothingFlies p h
still-flies p h still n low =
    let none : length (filter (flies h) (numbers (item_count p))) ≡ 0 = sym (length-map (filter (flies h) (numbers (item_count p))) (next_op h)) ∙ eqb-true (length (in_flight p h)) 0 still in
    elim (cases_Bool (flies h n)) as (λ _. flies h n ≡ false) [
      | inl flying ↦
          let one : times n (filter (flies h) (numbers (item_count p))) ≡ 1 = times-filtered (flies h) (item_count p) n ∙ ap₂ (λ (a b : Bool). bit (a && b)) (lt-ltb n (item_count p) low) flying in
          absurd (omega (arith, one, no-item n (filter (flies h) (numbers (item_count p))) none))
      | inr idle ↦ idle
    ]

-- ---- after a batch
module _ (p : Problem) (plan : Plan) (policy : OpView → ℕ) where
  -- each operation that may begin is held back
  abbrev pub AllHeld : History → Type 0
  AllHeld h = (n : ℕ) → may_begin p plan h (next_op h n) ≡ true → is_held_back policy (view_of p plan h n) ≡ true

  -- so it is while nothing is in flight
  abbrev HoldsRest : History → Type 0
  HoldsRest h = NothingFlies p h → AllHeld h

  first-flies : (h : History) (es : List Entry) → is_legal p plan (with_entries h es) ≡ true → All (BeginsNext h) es → 0 < length es → NothingFlies p (with_entries h es) → ⊥
  first-flies h [] legal next some idle = omega (arith, some)
  first-flies h (Done op ∷ es) legal next some idle = All-head (BeginsNext h) (Done op) es next
  first-flies h (Begin op ∷ es) legal next some idle =
      let n = op.item in
      let one : begins_in (Begin op ∷ es) n ≡ 1 + begins_in es n = let here : (op.item == op.item) ≡ true = eq-eqb op.item op.item refl in rw here refl in
      let b = begun-with h (Begin op ∷ es) n in
      let s = settled-with h (Begin op ∷ es) n in
      let none = begins-end h (Begin op ∷ es) next n in
      let counted = is_counted p plan (with_entries h (Begin op ∷ es)) legal n in
      let was = is_counted p plan h (front_is_legal p plan h (Begin op ∷ es) legal) n in
      let low : n < item_count p = counted.within (omega (arith, one, b)) in
      both_ways (flies (with_entries h (Begin op ∷ es)) n) (idle n low) (eq-eqb (begun (with_entries h (Begin op ∷ es)) n) (settled (with_entries h (Begin op ∷ es)) n + 1) (omega (arith, one, b, s, none, counted.one_flies, was.settled_begun)))

  released-holds : (h : History) (es : List Entry) → es ≡ release p plan policy h → is_legal p plan (with_entries h es) ≡ true → HoldsRest (with_entries h es)
  released-holds h [] is legal idle = subst AllHeld (sym (with_none h)) (none-held p plan policy h (sym is))
  released-holds h (e ∷ es) is legal idle =
      absurd (first-flies h (e ∷ es) legal (subst (All (BeginsNext h)) (sym is) (release_begins_next p plan policy h)) (omega arith) idle)

  batch-holds : (h : History) (es : List Entry) → is_legal p plan h ≡ true → is_batch p plan policy h es ≡ true → HoldsRest (with_entries h es)
  batch-holds h es legal batch =
      let parts = and_parts (items_rise 0 (dones_ahead es) && may_follow p plan h es) (same_entries (behind_dones es) (release p plan policy (with_entries h (ends (dones_ahead es))))) batch in
      let follows = (and_parts (items_rise 0 (dones_ahead es)) (may_follow p plan h es) parts.0).1 in
      let whole : with_entries (with_entries h (ends (dones_ahead es))) (behind_dones es) ≡ with_entries h es = with_both h (ends (dones_ahead es)) (behind_dones es) ∙ ap (with_entries h) (sym (dones_then_the_rest es)) in
      subst HoldsRest whole
      (released-holds (with_entries h (ends (dones_ahead es))) (behind_dones es) (same_entries-is (behind_dones es) _ parts.1) (subst (λ (g : History). is_legal p plan g ≡ true) (sym whole) (is_legal-append p plan h es legal follows)))

module _ (o : Opening) where
  abbrev Rests : History → Type 0
  Rests h = HoldsRest o.rollout.problem o.rollout.plan o.policy h

  abbrev Holds : List Written → Type 0
  Holds ws = Rests (history_of o ws)

  turned-holds : (ws : List Written) (w : Written) (dones begins : ℕ) → w.note.what ≡ what.Turned dones begins → is_legal_shared o (ws ++ w ∷ []) ≡ true → Holds (ws ++ w ∷ [])
  turned-holds ws w dones begins says legal =
      let may = (and_parts (w.note.call == calls_by w.note.seat ws) (may_say o ws w.note.seat w.entries w.note.what) (next_may_be o ws [] w legal)).1 in
      let said : may_say o ws w.note.seat w.entries (what.Turned dones begins) ≡ true = subst (λ (x : What). may_say o ws w.note.seat w.entries x ≡ true) says may in
      let turn = (and_parts (not (is_stopped ws)) (is_turn o (history_of o ws) dones begins w.entries) said).1 in
      let batch = (and_parts ((length (dones_ahead w.entries) == dones) && (length (behind_dones w.entries) == begins)) (is_batch o.rollout.problem o.rollout.plan o.policy (history_of o ws) w.entries) turn).1 in
      let whole : with_entries (history_of o ws) w.entries ≡ history_of o (ws ++ w ∷ []) = ap (λ (x : What). with_entries (history_of o ws) (segment_of x w.entries)) (sym says) ∙ sym (history-next o ws w) in
      subst Rests whole (batch-holds o.rollout.problem o.rollout.plan o.policy (history_of o ws) w.entries (list-is_legal o ws (front_goes o ws (w ∷ []) legal)) batch)

  -- a note that adds nothing leaves it so
  plain-holds : (ws : List Written) (w : Written) → segment_of w.note.what w.entries ≡ [] → Holds ws → Holds (ws ++ w ∷ [])
  plain-holds ws w none holds =
      let same : history_of o ws ≡ history_of o (ws ++ w ∷ []) = sym (with_none (history_of o ws)) ∙ ap (with_entries (history_of o ws)) (sym none) ∙ sym (history-next o ws w) in
      subst Rests same holds

  noted-holds : (ws : List Written) (w : Written) (said : What) → w.note.what ≡ said → is_legal_shared o (ws ++ w ∷ []) ≡ true → Holds ws → Holds (ws ++ w ∷ [])
  noted-holds ws w (what.Turned dones begins) is legal holds = turned-holds ws w dones begins is legal
  noted-holds ws w (what.Alien item held begun) is legal holds = plain-holds ws w (ap (λ (x : What). segment_of x w.entries) is) holds
  noted-holds ws w what.Disk is legal holds = plain-holds ws w (ap (λ (x : What). segment_of x w.entries) is) holds
  noted-holds ws w what.Listed is legal holds = plain-holds ws w (ap (λ (x : What). segment_of x w.entries) is) holds
  noted-holds ws w what.Work is legal holds = plain-holds ws w (ap (λ (x : What). segment_of x w.entries) is) holds
  noted-holds ws w what.Finished is legal holds = plain-holds ws w (ap (λ (x : What). segment_of x w.entries) is) holds
  noted-holds ws w what.Held is legal holds = plain-holds ws w (ap (λ (x : What). segment_of x w.entries) is) holds
  noted-holds ws w what.Stopped is legal holds = plain-holds ws w (ap (λ (x : What). segment_of x w.entries) is) holds
  noted-holds ws w (what.Stop why) is legal holds = plain-holds ws w (ap (λ (x : What). segment_of x w.entries) is) holds

  holds-on : (ws later : List Written) → Holds ws → is_legal_shared o (ws ++ later) ≡ true → Holds (ws ++ later)
  holds-on ws [] holds legal = subst Holds (sym (append-nil ws)) holds
  holds-on ws (w ∷ later) holds legal =
      let regrouped : (ws ++ w ∷ []) ++ later ≡ ws ++ w ∷ later = append_assoc ws (w ∷ []) later in
      let legal' : is_legal_shared o ((ws ++ w ∷ []) ++ later) ≡ true = subst (λ (vs : List Written). is_legal_shared o vs ≡ true) (sym regrouped) legal in
      subst Holds regrouped (holds-on (ws ++ w ∷ []) later (noted-holds ws w w.note.what refl (front_goes o (ws ++ w ∷ []) later legal') holds) legal')

  pub turned-rests : (log : List Written) → is_legal_shared o log ≡ true → HasTurned log → Holds log
  turned-rests log legal turned =
      let regrouped : (turned.front ++ turned.note ∷ []) ++ turned.later ≡ log = append_assoc turned.front (turned.note ∷ []) turned.later ∙ sym turned.is in
      let legal' : is_legal_shared o ((turned.front ++ turned.note ∷ []) ++ turned.later) ≡ true = subst (λ (vs : List Written). is_legal_shared o vs ≡ true) (sym regrouped) legal in
      subst Holds regrouped
      (holds-on (turned.front ++ turned.note ∷ []) turned.later (turned-holds turned.front turned.note turned.dones turned.begins turned.says (front_goes o (turned.front ++ turned.note ∷ []) turned.later legal')) legal')

-- ---- nothing comes where all that may begin is held back
module _ (p : Problem) (plan : Plan) (policy : OpView → ℕ) (h : History) (legal : is_legal p plan h ≡ true) (idle : NothingFlies p h) (held : AllHeld p plan policy h) where
  no-end : (op : Op) → may_end h op ≡ true → ⊥
  no-end op may =
      let flying = (and_parts (flies h op.item) (op.number == settled h op.item + 1) may).0 in
      let counted = is_counted p plan h legal op.item in
      let was : begun h op.item ≡ settled h op.item + 1 = eqb-true (begun h op.item) (settled h op.item + 1) flying in
      both_ways (flies h op.item) (idle op.item (counted.within (omega (arith, was)))) flying

  empty-batch : (es : List Entry) → is_batch p plan policy h es ≡ true → es ≡ []
  empty-batch [] batch = refl
  empty-batch (Done op ∷ es) batch =
      let parts = and_parts (items_rise 0 (dones_ahead (Done op ∷ es)) && may_follow p plan h (Done op ∷ es)) (same_entries (behind_dones (Done op ∷ es)) (release p plan policy (with_entries h (ends (dones_ahead (Done op ∷ es)))))) batch in
      let follows = (and_parts (items_rise 0 (dones_ahead (Done op ∷ es))) (may_follow p plan h (Done op ∷ es)) parts.0).1 in
      absurd (no-end op (and_parts (may_end h op) (may_follow p plan (with_entries h (Done op ∷ [])) es) follows).0)
  empty-batch (Begin op ∷ es) batch =
      let parts = and_parts (items_rise 0 (dones_ahead (Begin op ∷ es)) && may_follow p plan h (Begin op ∷ es)) (same_entries (behind_dones (Begin op ∷ es)) (release p plan policy (with_entries h (ends (dones_ahead (Begin op ∷ es)))))) batch in
      let released = same_entries-is (Begin op ∷ es) (release p plan policy (with_entries h [])) parts.1 in
      released ∙ (ap (release p plan policy) (with_none h) ∙ held-none p plan policy h held)

module _ (o : Opening) where
  abbrev Rested : History → Type 0
  Rested h = NothingFlies o.rollout.problem h × AllHeld o.rollout.problem o.rollout.plan o.policy h

  noted-same : (ws : List Written) (w : Written) (said : What) → w.note.what ≡ said → is_legal_shared o (ws ++ w ∷ []) ≡ true → Rested (history_of o ws) → segment_of w.note.what w.entries ≡ []
  noted-same ws w (what.Turned dones begins) is legal rested =
      let may = (and_parts (w.note.call == calls_by w.note.seat ws) (may_say o ws w.note.seat w.entries w.note.what) (next_may_be o ws [] w legal)).1 in
      let said : may_say o ws w.note.seat w.entries (what.Turned dones begins) ≡ true = subst (λ (x : What). may_say o ws w.note.seat w.entries x ≡ true) is may in
      let turn = (and_parts (not (is_stopped ws)) (is_turn o (history_of o ws) dones begins w.entries) said).1 in
      let batch = (and_parts ((length (dones_ahead w.entries) == dones) && (length (behind_dones w.entries) == begins)) (is_batch o.rollout.problem o.rollout.plan o.policy (history_of o ws) w.entries) turn).1 in
      ap (λ (x : What). segment_of x w.entries) is ∙ empty-batch o.rollout.problem o.rollout.plan o.policy (history_of o ws) (list-is_legal o ws (front_goes o ws (w ∷ []) legal)) rested.0 rested.1 w.entries batch
  noted-same ws w (what.Alien item held begun) is legal rested = ap (λ (x : What). segment_of x w.entries) is
  noted-same ws w what.Disk is legal rested = ap (λ (x : What). segment_of x w.entries) is
  noted-same ws w what.Listed is legal rested = ap (λ (x : What). segment_of x w.entries) is
  noted-same ws w what.Work is legal rested = ap (λ (x : What). segment_of x w.entries) is
  noted-same ws w what.Finished is legal rested = ap (λ (x : What). segment_of x w.entries) is
  noted-same ws w what.Held is legal rested = ap (λ (x : What). segment_of x w.entries) is
  noted-same ws w what.Stopped is legal rested = ap (λ (x : What). segment_of x w.entries) is
  noted-same ws w (what.Stop why) is legal rested = ap (λ (x : What). segment_of x w.entries) is

  pub rested-stays : (ws later : List Written) → is_legal_shared o (ws ++ later) ≡ true → Rested (history_of o ws) → history_of o (ws ++ later) ≡ history_of o ws
  rested-stays ws [] legal rested = ap (history_of o) (append-nil ws)
  rested-stays ws (w ∷ later) legal rested =
      let regrouped : (ws ++ w ∷ []) ++ later ≡ ws ++ w ∷ later = append_assoc ws (w ∷ []) later in
      let legal' : is_legal_shared o ((ws ++ w ∷ []) ++ later) ≡ true = subst (λ (vs : List Written). is_legal_shared o vs ≡ true) (sym regrouped) legal in
      let none = noted-same ws w w.note.what refl (front_goes o (ws ++ w ∷ []) later legal') rested in
      let same : history_of o (ws ++ w ∷ []) ≡ history_of o ws = history-next o ws w ∙ ap (with_entries (history_of o ws)) none ∙ with_none (history_of o ws) in
      ap (history_of o) (sym regrouped) ∙ rested-stays (ws ++ w ∷ []) later legal' (subst Rested (sym same) rested) ∙ same

module _ (o : Opening) (net : IsNetwork o.rollout.problem) (valid : is_valid_plan o.rollout.problem o.rollout.plan ≡ true) (free : HoldsNothing o.policy) where
  -- where nothing is held back, while any operation isn't settled something is in flight
  pub turned-leaves : (log : List Written) → is_legal_shared o log ≡ true → HasTurned log → is_finished o.rollout.problem o.rollout.plan (history_of o log) ≡ false → NothingFlies o.rollout.problem (history_of o log) → ⊥
  turned-leaves log legal turned unfinished idle =
      let none = held-none o.rollout.problem o.rollout.plan o.policy (history_of o log) (turned-rests o log legal turned idle) in
      let some = release-goes_on o.rollout.problem o.rollout.plan o.policy (history_of o log) net valid (list-is_legal o log legal) unfinished idle free in
      omega (arith, some, ap length none)

  pub leaves-work : (log : List Written) → is_legal_shared o log ≡ true → HasTurned log → is_finished o.rollout.problem o.rollout.plan (history_of o log) ≡ false → is_still o.rollout.problem (history_of o log) ≡ false
  leaves-work log legal turned unfinished =
      elim (cases_Bool (is_still o.rollout.problem (history_of o log))) as (λ _. is_still o.rollout.problem (history_of o log) ≡ false) [
        | inl still ↦ absurd (turned-leaves log legal turned unfinished (still-flies o.rollout.problem (history_of o log) still))
        | inr moves ↦ moves
      ]
