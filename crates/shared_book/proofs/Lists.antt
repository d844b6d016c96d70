-- The list of a legal shared history is legal.
use Rattle.std.proofs.Common.{◌≡◌, ℕ, Bool, true, false, not, ◌&&◌, List, [], ◌∷◌, ◌++◌, refl, sym, ap, ◌∙◌, subst, append_assoc, append-nil}
use Rattle.std.proofs.lemmas.Bool.{and_parts}
use Rattle.rollout_rules.specs.Wan.{Problem, Plan}
use Rattle.rollout_rules.specs.History.{History, with_entries}
use Rattle.rollout_rules.specs.Legal.{may_follow, is_legal}
use Rattle.rollout_rules.specs.declared.op.OpView.{OpView}
use Rattle.rollout_rules.specs.declared.op.Entry.{Entry}
use Rattle.rollout_laws.proofs.Histories.{with_none, with_both, is_legal-append}
use Rattle.shared_book.specs.declared.note.What.{What}
use Rattle.shared_book.specs.declared.note.What.TheVariants as what
use Rattle.shared_book.specs.declared.note.Written.{Written}
use Rattle.shared_book.specs.Batches.{dones_ahead, items_rise, is_batch}
use Rattle.shared_book.specs.Notes.{is_stopped}
use Rattle.shared_book.specs.Histories.{Opening, segment_of, added, history_of}
use Rattle.shared_book.specs.Legal.{is_turn, may_say, may_note, may_go_on, is_legal_shared}
use Rattle.shared_book.proofs.Going.{front_is_legal, next_may_be}
use Rattle.shared_book.proofs.Stops.{added-append}

module _ (p : Problem) (plan : Plan) where
  batch-follows : (policy : OpView → ℕ) (h : History) (es : List Entry) → is_batch p plan policy h es ≡ true → may_follow p plan h es ≡ true
  batch-follows policy h es batch =
      (and_parts (items_rise 0 (dones_ahead es)) (may_follow p plan h es) (and_parts (items_rise 0 (dones_ahead es) && may_follow p plan h es) _ batch).0).1

module _ (o : Opening) where
  segment-follows : (ws : List Written) (seat : ℕ) (es : List Entry) (said : What) → may_say o ws seat es said ≡ true → may_follow o.rollout.problem o.rollout.plan (history_of o ws) (segment_of said es) ≡ true
  segment-follows ws seat es (what.Turned dones begins) may =
      let turn = (and_parts (not (is_stopped ws)) (is_turn o (history_of o ws) dones begins es) may).1 in
      batch-follows o.rollout.problem o.rollout.plan o.policy (history_of o ws) es (and_parts _ (is_batch o.rollout.problem o.rollout.plan o.policy (history_of o ws) es) turn).1
  segment-follows ws seat es (what.Alien item held begun) may = refl
  segment-follows ws seat es what.Disk may = refl
  segment-follows ws seat es what.Listed may = refl
  segment-follows ws seat es what.Work may = refl
  segment-follows ws seat es what.Finished may = refl
  segment-follows ws seat es what.Held may = refl
  segment-follows ws seat es what.Stopped may = refl
  segment-follows ws seat es (what.Stop why) may = refl

  -- the list after one note more
  pub history-next : (ws : List Written) (w : Written) → history_of o (ws ++ w ∷ []) ≡ with_entries (history_of o ws) (segment_of w.note.what w.entries)
  history-next ws w =
      ap (with_entries o.found) (added-append o ws (w ∷ []) ∙ ap (λ es. added ws ++ es) (append-nil (segment_of w.note.what w.entries)))
      ∙ sym (with_both o.found (added ws) (segment_of w.note.what w.entries))

  list-goes_on : (ws later : List Written) → is_legal o.rollout.problem o.rollout.plan (history_of o ws) ≡ true → may_go_on o ws later ≡ true → is_legal o.rollout.problem o.rollout.plan (history_of o (ws ++ later)) ≡ true
  list-goes_on ws [] legal may = subst (λ vs. is_legal o.rollout.problem o.rollout.plan (history_of o vs) ≡ true) (sym (append-nil ws)) legal
  list-goes_on ws (w ∷ later) legal may =
      let parts = and_parts (may_note o ws w) (may_go_on o (ws ++ w ∷ []) later) may in
      let says = (and_parts _ (may_say o ws w.note.seat w.entries w.note.what) parts.0).1 in
      let next = is_legal-append o.rollout.problem o.rollout.plan (history_of o ws) (segment_of w.note.what w.entries) legal (segment-follows ws w.note.seat w.entries w.note.what says) in
      subst (λ vs. is_legal o.rollout.problem o.rollout.plan (history_of o vs) ≡ true) (append_assoc ws (w ∷ []) later)
      (list-goes_on (ws ++ w ∷ []) later (subst (λ h. is_legal o.rollout.problem o.rollout.plan h ≡ true) (sym (history-next ws w)) next) parts.1)

  pub list-is_legal : (ws : List Written) → is_legal_shared o ws ≡ true → is_legal o.rollout.problem o.rollout.plan (history_of o ws) ≡ true
  list-is_legal ws legal =
      let parts = and_parts (is_legal o.rollout.problem o.rollout.plan o.found) (may_go_on o [] ws) legal in
      list-goes_on [] ws (subst (λ h. is_legal o.rollout.problem o.rollout.plan h ≡ true) (sym (with_none o.found)) parts.0) parts.1

  pub lost-is_legal : (ws : List Written) (w : Written) → is_legal_shared o (ws ++ w ∷ []) ≡ true → w.note.what ≡ what.Disk → is_legal o.rollout.problem o.rollout.plan (with_entries (history_of o ws) w.entries) ≡ true
  lost-is_legal ws w legal disk =
      let says = (and_parts _ (may_say o ws w.note.seat w.entries w.note.what) (next_may_be o ws [] w legal)).1 in
      let lost = ap (may_say o ws w.note.seat w.entries) (sym disk) ∙ says in
      let batch = (and_parts (not (is_stopped ws)) (is_batch o.rollout.problem o.rollout.plan o.policy (history_of o ws) w.entries) lost).1 in
      is_legal-append o.rollout.problem o.rollout.plan (history_of o ws) w.entries (list-is_legal ws (front_is_legal o ws (w ∷ []) legal))
      (batch-follows o.rollout.problem o.rollout.plan o.policy (history_of o ws) w.entries batch)
