-- A shared history under a policy that holds from a stage on: nothing is begun past it, nor past what was begun at first.
use Rattle.std.proofs.Common.{◌≡◌, ℕ, ◌<◌, ◌≤◌, true, not, ◌&&◌, List, [], ◌∷◌, ◌++◌, refl, sym, ap, ◌∙◌, subst, arith, append_assoc, append-nil, le_refl}
use Rattle.std.proofs.lemmas.Bool.{and_parts}
use Rattle.rollout_rules.specs.Wan.{Problem, Plan, last_stage}
use Rattle.rollout_rules.specs.Network.{IsNetwork}
use Rattle.rollout_rules.specs.Items.{item_at, item_count}
use Rattle.rollout_rules.specs.Operations.{changes_to}
use Rattle.rollout_rules.specs.Valid.{is_valid_plan}
use Rattle.rollout_rules.specs.History.{History, with_entries, begins_in, begun}
use Rattle.rollout_rules.specs.Legal.{may_begin, may_follow, is_legal, is_finished}
use Rattle.rollout_rules.specs.Release.{next_op, view_of, is_held_back, release}
use Rattle.rollout_rules.specs.declared.op.Op.{Op}
use Rattle.rollout_rules.specs.declared.op.OpView.{OpView}
use Rattle.rollout_rules.specs.declared.op.Entry.{Entry}
use Rattle.rollout_laws.specs.Waiting.{NothingFlies}
use Rattle.rollout_laws.proofs.Histories.{with_none, with_both, begun-with, front_follows, is_legal-append}
use Rattle.rollout_laws.proofs.Released.{held-none}
use Rattle.shared_book.specs.Batches.{same_entries, dones_ahead, behind_dones, ends, items_rise, is_batch}
use Rattle.shared_book.specs.Notes.{is_stopped}
use Rattle.shared_book.specs.Histories.{Opening, segment_of, added, history_of}
use Rattle.shared_book.specs.Legal.{is_empty, is_turn, may_say, may_go_on, is_legal_shared}
use Rattle.shared_book.specs.declared.note.What.{What}
use Rattle.shared_book.specs.declared.note.What.TheVariants as what
use Rattle.shared_book.specs.declared.note.Written.{Written}
use Rattle.shared_book.proofs.Going.{front_is_legal, next_may_be}
use Rattle.shared_book.proofs.Lists.{history-next, list-is_legal}
use Rattle.rollback_plan.specs.Levels.{ceiling, BegunTo, BegunUpTo, is_levelled, HoldsFrom}
use Rattle.rollback_plan.specs.Turns.{BegunSoFar, HasComeSoFar, comes_to}
use Rattle.rollback_plan.proofs.Ceilings.{ceiling-most, begun-up_to_ceiling, ceiling-least}
use Rattle.rollback_plan.proofs.Coming.{begun-so_far, come-so_far, comes-above, finished-so_far}
use Rattle.rollback_plan.proofs.Levelling.{finished-levelled, release-to, held-levelled}
use Rattle.shared_book.proofs.Stops.{no_entries}
use Rattle.shared_book.proofs.Alike.{dones_then_the_rest, same_entries-is}

-- ---- lists of entries that are the same

pub ends-begin_nothing : (ops : List Op) (n : ℕ) → begins_in (ends ops) n ≡ 0
ends-begin_nothing [] n = refl
ends-begin_nothing (op ∷ ops) n = ends-begin_nothing ops n

module _ (p : Problem) (plan : Plan) (s : ℕ) (most : s ≤ last_stage plan) (net : IsNetwork p) (valid : is_valid_plan p plan ≡ true) (policy : OpView → ℕ) (holds : HoldsFrom s policy)
    (b : ℕ → ℕ) (above : (n : ℕ) → n < item_count p → changes_to p plan (item_at p n) s ≤ b n) where
  -- a batch leads no further than a bound that is at least the stage
  batch-to : (h : History) (es : List Entry) → is_legal p plan h ≡ true → BegunTo p b h → is_batch p plan policy h es ≡ true → BegunTo p b (with_entries h es)
  batch-to h es legal up batch =
      let done = ends (dones_ahead es) in
      let later = with_entries h done in
      let parts = and_parts (items_rise 0 (dones_ahead es) && may_follow p plan h es) (same_entries (behind_dones es) (release p plan policy later)) batch in
      let follows = (and_parts (items_rise 0 (dones_ahead es)) (may_follow p plan h es) parts.0).1 in
      let split = dones_then_the_rest es in
      let ended = front_follows p plan h done (behind_dones es) (subst (λ xs. may_follow p plan h xs ≡ true) split follows) in
      let legal' = is_legal-append p plan h done legal ended in
      let still : BegunTo p b later = λ n lt. omega (arith, up n lt, begun-with h done n, ends-begin_nothing (dones_ahead es) n) in
      let whole : with_entries later (release p plan policy later) ≡ with_entries h es =
      ap (with_entries later) (sym (same_entries-is (behind_dones es) (release p plan policy later) parts.1)) ∙ with_both h done (behind_dones es) ∙ ap (with_entries h) (sym split) in
      subst (λ g. BegunTo p b g) whole (release-to p plan s most net valid policy holds b above later legal' still)

module _ (o : Opening) (s : ℕ) (most : s ≤ last_stage o.rollout.plan) (net : IsNetwork o.rollout.problem) (valid : is_valid_plan o.rollout.problem o.rollout.plan ≡ true) (holds : HoldsFrom s o.policy) where
  abbrev p : Problem
  p = o.rollout.problem

  abbrev plan : Plan
  plan = o.rollout.plan

  -- nothing is begun past a bound that is at least the stage
  module _ (b : ℕ → ℕ) (above : (n : ℕ) → n < item_count p → changes_to p plan (item_at p n) s ≤ b n) where
    abbrev To : History → Type 0
    To h = BegunTo p b h

    nothing-to : (h : History) (es : List Entry) → To h → is_empty es ≡ true → To (with_entries h es)
    nothing-to h es up none = subst To (sym (with_none h) ∙ ap (with_entries h) (sym (no_entries es none))) up

    -- the entries that come with a note lead no further
    note-to : (ws : List Written) (seat : ℕ) (es : List Entry) (said : What) → is_legal p plan (history_of o ws) ≡ true → To (history_of o ws) → may_say o ws seat es said ≡ true → To (with_entries (history_of o ws) es)
    note-to ws seat es (what.Turned dones begins) legal up may =
        let turn = (and_parts (not (is_stopped ws)) (is_turn o (history_of o ws) dones begins es) may).1 in
        batch-to p plan s most net valid o.policy holds b above (history_of o ws) es legal up (and_parts _ (is_batch p plan o.policy (history_of o ws) es) turn).1
    note-to ws seat es (what.Alien item held begun) legal up may =
        nothing-to (history_of o ws) es up (and_parts (not (is_stopped ws)) (is_empty es) (and_parts _ _ (and_parts _ _ may).0).0).1
    note-to ws seat es what.Disk legal up may =
        batch-to p plan s most net valid o.policy holds b above (history_of o ws) es legal up (and_parts (not (is_stopped ws)) (is_batch p plan o.policy (history_of o ws) es) may).1
    note-to ws seat es what.Listed legal up may = nothing-to (history_of o ws) es up (and_parts (not (is_stopped ws)) (is_empty es) may).1
    note-to ws seat es what.Work legal up may = nothing-to (history_of o ws) es up (and_parts (not (is_stopped ws)) (is_empty es) (and_parts _ _ may).0).1
    note-to ws seat es what.Finished legal up may = nothing-to (history_of o ws) es up (and_parts (not (is_stopped ws)) (is_empty es) (and_parts _ _ may).0).1
    note-to ws seat es what.Held legal up may =
        nothing-to (history_of o ws) es up (and_parts (not (is_stopped ws)) (is_empty es) (and_parts _ _ (and_parts _ _ may).0).0).1
    note-to ws seat es what.Stopped legal up may = nothing-to (history_of o ws) es up (and_parts (is_stopped ws) (is_empty es) may).1
    note-to ws seat es (what.Stop why) legal up may = nothing-to (history_of o ws) es up (and_parts _ (is_empty es) may).1

    -- and so what it adds to the list
    segment-to : (h : History) (es : List Entry) (said : What) → To h → To (with_entries h es) → To (with_entries h (segment_of said es))
    segment-to h es (what.Turned dones begins) up with_all = with_all
    segment-to h es (what.Alien item held begun) up with_all = subst To (sym (with_none h)) up
    segment-to h es what.Disk up with_all = subst To (sym (with_none h)) up
    segment-to h es what.Listed up with_all = subst To (sym (with_none h)) up
    segment-to h es what.Work up with_all = subst To (sym (with_none h)) up
    segment-to h es what.Finished up with_all = subst To (sym (with_none h)) up
    segment-to h es what.Held up with_all = subst To (sym (with_none h)) up
    segment-to h es what.Stopped up with_all = subst To (sym (with_none h)) up
    segment-to h es (what.Stop why) up with_all = subst To (sym (with_none h)) up

    module _ (found : To o.found) where
      next-to : (ws later : List Written) (w : Written) → is_legal_shared o (ws ++ w ∷ later) ≡ true → To (history_of o ws) → To (with_entries (history_of o ws) w.entries)
      next-to ws later w legal up =
          let says = (and_parts _ (may_say o ws w.note.seat w.entries w.note.what) (next_may_be o ws later w legal)).1 in
          note-to ws w.note.seat w.entries w.note.what (list-is_legal o ws (front_is_legal o ws (w ∷ later) legal)) up says

      goes_on-to : (ws later : List Written) → is_legal_shared o (ws ++ later) ≡ true → To (history_of o ws) → To (history_of o (ws ++ later))
      goes_on-to ws [] legal up = subst (λ vs. To (history_of o vs)) (sym (append-nil ws)) up
      goes_on-to ws (w ∷ later) legal up =
          let more = append_assoc ws (w ∷ []) later in
          let next = segment-to (history_of o ws) w.entries w.note.what up (next-to ws later w legal up) in
          subst (λ vs. To (history_of o vs)) more
          (goes_on-to (ws ++ w ∷ []) later (subst (λ vs. is_legal_shared o vs ≡ true) (sym more) legal) (subst To (sym (history-next o ws w)) next))

      pub list-to : (ws : List Written) → is_legal_shared o ws ≡ true → To (history_of o ws)
      list-to ws legal = goes_on-to [] ws legal (subst To (sym (with_none o.found)) found)

      pub each-to : (ws later : List Written) (w : Written) → is_legal_shared o (ws ++ w ∷ later) ≡ true → To (with_entries (history_of o ws) w.entries)
      each-to ws later w legal = next-to ws later w legal (list-to ws (front_is_legal o ws (w ∷ later) legal))

  -- so nothing past the stage, where the list found is begun up to there
  module _ (found : BegunUpTo p plan s o.found) where
    abbrev to_stage : ℕ → ℕ
    to_stage n = changes_to p plan (item_at p n) s

    pub list-up_to : (ws : List Written) → is_legal_shared o ws ≡ true → BegunUpTo p plan s (history_of o ws)
    list-up_to ws legal = list-to to_stage (λ n lt. le_refl (to_stage n)) found ws legal

    pub each-up_to : (ws later : List Written) (w : Written) → is_legal_shared o (ws ++ w ∷ later) ≡ true → BegunUpTo p plan s (with_entries (history_of o ws) w.entries)
    each-up_to ws later w legal = each-to to_stage (λ n lt. le_refl (to_stage n)) found ws later w legal

    module _ (ws : List Written) (legal : is_legal_shared o ws ≡ true) where
      pub held-is_levelled : NothingFlies p (history_of o ws) → ((n : ℕ) → may_begin p plan (history_of o ws) (next_op (history_of o ws) n) ≡ true → is_held_back o.policy (view_of p plan (history_of o ws) n) ≡ true)
          → is_levelled p plan (history_of o ws) s ≡ true
      held-is_levelled idle held =
          held-levelled p plan s most net valid (history_of o ws) (list-is_legal o ws legal) (list-up_to ws legal) o.policy holds idle (held-none p plan o.policy (history_of o ws) held)

      pub finished-is_levelled : is_finished p plan (history_of o ws) ≡ true → is_levelled p plan (history_of o ws) s ≡ true
      finished-is_levelled finished = finished-levelled p plan s most (history_of o ws) (list-up_to ws legal) finished

  -- and nothing past what was begun at first, but what leads up to the stage, whatever was begun at first
  abbrev so_far : ℕ → ℕ
  so_far n = comes_to p plan o.found s n

  pub list-so_far : (ws : List Written) → is_legal_shared o ws ≡ true → BegunSoFar p plan o.found s (history_of o ws)
  list-so_far ws legal = list-to so_far (λ n lt. comes-above p plan o.found s n) (begun-so_far p plan o.found s) ws legal

  pub each-so_far : (ws later : List Written) (w : Written) → is_legal_shared o (ws ++ w ∷ later) ≡ true → BegunSoFar p plan o.found s (with_entries (history_of o ws) w.entries)
  each-so_far ws later w legal = each-to so_far (λ n lt. comes-above p plan o.found s n) (begun-so_far p plan o.found s) ws later w legal

  module _ (ws : List Written) (legal : is_legal_shared o ws ≡ true) where
    pub held-so_far : NothingFlies p (history_of o ws) → ((n : ℕ) → may_begin p plan (history_of o ws) (next_op (history_of o ws) n) ≡ true → is_held_back o.policy (view_of p plan (history_of o ws) n) ≡ true)
        → HasComeSoFar p plan o.found s (history_of o ws)
    held-so_far idle held =
        come-so_far p plan s most net valid o.policy holds (history_of o ws) (list-is_legal o ws legal) idle (held-none p plan o.policy (history_of o ws) held) o.found (added ws) refl (list-so_far ws legal)

    pub ended-so_far : is_finished p plan (history_of o ws) ≡ true → HasComeSoFar p plan o.found s (history_of o ws)
    ended-so_far finished = finished-so_far p plan s most o.found (added ws) (list-is_legal o ws legal) finished (list-so_far ws legal)

-- the ceiling of the list found is that of each later list
pub ceiling-stays : (o : Opening) (ws : List Written) → IsNetwork o.rollout.problem → is_valid_plan o.rollout.problem o.rollout.plan ≡ true
    → HoldsFrom (ceiling o.rollout.problem o.rollout.plan o.found) o.policy → is_legal_shared o ws ≡ true
    → ceiling o.rollout.problem o.rollout.plan (history_of o ws) ≡ ceiling o.rollout.problem o.rollout.plan o.found
ceiling-stays o ws net valid holds legal =
    let p = o.rollout.problem in
    let plan = o.rollout.plan in
    let s = ceiling p plan o.found in
    let now = history_of o ws in
    let first = (and_parts (is_legal p plan o.found) (may_go_on o [] ws) legal).0 in
    let most = ceiling-most p plan o.found first in
    let found = begun-up_to_ceiling p plan o.found first in
    let legal_now = list-is_legal o ws legal in
    let high = ceiling-least p plan now s (list-up_to o s most net valid holds found ws legal) in
    let below : BegunUpTo p plan (ceiling p plan now) o.found = λ n lt. omega (arith, begun-up_to_ceiling p plan now legal_now n lt, begun-with o.found (added ws) n) in
    omega (arith, high, ceiling-least p plan o.found (ceiling p plan now) below)
