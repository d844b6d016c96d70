-- A shared history under a policy that holds all back: nothing is begun.
use Rattle.std.proofs.Common.{◌≡◌, ℕ, ◌+◌, true, not, ◌&&◌, List, [], ◌∷◌, ◌++◌, refl, sym, ap, ◌∙◌, subst, arith, append_assoc}
use Rattle.std.proofs.lemmas.Bool.{and_parts}
use Rattle.rollout_rules.specs.Wan.{Problem, Plan}
use Rattle.rollout_rules.specs.Network.{IsNetwork}
use Rattle.rollout_rules.specs.Valid.{is_valid_plan}
use Rattle.rollout_rules.specs.History.{History, with_entries, begins_in}
use Rattle.rollout_rules.specs.Legal.{may_follow, is_legal}
use Rattle.rollout_rules.specs.Release.{next_op, view_of, release}
use Rattle.rollout_rules.specs.declared.op.OpView.{OpView}
use Rattle.rollout_rules.specs.declared.op.Entry.{Entry}
use Rattle.rollout_laws.proofs.Histories.{begins, begins_in-append, front_follows, is_legal-append}
use Rattle.rollout_laws.proofs.Released.{held-none}
use Rattle.shared_book.specs.Batches.{same_entries, dones_ahead, behind_dones, ends, items_rise, is_batch}
use Rattle.shared_book.specs.Notes.{is_stopped}
use Rattle.shared_book.specs.Histories.{Opening, segment_of, added, history_of}
use Rattle.shared_book.specs.Legal.{is_empty, is_turn, may_say, is_legal_shared}
use Rattle.shared_book.specs.declared.note.What.{What}
use Rattle.shared_book.specs.declared.note.What.TheVariants as what
use Rattle.shared_book.specs.declared.note.Written.{Written}
use Rattle.shared_book.proofs.Going.{front_is_legal, next_may_be}
use Rattle.shared_book.proofs.Lists.{list-is_legal}
use Rattle.rollback_plan.specs.Levels.{HoldsFrom}
use Rattle.rollback_plan.proofs.Views.{views-are_views}
use Rattle.shared_book.proofs.Stops.{no_entries}
use Rattle.shared_book.proofs.Alike.{dones_then_the_rest, same_entries-is}
use Rattle.levelling_laws.proofs.Shared.{ends-begin_nothing}

-- no operation of any item is begun in a list
abbrev pub BeginsNone : List Entry → Type 0
BeginsNone es = (n : ℕ) → begins_in es n ≡ 0

module _ (p : Problem) (plan : Plan) (net : IsNetwork p) (valid : is_valid_plan p plan ≡ true) (policy : OpView → ℕ) (holds : HoldsFrom 0 policy) where
  -- a release has nothing
  none-released : (h : History) → is_legal p plan h ≡ true → release p plan policy h ≡ []
  none-released h legal = held-none p plan policy h (λ n may.
      holds.from (view_of p plan h n) (views-are_views p plan h n net valid legal (begins p plan h (next_op h n) may).next.within) (omega arith))

  -- and so a batch has Dones alone
  batch-begins_none : (h : History) (es : List Entry) → is_legal p plan h ≡ true → is_batch p plan policy h es ≡ true → BeginsNone es
  batch-begins_none h es legal batch n =
      let done = ends (dones_ahead es) in
      let later = with_entries h done in
      let parts = and_parts (items_rise 0 (dones_ahead es) && may_follow p plan h es) (same_entries (behind_dones es) (release p plan policy later)) batch in
      let follows = (and_parts (items_rise 0 (dones_ahead es)) (may_follow p plan h es) parts.0).1 in
      let split = dones_then_the_rest es in
      let ended = front_follows p plan h done (behind_dones es) (subst (λ xs. may_follow p plan h xs ≡ true) split follows) in
      let legal' = is_legal-append p plan h done legal ended in
      let none : behind_dones es ≡ [] = same_entries-is (behind_dones es) (release p plan policy later) parts.1 ∙ none-released later legal' in
      let behind : begins_in (behind_dones es) n ≡ 0 = ap (λ (xs : List Entry). begins_in xs n) none in
      let both : begins_in es n ≡ begins_in done n + begins_in (behind_dones es) n = ap (λ (xs : List Entry). begins_in xs n) split ∙ begins_in-append done (behind_dones es) n in
      omega (arith, both, behind, ends-begin_nothing (dones_ahead es) n)

none-begins_none : (es : List Entry) → is_empty es ≡ true → BeginsNone es
none-begins_none es none n = ap (λ (xs : List Entry). begins_in xs n) (no_entries es none)

-- what a note adds to the list is of the entries that come with it
segment-begins_none : (es : List Entry) (said : What) → BeginsNone es → BeginsNone (segment_of said es)
segment-begins_none es (what.Turned dones begins) with_all = with_all
segment-begins_none es (what.Alien item held begun) with_all = λ n. refl
segment-begins_none es what.Disk with_all = λ n. refl
segment-begins_none es what.Listed with_all = λ n. refl
segment-begins_none es what.Work with_all = λ n. refl
segment-begins_none es what.Finished with_all = λ n. refl
segment-begins_none es what.Held with_all = λ n. refl
segment-begins_none es what.Stopped with_all = λ n. refl
segment-begins_none es (what.Stop why) with_all = λ n. refl

module _ (o : Opening) (net : IsNetwork o.rollout.problem) (valid : is_valid_plan o.rollout.problem o.rollout.plan ≡ true) (holds : HoldsFrom 0 o.policy) where
  note-begins_none : (ws : List Written) (seat : ℕ) (es : List Entry) (said : What) → is_legal o.rollout.problem o.rollout.plan (history_of o ws) ≡ true → may_say o ws seat es said ≡ true → BeginsNone es
  note-begins_none ws seat es (what.Turned dones begins) legal may =
      let turn = (and_parts (not (is_stopped ws)) (is_turn o (history_of o ws) dones begins es) may).1 in
      batch-begins_none o.rollout.problem o.rollout.plan net valid o.policy holds (history_of o ws) es legal (and_parts _ (is_batch o.rollout.problem o.rollout.plan o.policy (history_of o ws) es) turn).1
  note-begins_none ws seat es (what.Alien item held begun) legal may = none-begins_none es (and_parts (not (is_stopped ws)) (is_empty es) (and_parts _ _ (and_parts _ _ may).0).0).1
  note-begins_none ws seat es what.Disk legal may =
      batch-begins_none o.rollout.problem o.rollout.plan net valid o.policy holds (history_of o ws) es legal (and_parts (not (is_stopped ws)) (is_batch o.rollout.problem o.rollout.plan o.policy (history_of o ws) es) may).1
  note-begins_none ws seat es what.Listed legal may = none-begins_none es (and_parts (not (is_stopped ws)) (is_empty es) may).1
  note-begins_none ws seat es what.Work legal may = none-begins_none es (and_parts (not (is_stopped ws)) (is_empty es) (and_parts _ _ may).0).1
  note-begins_none ws seat es what.Finished legal may = none-begins_none es (and_parts (not (is_stopped ws)) (is_empty es) (and_parts _ _ may).0).1
  note-begins_none ws seat es what.Held legal may = none-begins_none es (and_parts (not (is_stopped ws)) (is_empty es) (and_parts _ _ (and_parts _ _ may).0).0).1
  note-begins_none ws seat es what.Stopped legal may = none-begins_none es (and_parts (is_stopped ws) (is_empty es) may).1
  note-begins_none ws seat es (what.Stop why) legal may = none-begins_none es (and_parts _ (is_empty es) may).1

  pub next-begins_nothing : (ws later : List Written) (w : Written) → is_legal_shared o (ws ++ w ∷ later) ≡ true → BeginsNone w.entries
  next-begins_nothing ws later w legal =
      let says = (and_parts _ (may_say o ws w.note.seat w.entries w.note.what) (next_may_be o ws later w legal)).1 in
      note-begins_none ws w.note.seat w.entries w.note.what (list-is_legal o ws (front_is_legal o ws (w ∷ later) legal)) says

  goes_on-begins_nothing : (ws later : List Written) → is_legal_shared o (ws ++ later) ≡ true → BeginsNone (added later)
  goes_on-begins_nothing ws [] legal n = refl
  goes_on-begins_nothing ws (w ∷ later) legal n =
      let segment = segment_of w.note.what w.entries in
      let first : begins_in segment n ≡ 0 = segment-begins_none w.entries w.note.what (next-begins_nothing ws later w legal) n in
      let more : is_legal_shared o ((ws ++ w ∷ []) ++ later) ≡ true = subst (λ (vs : List Written). is_legal_shared o vs ≡ true) (sym (append_assoc ws (w ∷ []) later)) legal in
      let rest : begins_in (added later) n ≡ 0 = goes_on-begins_nothing (ws ++ w ∷ []) later more n in
      let both : begins_in (segment ++ added later) n ≡ begins_in segment n + begins_in (added later) n = begins_in-append segment (added later) n in
      omega (arith, both, first, rest)

  pub list-begins_nothing : (ws : List Written) → is_legal_shared o ws ≡ true → BeginsNone (added ws)
  list-begins_nothing ws legal = goes_on-begins_nothing [] ws legal
