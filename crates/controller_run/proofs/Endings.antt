-- What a shared history says where a call of a worker ends its rounds.
use Rattle.std.proofs.Common.{◌≡◌, ◌≢◌, ◌⊎◌, ℕ, Bool, true, false, ◌&&◌, ◌||◌, ◌==◌, List, [], ◌∷◌, ◌++◌, Option, Some, None, is_some, option_map, refl, sym, ap, ◌∙◌, ⊎_elim, inl, inr, subst, if◌then◌else◌}
use Rattle.std.specs.Option.{option_or}
use Rattle.std.proofs.lemmas.Bool.{and_parts, false≢true}
use Rattle.rollout_rules.specs.History.{with_entries}
use Rattle.rollout_rules.specs.Legal.{is_finished}
use Rattle.rollout_rules.specs.declared.op.Op.{Op}
use Rattle.rollout_rules.specs.declared.op.Entry.{Entry}
use Rattle.rollout_laws.proofs.Histories.{with_none}
use Rattle.shared_book.specs.declared.note.Cause.{Cause}
use Rattle.shared_book.specs.declared.note.What.{What}
use Rattle.shared_book.specs.declared.note.What.TheVariants as what
use Rattle.shared_book.specs.declared.note.Written.{Written}
use Rattle.shared_book.specs.declared.call_reply.Halt.{Halt}
use Rattle.shared_book.specs.declared.call_reply.ListReply.TheVariants as list
use Rattle.shared_book.specs.declared.call_reply.Wake.TheVariants as wake
use Rattle.shared_book.specs.Notes.{asks_to_stop, cause_of, first_stop, halt_by, has_asked, is_stopped}
use Rattle.shared_book.specs.Histories.{Opening, history_of}
use Rattle.shared_book.specs.Knows.{next_note}
use Rattle.shared_book.specs.Legal.{is_still}
use Rattle.shared_book.specs.Replies.{asked_at, halt_or, list_reply, wake_or, wake_reply, wake_with}
use Rattle.shared_book.proofs.Lists.{history-next}
use Rattle.shared_book.proofs.Stops.{first_stop-append, first_stop-stays}
use Rattle.shared_book.proofs.ListCalls.{halted-by}
use Rattle.controller_run.specs.Promises.{IsEndAt}

-- ---- what a look was told
told-finished : (s : Option Halt) (finished still : Bool) (ops : List Op) → Some wake.Finished ≡ wake_or s (wake_with finished still ops) → (s ≡ None) × (finished ≡ true)
told-finished (Some halt) finished still ops e = absurd (cc e)
told-finished None finished still (op ∷ ops) e = absurd (cc e)
told-finished None true still [] e = (refl, refl)
told-finished None false true [] e = absurd (cc e)
told-finished None false false [] e = absurd (cc e)

told-held : (s : Option Halt) (finished still : Bool) (ops : List Op) → Some wake.Held ≡ wake_or s (wake_with finished still ops) → (s ≡ None) × (still ≡ true) × (finished ≡ false)
told-held (Some halt) finished still ops e = absurd (cc e)
told-held None finished still (op ∷ ops) e = absurd (cc e)
told-held None true still [] e = absurd (cc e)
told-held None false true [] e = (refl, refl, refl)
told-held None false false [] e = absurd (cc e)

told-stopped : (s : Option Halt) (finished still : Bool) (ops : List Op) (halt : Halt) → Some (wake.Stopped halt) ≡ wake_or s (wake_with finished still ops) → s ≡ Some halt
told-stopped (Some first) finished still ops halt e = cc e
told-stopped None finished still (op ∷ ops) halt e = absurd (cc e)
told-stopped None true still [] halt e = absurd (cc e)
told-stopped None false true [] halt e = absurd (cc e)
told-stopped None false false [] halt e = absurd (cc e)

told-work : (s : Option Halt) (finished still : Bool) (ops : List Op) (op : Op) → Some (wake.Work op) ≡ wake_or s (wake_with finished still ops) → (s ≡ None) × (rest : List Op) × (ops ≡ op ∷ rest)
told-work (Some first) finished still ops op e = absurd (cc e)
told-work None finished still (mine ∷ ops) op e = (refl, ops, ap (λ (x : Op). x ∷ ops) (cc e))
told-work None true still [] op e = absurd (cc e)
told-work None false true [] op e = absurd (cc e)
told-work None false false [] op e = absurd (cc e)

-- ---- one note more
abbrev noted : ℕ → List Written → What → List Entry → List Written
noted seat log said es = log ++ next_note seat log said es ∷ []

none-more : (s t : Option Halt) → s ≡ None → t ≡ None → option_or s t ≡ None
none-more s t e f = ap (λ (x : Option Halt). option_or x t) e ∙ f

module _ (o : Opening) (seat : ℕ) (log : List Written) where
  -- a look adds nothing, and stops nothing
  same-list : (said : What) (after : List Written) → after ≡ noted seat log said [] → history_of o (noted seat log said []) ≡ with_entries (history_of o log) [] → history_of o after ≡ history_of o log
  same-list said after is next = ap (history_of o) is ∙ next ∙ with_none (history_of o log)

  pub ends-finished : (switches : List ℕ) (after : List Written) → Some wake.Finished ≡ wake_reply o log switches → after ≡ noted seat log what.Finished [] → IsEndAt o after wake.Finished
  ends-finished switches after told is =
      let h = history_of o log in
      let facts = told-finished (first_stop log) (is_finished o.rollout.problem o.rollout.plan h) (is_still o.rollout.problem h) (asked_at o.rollout.problem h switches) told in
      let w = next_note seat log what.Finished [] in
      let same = same-list what.Finished after is (history-next o log w) in (
        ap first_stop is ∙ first_stop-append log (w ∷ []) ∙ none-more (first_stop log) (first_stop (w ∷ [])) facts.0 refl,
        ap (is_finished o.rollout.problem o.rollout.plan) same ∙ facts.1,
      )

  pub ends-held : (switches : List ℕ) (after : List Written) → Some wake.Held ≡ wake_reply o log switches → after ≡ noted seat log what.Held [] → IsEndAt o after wake.Held
  ends-held switches after told is =
      let h = history_of o log in
      let facts = told-held (first_stop log) (is_finished o.rollout.problem o.rollout.plan h) (is_still o.rollout.problem h) (asked_at o.rollout.problem h switches) told in
      let w = next_note seat log what.Held [] in
      let same = same-list what.Held after is (history-next o log w) in (
        ap first_stop is ∙ first_stop-append log (w ∷ []) ∙ none-more (first_stop log) (first_stop (w ∷ [])) facts.0 refl,
        ap (is_still o.rollout.problem) same ∙ facts.1,
        ap (is_finished o.rollout.problem o.rollout.plan) same ∙ facts.2,
      )

  pub look-stopped : (switches : List ℕ) (halt : Halt) → Some (wake.Stopped halt) ≡ wake_reply o log switches → first_stop log ≡ Some halt
  look-stopped switches halt told =
      let h = history_of o log in
      told-stopped (first_stop log) (is_finished o.rollout.problem o.rollout.plan h) (is_still o.rollout.problem h) (asked_at o.rollout.problem h switches) halt told

  pub look-works : (switches : List ℕ) (op : Op) → Some (wake.Work op) ≡ wake_reply o log switches → (first_stop log ≡ None) × (rest : List Op) × (asked_at o.rollout.problem (history_of o log) switches ≡ op ∷ rest)
  look-works switches op told =
      let h = history_of o log in
      told-work (first_stop log) (is_finished o.rollout.problem o.rollout.plan h) (is_still o.rollout.problem h) (asked_at o.rollout.problem h switches) op told

  pub list-stopped : (halt : Halt) → list.Stopped halt ≡ list_reply (first_stop log) → first_stop log ≡ Some halt
  list-stopped halt told = halted-by (first_stop log) halt told

  -- where a stop stands it is told ever after
  pub still-stopped : (halt : Halt) (said : What) (es : List Entry) (after : List Written) → first_stop log ≡ Some halt → after ≡ noted seat log said es → first_stop after ≡ Some halt
  still-stopped halt said es after stopped is = ap first_stop is ∙ first_stop-stays log (next_note seat log said es ∷ []) halt stopped

  -- where none stands, the note of a seat that stops is the first
  pub first-stops : (said : What) (es : List Entry) (why : Cause) (after : List Written) → first_stop log ≡ None → cause_of said ≡ Some why → after ≡ noted seat log said es
      → (halt : Halt) × (first_stop after ≡ Some halt) × (halt.seat ≡ seat) × (halt.cause ≡ why)
  first-stops said es why after none stops is =
      let w = next_note seat log said es in
      let mine : Halt = record { seat = seat; call = w.note.call; cause = why } in
      let by : halt_by w.note ≡ Some mine = ap (option_map (λ (c : Cause). record { seat = seat; call = w.note.call; cause = c })) stops in (
        mine,
        ap first_stop is ∙ first_stop-append log (w ∷ []) ∙ ap (λ (s : Option Halt). option_or s (first_stop (w ∷ []))) none ∙ ap (λ (s : Option Halt). option_or s None) by,
        refl,
        refl,
      )

-- ---- a call that asks that all stop
-- a seat that has asked has stopped all
asks-stops : (said : What) → asks_to_stop said ≡ true → is_some (cause_of said) ≡ true
asks-stops (what.Turned dones begins) e = absurd (false≢true e)
asks-stops (what.Alien item held begun) e = refl
asks-stops what.Disk e = refl
asks-stops what.Listed e = absurd (false≢true e)
asks-stops what.Work e = absurd (false≢true e)
asks-stops what.Finished e = absurd (false≢true e)
asks-stops what.Held e = absurd (false≢true e)
asks-stops what.Stopped e = absurd (false≢true e)
asks-stops (what.Stop why) e = refl

some-mapped : {A B : Type 0} (f : A → B) (a : Option A) → is_some a ≡ true → is_some (option_map f a) ≡ true
some-mapped f (Some x) e = refl
some-mapped f None e = absurd (false≢true e)

some-or : (a b : Option Halt) → (is_some a ≡ true) ⊎ (is_some b ≡ true) → is_some (option_or a b) ≡ true
some-or (Some x) b e = refl
some-or None b (inl e) = absurd (false≢true e)
some-or None b (inr e) = e

either-true : (a b : Bool) → (a || b) ≡ true → (a ≡ true) ⊎ (b ≡ true)
either-true true b e = inl refl
either-true false b e = inr e

asked-stopped : (seat : ℕ) (ws : List Written) → has_asked seat ws ≡ true → is_stopped ws ≡ true
asked-stopped seat [] e = absurd (false≢true e)
asked-stopped seat (w ∷ ws) e =
    some-or (halt_by w.note) (first_stop ws)
    (⊎_elim (λ (here : ((w.note.seat == seat) && asks_to_stop w.note.what) ≡ true). inl (some-mapped _ (cause_of w.note.what) (asks-stops w.note.what (and_parts (w.note.seat == seat) (asks_to_stop w.note.what) here).1)))
    (λ (later : has_asked seat ws ≡ true). inr (asked-stopped seat ws later))
    (either-true ((w.note.seat == seat) && asks_to_stop w.note.what) (has_asked seat ws) e))

of-some : (s : Option Halt) (own halt : Halt) → is_some s ≡ true → halt ≡ halt_or s own → s ≡ Some halt
of-some (Some first) own halt some e = ap Some (sym e)
of-some None own halt some e = absurd (false≢true some)

of-either : (s : Option Halt) (own halt : Halt) → halt ≡ halt_or s own → option_or s (Some own) ≡ Some halt
of-either (Some first) own halt e = ap Some (sym e)
of-either None own halt e = ap Some (sym e)

pub stop-first : (seat : ℕ) (log : List Written) (why : Cause) (halt : Halt) (after : List Written) (asked : Bool) → has_asked seat log ≡ asked
    → after ≡ (if asked then log else noted seat log (what.Stop why) []) → halt ≡ halt_or (first_stop log) (record { seat = seat; call = (next_note seat log (what.Stop why) []).note.call; cause = why }) → first_stop after ≡ Some halt
stop-first seat log why halt after true asked is told = ap first_stop is ∙ of-some (first_stop log) _ halt (asked-stopped seat log asked) told
stop-first seat log why halt after false asked is told =
    let w = next_note seat log (what.Stop why) [] in
    ap first_stop is ∙ first_stop-append log (w ∷ []) ∙ of-either (first_stop log) _ halt told
