-- Whose note the first stop of a history is.
use Rattle.std.proofs.Common.{◌≡◌, ℕ, List, [], ◌∷◌, ◌++◌, All, slice_index_or, Option, Some, None, option_map, refl, sym, ap, ◌∙◌, subst, arith}
use Rattle.std.proofs.lemmas.List.Elements.{All-append, All-cons, All-head, All-nil, All-tail}
use Rattle.std.specs.Option.{option_or}
use Rattle.turn_lock.specs.Histories.{Follows}
use Rattle.shared_book.specs.declared.note.Cause.{Cause}
use Rattle.shared_book.specs.declared.note.Written.{Written}
use Rattle.shared_book.specs.declared.call_reply.Halt.{Halt}
use Rattle.shared_book.specs.Histories.{Opening}
use Rattle.shared_book.specs.Notes.{calls_by, cause_of, first_stop, halt_by}
use Rattle.shared_book.specs.Replies.{halt_or}
use Rattle.shared_book.specs.Calls.{IsStopCall, seat_of}
use Rattle.controller_run.specs.Promises.{StopsNothing}
use Rattle.controller_run.proofs.Quiet.{none_is_no_halt}
use Rattle.completion_laws.specs.Faults.{IsExcused}

-- a note that stops all is excused by its cause
abbrev pub Excused : Written → Type 0
Excused w = (why : Cause) → cause_of w.note.what ≡ Some why → IsExcused why

-- so it is with all notes of a seat
abbrev pub AreExcused : ℕ → List Written → Type 0
AreExcused seat ws = All (λ w. w.note.seat ≡ seat → Excused w) ws

none-some : (why : Cause) → None ≡ Some why → ⊥
none-some why e = cc e

-- a note that stops nothing
pub plain : (w : Written) → cause_of w.note.what ≡ None → Excused w
plain w none why is = absurd (none-some why (sym none ∙ is))

module _ (seat : ℕ) where
  pub excused-quiet : (ws : List Written) → StopsNothing seat ws → AreExcused seat ws
  excused-quiet ws quiet = λ k d inside own. plain (slice_index_or ws k d) (quiet k d inside own)

  pub excused-past : (joined : List ℕ) (seen log : List Written) → AreExcused seat seen → Follows seat_of (seat ∷ joined) seen log → AreExcused seat log
  excused-past joined seen log excused past =
      subst (AreExcused seat) (sym past.is)
      (All-append (λ w. w.note.seat ≡ seat → Excused w) seen past.past excused (λ k d inside own. absurd (past.none k d inside 0 seat (omega arith) (sym own))))

  pub excused-note : (log after : List Written) (w : Written) → AreExcused seat log → after ≡ log ++ w ∷ [] → Excused w → AreExcused seat after
  excused-note log after w excused is own =
      subst (AreExcused seat) (sym is)
      (All-append (λ v. v.note.seat ≡ seat → Excused v) log (w ∷ []) excused (All-cons (λ v. v.note.seat ≡ seat → Excused v) w [] (λ _. own) (All-nil (λ v. v.note.seat ≡ seat → Excused v))))

  by-note : (w : Written) (why : Option Cause) (rest : Option Halt) (halt : Halt) → cause_of w.note.what ≡ why → option_or (halt_by w.note) rest ≡ Some halt → (rest ≡ Some halt → IsExcused halt.cause) → (w.note.seat ≡ seat → Excused w) → halt.seat ≡ seat → IsExcused halt.cause
  by-note w None rest halt is first later excused mine =
      later (sym (ap (λ (c : Option Cause). option_or (option_map (λ (d : Cause). record { seat = w.note.seat; call = w.note.call; cause = d }) c) rest) is) ∙ first)
  by-note w (Some why) rest halt is first later excused mine =
      let own : Halt = record { seat = w.note.seat; call = w.note.call; cause = why } in
      let told : Some own ≡ Some halt = sym (ap (λ (c : Option Cause). option_or (option_map (λ (d : Cause). record { seat = w.note.seat; call = w.note.call; cause = d }) c) rest) is) ∙ first in
      let same : own ≡ halt = cc told in
      subst (λ (h : Halt). IsExcused h.cause) same (excused (ap (λ (h : Halt). h.seat) same ∙ mine) why is)

  -- the first stop, where it is the seat's
  pub first-excused : (ws : List Written) (halt : Halt) → AreExcused seat ws → first_stop ws ≡ Some halt → halt.seat ≡ seat → IsExcused halt.cause
  first-excused [] halt excused first mine = absurd (none_is_no_halt halt first)
  first-excused (w ∷ ws) halt excused first mine =
      by-note w (cause_of w.note.what) (first_stop ws) halt refl first
      (λ later. first-excused ws halt (All-tail (λ v. v.note.seat ≡ seat → Excused v) w ws excused) later mine) (All-head (λ v. v.note.seat ≡ seat → Excused v) w ws excused) mine

  halt-excused : (s : Option Halt) (own halt : Halt) → halt ≡ halt_or s own → (s ≡ Some halt → IsExcused halt.cause) → IsExcused own.cause → IsExcused halt.cause
  halt-excused (Some first) own halt told earlier mine = earlier (ap Some (sym told))
  halt-excused None own halt told earlier mine = subst (λ (h : Halt). IsExcused h.cause) (sym told) mine

  -- a stop that it asked for with an excuse
  pub asked-excused : (o : Opening) (joined : List ℕ) (seen after : List Written) (why : Cause) (halt : Halt) → AreExcused seat seen → IsStopCall o (seat ∷ joined) seat seen why halt after → IsExcused why → halt.seat ≡ seat → IsExcused halt.cause
  asked-excused o joined seen after why halt excused call is mine =
      halt-excused (first_stop call.log) (record { seat = seat; call = calls_by seat call.log; cause = why }) halt call.told
      (λ first. first-excused call.log halt (excused-past joined seen call.log excused call.past) first mine) is
