-- How a run ends, by its book and its first stop.
use Rattle.std.proofs.Common.{◌≡◌, ℕ, Bool, true, false, List, Option, Some, None, refl, sym, ap, ◌∙◌, subst}
use Rattle.rollout_rules.specs.Legal.{is_finished}
use Rattle.rollout_rules.specs.Wan.{Rollout}
use Rattle.rollout_rules.specs.History.{History}
use Rattle.rollout_book.specs.JournaledRounds.{Journaled}
use Rattle.wan_edge.specs.Frames.{Answer}
use Rattle.wan_edge.specs.Ports.{PortTrace}
use Rattle.shared_book.specs.Lasting.{AllHeard, AllTold, CountsNothingElse}
use Rattle.shared_book.specs.Opened.{IsClosed}
use Rattle.shared_book.proofs.Unstopped.{unstopped}
use Rattle.shared_book.specs.declared.note.Written.{Written}
use Rattle.shared_book.specs.declared.call_reply.Halt.{Halt}
use Rattle.shared_book.specs.Histories.{Opening, history_of}
use Rattle.shared_book.specs.Legal.{is_legal_shared}
use Rattle.shared_book.specs.Notes.{first_stop}
use Rattle.controller_run.specs.Runs.{IsRun, IsRunEnd, end_with}
use Rattle.controller_run.specs.declared.end.RunEnd.{RunEnd}

-- where nothing else counts as heard, the answers that were heard were told
pub was_told : {P : Type 0} (tell : P → PortTrace) (migration : ℕ) (heard : Answer → Type 0) (log : List Written) → CountsNothingElse tell migration heard → AllHeard heard log → AllTold tell migration log
was_told tell migration heard log only each = λ k d inside op at.
    let had = each k d inside op at in
    record { answer = had.answer; item = had.item; covers = had.covers; was_heard = only had.answer had.was_heard }

-- an end that a book and a stop give is that of a run that has begun
pub has_begun : (halt : Option Halt) (finished : Bool) (begun : RunEnd → Type 0) (unbegun : Type 0) (end : RunEnd) → end ≡ end_with halt finished → begun end → IsRun end (begun end) unbegun
has_begun (Some halt) finished begun unbegun end is holds = subst (λ (e : RunEnd). IsRun e (begun e) unbegun) (sym is) (subst begun is holds)
has_begun None true begun unbegun end is holds = subst (λ (e : RunEnd). IsRun e (begun e) unbegun) (sym is) (subst begun is holds)
has_begun None false begun unbegun end is holds = subst (λ (e : RunEnd). IsRun e (begun e) unbegun) (sym is) (subst begun is holds)

module _ {D : Type 0} (o : Opening) (log : List Written) (book : Journaled D) (legal : is_legal_shared o log ≡ true) (closed : IsClosed o log book) where
  -- before the first stop the book's history is that of the notes
  same_end : first_stop log ≡ None → is_finished book.rollout.problem book.rollout.plan book.history ≡ is_finished o.rollout.problem o.rollout.plan (history_of o log)
  same_end none = ap (λ (r : Rollout). is_finished r.problem r.plan book.history) closed.rollout ∙ ap (λ (h : History). is_finished o.rollout.problem o.rollout.plan h) (closed.history ∙ unstopped o log legal none)

  by_stop : (halt : Option Halt) (finished : Bool) → halt ≡ first_stop log → is_finished book.rollout.problem book.rollout.plan book.history ≡ finished → IsRunEnd o log (end_with halt finished)
  by_stop (Some halt) finished first is = sym first
  by_stop None true first is = (sym first, sym (same_end (sym first)) ∙ is)
  by_stop None false first is = (sym first, sym (same_end (sym first)) ∙ is)

  pub ends : (halt : Option Halt) (end : RunEnd) → halt ≡ first_stop log → end ≡ end_with halt (is_finished book.rollout.problem book.rollout.plan book.history) → IsRunEnd o log end
  ends halt end first is = subst (λ (e : RunEnd). IsRunEnd o log e) (sym is) (by_stop halt (is_finished book.rollout.problem book.rollout.plan book.history) first refl)
