-- A round to which no answer is handed.
use Rattle.std.proofs.Common.{◌≡◌, ℕ, List, [], ◌∷◌, ◌++◌, All, None, refl, sym, ap, ◌∙◌, subst}
use Rattle.std.proofs.lemmas.List.Elements.{All-push}
use Rattle.rollout_rules.specs.declared.op.Entry.TheVariants.{Done}
use Rattle.rollout_book.specs.declared.fault.BookFault.TheVariants as fault
use Rattle.rollout_book.specs.declared.turn.Turn.{Turn}
use Rattle.shared_book.specs.declared.note.What.{What}
use Rattle.shared_book.specs.declared.note.What.TheVariants as what
use Rattle.shared_book.specs.declared.note.Written.{Written}
use Rattle.shared_book.specs.Histories.{Opening, history_of}
use Rattle.shared_book.specs.Knows.{next_note}
use Rattle.shared_book.specs.Replies.{batch_at}
use Rattle.shared_book.specs.Calls.{IsRoundCall}
use Rattle.shared_book.specs.declared.reply.RoundReply.{RoundReply}
use Rattle.shared_book.specs.declared.reply.RoundReply.TheVariants as round
use Rattle.wan_edge.specs.Frames.{Command}
use Rattle.controller_run.specs.Promises.{BeginsAlone, EndNothing, StopsNothing}
use Rattle.controller_run.proofs.Answered.{none-ended}
use Rattle.controller_run.proofs.Elements.{none-inside}
use Rattle.controller_run.proofs.Noted.{unnoted}
use Rattle.controller_run.proofs.Quiet.{IsQuiet, quiet-past}
use Rattle.controller_run.proofs.Tallies.{Tally, tally-note}

module _ (o : Opening) (seat : ℕ) (joined : List ℕ) where
  abbrev EndsNone : Written → Type 0
  EndsNone w = EndNothing w.entries

  none : (log : List Written) (said : What) → EndsNone (next_note seat log said [])
  none log said = λ op at. none-inside (Done op) at

  of-tally : (seen after : List Written) (commands : List Command) (count : ℕ) → Tally o seat [] EndsNone seen after commands count → BeginsAlone seat seen after
  of-tally seen after commands count tally = record { more = tally.more; goes_on = tally.is; ends_nothing = tally.good }

  pub begins-alone : (seen after : List Written) (reply : RoundReply) → IsRoundCall o (seat ∷ joined) seat seen [] reply after → BeginsAlone seat seen after
  begins-alone seen after (round.Turned turn) call =
      let h = history_of o call.log in
      of-tally seen after _ _ (tally-note o seat [] EndsNone joined seen call.log after (what.Turned turn.dones turn.begins) (batch_at o h []) call.past call.noted (none-ended o.rollout.problem o.rollout.plan o.policy h))
  begins-alone seen after (round.Refused (fault.Alien item held begun)) call =
      of-tally seen after _ _ (tally-note o seat [] EndsNone joined seen call.log after (what.Alien item held begun) [] call.past call.noted (none call.log (what.Alien item held begun)))
  begins-alone seen after (round.Refused fault.Disk) call =
      let h = history_of o call.log in
      of-tally seen after _ _ (tally-note o seat [] EndsNone joined seen call.log after what.Disk (batch_at o h []) call.past call.noted (none-ended o.rollout.problem o.rollout.plan o.policy h))
  begins-alone seen after (round.Stopped halt) call = of-tally seen after _ _ (tally-note o seat [] EndsNone joined seen call.log after what.Stopped [] call.past call.noted (none call.log what.Stopped))
  begins-alone seen after round.Memory call = of-tally seen after _ _ (unnoted o seat joined [] EndsNone (λ log said quiet. none log said) seen call.log after call.past call.noted)

  pub quiet-turned : (seen after : List Written) (turn : Turn) → StopsNothing seat seen → IsRoundCall o (seat ∷ joined) seat seen [] (round.Turned turn) after → StopsNothing seat after
  quiet-turned seen after turn quiet call =
      subst (StopsNothing seat) (sym call.noted) (All-push (IsQuiet seat) call.log _ (quiet-past seat joined seen call.log quiet call.past) (λ own. refl))
