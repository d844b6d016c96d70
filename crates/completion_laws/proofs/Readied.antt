-- A port that is ready for a run is up to date.
use Rattle.std.proofs.Common.{◌≡◌, ℕ, true, List, [], length, Option, Some, None, IfSome, is_some, inl, inr, refl, ap, ◌∙◌, subst, arith, append-nil}
use Rattle.std.proofs.lemmas.Bool.{false≢true}
use Rattle.std.specs.List.{flat_map}
use Rattle.lists.proofs.Options.{of_some}
use Rattle.rollout_rules.specs.Wan.{Rollout}
use Rattle.rollout_rules.specs.History.{History}
use Rattle.rollout_rules.specs.Agent.{Holding}
use Rattle.wan_edge.specs.Frames.{CommandFrame, answer_bytes, command_bytes}
use Rattle.wan_edge.specs.Ports.{AllAnswered, AnswersInOrder}
use Rattle.wan_edge.specs.Switches.{Holdings, after_commands, answers_to}
use Rattle.wan_edge.proofs.Commands.{nothing_begins_no_command}
use Rattle.port_session.proofs.Hearing.{length-answers}
use Rattle.switch_ports.specs.Views.{SessionTrace}
use Rattle.switch_laws.specs.Holdings.{AreHeldAt, IsHeldAt}
use Rattle.switch_laws.specs.Runs.{AreCommands}
use Rattle.completion_laws.specs.Answering.{IsOnTheWay, IsReady, IsUpToDate}
use Rattle.completion_laws.proofs.Prompt.{all-carried, as-many}

told : {A : Type 0} (x : Option A) → is_some x ≡ true → (a : A) × (x ≡ Some a)
told None some = absurd (false≢true some)
told (Some a) some = (a, refl)

module _ (r : Rollout) (migration : ℕ) (homes : List (Option ℕ)) (found : History) (first : SessionTrace) (ready : IsReady r migration homes found first) where
  abbrev offered : List ℕ
  offered = (told first.port.offered ready.offered).0

  abbrev heard : List ℕ
  heard = (told first.port.heard ready.heard).0

  abbrev held : Holdings
  held = (told first.port.held ready.held).0

  offered-is : first.port.offered ≡ Some offered
  offered-is = (told first.port.offered ready.offered).1

  heard-is : first.port.heard ≡ Some heard
  heard-is = (told first.port.heard ready.heard).1

  held-is : first.port.held ≡ Some held
  held-is = (told first.port.held ready.held).1

  came : AreCommands r migration found held offered
  came =
      of_some (λ h. AreCommands r migration found h offered) first.port.held held held-is
      (of_some (λ bytes. IfSome first.port.held (λ h. AreCommands r migration found h bytes)) first.port.offered offered offered-is ready.starts.offered)

  abbrev commands : List CommandFrame
  commands = came.commands

  whole : offered ≡ flat_map command_bytes commands
  whole = came.whole.parts ∙ append-nil (flat_map command_bytes commands)

  answered : heard ≡ flat_map answer_bytes (answers_to first.port.start commands)
  answered =
      let all : AllAnswered first.port.start offered heard
      = of_some (AllAnswered first.port.start offered) first.port.heard heard heard-is
      (of_some (λ o. IfSome first.port.heard (AllAnswered first.port.start o)) first.port.offered offered offered-is ready.no_more) in
      all commands [] came.whole nothing_begins_no_command

  state : AnswersInOrder first.port.start (flat_map command_bytes commands) heard held
  state =
      subst (λ (o : List ℕ). AnswersInOrder first.port.start o heard held) whole
      (of_some (AnswersInOrder first.port.start offered heard) first.port.held held held-is
      (of_some (λ b. IfSome first.port.held (AnswersInOrder first.port.start offered b)) first.port.heard heard heard-is
      (of_some (λ o. IfSome first.port.heard (λ b. IfSome first.port.held (AnswersInOrder first.port.start o b))) first.port.offered offered offered-is ready.in_order)))

  carried : held ≡ after_commands first.port.start commands
  carried =
      all-carried first.port.start held commands heard came.whole.fit state
      (omega (arith, ap length answered, length-answers (answers_to first.port.start commands), as-many first.port.start commands))

  on-the-way : (n : ℕ) (holding : Holding) → IsHeldAt r migration found n holding → IsOnTheWay migration found n holding.held
  on-the-way n holding (inl moved) = inl (moved.pair, moved.least, moved.most)
  on-the-way n holding (inr left) = inr left.earlier

  pub ready-up : IsUpToDate r migration homes found first
  ready-up = record {
    commands = commands;
    answered = record {
      prompt = ready.prompt;
      fit = came.whole.fit;
      offered = offered-is ∙ ap Some whole;
      heard = heard-is ∙ ap Some answered;
      held = held-is ∙ ap Some carried;
      none_kept = ready.starts.none_kept;
      none_owed = ready.none_owed;
    };
    held = λ n low home. subst (λ (hs : Holdings). IsOnTheWay migration found n (hs n).held) carried (on-the-way n (held n) (of_some (AreHeldAt r migration homes first.switch found) first.port.held held held-is ready.starts.held n low home));
  }
