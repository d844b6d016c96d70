-- Items at home at a switch that is ready to tell, and that its first round is whole.
use Rattle.std.proofs.Common.{◌≡◌, ◌⊎◌, ℕ, ◌<◌, ◌≤◌, ◌^◌, true, List, [], ◌∷◌, ◌++◌, map, length, slice_index, Option, Some, option_map, inl, inr, refl, sym, ap, ◌∙◌, subst, arith, append-nil, length-append}
use Rattle.std.specs.Prelude.{IfSome}
use Rattle.std.proofs.lemmas.Bool.{OnTrue_at}
use Rattle.std.proofs.lemmas.Grind.{flat_map-append}
use Rattle.std.proofs.lemmas.List.{length-map}
use Rattle.std.proofs.lemmas.List.Elements.{All-append, All-cons, All-filter, All-head, All-nil, All-tail}
use Rattle.std.specs.List.{All, flat_map}
use Rattle.lists.proofs.Options.{of_some}
use Rattle.rollout_rules.specs.Items.{item_count}
use Rattle.rollout_rules.specs.Wan.{Rollout}
use Rattle.wan_edge.specs.Frames.{AnswerFrame, CommandFrame, IsAnswer, IsCommand, answer_bytes, command_bytes}
use Rattle.wan_edge.specs.Ports.{AllAnswered, PortTrace}
use Rattle.wan_edge.specs.Switches.{Holdings, after_commands, answers_to, pair_given}
use Rattle.wan_edge.proofs.Commands.{nothing_begins_no_command, answers_to-append}
use Rattle.wire_frames.proofs.OneSpelling.{same_parts}
use Rattle.port_session.proofs.Hearing.{cut_short, length-answers}
use Rattle.switch_ports.specs.Outboxes.{home_at}
use Rattle.switch_ports.specs.Views.{SessionTrace}
use Rattle.shared_book.specs.Homes.{homes_of}
use Rattle.held_service.specs.Noting.{Notes, is_untold, with_answers}
use Rattle.held_service.specs.Questions.{is_asked, question_bytes, questions}
use Rattle.held_service.specs.Talks.{AskUntold, GaveAll, Round, Talks, asked_of}
use Rattle.held_service.proofs.Idle.{questions-fit}
use Rattle.takeover_top.specs.ReadyToTake.{IsOfStart, IsReadyToTell}
use Rattle.takeover_top.proofs.PromptNotes.{IsFull}
use Rattle.takeover_top.proofs.PromptReplies.{reply, replies-are}

-- what holds of all items holds of those that are asked about
pub all-asked : (P : ℕ → Type 0) (items : List ℕ) (notes : Notes) (rounds : List Round) → All P items → AskUntold items notes rounds → All P (asked_of rounds)
all-asked P items notes [] all asks = All-nil P
all-asked P items notes (r ∷ rounds) all asks =
    All-append P r.asked (asked_of rounds) (subst (All P) (sym asks.0) (All-filter (is_untold notes) P items all)) (all-asked P items (with_answers notes r.answers) rounds all asks.2)

module _ (r : Rollout) (migration : ℕ) (fits : migration < 2 ^ 32) (start : List ℕ) (homes : List (Option ℕ)) (first : SessionTrace) (ready : IsReadyToTell r migration start first) where
  -- An item about which the switch is asked, whose home it is; its number fits a frame.
  abbrev pub IsAtHome : ℕ → Type 0
  IsAtHome n = (n < 2 ^ 32) × (n < item_count r.problem) × (home_at (homes_of r.problem) n ≡ Some first.switch) × (is_asked homes first.switch n ≡ true)

  abbrev pub holdings : Holdings
  holdings = after_commands first.port.start ready.commands

  -- what is replied about such items fits a frame, is what the start says, and is about these
  pub replies-fit : (asked : List ℕ) → All IsAtHome asked → All IsAnswer (map (reply holdings) asked)
  replies-fit [] home = All-nil IsAnswer
  replies-fit (n ∷ asked) home =
      let here = All-head IsAtHome n asked home in
      let holds = ready.holds n here.1 here.2 in
      All-cons IsAnswer (reply holdings n) (map (reply holdings) asked) (record { migration = holds.migration_fits; item = here.0; held = holds.number_fits }) (replies-fit asked (All-tail IsAtHome n asked home))

  pub replies-right : (asked : List ℕ) → All IsAtHome asked → All (λ a. IsOfStart migration (slice_index start a.1.item) (pair_given a)) (map (reply holdings) asked)
  replies-right [] home = All-nil (λ a. IsOfStart migration (slice_index start a.1.item) (pair_given a))
  replies-right (n ∷ asked) home =
      let here = All-head IsAtHome n asked home in
      All-cons (λ a. IsOfStart migration (slice_index start a.1.item) (pair_given a)) (reply holdings n) (map (reply holdings) asked) (ready.holds n here.1 here.2)
      (replies-right asked (All-tail IsAtHome n asked home))

  pub replies-own : (asked : List ℕ) → All IsAtHome asked → All (λ a. is_asked homes first.switch a.1.item ≡ true) (map (reply holdings) asked)
  replies-own [] home = All-nil (λ a. is_asked homes first.switch a.1.item ≡ true)
  replies-own (n ∷ asked) home =
      All-cons (λ a. is_asked homes first.switch a.1.item ≡ true) (reply holdings n) (map (reply holdings) asked) (All-head IsAtHome n asked home).3 (replies-own asked (All-tail IsAtHome n asked home))

  -- ---- a round after which the port had nothing more to give

  module _ (round : Round) (home : All IsAtHome round.asked) (gave : GaveAll migration first.port round) where
    abbrev commands : List CommandFrame
    commands = ready.commands ++ questions migration round.asked

    abbrev earlier : List ℕ
    earlier = flat_map answer_bytes (answers_to first.port.start ready.commands)

    all-fit : All IsCommand commands
    all-fit = All-append IsCommand ready.commands (questions migration round.asked) ready.answered.fit (questions-fit migration fits round.asked (λ k d inside. (home k d inside).0))

    offered-is : gave.moment.offered ≡ Some (flat_map command_bytes commands)
    offered-is =
        gave.sent ∙ ap (λ (o : Option (List ℕ)). option_map (λ (xs : List ℕ). xs ++ question_bytes migration round.asked) o) ready.answered.offered
        ∙ ap Some (sym (flat_map-append command_bytes ready.commands (questions migration round.asked)))

    heard-is : gave.moment.heard ≡ Some (earlier ++ gave.reads.bytes)
    heard-is = gave.reads.appended ∙ ap (λ (o : Option (List ℕ)). option_map (λ (xs : List ℕ). xs ++ gave.reads.bytes) o) ready.answered.heard

    answered : earlier ++ gave.reads.bytes ≡ flat_map answer_bytes (answers_to first.port.start commands)
    answered =
        let all : AllAnswered first.port.start (flat_map command_bytes commands) (earlier ++ gave.reads.bytes)
        = of_some (AllAnswered first.port.start (flat_map command_bytes commands)) gave.moment.heard (earlier ++ gave.reads.bytes) heard-is
        (of_some (λ o. IfSome gave.moment.heard (AllAnswered first.port.start o)) gave.moment.offered (flat_map command_bytes commands) offered-is gave.none_left) in
        all commands [] (record { fit = all-fit; parts = sym (append-nil (flat_map command_bytes commands)) }) nothing_begins_no_command

    bytes-are : gave.reads.bytes ≡ flat_map answer_bytes (map (reply holdings) round.asked)
    bytes-are =
        (same_parts earlier earlier gave.reads.bytes (flat_map answer_bytes (map (reply holdings) round.asked)) refl
        (answered ∙ ap (flat_map answer_bytes) (answers_to-append first.port.start ready.commands (questions migration round.asked))
        ∙ flat_map-append answer_bytes (answers_to first.port.start ready.commands) (answers_to holdings (questions migration round.asked))
        ∙ ap (λ (xs : List AnswerFrame). earlier ++ flat_map answer_bytes xs) (replies-are holdings migration round.asked))).1

    all-came : length round.asked ≤ length round.answers
    all-came =
        omega (
          arith,
          ap length (sym bytes-are ∙ gave.reads.whole.parts),
          length-append (flat_map answer_bytes round.answers) gave.kept,
          length-answers round.answers,
          length-answers (map (reply holdings) round.asked),
          length-map round.asked (reply holdings),
          cut_short gave.kept gave.cut,
        )

  whole-by : (round : Round) → All IsAtHome round.asked → (length round.asked ≤ length round.answers) ⊎ GaveAll migration first.port round → length round.asked ≤ length round.answers
  whole-by round home (inl all) = all
  whole-by round home (inr gave) = all-came round home gave

  -- the first round over such a port was answered as often as was asked
  pub full-rounds : (items : List ℕ) (notes : Notes) (rounds : List Round) (kept : List ℕ) (notes_now : Notes) (now : PortTrace) → All IsAtHome items → Talks migration homes first.switch items notes rounds first.port kept notes_now now → IsFull rounds
  full-rounds items notes [] kept notes_now now home talks = tt
  full-rounds items notes (round ∷ rounds) kept notes_now now home talks =
      whole-by round (subst (All IsAtHome) (sym talks.asks.0) (All-filter (is_untold notes) IsAtHome items home)) (OnTrue_at ready.answered.prompt talks.given)
