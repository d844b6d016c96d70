-- What switches tell over prompt ports that have answered all: each question is answered by the pair that is held.
use Rattle.std.proofs.Common.{◌≡◌, ◌⊎◌, ℕ, ◌*◌, ◌<◌, ◌≤◌, ◌^◌, List, [], ◌∷◌, ◌++◌, map, length, take, drop, Option, Some, option_map, inl, inr, refl, sym, ap, ap₂, ◌∙◌, subst, arith, append_assoc, append-nil, length-append, take-append-drop}
use Rattle.std.specs.Prelude.{IfSome}
use Rattle.std.proofs.Math.Seq.{take-length}
use Rattle.std.proofs.lemmas.Bool.{OnTrue_at}
use Rattle.std.proofs.lemmas.Grind.{flat_map-append}
use Rattle.std.proofs.lemmas.List.Elements.{All-append, All-head, All-tail}
use Rattle.std.specs.List.{All, flat_map}
use Rattle.std.proofs.lemmas.List.{length-map}
use Rattle.lists.proofs.Options.{of_some, known_as_well}
use Rattle.lists.proofs.Rows.{none_of_length_0}
use Rattle.wan_edge.specs.Frames.{AnswerFrame, CommandFrame, IsAnswer, IsCommand, Splits, answer_bytes, command_bytes}
use Rattle.wan_edge.specs.Ports.{AnswersInOrder, AppendsFront, GoesOn, IsPromptState, PortTrace}
use Rattle.wan_edge.specs.Streams.{Appends}
use Rattle.wan_edge.specs.Switches.{Holdings, after_commands, answer_of, answers_to}
use Rattle.wan_edge.proofs.Commands.{nothing_begins_no_command, answers_to-append, after_commands-append}
use Rattle.wan_edge.proofs.Sizes.{command-some}
use Rattle.wire_frames.proofs.OneSpelling.{one_command, same_parts}
use Rattle.port_session.proofs.Hearing.{length-answers}
use Rattle.switch_ports.specs.Views.{SessionTrace}
use Rattle.held_service.specs.Questions.{question_bytes, questions}
use Rattle.held_service.proofs.Idle.{after-question, after-questions, answers-held, questions-fit}
use Rattle.completion_laws.specs.Answering.{HasAnswered}
use Rattle.completion_laws.proofs.Prompt.{all-carried, as-many, front-read}

-- ---- rows of frames

-- whole commands at the front of a row of commands
commands-front : (xs cs : List CommandFrame) (behind : List ℕ) → All IsCommand xs → All IsCommand cs → flat_map command_bytes xs ++ behind ≡ flat_map command_bytes cs → (later : List CommandFrame) × (cs ≡ xs ++ later)
commands-front [] cs behind xs_fit cs_fit e = (cs, refl)
commands-front (x ∷ xs) [] behind xs_fit cs_fit e =
    absurd (omega (arith, ap length e, length-append (command_bytes x ++ flat_map command_bytes xs) behind, length-append (command_bytes x) (flat_map command_bytes xs), command-some x))
commands-front (x ∷ xs) (c ∷ cs) behind xs_fit cs_fit e =
    let parts = one_command x c (flat_map command_bytes xs ++ behind) (flat_map command_bytes cs) (All-head IsCommand x xs xs_fit) (All-head IsCommand c cs cs_fit) (sym (append_assoc (command_bytes x) (flat_map command_bytes xs) behind) ∙ e) in
    let rest = commands-front xs cs behind (All-tail IsCommand x xs xs_fit) (All-tail IsCommand c cs cs_fit) parts.1 in
    (rest.0, ap₂ (λ (y : CommandFrame) (ys : List CommandFrame). y ∷ ys) (sym parts.0) rest.1)

-- ---- the answers to questions

-- what a switch says of an item
abbrev pub reply : Holdings → ℕ → AnswerFrame
reply holdings item = answer_of item (holdings item).held

pub replies-are : (holdings : Holdings) (migration : ℕ) (items : List ℕ) → answers_to holdings (questions migration items) ≡ map (reply holdings) items
replies-are holdings migration [] = refl
replies-are holdings migration (n ∷ items) =
    ap₂ (λ (x : AnswerFrame) (xs : List AnswerFrame). x ∷ xs) (answers-held holdings migration n) (ap (λ (h : Holdings). answers_to h (questions migration items)) (after-question holdings migration n) ∙ replies-are holdings migration items)

-- ---- a state that keeps to the order, where a front of these commands was offered

module _ (start now : Holdings) (cs : List CommandFrame) (offered missing heard : List ℕ) (fit : All IsCommand cs) (front : offered ++ missing ≡ flat_map command_bytes cs) (state : AnswersInOrder start offered heard now) where
  there : (later : List CommandFrame) × (cs ≡ state.commands ++ later)
  there =
      commands-front state.commands cs (state.rest ++ missing) state.whole.fit fit
      (sym (append_assoc (flat_map command_bytes state.commands) state.rest missing) ∙ ap (λ (xs : List ℕ). xs ++ missing) (sym state.whole.parts) ∙ front)

  abbrev carried : List CommandFrame
  carried = take state.carried_out state.commands

  abbrev left : List CommandFrame
  left = drop state.carried_out state.commands ++ there.0

  parted : cs ≡ carried ++ left
  parted =
      there.1 ∙ ap (λ (xs : List CommandFrame). xs ++ there.0) (sym (take-append-drop state.carried_out state.commands))
      ∙ append_assoc carried (drop state.carried_out state.commands) there.0

  abbrev more : List ℕ
  more = flat_map answer_bytes (answers_to (after_commands start carried) left)

  -- what was heard is a front of all answers
  pub all-behind : (behind : List ℕ) × (heard ++ behind ≡ flat_map answer_bytes (answers_to start cs))
  all-behind =
      let whole : answers_to start cs ≡ answers_to start carried ++ answers_to (after_commands start carried) left = ap (answers_to start) parted ∙ answers_to-append start carried left in (
        state.to_come ++ more,
        sym (append_assoc heard state.to_come more) ∙ ap (λ (xs : List ℕ). xs ++ more) (sym state.heard_front)
            ∙ sym (flat_map-append answer_bytes (answers_to start carried) (answers_to (after_commands start carried) left)) ∙ ap (flat_map answer_bytes) (sym whole),
      )

-- ---- a port that had answered all, over which a front of questions has gone since

module _ (migration : ℕ) (fits : migration < 2 ^ 32) (first : SessionTrace) (now : PortTrace) (cs : List CommandFrame) (was : HasAnswered cs first) (asked : List ℕ) (small : All (λ n. n < 2 ^ 32) asked) (sent : AppendsFront first.port.offered (question_bytes migration asked) now.offered) (goes : GoesOn first.port now)
    (bytes : List ℕ) (came : Appends first.port.heard bytes now.heard) where
  abbrev pub held : Holdings
  held = after_commands first.port.start cs

  abbrev earlier : List ℕ
  earlier = flat_map answer_bytes (answers_to first.port.start cs)

  abbrev front : List ℕ
  front = take sent.count (question_bytes migration asked)

  abbrev missing : List ℕ
  missing = drop sent.count (question_bytes migration asked)

  pub all-fit : All IsCommand (cs ++ questions migration asked)
  all-fit = All-append IsCommand cs (questions migration asked) was.fit (questions-fit migration fits asked small)

  now-offered : now.offered ≡ Some (flat_map command_bytes cs ++ front)
  now-offered = sent.appended ∙ ap (λ (o : Option (List ℕ)). option_map (λ (xs : List ℕ). xs ++ front) o) was.offered

  front-is : (flat_map command_bytes cs ++ front) ++ missing ≡ flat_map command_bytes (cs ++ questions migration asked)
  front-is =
      append_assoc (flat_map command_bytes cs) front missing ∙ ap (λ (xs : List ℕ). flat_map command_bytes cs ++ xs) (take-append-drop sent.count (question_bytes migration asked))
      ∙ sym (flat_map-append command_bytes cs (questions migration asked))

  pub now-heard : now.heard ≡ Some (earlier ++ bytes)
  now-heard = came ∙ ap (λ (o : Option (List ℕ)). option_map (λ (xs : List ℕ). xs ++ bytes) o) was.heard

  pub now-told : (after : Holdings) × (now.held ≡ Some after)
  now-told = known_as_well now.held first.port.held held was.held goes.told

  -- the state that it was found in
  own-order : AnswersInOrder first.port.start (flat_map command_bytes cs) earlier held
  own-order = record {
    commands = cs;
    rest = [];
    whole = record { fit = was.fit; parts = sym (append-nil (flat_map command_bytes cs)) };
    no_more = nothing_begins_no_command;
    carried_out = length cs;
    holds = ap (after_commands first.port.start) (sym (take-length cs));
    to_come = [];
    heard_front = ap (λ (ds : List CommandFrame). flat_map answer_bytes (answers_to first.port.start ds)) (take-length cs) ∙ sym (append-nil earlier);
  }

  own-state : IsPromptState first.port.start first.port.offered first.port.heard first.port.held
  own-state =
      subst (λ (o : Option (List ℕ)). IsPromptState first.port.start o first.port.heard first.port.held) (sym was.offered)
      (subst (λ (o : Option (List ℕ)). IsPromptState first.port.start (Some (flat_map command_bytes cs)) o first.port.held) (sym was.heard)
      (subst (λ (o : Option Holdings). IsPromptState first.port.start (Some (flat_map command_bytes cs)) (Some earlier) o) (sym was.held) own-order))

  by-rule : (now ≡ first.port) ⊎ IsPromptState first.port.start now.offered now.heard now.held → IsPromptState first.port.start now.offered now.heard now.held
  by-rule (inl same) = subst (λ (p : PortTrace). IsPromptState first.port.start p.offered p.heard p.held) (sym same) own-state
  by-rule (inr state) = state

  abbrev in-all : List ℕ → Type 0
  in-all offered = AnswersInOrder first.port.start offered (earlier ++ bytes) now-told.0

  pub in-order : (offered : List ℕ) → now.offered ≡ Some offered → in-all offered
  in-order offered is =
      of_some (λ h. AnswersInOrder first.port.start offered (earlier ++ bytes) h) now.held now-told.0 now-told.1
      (of_some (λ b. IfSome now.held (λ h. AnswersInOrder first.port.start offered b h)) now.heard (earlier ++ bytes) now-heard
      (of_some (λ o. IfSome now.heard (λ b. IfSome now.held (λ h. AnswersInOrder first.port.start o b h))) now.offered offered is (by-rule (OnTrue_at was.prompt goes.in_order))))

  pub all-answers : flat_map answer_bytes (answers_to first.port.start (cs ++ questions migration asked)) ≡ earlier ++ flat_map answer_bytes (map (reply held) asked)
  all-answers =
      ap (flat_map answer_bytes) (answers_to-append first.port.start cs (questions migration asked)) ∙ flat_map-append answer_bytes (answers_to first.port.start cs) (answers_to held (questions migration asked))
      ∙ ap (λ (xs : List AnswerFrame). earlier ++ flat_map answer_bytes xs) (replies-are held migration asked)

  -- what came is a front of the answers to the questions
  pub front-came : (behind : List ℕ) × (bytes ++ behind ≡ flat_map answer_bytes (map (reply held) asked))
  front-came =
      let found = all-behind first.port.start now-told.0 (cs ++ questions migration asked) (flat_map command_bytes cs ++ front) missing (earlier ++ bytes) all-fit front-is (in-order (flat_map command_bytes cs ++ front) now-offered) in
      (found.0, (same_parts earlier earlier (bytes ++ found.0) (flat_map answer_bytes (map (reply held) asked)) refl (sym (append_assoc earlier bytes found.0) ∙ found.1 ∙ all-answers)).1)

  module _ (fit : All IsAnswer (map (reply held) asked)) (answers : List AnswerFrame) (kept : List ℕ) (whole : Splits answer_bytes IsAnswer bytes answers kept) where
    -- and so are the whole answers in it
    pub answers-came : (later : List AnswerFrame) × (map (reply held) asked ≡ answers ++ later) × (kept ++ front-came.0 ≡ flat_map answer_bytes later)
    answers-came =
        front-read answers (map (reply held) asked) (kept ++ front-came.0) whole.fit fit
        (sym (append_assoc (flat_map answer_bytes answers) kept front-came.0) ∙ ap (λ (xs : List ℕ). xs ++ front-came.0) (sym whole.parts) ∙ front-came.1)

    -- where all questions went out, and as many answers came
    module _ (out : Appends first.port.offered (question_bytes migration asked) now.offered) (many : length asked ≤ length answers) where
      none-later : answers-came.0 ≡ []
      none-later =
          none_of_length_0 answers-came.0 (omega (arith, many, ap length answers-came.1, length-append answers answers-came.0, length-map asked (reply held)))

      -- these are all answers
      pub answers-are : answers ≡ map (reply held) asked
      answers-are = sym (append-nil answers) ∙ ap (λ (xs : List AnswerFrame). answers ++ xs) (sym none-later) ∙ sym answers-came.1

      none-kept : kept ≡ []
      none-kept = none_of_length_0 kept (omega (arith, ap length answers-came.2, ap (λ (xs : List AnswerFrame). length (flat_map answer_bytes xs)) none-later, length-append kept front-came.0))

      pub bytes-are : bytes ≡ flat_map answer_bytes (map (reply held) asked)
      bytes-are = whole.parts ∙ ap (λ (xs : List ℕ). flat_map answer_bytes answers ++ xs) none-kept ∙ append-nil (flat_map answer_bytes answers) ∙ ap (flat_map answer_bytes) answers-are

      out-offered : now.offered ≡ Some (flat_map command_bytes (cs ++ questions migration asked))
      out-offered =
          out ∙ ap (λ (o : Option (List ℕ)). option_map (λ (xs : List ℕ). xs ++ question_bytes migration asked) o) was.offered ∙ ap Some (sym (flat_map-append command_bytes cs (questions migration asked)))

      out-heard : earlier ++ bytes ≡ flat_map answer_bytes (answers_to first.port.start (cs ++ questions migration asked))
      out-heard = ap (λ (xs : List ℕ). earlier ++ xs) bytes-are ∙ sym all-answers

      long : 13 * length (cs ++ questions migration asked) ≤ length (earlier ++ bytes)
      long =
          omega (arith, ap length out-heard, length-answers (answers_to first.port.start (cs ++ questions migration asked)), as-many first.port.start (cs ++ questions migration asked))

      holds : now-told.0 ≡ after_commands first.port.start (cs ++ questions migration asked)
      holds = all-carried first.port.start now-told.0 (cs ++ questions migration asked) (earlier ++ bytes) all-fit (in-order (flat_map command_bytes (cs ++ questions migration asked)) out-offered) long

      -- the port has answered all again
      pub answered-all : HasAnswered (cs ++ questions migration asked) (record { switch = first.switch; port = now; stream = first.stream })
      answered-all = record {
        prompt = goes.prompt ∙ was.prompt;
        fit = all-fit;
        offered = out-offered;
        heard = now-heard ∙ ap Some out-heard ∙ ap (λ (s : Holdings). Some (flat_map answer_bytes (answers_to s (cs ++ questions migration asked)))) (sym goes.start);
        held = now-told.1 ∙ ap Some holds ∙ ap (λ (s : Holdings). Some (after_commands s (cs ++ questions migration asked))) (sym goes.start);
        none_kept = was.none_kept;
        none_owed = was.none_owed;
      }

      -- and its switch holds what it held
      pub holds-still : after_commands now.start (cs ++ questions migration asked) ≡ held
      holds-still =
          ap (λ (s : Holdings). after_commands s (cs ++ questions migration asked)) goes.start ∙ after_commands-append first.port.start cs (questions migration asked) ∙ after-questions held migration asked
