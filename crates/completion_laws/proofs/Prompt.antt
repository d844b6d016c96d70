-- What a prompt port tells that has answered all before.
use Rattle.std.proofs.Common.{◌≡◌, ◌⊎◌, ℕ, suc, ◌+◌, ◌*◌, ◌≤◌, true, List, [], ◌∷◌, ◌++◌, length, take, drop, Option, Some, None, IfSome, is_some, option_map, inl, inr, refl, sym, ap, ap₂, ◌∙◌, subst, arith, append_assoc, append-nil, length-append, take-append-drop}
use Rattle.std.proofs.lemmas.Bool.{OnTrue_at, false≢true}
use Rattle.std.proofs.lemmas.Grind.{flat_map-append}
use Rattle.std.proofs.lemmas.List.Elements.{All-append, All-head, All-tail}
use Rattle.std.proofs.lemmas.Option.{same_Some}
use Rattle.std.specs.List.{All, flat_map}
use Rattle.lists.proofs.Rows.{none_of_length_0}
use Rattle.lists.proofs.Options.{of_some, known_as_well}
use Rattle.wan_edge.specs.Frames.{AnswerFrame, Command, CommandFrame, IsAnswer, IsCommand, answer_bytes, command_bytes}
use Rattle.wan_edge.specs.Ports.{AnswersInOrder, BeginsNoCommand, GoesOn, IsPromptState, PortTrace}
use Rattle.wan_edge.specs.Streams.{Appends}
use Rattle.wan_edge.specs.Switches.{Holdings, after_command, after_commands, answers_to}
use Rattle.wan_edge.proofs.Sizes.{answer-length, command-some}
use Rattle.wan_edge.proofs.Commands.{answers_to-append}
use Rattle.wire_frames.proofs.OneSpelling.{one_answer, one_command, same_parts}
use Rattle.port_session.specs.Offers.{frames_of}
use Rattle.port_session.proofs.Hearing.{length-answers}
use Rattle.switch_ports.specs.Offering.{OffersAll}
use Rattle.switch_ports.specs.Views.{SessionTrace}
use Rattle.switch_laws.proofs.Offered.{all_framed, frames-framed, framed}
use Rattle.completion_laws.specs.Answering.{HasAnswered}

-- ---- rows of frames

-- whole commands with no whole command after them are one row
one_row : (xs cs : List CommandFrame) (rest : List ℕ) → All IsCommand xs → All IsCommand cs → BeginsNoCommand rest → flat_map command_bytes cs ≡ flat_map command_bytes xs ++ rest → xs ≡ cs
one_row [] [] rest xs_fit cs_fit none e = refl
one_row [] (c ∷ cs) rest xs_fit cs_fit none e = absurd (none c (flat_map command_bytes cs) (All-head IsCommand c cs cs_fit) (sym e))
one_row (x ∷ xs) [] rest xs_fit cs_fit none e =
    absurd (omega (arith, ap length e, length-append (command_bytes x ++ flat_map command_bytes xs) rest, length-append (command_bytes x) (flat_map command_bytes xs), command-some x))
one_row (x ∷ xs) (c ∷ cs) rest xs_fit cs_fit none e =
    let parts = one_command c x (flat_map command_bytes cs) (flat_map command_bytes xs ++ rest) (All-head IsCommand c cs cs_fit) (All-head IsCommand x xs xs_fit) (e ∙ append_assoc (command_bytes x) (flat_map command_bytes xs) rest) in
    ap₂ (λ (d : CommandFrame) (ds : List CommandFrame). d ∷ ds) (sym parts.0) (one_row xs cs rest (All-tail IsCommand x xs xs_fit) (All-tail IsCommand c cs cs_fit) none parts.1)

pub as-many : (start : Holdings) (cs : List CommandFrame) → length (answers_to start cs) ≡ length cs
as-many start [] = refl
as-many start (c ∷ cs) = ap suc (as-many (after_command start c) cs)

-- a front as long as the whole is the whole
take-whole : {X : Type 0} (k : ℕ) (xs : List X) → length xs ≤ length (take k xs) → take k xs ≡ xs
take-whole k xs long = empty-behind (take k xs) (drop k xs) xs (take-append-drop k xs) long
  where
    empty-behind : {X : Type 0} (front back xs : List X) → front ++ back ≡ xs → length xs ≤ length front → front ≡ xs
    empty-behind front [] xs is long = sym (append-nil front) ∙ is
    empty-behind front (b ∷ back) xs is long = absurd (omega (arith, length-append front (b ∷ back), ap length is, long))

-- ---- a state that keeps to the order, where the commands offered are known
module _ (start now : Holdings) (cs : List CommandFrame) (heard : List ℕ) (fit : All IsCommand cs) (state : AnswersInOrder start (flat_map command_bytes cs) heard now) where
  the-commands : state.commands ≡ cs
  the-commands = one_row state.commands cs state.rest state.whole.fit fit state.no_more state.whole.parts

  abbrev carried : List CommandFrame
  carried = take state.carried_out cs

  holds : now ≡ after_commands start carried
  holds = state.holds ∙ ap (λ (ds : List CommandFrame). after_commands start (take state.carried_out ds)) the-commands

  heard-front : flat_map answer_bytes (answers_to start carried) ≡ heard ++ state.to_come
  heard-front = ap (λ (ds : List CommandFrame). flat_map answer_bytes (answers_to start (take state.carried_out ds))) (sym the-commands) ∙ state.heard_front

  -- what was heard is a front of all answers
  pub front-of-all : (behind : List ℕ) × (heard ++ behind ≡ flat_map answer_bytes (answers_to start cs))
  front-of-all =
      let left = drop state.carried_out cs in
      let more = flat_map answer_bytes (answers_to (after_commands start carried) left) in
      let whole : answers_to start cs ≡ answers_to start carried ++ answers_to (after_commands start carried) left
      = ap (answers_to start) (sym (take-append-drop state.carried_out cs)) ∙ answers_to-append start carried left in (
        state.to_come ++ more,
        sym (append_assoc heard state.to_come more) ∙ ap (λ (xs : List ℕ). xs ++ more) (sym heard-front)
            ∙ sym (flat_map-append answer_bytes (answers_to start carried) (answers_to (after_commands start carried) left)) ∙ ap (flat_map answer_bytes) (sym whole),
      )

  -- where as many bytes were heard as all answers have, all were carried out
  pub all-carried : 13 * length cs ≤ length heard → now ≡ after_commands start cs
  all-carried long =
      let front : length (flat_map answer_bytes (answers_to start carried)) ≡ length heard + length state.to_come = ap length heard-front ∙ length-append heard state.to_come in
      let many : length cs ≤ length carried = omega (arith, long, front, length-answers (answers_to start carried), as-many start carried) in
      holds ∙ ap (after_commands start) (take-whole state.carried_out cs many)

-- ---- a round at a port
module _ (migration : ℕ) (mine : List Command) (cs : List CommandFrame) (before mid now : SessionTrace) (was : HasAnswered cs before) (fit : All (λ c. IsCommand (migration, c)) mine) (out : OffersAll migration mine before mid) where
  abbrev pub fs : List CommandFrame
  fs = framed migration mine

  abbrev pub held : Holdings
  held = after_commands before.port.start cs

  abbrev pub answers : List AnswerFrame
  answers = answers_to held fs

  pub all-fit : All IsCommand (cs ++ fs)
  all-fit = All-append IsCommand cs fs was.fit (all_framed IsCommand migration mine fit)

  pub mid-offered : mid.port.offered ≡ Some (flat_map command_bytes (cs ++ fs))
  mid-offered =
      out.all ∙ ap (λ (o : Option (List ℕ)). option_map (λ (bytes : List ℕ). bytes ++ frames_of migration mine) o) was.offered
      ∙ ap (λ (bytes : List ℕ). Some (flat_map command_bytes cs ++ bytes)) (frames-framed migration mine) ∙ ap Some (sym (flat_map-append command_bytes cs fs))

  pub mid-heard : mid.port.heard ≡ Some (flat_map answer_bytes (answers_to before.port.start cs))
  mid-heard = out.some.unheard ∙ was.heard

  mid-prompt : mid.port.prompt ≡ true
  mid-prompt = out.some.goes_on.prompt ∙ was.prompt

  mid-start : mid.port.start ≡ before.port.start
  mid-start = out.some.goes_on.start

  -- all answers, those of before and those of the round
  pub all-answers : flat_map answer_bytes (answers_to before.port.start (cs ++ fs)) ≡ flat_map answer_bytes (answers_to before.port.start cs) ++ flat_map answer_bytes answers
  all-answers = ap (flat_map answer_bytes) (answers_to-append before.port.start cs fs) ∙ flat_map-append answer_bytes (answers_to before.port.start cs) answers

  -- a state with these commands offered
  known : (offered heard : Option (List ℕ)) (told : Option Holdings) (start : Holdings) (bytes : List ℕ) (after : Holdings) → start ≡ before.port.start → offered ≡ Some (flat_map command_bytes (cs ++ fs)) → heard ≡ Some bytes → told ≡ Some after → IsPromptState start offered heard told
      → AnswersInOrder before.port.start (flat_map command_bytes (cs ++ fs)) bytes after
  known offered heard told start bytes after start_is offered_is heard_is told_is state =
      subst (λ (s : Holdings). AnswersInOrder s (flat_map command_bytes (cs ++ fs)) bytes after) start_is
      (of_some (λ h. AnswersInOrder start (flat_map command_bytes (cs ++ fs)) bytes h) told after told_is
      (of_some (λ b. IfSome told (λ h. AnswersInOrder start (flat_map command_bytes (cs ++ fs)) b h)) heard bytes heard_is
      (of_some (λ o. IfSome heard (λ b. IfSome told (λ h. AnswersInOrder start o b h))) offered (flat_map command_bytes (cs ++ fs)) offered_is state)))

  mid-told : (after : Holdings) × (mid.port.held ≡ Some after)
  mid-told = known_as_well mid.port.held before.port.held held was.held out.some.goes_on.told

  module _ (goes : GoesOn mid.port now.port) (unsent : now.port.offered ≡ mid.port.offered) (bytes : List ℕ) (came : Appends mid.port.heard bytes now.port.heard) where
    pub now-offered : now.port.offered ≡ Some (flat_map command_bytes (cs ++ fs))
    now-offered = unsent ∙ mid-offered

    pub now-heard : now.port.heard ≡ Some (flat_map answer_bytes (answers_to before.port.start cs) ++ bytes)
    now-heard = came ∙ ap (λ (o : Option (List ℕ)). option_map (λ (xs : List ℕ). xs ++ bytes) o) mid-heard

    pub now-start : now.port.start ≡ before.port.start
    now-start = goes.start ∙ mid-start

    now-told : (after : Holdings) × (now.port.held ≡ Some after)
    now-told = kept now.port.held mid.port.held mid-told.0 mid-told.1 goes.told
      where
        kept : (now before : Option Holdings) (was : Holdings) → before ≡ Some was → is_some now ≡ is_some before → (after : Holdings) × (now ≡ Some after)
        kept None before was is keeps = absurd (false≢true (keeps ∙ ap is_some is))
        kept (Some after) before was is keeps = (after, refl)

    rule : (now.port ≡ mid.port) ⊎ IsPromptState mid.port.start now.port.offered now.port.heard now.port.held
    rule = OnTrue_at mid-prompt goes.in_order

    mid-rule : (mid.port ≡ before.port) ⊎ IsPromptState before.port.start mid.port.offered mid.port.heard mid.port.held
    mid-rule = OnTrue_at was.prompt out.some.goes_on.in_order

    -- where the port is as it was nothing came
    none-came : now.port ≡ mid.port → bytes ≡ []
    none-came same =
        let alike : flat_map answer_bytes (answers_to before.port.start cs) ++ bytes ≡ flat_map answer_bytes (answers_to before.port.start cs)
        = same_Some (flat_map answer_bytes (answers_to before.port.start cs) ++ bytes) (flat_map answer_bytes (answers_to before.port.start cs)) (sym now-heard ∙ ap (λ (t : PortTrace). t.heard) same ∙ mid-heard) in
        none_of_length_0 bytes (omega (arith, ap length alike, length-append (flat_map answer_bytes (answers_to before.port.start cs)) bytes))

    front-by : (now.port ≡ mid.port) ⊎ IsPromptState mid.port.start now.port.offered now.port.heard now.port.held → (behind : List ℕ) × (bytes ++ behind ≡ flat_map answer_bytes answers)
    front-by (inl same) = (flat_map answer_bytes answers, ap (λ (xs : List ℕ). xs ++ flat_map answer_bytes answers) (none-came same))
    front-by (inr state) =
        let earlier = flat_map answer_bytes (answers_to before.port.start cs) in
        let in_order = known now.port.offered now.port.heard now.port.held mid.port.start (earlier ++ bytes) now-told.0 mid-start now-offered now-heard now-told.1 state in
        let front = front-of-all before.port.start now-told.0 (cs ++ fs) (earlier ++ bytes) all-fit in_order in
        (front.0, (same_parts earlier earlier (bytes ++ front.0) (flat_map answer_bytes answers) refl (sym (append_assoc earlier bytes front.0) ∙ front.1 ∙ all-answers)).1)

    -- what came is a front of the answers to the commands of the round
    pub front-came : (behind : List ℕ) × (bytes ++ behind ≡ flat_map answer_bytes answers)
    front-came = front-by rule

    -- where all came, all is carried out
    module _ (many : 13 * length fs ≤ length bytes) where
      pub all-came : bytes ≡ flat_map answer_bytes answers
      all-came =
          let none : length front-came.0 ≡ 0 = omega (arith, many, ap length front-came.1, length-append bytes front-came.0, length-answers answers, as-many held fs) in
          sym (append-nil bytes) ∙ ap (λ (xs : List ℕ). bytes ++ xs) (sym (none_of_length_0 front-came.0 none)) ∙ front-came.1

      long : 13 * length (cs ++ fs) ≤ length (flat_map answer_bytes (answers_to before.port.start cs) ++ bytes)
      long =
          omega (arith, many, length-append cs fs, length-append (flat_map answer_bytes (answers_to before.port.start cs)) bytes, length-answers (answers_to before.port.start cs), as-many before.port.start cs)

      no-commands : bytes ≡ [] → fs ≡ []
      no-commands none = empty fs (omega (arith, many, ap length none))
        where
          empty : (xs : List CommandFrame) → length xs ≡ 0 → xs ≡ []
          empty [] none = refl
          empty (x ∷ xs) none = absurd (omega (arith, none))

      carried-by : (now.port ≡ mid.port) ⊎ IsPromptState mid.port.start now.port.offered now.port.heard now.port.held → (mid.port ≡ before.port) ⊎ IsPromptState before.port.start mid.port.offered mid.port.heard mid.port.held
          → now-told.0 ≡ after_commands before.port.start (cs ++ fs)
      carried-by (inr state) was_rule =
          all-carried before.port.start now-told.0 (cs ++ fs) (flat_map answer_bytes (answers_to before.port.start cs) ++ bytes) all-fit
          (known now.port.offered now.port.heard now.port.held mid.port.start (flat_map answer_bytes (answers_to before.port.start cs) ++ bytes) now-told.0 mid-start now-offered now-heard now-told.1 state) long
      carried-by (inl same) (inl unchanged) =
          let none = no-commands (none-came same) in
          let told : now-told.0 ≡ held = same_Some now-told.0 held (sym now-told.1 ∙ ap (λ (t : PortTrace). t.held) (same ∙ unchanged) ∙ was.held) in
          told ∙ ap (after_commands before.port.start) (sym (append-nil cs) ∙ ap (λ (ds : List CommandFrame). cs ++ ds) (sym none))
      carried-by (inl same) (inr state) =
          let told : mid.port.held ≡ Some now-told.0 = ap (λ (t : PortTrace). t.held) (sym same) ∙ now-told.1 in
          let none = none-came same in
          let bytes_heard = flat_map answer_bytes (answers_to before.port.start cs) in
          all-carried before.port.start now-told.0 (cs ++ fs) bytes_heard all-fit
          (known mid.port.offered mid.port.heard mid.port.held before.port.start bytes_heard now-told.0 refl mid-offered mid-heard told state)
          (omega (arith, long, ap length none, length-append bytes_heard bytes))

      pub now-held : now.port.held ≡ Some (after_commands before.port.start (cs ++ fs))
      now-held = now-told.1 ∙ ap Some (carried-by rule mid-rule)

      pub heard-all : now.port.heard ≡ Some (flat_map answer_bytes (answers_to before.port.start (cs ++ fs)))
      heard-all = now-heard ∙ ap (λ (xs : List ℕ). Some (flat_map answer_bytes (answers_to before.port.start cs) ++ xs)) all-came ∙ ap Some (sym all-answers)

      pub now-prompt : now.port.prompt ≡ true
      now-prompt = goes.prompt ∙ mid-prompt

-- ---- whole answers at the front of a row of answers
pub front-read : (us xs : List AnswerFrame) (behind : List ℕ) → All IsAnswer us → All IsAnswer xs → flat_map answer_bytes us ++ behind ≡ flat_map answer_bytes xs → (later : List AnswerFrame) × (xs ≡ us ++ later) × (behind ≡ flat_map answer_bytes later)
front-read [] xs behind as_fit xs_fit e = (xs, refl, e)
front-read (a ∷ us) [] behind as_fit xs_fit e =
    absurd (omega (arith, ap length e, length-append (answer_bytes a ++ flat_map answer_bytes us) behind, length-append (answer_bytes a) (flat_map answer_bytes us), answer-length a))
front-read (a ∷ us) (x ∷ xs) behind as_fit xs_fit e =
    let parts = one_answer a x (flat_map answer_bytes us ++ behind) (flat_map answer_bytes xs) (All-head IsAnswer a us as_fit) (All-head IsAnswer x xs xs_fit) (sym (append_assoc (answer_bytes a) (flat_map answer_bytes us) behind) ∙ e) in
    let rest = front-read us xs behind (All-tail IsAnswer a us as_fit) (All-tail IsAnswer x xs xs_fit) parts.1 in
    (rest.0, ap₂ (λ (y : AnswerFrame) (ys : List AnswerFrame). y ∷ ys) (sym parts.0) rest.1, rest.2)
