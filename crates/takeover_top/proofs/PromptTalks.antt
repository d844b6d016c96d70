-- Talks with switches over prompt ports that have answered all: each tells what it holds, and its port has answered all again.
use Rattle.std.proofs.Common.{◌≡◌, ℕ, ◌+◌, ◌<◌, ◌≤◌, ◌^◌, true, List, [], ◌∷◌, ◌++◌, map, length, slice_index, Option, Some, None, sym, ap, ◌∙◌, subst, arith, length-append}
use Rattle.std.proofs.Math.Seq.{take-append-add}
use Rattle.std.proofs.lemmas.Bool.{both_ways}
use Rattle.std.proofs.lemmas.List.Elements.{All-append, All-filter, All-head}
use Rattle.std.specs.List.{All, Contains, flat_map}
use Rattle.lists.proofs.Elements.{All-left, All-right}
use Rattle.rollout_rules.specs.Wan.{Rollout}
use Rattle.wan_edge.specs.Frames.{AnswerFrame, IsAnswer, answer_bytes}
use Rattle.wan_edge.specs.Ports.{AppendsFront, GoesOn, PortTrace}
use Rattle.wan_edge.specs.Streams.{Appends, Rose}
use Rattle.wan_edge.specs.Switches.{Holdings, pair_given}
use Rattle.wan_edge.proofs.Chains.{Appends-chain}
use Rattle.wan_edge.proofs.Faults.{rose_since}
use Rattle.switch_ports.specs.Views.{SessionTrace}
use Rattle.switch_ports.proofs.Stories.{goes_on_on}
use Rattle.switch_ports.proofs.Told.{all_sent}
use Rattle.completion_laws.proofs.PortTurns.{other-first}
use Rattle.held_service.specs.Hearing.{ReadsNone, ReadsOther}
use Rattle.held_service.specs.Noting.{Notes, first_of, is_untold, untold, with_answers}
use Rattle.held_service.specs.Questions.{is_asked, question_bytes, questions}
use Rattle.held_service.specs.Talks.{IsCutOff, IsNotTold, Round, StopsRound, Talks, answers_of, asked_of}
use Rattle.held_service.specs.declared.not_told.NotTold.{NotTold}
use Rattle.held_service.specs.declared.not_told.NotTold.TheVariants as cause
use Rattle.held_service.proofs.Bytes.{none-behind, other-behind, question-append}
use Rattle.takeover_top.specs.ReadyToTake.{IsOfStart, IsReadyToTell}
use Rattle.takeover_top.proofs.PromptNotes.{AreRight, right-all, whole-told}
use Rattle.takeover_top.proofs.PromptRounds.{IsAtHome, all-asked, full-rounds, holdings, replies-fit, replies-own, replies-right}
use Rattle.takeover_top.proofs.PromptReplies.{answered-all, answers-are, answers-came, front-came, holds-still, reply}

some-first : (items : List ℕ) (item : ℕ) → items ≡ [] → first_of items ≡ Some item → ⊥
some-first items item none first = let no : ◌≡◌ {A = Option ℕ} None (Some item) = sym (ap first_of none) ∙ first in cc

-- why a talk over such a port ends early: memory ran out, or the port failed, and its count rose
abbrev pub IsTalkExcused : NotTold → PortTrace → PortTrace → Type 0
IsTalkExcused (cause.Spent item) before now = ⊥
IsTalkExcused (cause.NoPort w) before now = ⊥
IsTalkExcused (cause.Port w) before now = Rose before.faults now.faults
IsTalkExcused (cause.NotAsked w item) before now = ⊥
IsTalkExcused (cause.NoAnswer w byte) before now = ⊥
IsTalkExcused cause.Memory before now = Unit {0}

module _ (r : Rollout) (migration : ℕ) (fits : migration < 2 ^ 32) (start : List ℕ) (homes : List (Option ℕ)) (first : SessionTrace) (ready : IsReadyToTell r migration start first) (items : List ℕ) (home : All (IsAtHome r migration fits start homes first ready) items)
    (notes : Notes) (inside : (n : ℕ) → Contains items n → n < length notes) where
  abbrev AtHome : ℕ → Type 0
  AtHome = IsAtHome r migration fits start homes first ready

  abbrev held : Holdings
  held = holdings r migration fits start homes first ready

  -- ---- whole rounds

  module _ (rounds : List Round) (kept : List ℕ) (notes_now : Notes) (now : PortTrace) (talks : Talks migration homes first.switch items notes rounds first.port kept notes_now now) where
    abbrev asked : List ℕ
    asked = asked_of rounds

    asked-home : All AtHome asked
    asked-home = all-asked AtHome items notes rounds home talks.asks

    asked-small : All (λ n. n < 2 ^ 32) asked
    asked-small = λ k d low. (asked-home k d low).0

    sent : AppendsFront first.port.offered (question_bytes migration asked) now.offered
    sent = all_sent first.port.offered now.offered (question_bytes migration asked) talks.sent

    fit : All IsAnswer (map (reply held) asked)
    fit = replies-fit r migration fits start homes first ready asked asked-home

    came : (later : List AnswerFrame) × (map (reply held) asked ≡ answers_of rounds ++ later) × (kept ++ (front-came migration fits first now ready.commands ready.answered asked asked-small sent talks.goes_on talks.reads.bytes talks.reads.appended).0 ≡ flat_map answer_bytes later)
    came = answers-came migration fits first now ready.commands ready.answered asked asked-small sent talks.goes_on talks.reads.bytes talks.reads.appended fit (answers_of rounds) kept talks.reads.whole

    told : (length asked ≤ length (answers_of rounds)) × (0 < length rounds → untold (with_answers notes (answers_of rounds)) items ≡ [])
    told = whole-told held items notes inside rounds talks.asks (full-rounds r migration fits start homes first ready items notes rounds kept notes_now now home talks) came.0 came.1

    -- after any round all is told
    pub told-all : 0 < length rounds → untold notes_now items ≡ []
    told-all some = ap (λ (ns : Notes). untold ns items) talks.noted ∙ told.1 some

    -- the port is ready again
    pub ready-again : IsReadyToTell r migration start (record { switch = first.switch; port = now; stream = first.stream })
    ready-again = record {
      commands = ready.commands ++ questions migration asked;
      answered = answered-all migration fits first now ready.commands ready.answered asked asked-small sent talks.goes_on talks.reads.bytes talks.reads.appended fit (answers_of rounds) kept talks.reads.whole talks.sent told.0;
      holds = λ n low at. subst (λ (h : Holdings). IsOfStart migration (slice_index start n) (h n).held)
          (sym (holds-still migration fits first now ready.commands ready.answered asked asked-small sent talks.goes_on talks.reads.bytes talks.reads.appended fit (answers_of rounds) kept talks.reads.whole talks.sent told.0)) (ready.holds n low at);
    }

    -- and what is noted is what the start says
    pub right-again : AreRight (λ n pair. IsOfStart migration (slice_index start n) pair) notes → AreRight (λ n pair. IsOfStart migration (slice_index start n) pair) notes_now
    right-again right =
        subst (AreRight (λ n pair. IsOfStart migration (slice_index start n) pair)) (sym talks.noted)
        (right-all (λ n pair. IsOfStart migration (slice_index start n) pair) notes (answers_of rounds) right
        (subst (All (λ a. IsOfStart migration (slice_index start a.1.item) (pair_given a)))
        (sym (answers-are migration fits first now ready.commands ready.answered asked asked-small sent talks.goes_on talks.reads.bytes talks.reads.appended fit (answers_of rounds) kept talks.reads.whole talks.sent told.0))
        (replies-right r migration fits start homes first ready asked asked-home)))

    -- ---- a round after them that ended in the middle

    module _ (end : PortTrace) (why : NotTold) (stops : StopsRound migration homes first.switch items notes_now why kept now end) where
      abbrev last : List ℕ
      last = untold notes_now items

      all-home : All AtHome (asked ++ last)
      all-home = All-append AtHome asked last asked-home (All-filter (is_untold notes_now) AtHome items home)

      all-small : All (λ n. n < 2 ^ 32) (asked ++ last)
      all-small = λ k d low. (all-home k d low).0

      all-sent : AppendsFront first.port.offered (question_bytes migration (asked ++ last)) end.offered
      all-sent = subst (λ (bs : List ℕ). AppendsFront first.port.offered bs end.offered) (sym (question-append migration asked last)) (record {
        count = length (question_bytes migration asked) + stops.sent.count;
        within = omega (arith, stops.sent.within, length-append (question_bytes migration asked) (question_bytes migration last));
        appended = subst (λ (bs : List ℕ). Appends first.port.offered bs end.offered) (sym (take-append-add (question_bytes migration asked) (question_bytes migration last) stops.sent.count))
            (Appends-chain first.port.offered now.offered end.offered (question_bytes migration asked) _ talks.sent stops.sent.appended);
      })

      all-goes : GoesOn first.port end
      all-goes = goes_on_on first.port now end talks.goes_on stops.goes_on

      all-fit : All IsAnswer (map (reply held) (asked ++ last))
      all-fit = replies-fit r migration fits start homes first ready (asked ++ last) all-home

      -- no answer is about what wasn't asked
      other-never : (item : ℕ) → ReadsOther homes first.switch item [] first.port.heard end.heard → ⊥
      other-never item other =
          let read = answers-came migration fits first end ready.commands ready.answered (asked ++ last) all-small all-sent all-goes other.reads.bytes other.reads.appended all-fit (other.earlier ++ other.answer ∷ []) other.kept_now other.reads.whole in
          let own = subst (All (λ a. is_asked homes first.switch a.1.item ≡ true)) read.1 (replies-own r migration fits start homes first ready (asked ++ last) all-home) in
          let these = All-left (λ a. is_asked homes first.switch a.1.item ≡ true) (other.earlier ++ other.answer ∷ []) read.0 own in
          let it = All-head (λ a. is_asked homes first.switch a.1.item ≡ true) other.answer [] (All-right (λ a. is_asked homes first.switch a.1.item ≡ true) other.earlier (other.answer ∷ []) these) in
          both_ways (is_asked homes first.switch item) other.other (ap (is_asked homes first.switch) other.item_is ∙ it)

      -- no byte begins no answer
      none-never : (byte : ℕ) → ReadsNone byte [] first.port.heard end.heard → ⊥
      none-never byte none =
          let read = answers-came migration fits first end ready.commands ready.answered (asked ++ last) all-small all-sent all-goes none.bytes none.appended all-fit none.answers none.rest none.whole in
          let left = (front-came migration fits first end ready.commands ready.answered (asked ++ last) all-small all-sent all-goes none.bytes none.appended).0 in
          other-first read.0 byte (none.other.behind ++ left) none.other.other (ap (λ (xs : List ℕ). xs ++ left) (sym none.other.parts) ∙ read.2)

  -- ---- why a talk ends early

  module _ (limit : ℕ) (some : 0 < limit) (now : PortTrace) where
    abbrev Cut : NotTold → Type 0
    Cut why = IsCutOff homes first.switch items notes migration limit why first.port now

    pub fails-excused : (why : NotTold) → IsNotTold homes first.switch items notes migration limit why first.port now → IsTalkExcused why first.port now
    fails-excused (cause.Spent item) spent =
        some-first (untold spent.notes_now items) item (told-all spent.talks.rounds spent.kept spent.notes_now now spent.talks.talks (omega (arith, some, spent.talks.counted))) spent.first
    fails-excused (cause.NoPort w) cut = cut.stops.cause
    fails-excused (cause.Port w) cut = rose_since first.port.faults cut.moment.faults now.faults cut.talks.talks.goes_on.count cut.stops.cause.1
    fails-excused (cause.NotAsked w item) cut =
        other-never cut.talks.rounds cut.kept cut.notes_so_far cut.moment cut.talks.talks now (cause.NotAsked w item) cut.stops item
        (other-behind [] cut.kept first.port.heard cut.moment.heard now.heard (answers_of cut.talks.rounds) cut.talks.talks.reads homes first.switch item cut.stops.cause.1)
    fails-excused (cause.NoAnswer w byte) cut =
        none-never cut.talks.rounds cut.kept cut.notes_so_far cut.moment cut.talks.talks now (cause.NoAnswer w byte) cut.stops byte
        (none-behind [] cut.kept first.port.heard cut.moment.heard now.heard (answers_of cut.talks.rounds) cut.talks.talks.reads byte cut.stops.cause.1)
    fails-excused cause.Memory cut = tt
