-- What goes over the port of one switch that is asked: round by round, questions about the items that weren't told yet, and answers.
use Rattle.std.specs.Prelude.{◌≡◌, ◌⊎◌, ℕ, ◌+◌, ◌<◌, ◌≤◌, ⊤, List, [], ◌∷◌, length, All, Option, Some, Result, Ok, Err}
use Rattle.std.specs.Bool.{OnTrue}
use Rattle.std.specs.List.{flat_map}
use Rattle.wan_edge.specs.Frames.{AnswerFrame, IsCutAnswer}
use Rattle.wan_edge.specs.Ports.{AppendsFront, GoesOn, NothingToCome, PortTrace}
use Rattle.wan_edge.specs.Streams.{Appends}
use Rattle.held_service.specs.Hearing.{IsOwn, IsWhy, QuietBy, Reads, lacking}
use Rattle.held_service.specs.Noting.{Notes, first_of, untold, with_answers}
use Rattle.held_service.specs.Questions.{question_bytes}
use Rattle.held_service.specs.declared.not_told.NotTold.{NotTold}
use Rattle.held_service.specs.declared.not_told.NotTold.TheVariants as cause

-- one round: the items that were asked about, and the answers that came
pub record Round : Type 0 where
  pub asked : List ℕ
  pub answers : List AnswerFrame

-- A round at a port. The questions of this migration about those of the items that weren't told yet went out, and nothing else; then it was heard, until as many answers had
-- come as there were questions, or nothing came. Each answer is about an item of the switch, and is noted.
pub record AsksRound (migration : ℕ) (homes : List (Option ℕ)) (switch : ℕ) (items : List ℕ) (kept : List ℕ) (notes : Notes) (before : PortTrace) (kept_now : List ℕ) (notes_now : Notes) (now : PortTrace) : Type 0 where
  pub round : Round
  pub asks : round.asked ≡ untold notes items
  pub sent : Appends before.offered (question_bytes migration round.asked) now.offered
  pub reads : Reads kept before.heard round.answers kept_now now.heard
  pub own : All (IsOwn homes switch) round.answers
  pub noted : notes_now ≡ with_answers notes round.answers
  pub few : length round.answers ≤ length round.asked
  pub quiet : QuietBy (lacking (length round.asked) (length round.answers)) before.quiet now.quiet
  pub cut : IsCutAnswer kept_now
  pub given : OnTrue before.prompt ((length round.asked ≤ length round.answers) ⊎ NothingToCome before.start now.offered now.heard)
  pub goes_on : GoesOn before now

-- A round that ended in the middle: a front of its questions went out.
pub record StopsRound (migration : ℕ) (homes : List (Option ℕ)) (switch : ℕ) (items : List ℕ) (notes : Notes) (why : NotTold) (kept : List ℕ) (before now : PortTrace) : Type 0 where
  pub cause : IsWhy homes switch why kept before now
  pub sent : AppendsFront before.offered (question_bytes migration (untold notes items)) now.offered
  pub goes_on : GoesOn before now

-- ---- rounds in a row

abbrev pub asked_of : List Round → List ℕ
asked_of rounds = flat_map (λ r. r.asked) rounds

abbrev pub answers_of : List Round → List AnswerFrame
answers_of rounds = flat_map (λ r. r.answers) rounds

-- in how many of them fewer answers came than were asked for
abbrev pub lacking_rounds : List Round → ℕ
lacking_rounds [] = 0
lacking_rounds (r ∷ rs) = lacking (length r.asked) (length r.answers) + lacking_rounds rs

-- each round asks about those of the items that weren't told before it, and no more answers come than are asked for
abbrev pub AskUntold : List ℕ → Notes → List Round → Type 0
AskUntold items notes [] = ⊤
AskUntold items notes (r ∷ rs) = (r.asked ≡ untold notes items) × (length r.answers ≤ length r.asked) × AskUntold items (with_answers notes r.answers) rs

-- In a round from when a port was given these answers came, and then nothing: all its answers had been given by a moment at which no more had gone out
-- than the questions of this round.
pub record GaveAll (migration : ℕ) (before : PortTrace) (round : Round) : Type 0 where
  pub moment : PortTrace
  pub kept : List ℕ
  pub cut : IsCutAnswer kept
  pub sent : Appends before.offered (question_bytes migration round.asked) moment.offered
  pub reads : Reads [] before.heard round.answers kept moment.heard
  pub none_left : NothingToCome before.start moment.offered moment.heard

-- in the first of the rounds all answers came that were asked for, or all that there were
abbrev pub GivesFirst : ℕ → PortTrace → List Round → Type 0
GivesFirst migration before [] = ⊤
GivesFirst migration before (r ∷ rs) = (length r.asked ≤ length r.answers) ⊎ GaveAll migration before r

-- Whole rounds at a port, from when it was given.
pub record Talks (migration : ℕ) (homes : List (Option ℕ)) (switch : ℕ) (items : List ℕ) (notes : Notes) (rounds : List Round) (before : PortTrace) (kept : List ℕ) (notes_now : Notes) (now : PortTrace) : Type 0 where
  -- which items are asked about
  pub asks : AskUntold items notes rounds
  -- the questions about them went out, and nothing else
  pub sent : Appends before.offered (question_bytes migration (asked_of rounds)) now.offered
  -- of what came each whole answer was read, in order
  pub reads : Reads [] before.heard (answers_of rounds) kept now.heard
  -- each is about an item of the switch, and is noted
  pub own : All (IsOwn homes switch) (answers_of rounds)
  pub noted : notes_now ≡ with_answers notes (answers_of rounds)
  -- each round was heard out
  pub quiet : QuietBy (lacking_rounds rounds) before.quiet now.quiet
  -- a prompt port gave in the first round what was asked for
  pub given : OnTrue before.prompt (GivesFirst migration before rounds)
  pub goes_on : GoesOn before now

-- so many rounds
pub record TalksFor (migration : ℕ) (homes : List (Option ℕ)) (switch : ℕ) (items : List ℕ) (notes : Notes) (count : ℕ) (before : PortTrace) (kept : List ℕ) (notes_now : Notes) (now : PortTrace) : Type 0 where
  pub rounds : List Round
  pub counted : length rounds ≡ count
  pub talks : Talks migration homes switch items notes rounds before kept notes_now now

-- ---- a whole talk

-- All of the items were told, within so many rounds.
pub record IsTold (homes : List (Option ℕ)) (switch : ℕ) (items : List ℕ) (notes : Notes) (migration limit : ℕ) (before : PortTrace) (notes_now : Notes) (now : PortTrace) : Type 0 where
  pub rounds : List Round
  pub kept : List ℕ
  pub talks : Talks migration homes switch items notes rounds before kept notes_now now
  pub within : length rounds ≤ limit
  pub all : untold notes_now items ≡ []

-- There were so many rounds, and this is the first of the items that none of them told.
pub record IsSpent (homes : List (Option ℕ)) (switch : ℕ) (items : List ℕ) (notes : Notes) (migration limit item : ℕ) (before now : PortTrace) : Type 0 where
  pub kept : List ℕ
  pub notes_now : Notes
  pub talks : TalksFor migration homes switch items notes limit before kept notes_now now
  pub first : first_of (untold notes_now items) ≡ Some item

-- After whole rounds one ended in the middle.
pub record IsCutOff (homes : List (Option ℕ)) (switch : ℕ) (items : List ℕ) (notes : Notes) (migration limit : ℕ) (why : NotTold) (before now : PortTrace) : Type 0 where
  pub count : ℕ
  pub within : count < limit
  pub kept : List ℕ
  pub notes_so_far : Notes
  pub moment : PortTrace
  pub talks : TalksFor migration homes switch items notes count before kept notes_so_far moment
  pub stops : StopsRound migration homes switch items notes_so_far why kept moment now

abbrev pub IsNotTold : List (Option ℕ) → ℕ → List ℕ → Notes → ℕ → ℕ → NotTold → PortTrace → PortTrace → Type 0
IsNotTold homes switch items notes migration limit (cause.Spent item) before now = IsSpent homes switch items notes migration limit item before now
IsNotTold homes switch items notes migration limit (cause.NoPort w) before now = IsCutOff homes switch items notes migration limit (cause.NoPort w) before now
IsNotTold homes switch items notes migration limit (cause.Port w) before now = IsCutOff homes switch items notes migration limit (cause.Port w) before now
IsNotTold homes switch items notes migration limit (cause.NotAsked w item) before now = IsCutOff homes switch items notes migration limit (cause.NotAsked w item) before now
IsNotTold homes switch items notes migration limit (cause.NoAnswer w byte) before now = IsCutOff homes switch items notes migration limit (cause.NoAnswer w byte) before now
IsNotTold homes switch items notes migration limit cause.Memory before now = IsCutOff homes switch items notes migration limit cause.Memory before now

-- A switch that keeps the agent rule, and to which nothing else went out over this port, holds what it held.
abbrev pub LeavesHeld : PortTrace → PortTrace → Type 0
LeavesHeld before now = OnTrue before.honest (before.offered ≡ Some [] → now.held ≡ before.held)

-- what a talk came to
abbrev pub EndsTalk : {U : Type 0} → Result U NotTold → List (Option ℕ) → ℕ → List ℕ → Notes → ℕ → ℕ → PortTrace → Notes → PortTrace → Type 0
EndsTalk (Ok u) homes switch items notes migration limit before notes_now now = IsTold homes switch items notes migration limit before notes_now now × LeavesHeld before now
EndsTalk (Err why) homes switch items notes migration limit before notes_now now = IsNotTold homes switch items notes migration limit why before now × LeavesHeld before now
