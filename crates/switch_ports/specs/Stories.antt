-- What rounds, one after the other, come to at a port: from where a worker began to where it stands.
use Rattle.std.specs.Prelude.{◌≡◌, ℕ, List, [], All, None, Option, IsTrue}
use Rattle.std.specs.List.{AllZip, Contains}
use Rattle.wan_edge.specs.Frames.{Answer, Command, IsCutAnswer}
use Rattle.wan_edge.specs.Ports.{AppendsFront, GoesOn, PortTrace}
use Rattle.wan_edge.specs.Streams.{Appends}
use Rattle.port_session.specs.Offers.{frames_of}
use Rattle.port_session.specs.Reading.{ReadsAnswers}
use Rattle.port_session.specs.Sessions.{SessionView}
use Rattle.switch_ports.specs.Hearing.{IsOwn}
use Rattle.switch_ports.specs.Outboxes.{own}
use Rattle.switch_ports.specs.Rows.{AtOne}
use Rattle.switch_ports.specs.Views.{SessionTrace, view}

-- What came since, after what was kept then: whole answers, of which those of the migration were told, and the front of one that is kept now.
pub record Tells (migration : ℕ) (before : SessionTrace) (told : List Answer) (now : SessionTrace) : Type 0 where
  pub bytes : List ℕ
  pub appended : Appends before.port.heard bytes now.port.heard
  pub reads : ReadsAnswers migration (record { kept = before.stream.kept; awaited = 0; told = [] }) bytes None (record { kept = now.stream.kept; awaited = 0; told = told })

-- The rounds so far at a port. The port goes on; of all commands that were handed in its own went out, in order; what it told is of its own switch.
pub record Story (migration : ℕ) (homes : List (Option ℕ)) (commands : List Command) (before now : SessionTrace) : Type 0 where
  pub switch : now.switch ≡ before.switch
  pub goes_on : GoesOn before.port now.port
  pub sent : Appends before.port.offered (frames_of migration (own homes before.switch commands)) now.port.offered
  pub told : List Answer
  pub tells : Tells migration before told now
  pub own_told : All (IsOwn homes before.switch) told
  pub live : IsTrue now.stream.live

-- The same with a last round that may have ended in the middle: a front of its own commands went out.
pub record LastStory (migration : ℕ) (homes : List (Option ℕ)) (commands : List Command) (before now : SessionTrace) : Type 0 where
  pub switch : now.switch ≡ before.switch
  pub goes_on : GoesOn before.port now.port
  pub part : AppendsFront before.port.offered (frames_of migration (own homes before.switch commands)) now.port.offered

-- the rounds so far at each port
abbrev pub StoryEach : {P : Type 0} → (P → PortTrace) → ℕ → List (Option ℕ) → List Command → List (SessionView P) → List (SessionView P) → Type 0
StoryEach tell migration homes commands = AllZip (λ before now. Story migration homes commands (view tell before) (view tell now))

abbrev pub LastStoryEach : {P : Type 0} → (P → PortTrace) → ℕ → List (Option ℕ) → List Command → List (SessionView P) → List (SessionView P) → Type 0
LastStoryEach tell migration homes commands = AllZip (λ before now. LastStory migration homes commands (view tell before) (view tell now))

-- an answer was told by the port of a switch
pub record ToldAt (migration switch : ℕ) (answer : Answer) (before now : SessionTrace) : Type 0 where
  pub is_port : before.switch ≡ switch
  pub told : List Answer
  pub tells : Tells migration before told now
  pub among : Contains told answer

abbrev pub IsTold : {P : Type 0} → (P → PortTrace) → ℕ → ℕ → Answer → List (SessionView P) → List (SessionView P) → Type 0
IsTold tell migration switch answer = AtOne (λ before now. ToldAt migration switch answer (view tell before) (view tell now))
