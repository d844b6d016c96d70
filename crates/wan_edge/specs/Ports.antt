-- What a port tells, which ports keep to the agent rule, and what becomes of what is told in a call and in any number of them. What a port tells is
-- Some, and what it does not tell is None.
use Rattle.std.specs.Prelude.{◌≡◌, ◌⊎◌, ℕ, ◌-◌, ◌<◌, ◌≤◌, Bool, List, [], ◌++◌, length, take, true, false, All, Option, Some, IfSome}
use Rattle.std.specs.Bool.{OnTrue}
use Rattle.std.specs.List.{flat_map}
use Rattle.rollout_rules.specs.Agent.{is_at_most}
use Rattle.wan_edge.specs.Frames.{AnswerFrame, CommandFrame, IsAnswer, IsCommand, Splits, answer_bytes, command_bytes}
use Rattle.wan_edge.specs.Streams.{Appends, KeepsTelling, Rose}
use Rattle.wan_edge.specs.Switches.{Holdings, after_commands, answers_to, pair_given}

-- All that a port tells: the bytes that went out, those that came back, what its switch holds of each item, how often nothing came back until a time limit
-- had passed since the last offer, and how often it was looked at before that, each where it is told; how often it has failed; whether it is honest, and
-- prompt; and what the switch held before the first byte went out.
pub record PortTrace : Type 0 where
  pub offered : Option (List ℕ)
  pub heard : Option (List ℕ)
  pub held : Option Holdings
  pub quiet : Option ℕ
  pub waits : Option ℕ
  pub faults : ℕ
  pub honest : Bool
  pub prompt : Bool
  pub start : Holdings

-- A new port: no call of it has failed, and nothing has gone over it in either direction, where that is told.
pub record IsNew (port : PortTrace) : Type 0 where
  pub faults : port.faults ≡ 0
  pub offered : IfSome port.offered (λ bytes. bytes ≡ [])
  pub heard : IfSome port.heard (λ bytes. bytes ≡ [])

-- some of the bytes were appended from the front, perhaps all of them
pub record AppendsFront (before : Option (List ℕ)) (bytes : List ℕ) (now : Option (List ℕ)) : Type 0 where
  pub count : ℕ
  pub within : count ≤ length bytes
  pub appended : Appends before (take count bytes) now

-- one more than was told before, where the count is told still
abbrev pub IsOneMore : Option ℕ → Option ℕ → Type 0
IsOneMore before now = IfSome now (λ after. (0 < after) × (before ≡ Some (after - 1)))

-- a whole command among those that the bytes begin with
pub record IsOffered (offered : List ℕ) (command : CommandFrame) : Type 0 where
  pub earlier : List CommandFrame
  pub earlier_fit : All IsCommand earlier
  pub fits : IsCommand command
  pub behind : List ℕ
  pub parts : offered ≡ flat_map command_bytes earlier ++ (command_bytes command ++ behind)

-- what is held moved by the agent rule alone, on commands among those offered, in any order and any number of times
pub record MovesByRule (offered : List ℕ) (before now : Holdings) : Type 0 where
  pub delivered : List CommandFrame
  pub each_offered : All (IsOffered offered) delivered
  pub moved : now ≡ after_commands before delivered

-- each whole answer heard has at most the pair that is held of its item
abbrev pub AnswersHeld : List ℕ → Holdings → Type 0
AnswersHeld heard holdings = (answers : List AnswerFrame) (rest : List ℕ) → Splits answer_bytes IsAnswer heard answers rest → All (λ a. is_at_most (pair_given a) (holdings a.1.item).held ≡ true) answers

-- what an honest port keeps to in each call, by what it tells
pub record IsHonestStep (offered heard : Option (List ℕ)) (before now : Option Holdings) : Type 0 where
  pub moves : IfSome offered (λ bytes. IfSome before (λ earlier. IfSome now (λ later. MovesByRule bytes earlier later)))
  pub answers : IfSome heard (λ bytes. IfSome now (λ later. AnswersHeld bytes later))

-- no whole command stands at the front
abbrev pub BeginsNoCommand : List ℕ → Type 0
BeginsNoCommand bytes = (c : CommandFrame) (behind : List ℕ) → IsCommand c → bytes ≡ command_bytes c ++ behind → ⊥

-- The whole commands offered were carried out in order and once each, as far as the switch has come, and what was heard is a front of
-- the answers to these. At the start the switch held what the first argument says.
pub record AnswersInOrder (start : Holdings) (offered heard : List ℕ) (now : Holdings) : Type 0 where
  pub commands : List CommandFrame
  pub rest : List ℕ
  pub whole : Splits command_bytes IsCommand offered commands rest
  pub no_more : BeginsNoCommand rest
  pub carried_out : ℕ
  pub holds : now ≡ after_commands start (take carried_out commands)
  pub to_come : List ℕ
  pub heard_front : flat_map answer_bytes (answers_to start (take carried_out commands)) ≡ heard ++ to_come

-- what was heard is all the answers to the whole commands offered
abbrev pub AllAnswered : Holdings → List ℕ → List ℕ → Type 0
AllAnswered start offered heard = (commands : List CommandFrame) (rest : List ℕ) → Splits command_bytes IsCommand offered commands rest → BeginsNoCommand rest → heard ≡ flat_map answer_bytes (answers_to start commands)

-- what a prompt port keeps to, by what it tells
abbrev pub IsPromptState : Holdings → Option (List ℕ) → Option (List ℕ) → Option Holdings → Type 0
IsPromptState start offered heard held = IfSome offered (λ commands. IfSome heard (λ answers. IfSome held (λ now. AnswersInOrder start commands answers now)))

-- where a prompt port has nothing to give, nothing is still to come
abbrev pub NothingToCome : Holdings → Option (List ℕ) → Option (List ℕ) → Type 0
NothingToCome start offered heard = IfSome offered (λ commands. IfSome heard (λ answers. AllAnswered start commands answers))

-- What holds of each call of a port. Its faults don't become fewer, it stays as honest and as prompt as it is, and tells what is held where it did so
-- before. An honest switch moves by the agent rule alone, on commands that went out; a prompt one answers in order.
pub record Steps (before now : PortTrace) : Type 0 where
  pub count : before.faults ≤ now.faults
  pub told : KeepsTelling before.held now.held
  pub honest : now.honest ≡ before.honest
  pub prompt : now.prompt ≡ before.prompt
  pub start : now.start ≡ before.start
  pub by_rule : OnTrue before.honest (IsHonestStep now.offered now.heard before.held now.held)
  pub in_order : OnTrue before.prompt (IsPromptState before.start now.offered now.heard now.held)

-- the bytes went out, and nothing was heard
pub record Sends (bytes : List ℕ) (before now : PortTrace) : Type 0 where
  pub offered : Appends before.offered bytes now.offered
  pub heard : now.heard ≡ before.heard
  pub quiet : now.quiet ≡ before.quiet
  pub waits : now.waits ≡ before.waits

-- the port failed: the first of the bytes went out, perhaps none or all of them, and nothing was heard
pub record FailsToSend (bytes : List ℕ) (before now : PortTrace) : Type 0 where
  pub offered : AppendsFront before.offered bytes now.offered
  pub heard : now.heard ≡ before.heard
  pub quiet : now.quiet ≡ before.quiet
  pub waits : now.waits ≡ before.waits
  pub cause : Rose before.faults now.faults

-- So many bytes came back, the first of these, and nothing went out. None is nothing now: it is counted, and a prompt port has given all its answers.
pub record Hears (count : ℕ) (bytes : List ℕ) (before now : PortTrace) : Type 0 where
  pub offered : now.offered ≡ before.offered
  pub heard : Appends before.heard (take count bytes) now.heard
  pub quieter : count ≡ 0 → IsOneMore before.quiet now.quiet
  pub as_quiet : 0 < count → now.quiet ≡ before.quiet
  pub waits : now.waits ≡ before.waits
  pub all_given : OnTrue before.prompt (count ≡ 0 → NothingToCome before.start now.offered now.heard)

-- the port failed, and nothing came back or went out
pub record FailsToHear (before now : PortTrace) : Type 0 where
  pub offered : now.offered ≡ before.offered
  pub heard : now.heard ≡ before.heard
  pub quiet : now.quiet ≡ before.quiet
  pub waits : now.waits ≡ before.waits
  pub cause : Rose before.faults now.faults

-- A port wasn't ready when it was looked at: no byte is there that came back, and the time limit hasn't passed since the last offer. Nothing went out or was
-- heard, and that is counted. A prompt port is always ready.
pub record IsUnready (before now : PortTrace) : Type 0 where
  pub offered : now.offered ≡ before.offered
  pub heard : now.heard ≡ before.heard
  pub quiet : now.quiet ≡ before.quiet
  pub waits : IsOneMore before.waits now.waits
  pub prompt : before.prompt ≡ false
  pub step : Steps before now

-- it was looked at, and this is whether it was ready; where it was, nothing has changed
abbrev pub LooksAt : Bool → PortTrace → PortTrace → Type 0
LooksAt true before now = now ≡ before
LooksAt false before now = IsUnready before now

-- A port went on by any number of calls. Bytes were added at the ends of what went out and of what came. Where some call was made, an honest switch moved
-- by the agent rule alone, on commands that went out, and a prompt one answered in order.
pub record GoesOn (before now : PortTrace) : Type 0 where
  pub sent : List ℕ
  pub offered : Appends before.offered sent now.offered
  pub came : List ℕ
  pub heard : Appends before.heard came now.heard
  pub count : before.faults ≤ now.faults
  pub told : KeepsTelling before.held now.held
  pub honest : now.honest ≡ before.honest
  pub prompt : now.prompt ≡ before.prompt
  pub start : now.start ≡ before.start
  pub by_rule : OnTrue before.honest ((now ≡ before) ⊎ IsHonestStep now.offered now.heard before.held now.held)
  pub in_order : OnTrue before.prompt ((now ≡ before) ⊎ IsPromptState before.start now.offered now.heard now.held)
