-- What is known of a port when a run of a rollout begins, and what the run does there.
use Rattle.std.specs.Prelude.{◌≡◌, ◌⊎◌, ℕ, ◌<◌, ◌≤◌, true, List, [], All, Option, Some, IfSome, IsTrue}
use Rattle.std.specs.List.{Contains}
use Rattle.rollout_rules.specs.Wan.{Rollout}
use Rattle.rollout_rules.specs.History.{History, with_entries}
use Rattle.rollout_rules.specs.Agent.{is_at_most}
use Rattle.rollout_rules.specs.declared.op.Op.{Op}
use Rattle.rollout_rules.specs.declared.op.Entry.{Entry}
use Rattle.rollout_rules.specs.declared.op.Entry.TheVariants.{Begin, Done}
use Rattle.wan_edge.specs.Frames.{Answer, AnswerFrame, Command, CommandFrame, IsAnswer, IsCommand, Splits, answer_bytes, command_bytes}
use Rattle.wan_edge.specs.Streams.{Appends}
use Rattle.wan_edge.specs.Switches.{Holdings, pair_asked}
use Rattle.rollout_book.specs.Commands.{command_of}
use Rattle.switch_ports.specs.Outboxes.{home_at}
use Rattle.switch_ports.specs.Stories.{LastStory, ToldAt}
use Rattle.switch_ports.specs.Views.{SessionTrace}
use Rattle.switch_laws.specs.Holdings.{AreHeldAt}

-- the command of an operation that a history has begun
pub record IsBegunCommand (r : Rollout) (h : History) (c : Command) : Type 0 where
  pub op : Op
  pub there : Contains h.entries (Begin op)
  pub is : c ≡ command_of r op

-- a late command: of an earlier migration, and at most the pair that is held of its item
pub record IsLate (migration : ℕ) (holdings : Holdings) (c : CommandFrame) : Type 0 where
  pub earlier : c.0 < migration
  pub late : is_at_most (pair_asked c) (holdings c.1.item).held ≡ true

-- a question, which changes nothing: number 0, of any migration
abbrev pub IsQuestion : CommandFrame → Type 0
IsQuestion c = c.1.number ≡ 0

-- a command that may still come to a switch: of this migration and begun, a late one, or a question
abbrev pub MayCome : Rollout → ℕ → History → Holdings → CommandFrame → Type 0
MayCome r migration h holdings c = ((c.0 ≡ migration) × IsBegunCommand r h c.1) ⊎ (IsLate migration holdings c ⊎ IsQuestion c)

-- these bytes are whole commands, each of which may come
pub record AreCommands (r : Rollout) (migration : ℕ) (h : History) (holdings : Holdings) (bytes : List ℕ) : Type 0 where
  pub commands : List CommandFrame
  pub whole : Splits command_bytes IsCommand bytes commands []
  pub each : All (MayCome r migration h holdings) commands

-- these bytes are whole answers
pub record AreAnswers (bytes : List ℕ) : Type 0 where
  pub answers : List AnswerFrame
  pub whole : Splits answer_bytes IsAnswer bytes answers []

-- A port as a run finds it after the history that it finds. Its switch keeps the agent rule. Of what the port tells: what was heard is whole
-- answers, none of which is kept half read; what was offered is whole commands, each of which may still come; and what the switch holds is
-- right after the history.
pub record StartsAsFound (r : Rollout) (migration : ℕ) (homes : List (Option ℕ)) (found : History) (first : SessionTrace) : Type 0 where
  pub honest : IsTrue first.port.honest
  pub none_kept : first.stream.kept ≡ []
  pub heard : IfSome first.port.heard AreAnswers
  pub offered : IfSome first.port.offered (λ bytes. IfSome first.port.held (λ holdings. AreCommands r migration found holdings bytes))
  pub held : IfSome first.port.held (AreHeldAt r migration homes first.switch found)

-- An operation was answered: by some moment up to now the port told of its item a number of the migration that is no lower.
pub record IsAnswered (migration : ℕ) (op : Op) (first now : SessionTrace) : Type 0 where
  pub moment : SessionTrace
  pub answer : Answer
  pub told : ToldAt migration first.switch answer first moment
  pub later : List ℕ
  pub heard_since : Appends moment.port.heard later now.port.heard
  pub item : answer.item ≡ op.item
  pub number : op.number ≤ answer.held

-- What a run has done at a port from where it found it up to now. The entries that it added stand after the history found. Its commands went
-- out, all or a front of them, and each is of an operation begun; and each Done of an item of the switch was answered.
pub record RunsAt (r : Rollout) (migration : ℕ) (homes : List (Option ℕ)) (found : History) (added : List Entry) (sent : List Command) (first now : SessionTrace) : Type 0 where
  pub starts : StartsAsFound r migration homes found first
  pub story : LastStory migration homes sent first now
  pub begun : All (IsBegunCommand r (with_entries found added)) sent
  pub answered : (op : Op) → Contains added (Done op) → home_at homes op.item ≡ Some first.switch → IsAnswered migration op first now
