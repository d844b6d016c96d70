-- Ports that answer all that they are offered, at once and in order.
use Rattle.std.specs.Prelude.{◌≡◌, ◌⊎◌, ℕ, ◌<◌, ◌≤◌, List, [], All, Option, Some, IsTrue, is_some}
use Rattle.std.specs.List.{flat_map}
use Rattle.rollout_rules.specs.Wan.{Rollout}
use Rattle.rollout_rules.specs.Items.{item_count}
use Rattle.rollout_rules.specs.History.{History, begun, settled}
use Rattle.rollout_rules.specs.declared.held.Held.{Held}
use Rattle.wan_edge.specs.Frames.{Answer, Command, CommandFrame, IsCommand, answer_bytes, command_bytes}
use Rattle.wan_edge.specs.Ports.{IsPromptState, NothingToCome}
use Rattle.wan_edge.specs.Switches.{Holdings, after_commands, answers_to}
use Rattle.switch_ports.specs.Outboxes.{home_at}
use Rattle.switch_ports.specs.Views.{SessionTrace}
use Rattle.switch_laws.specs.Runs.{StartsAsFound}

-- A port as a run must find it to be sure that it finishes. It is found as the history allows; it is prompt, tells all, and keeps to what a prompt
-- port keeps to; none of its answers is still to come, and none is awaited.
pub record IsReady (r : Rollout) (migration : ℕ) (homes : List (Option ℕ)) (found : History) (first : SessionTrace) : Type 0 where
  pub starts : StartsAsFound r migration homes found first
  pub prompt : IsTrue first.port.prompt
  pub offered : IsTrue (is_some first.port.offered)
  pub heard : IsTrue (is_some first.port.heard)
  pub held : IsTrue (is_some first.port.held)
  pub in_order : IsPromptState first.port.start first.port.offered first.port.heard first.port.held
  pub no_more : NothingToCome first.port.start first.port.offered first.port.heard
  pub none_owed : first.stream.awaited ≡ 0

-- A prompt port that has answered all. It tells everything; these whole commands were offered, its switch has carried out all of them in order, and
-- what was heard is the answers to them, none of which is kept half read or awaited: the switch isn't late.
pub record HasAnswered (commands : List CommandFrame) (now : SessionTrace) : Type 0 where
  pub prompt : IsTrue now.port.prompt
  pub fit : All IsCommand commands
  pub offered : now.port.offered ≡ Some (flat_map command_bytes commands)
  pub heard : now.port.heard ≡ Some (flat_map answer_bytes (answers_to now.port.start commands))
  pub held : now.port.held ≡ Some (after_commands now.port.start commands)
  pub none_kept : now.stream.kept ≡ []
  pub none_owed : now.stream.awaited ≡ 0

-- the answer that says that the operation of a command was carried out, and no later one
abbrev pub answer_for : Command → Answer
answer_for c = record { item = c.item; held = c.number }

-- Of an item a pair of the migration is held, between what is settled and what is begun, or one of an earlier migration.
abbrev pub IsOnTheWay : ℕ → History → ℕ → Held → Type 0
IsOnTheWay migration h n held = ((held.migration ≡ migration) × (settled h n ≤ held.number) × (held.number ≤ begun h n)) ⊎ (held.migration < migration)

-- so it is with each item whose home is this switch
abbrev pub AreOnTheWay : Rollout → ℕ → List (Option ℕ) → ℕ → History → Holdings → Type 0
AreOnTheWay r migration homes switch h holdings = (n : ℕ) → n < item_count r.problem → home_at homes n ≡ Some switch → IsOnTheWay migration h n (holdings n).held

-- A port between two rounds: it has answered all, and what its switch holds is on the way after the history.
pub record IsUpToDate (r : Rollout) (migration : ℕ) (homes : List (Option ℕ)) (h : History) (now : SessionTrace) : Type 0 where
  pub commands : List CommandFrame
  pub answered : HasAnswered commands now
  pub held : AreOnTheWay r migration homes now.switch h (after_commands now.port.start commands)
