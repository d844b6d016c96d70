-- What may be sent to switches.
use Rattle.std.specs.Prelude.{◌≡◌, ℕ, ◌+◌, ◌<◌, Bool, true, false, List, [], ◌==◌, map, Option, Some, None, if◌then◌else◌}
use Rattle.std.specs.List.{filter, list_any}
use Rattle.rollout_rules.specs.Wan.{Problem, Rollout}
use Rattle.rollout_rules.specs.Items.{item_at, item_count, home_of}
use Rattle.rollout_rules.specs.Operations.{content_after}
use Rattle.rollout_rules.specs.History.{History, flies, settled}
use Rattle.rollout_rules.specs.World.{in_flight}
use Rattle.rollout_rules.specs.declared.op.Op.{Op}
use Rattle.wan_edge.specs.Frames.{Command}
use Rattle.rollout_book.specs.JournaledRounds.{Journaled}

-- whether a home is among these switches
abbrev pub is_among : List ℕ → Option ℕ → Bool
is_among switches None = false
is_among switches (Some home) = list_any (λ w. w == home) switches

-- whether the home of an operation's item is
abbrev pub is_asked : Problem → List ℕ → Op → Bool
is_asked p switches op = is_among switches (home_of p (item_at p op.item))

-- what a switch is told of an operation: its number, and the content that it brings
abbrev pub command_of : Rollout → Op → Command
command_of r op = record {
  item = op.item;
  number = op.number;
  scale = r.plan.scale;
  content = content_after r.problem r.plan (item_at r.problem op.item) op.number;
}

-- the commands of those operations that are these switches'
abbrev pub asked : Rollout → List ℕ → List Op → List Command
asked r switches ops = map (command_of r) (filter (is_asked r.problem switches) ops)

-- Of a book that lives the commands of the operations in flight that are these switches', by item. One whose disk has failed
-- sends nothing.
abbrev pub commands_of : {D : Type 0} → Journaled D → List ℕ → List Command
commands_of b switches = if b.live then asked b.rollout switches (in_flight b.rollout.problem b.history) else []

-- this is the operation of its item that is in flight
pub record IsFlying (p : Problem) (h : History) (op : Op) : Type 0 where
  pub item : op.item < item_count p
  pub flies : flies h op.item ≡ true
  pub next : op.number ≡ settled h op.item + 1
