-- What an agent holds, item by item, in the order in which it saw them.
use Rattle.std.specs.Prelude.{ℕ, ◌+◌, ◌*◌, ◌==◌, Bool, List, Option, Some, None, is_some, unwrap_or, if◌then◌else◌}
use Rattle.std.specs.Map.{lookup}
use Rattle.rollout_rules.specs.Agent.{Holding, nothing_held}
use Rattle.rollout_rules.specs.declared.limits.TheConstants.{MOST_FLOWS, MOST_HOPS, MOST_TUNNELS}
use Rattle.wan_edge.specs.Frames.{CommandFrame}
use Rattle.wan_edge.specs.Switches.{Holdings, pair_asked}

-- each item that came, with the last command that was carried out
abbrev pub Items : Type 0
Items = List (ℕ × Option CommandFrame)

-- how many items a document within the limits has at most: a flow each, and an entry at each switch of each tunnel's path
abbrev pub most_items : ℕ
most_items = MOST_FLOWS + MOST_TUNNELS * MOST_HOPS

-- what is held by the last command
abbrev pub held_by : Option CommandFrame → Holding
held_by None = nothing_held
held_by (Some c) = record { held = pair_asked c; content = c.1.content }

-- the last command of an item, where one was carried out
abbrev pub last_command : Items → ℕ → Option CommandFrame
last_command items item = unwrap_or (lookup (λ key. item == key) items) None

-- what is held of each item
abbrev pub holding : Items → Holdings
holding items = λ item. held_by (last_command items item)

-- whether a command for the item came
abbrev pub seen : Items → ℕ → Bool
seen items item = is_some (lookup (λ key. item == key) items)

-- the content of an item, where an operation of it is held
abbrev pub content_of : Holding → Option (List ℕ)
content_of holding = if holding.held.number == 0 then None else Some holding.content

-- with a command that was carried out, whatever was held before: of its item its pair and content are held, of any other item the same
abbrev pub with_stored : Holdings → CommandFrame → Holdings
with_stored holdings c = λ item. if item == c.1.item then held_by (Some c) else holdings item
