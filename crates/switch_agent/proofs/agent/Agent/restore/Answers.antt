use Rattle.std.proofs.Common.{◌≡◌, ◌∙◌, ◌||◌, ℕ, Option, Some, length, nat_lt, sym, ap}
use Rattle.wan_edge.specs.Frames.{Command, CommandFrame}
use Rattle.switch_agent.specs.Items.{Items, holding, most_items, seen, with_stored}
use Rattle.switch_agent.proofs.Carrying.{stored_now, some_command}
use Rattle.switch_agent.proofs.Rooms.{few-more}
use Rattle.switch_agent.proofs.agent.Agent.restore.Goals as goal

-- what is held of the item is what the command left
pub returns-clause-restored : goal.returns-clause-restored
unfolding some_command
returns-clause-restored c =
    let items : Items = c.self.inside.items.entries in
    let command : Command = c.args.command.now in
    let stored : CommandFrame = (c.args.migration, command) in
    let item_is : command.item ≡ c.command.inside.item = ap (λ (x : Command). x.item) (sym c.command.view_is) in
    stored_now items c.insert.new.self.entries c.command.inside.item _ c.in_ok-insert.ensures.updates.0 stored item_is (ap (some_command c.args.migration) c.command.view_is)
    ∙ ap (λ (xs : Items). with_stored (holding xs) stored) c.self.view_is

-- an item that wasn't seen has a place
pub invariant_of-self-2 : goal.invariant_of-self-2
invariant_of-self-2 c =
    few-more c.self.inside.items.entries c.insert.new.self.entries c.command.inside.item _ c.has_room-room.result c.in_ok-insert.ensures.entries
    (c.has_room-room.ensures ∙ ap (λ (xs : Items). seen xs c.command.inside.item || nat_lt (length xs) most_items) (sym c.self.view_is)) c.if-not-room.false c.self.invariant
