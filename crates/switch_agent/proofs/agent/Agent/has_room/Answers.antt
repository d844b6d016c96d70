use Rattle.std.proofs.Common.{ℕ, ◌∙◌, length, nat_lt, ap}
use Rattle.switch_agent.specs.Items.{Items, most_items, seen}
use Rattle.switch_agent.proofs.Rooms.{room-seen, room-unseen}
use Rattle.switch_agent.proofs.agent.Agent.has_room.Goals as goal

pub returns-then-contains_key : goal.returns-then-contains_key
returns-then-contains_key c =
    room-seen c.contains_key.result (seen c.args.self.now c.args.item) (nat_lt (length c.args.self.now) most_items)
    (c.contains_key.ensures ∙ ap (λ (items : Items). seen items c.args.item) c.self.view_is) c.if-contains_key.true

pub returns-else-contains_key : goal.returns-else-contains_key
returns-else-contains_key c =
    room-unseen c.contains_key.result (seen c.args.self.now c.args.item) (nat_lt (length c.args.self.now) most_items) (nat_lt c.len.result most_items)
    (c.contains_key.ensures ∙ ap (λ (items : Items). seen items c.args.item) c.self.view_is) c.if-contains_key.false
    (ap (λ (n : ℕ). nat_lt n most_items) (c.len.ensures.len ∙ ap (λ (items : Items). length items) c.self.view_is))
