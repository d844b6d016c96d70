use Rattle.std.proofs.Common.{◌≡◌, ◌∙◌, ◌==◌, ◌||◌, ℕ, Option, Some, is_some, length, nat_lt, sym, ap, ap₂}
use Rattle.lists.proofs.Results.{at_err}
use Rattle.rollout_rules.specs.Agent.{held_after, is_next_command}
use Rattle.wan_edge.specs.Frames.{Command, CommandFrame}
use Rattle.wan_edge.specs.Switches.{after_command, pair_asked}
use Rattle.switch_agent.specs.Items.{Items, held_by, holding, last_command, most_items, seen}
use Rattle.switch_agent.proofs.Carrying.{carried, passed_over, holding_now, seen_now, some_command}
use Rattle.switch_agent.proofs.Rooms.{few-more, unseen-without}
use Rattle.switch_agent.proofs.agent.Agent.apply.Goals as goal
use Rattle.switch_agent.proofs.agent.Agent.apply.Goals.{then-is_next, else-is_next}

pub returns-clause-applied : goal.returns-clause-applied
unfolding some_command
returns-clause-applied c =
    let command : Command = c.args.command.now in
    let asked : CommandFrame = (c.args.migration, command) in
    let items : Items = c.self.inside.items.entries in
    let item = c.command.inside.item in
    let last : Option CommandFrame = c.last-last.result in
    let item_is : command.item ≡ item = ap (λ (x : Command). x.item) (sym c.command.view_is) in
    let last_is : last ≡ last_command items item = c.last-last.ensures ∙ ap (λ (xs : Items). last_command xs item) (sym c.self.view_is) in
    let next_is : c.is_next.result ≡ is_next_command (held_by last).held (pair_asked asked) = c.is_next.ensures ∙ ap₂ is_next_command c.held_by.ensures c.pair.ensures in
    let rule : held_by c.if-is_next.last ≡ held_after (held_by last) (pair_asked asked) command.content = elim c.if-is_next.branch [
      | then-is_next w ↦ ap held_by (w.last-is ∙ ap (some_command c.args.migration) c.command.view_is) ∙ carried last asked (sym next_is ∙ w.if-is_next.true)
      | else-is_next w ↦ ap held_by w.last-is ∙ passed_over last asked (sym next_is ∙ w.if-is_next.false)
    ] in
    let rule_now : held_by c.if-is_next.last ≡ held_after (holding items item) (pair_asked asked) command.content = rule ∙ ap (λ (l : Option CommandFrame). held_after (held_by l) (pair_asked asked) command.content) last_is in
    let held = holding_now items c.insert.new.self.entries item c.if-is_next.last c.in_ok-insert.ensures.updates.0 asked item_is rule_now in
    held ∙ ap (λ (xs : Items). after_command (holding xs) asked) c.self.view_is

pub returns-clause-seen : goal.returns-clause-seen
returns-clause-seen c q =
    seen_now c.self.inside.items.entries c.insert.new.self.entries c.command.inside.item c.if-is_next.last c.in_ok-insert.ensures.updates.0 q
    ∙ ap₂ (λ (n : ℕ) (xs : Items). q == n || seen xs q) (ap (λ (x : Command). x.item) c.command.view_is) c.self.view_is

pub returns-in_err-insert-clause-memory : goal.returns-in_err-insert-clause-memory
returns-in_err-insert-clause-memory c =
    at_err c.from_residual.result
    (ap₂ (λ (xs : Items) (x : Command). seen xs x.item) (sym c.self.view_is) (sym c.command.view_is) ∙ ap is_some c.in_err-insert.ensures.absent)

pub returns-then-not-has_room-clause-memory : goal.returns-then-not-has_room-clause-memory
returns-then-not-has_room-clause-memory c =
    ap (λ (x : Command). seen c.args.self.now x.item) (sym c.command.view_is) ∙ unseen-without (seen c.args.self.now c.command.inside.item) _ c.has_room.result c.has_room.ensures c.if-not-has_room.true

-- an item that wasn't seen has a place
pub invariant_of-self-2 : goal.invariant_of-self-2
invariant_of-self-2 c =
    few-more c.self.inside.items.entries c.insert.new.self.entries c.command.inside.item c.if-is_next.last c.has_room.result c.in_ok-insert.ensures.entries
    (c.has_room.ensures ∙ ap (λ (xs : Items). seen xs c.command.inside.item || nat_lt (length xs) most_items) (sym c.self.view_is)) c.if-not-has_room.false c.self.invariant
