use Rattle.std.proofs.Common.{rules, Some, ◌∷◌, ◌∙◌, ap}
use Rattle.atomic_table.specs.Table.{rest}
use Rattle.turn_lock.proofs.Turning.{counts_held, passes_held}
use Rattle.turn_lock.proofs.lock.TurnLock.give.Goals as goal

pub fetch_add-requires : goal.fetch_add-requires
fetch_add-requires g c = let held = c.args.held in let grip = held.grip in
    let is = c.exchange.ensures.3 ∙ ap (λ cs. (grip.place.me.0, (0, Some held.value) ∷ rest cs)) grip.emptied in
    (search rules, search rules, counts_held _ _ _ _ _ _ held.value _ _ is grip.turning c.requires.history c.count-seen.ensures grip.taken_is (search rules))

pub fetch_add-turn-requires : goal.fetch_add-turn-requires
fetch_add-turn-requires g c = let held = c.args.held in let grip = held.grip in
    let is = c.exchange.ensures.3 ∙ ap (λ cs. (grip.place.me.0, (0, Some held.value) ∷ rest cs)) grip.emptied in
    (search rules, search rules, passes_held _ _ _ _ _ _ _ held.value (search rules) is c.fetch_add.ensures.2 grip.turning)
