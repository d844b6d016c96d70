use Rattle.std.proofs.Common.{ℕ, Some, set, ap₂, sym, ◌∙◌, arith}
use Rattle.rollout_rules.specs.declared.held.Held.{Held}
use Rattle.held_service.proofs.Asked.{asked-inside}
use Rattle.held_service.proofs.hearing.note_own.Goals as goal

pub note-requires : goal.note-requires
note-requires c =
    let inside = asked-inside c.args.homes.now c.args.switch c.item_of-item.result (sym c.is_asked.ensures ∙ c.if-not-is_asked.false) in
    omega (arith, inside, c.requires)

pub returns-clause-noted : goal.returns-clause-noted
returns-clause-noted c = c.note.ensures ∙ ap₂ (λ (item : ℕ) (held : Held). set c.args.notes.now item (Some held)) c.item_of-item.ensures c.pair_of.ensures
