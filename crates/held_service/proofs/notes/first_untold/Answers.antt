use Rattle.std.proofs.Common.{◌∙◌, sym, arith}
use Rattle.held_service.proofs.Noted.{found-untold, none-untold, skip-told}
use Rattle.held_service.proofs.notes.first_untold.Goals as goal

pub loop-item-preserved : goal.loop-item-preserved
loop-item-preserved c = skip-told c.args.notes.now c.args.items.now c.loop-item.item-index c.loop-item-test.true (sym c.is_told.ensures ∙ c.if-not-is_told.false) c.loop-item.invariant

pub returns-then-not-is_told : goal.returns-then-not-is_told
returns-then-not-is_told c = found-untold c.args.notes.now c.args.items.now c.loop-item.item-index c.loop-item-test.true (sym c.is_told.ensures ∙ c.if-not-is_told.true) c.loop-item.invariant

pub returns : goal.returns
returns c = none-untold c.args.notes.now c.args.items.now c.loop-item.item-index (omega (arith, c.loop-item-test.false)) c.loop-item.invariant
