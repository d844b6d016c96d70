use Rattle.std.proofs.Common.{◌≡◌, length, ap, ◌∙◌, arith}
use Rattle.held_service.specs.HeldText.{greatest_of, larger, migration_of}
use Rattle.held_service.proofs.Lined.{greatest-more}
use Rattle.held_service.proofs.held_lines.greatest.Goals as goal

pub loop-item-preserved : goal.loop-item-preserved
loop-item-preserved c =
    greatest-more c.args.notes.now c.loop-item.item c.loop-item.most c.loop-item.invariant c.larger-most.result
    (c.larger-most.ensures ∙ ap (larger c.loop-item.most) (c.migration_of.ensures ∙ ap migration_of c.noted_at.ensures))

pub returns : goal.returns
returns c =
    let all : c.loop-item.item ≡ length c.args.notes.now = omega (arith, c.loop-item-test.false, c.loop-item.auto.item-end, c.requires) in
    c.loop-item.invariant ∙ ap (greatest_of c.args.notes.now) all
