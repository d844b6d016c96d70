use Rattle.std.proofs.Common.{◌≡◌, ◌∙◌, ap, get_or, ℕ}
use Rattle.std.proofs.Math.ListN.{set}
use Rattle.lossy_link.specs.declared.waiting.Waiting.{Waiting}
use Rattle.lossy_link.proofs.Traffics.{one_less}
use Rattle.lossy_link.proofs.line.wait_less.Goals as goal

pub loop-w-preserved : goal.loop-w-preserved
loop-w-preserved c =
    let items = c.loop-w.w-items in
    let i = c.loop-w.w-index in
    let read : Waiting = get_or items i c.w-item.result in
    let here : read ≡ get_or items i read = ap (λ (w : Waiting). get_or items i w) c.w-item.is in
    ap (λ (late : ℕ). let w : Waiting = record { answer = read.answer; late = late } in set items i w) c.saturating_sub-w.ensures
    ∙ one_less c.args.row.now items i read c.loop-w.invariant c.loop-w-test.true here
