use Rattle.std.proofs.Common.{◌≡◌, List, ℕ, [], ◌∷◌, ◌++◌, length, take, get_or, ap, sym, ◌∙◌, arith}
use Rattle.std.proofs.Math.Seq.{take-length}
use Rattle.held_service.specs.Noting.{untold}
use Rattle.held_service.proofs.Noted.{untold-more}
use Rattle.held_service.proofs.notes.list_untold.Goals as goal

pub loop-item-preserved : goal.loop-item-preserved
loop-item-preserved c =
    let notes = c.args.notes.now in
    let items = c.args.items.now in
    let at = c.loop-item.item-index in
    c.in_ok-add_untold.ensures ∙ ap (λ (xs : List ℕ). xs ++ untold notes (get_or items at 0 ∷ [])) c.loop-item.invariant ∙ sym (untold-more notes items at c.loop-item-test.true)

pub returns : goal.returns
returns c =
    let items = c.args.items.now in
    let all : c.loop-item.item-index ≡ length items = omega (arith, c.loop-item-test.false, c.loop-item.auto.item-index-end) in
    c.loop-item.invariant ∙ ap (untold c.args.notes.now) (ap (λ (n : ℕ). take n items) all ∙ take-length items)
