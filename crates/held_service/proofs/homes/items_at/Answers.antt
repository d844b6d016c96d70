use Rattle.std.proofs.Common.{◌≡◌, List, ℕ, [], ◌∷◌, ◌++◌, length, if◌then◌else◌, ap, sym, ◌∙◌, arith}
use Rattle.switch_ports.specs.Homes.{passing_below}
use Rattle.held_service.specs.Questions.{is_asked}
use Rattle.held_service.proofs.Asked.{passing-more}
use Rattle.held_service.proofs.homes.items_at.Goals as goal

pub loop-item-preserved : goal.loop-item-preserved
loop-item-preserved c =
    let test = is_asked c.args.homes.now c.args.switch in
    let n = c.loop-item.item in
    c.in_ok-add_asked.ensures ∙ ap (λ (xs : List ℕ). xs ++ (if test n then n ∷ [] else [])) c.loop-item.invariant ∙ sym (passing-more n test)

pub returns : goal.returns
returns c =
    let all : c.loop-item.item ≡ length c.args.homes.now = omega (arith, c.loop-item-test.false, c.loop-item.auto.item-end, c.requires) in
    c.loop-item.invariant ∙ ap (λ (n : ℕ). passing_below n (is_asked c.args.homes.now c.args.switch)) all
