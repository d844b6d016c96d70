use Rattle.std.proofs.Common.{◌≡◌, ◌∙◌, ap, arith}
use Rattle.rollout_rules.specs.Sums.{list_below}
use Rattle.intent_journal.proofs.starting.zeros.Goals as goal

pub returns : goal.returns
returns c =
    let end : c.loop-number._number ≡ c.args.count = omega (arith, c.loop-number.invariant.within, c.loop-number-test.false) in
    c.loop-number.invariant.zeros ∙ ap (λ n. list_below n (λ k. 0)) end
