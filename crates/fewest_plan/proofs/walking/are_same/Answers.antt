use Rattle.std.proofs.Common.{sym, arith}
use Rattle.std.proofs.lemmas.List.{ext_get_or}
use Rattle.fewest_plan.proofs.walking.are_same.Goals as goal

pub returns : goal.returns
returns c told =
    ext_get_or 0 c.args.after.now c.args.before.now (sym c.requires)
    (λ k lt. c.loop-f.invariant k (omega (arith, lt, c.requires, c.loop-f-test.false, c.loop-f.auto.f-end)))
