use Rattle.std.proofs.Common.{◌≡◌, ◌<◌, None, Some, length, ap, ◌∙◌, arith}
use Rattle.fraction_lp.specs.Ratio.{Ratio}
use Rattle.fraction_lp.specs.Dictionary.{plus_times}
use Rattle.fraction_lp.specs.Excluding.{multiplier_at, entry_at}
use Rattle.fraction_lp.proofs.Excluded.{unformed-next, formed-next}
use Rattle.fraction_lp.proofs.excluding.column_sum.Goals as goal

-- a product of what was read, as one of what stands at the place
read : (x y a y' a' : Ratio) → y ≡ y' → a ≡ a' → plus_times x y a ≡ plus_times x y' a'
read x y a y' a' e f = ap (λ (z : Ratio). plus_times x z a) e ∙ ap (plus_times x y') f

pub returns-in_err-sum : goal.returns-in_err-sum
returns-in_err-sum c =
    let rows = c.args.rows.now in
    let ys = c.args.multipliers.now in
    let i = c.loop-i.i in
    let inside : i < length rows = grind arith in
    let none : None ≡ plus_times c.loop-i.sum (multiplier_at ys i) (entry_at c.args.column rows i) =
    c.in_err-sum.ensures ∙ read c.loop-i.sum c.multiplier.result c.entry.result (multiplier_at ys i) (entry_at c.args.column rows i) c.multiplier.ensures c.entry.ensures in
    c.from_residual.ensures ∙ unformed-next (multiplier_at ys) (entry_at c.args.column rows) (length rows) i c.loop-i.sum inside c.loop-i.invariant none

pub loop-i-preserved : goal.loop-i-preserved
loop-i-preserved c =
    let rows = c.args.rows.now in
    let ys = c.args.multipliers.now in
    let i = c.loop-i.i in
    let some : Some c.in_ok-sum.sum ≡ plus_times c.loop-i.sum (multiplier_at ys i) (entry_at c.args.column rows i) =
    c.in_ok-sum.ensures ∙ read c.loop-i.sum c.multiplier.result c.entry.result (multiplier_at ys i) (entry_at c.args.column rows i) c.multiplier.ensures c.entry.ensures in
    formed-next (multiplier_at ys) (entry_at c.args.column rows) i c.loop-i.sum c.in_ok-sum.sum c.loop-i.invariant some
