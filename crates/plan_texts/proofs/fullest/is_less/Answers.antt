use Rattle.std.proofs.Common.{◌≤◌, ◌^◌, arith, mul-le-mul}
use Rattle.plan_texts.proofs.fullest.is_less.Goals as goal

pub overflow_mul-left : goal.overflow_mul-left
overflow_mul-left c =
    let a : c.args.a ≤ 2 ^ 60 = omega (arith, c.requires.a) in
    let b : c.args.b ≤ 2 ^ 60 = omega (arith, c.requires.b) in
    omega (arith, mul-le-mul a b)

pub overflow_mul-right : goal.overflow_mul-right
overflow_mul-right c =
    let d : c.args.c ≤ 2 ^ 60 = omega (arith, c.requires.c) in
    let e : c.args.d ≤ 2 ^ 60 = omega (arith, c.requires.d) in
    omega (arith, mul-le-mul d e)
