use Rattle.std.proofs.Common.{◌≤◌, ◌^◌, get_or, arith, mul-le-mul}
use Rattle.sim_run.proofs.outcome.fuller_of.Goals as goal

pub overflow_mul-peaks : goal.overflow_mul-peaks
overflow_mul-peaks c =
    let peak : get_or c.args.peaks.now c.args.best 0 ≤ 2 ^ 60 = omega (arith, c.requires.small c.args.best c.requires.best) in
    let room : c.room_of-room.result ≤ 2 ^ 60 = omega (arith, c.room_of-room.ensures.most) in
    omega (arith, mul-le-mul peak room)

pub overflow_mul-peaks-2 : goal.overflow_mul-peaks-2
overflow_mul-peaks-2 c =
    let peak : get_or c.args.peaks.now c.args.link 0 ≤ 2 ^ 60 = omega (arith, c.requires.small c.args.link c.requires.link) in
    let room : c.room_of-other.result ≤ 2 ^ 60 = omega (arith, c.room_of-other.ensures.most) in
    omega (arith, mul-le-mul peak room)
