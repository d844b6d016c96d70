use Rattle.std.proofs.Common.{◌≤◌, length, sym, arith}
use Rattle.std.proofs.lemmas.List.{length-take-le, take_all}
use Rattle.file_sight.proofs.looking.front_of.Goals as goal

pub slice_bounds-result-end : goal.slice_bounds-result-end
slice_bounds-result-end c =
    let long : 35 ≤ length c.args.bytes.now = omega (arith, c.if-bytes-gt-FRONT.true) in
    sym (length-take-le 35 c.args.bytes.now long)

pub returns-else-bytes-gt-FRONT : goal.returns-else-bytes-gt-FRONT
returns-else-bytes-gt-FRONT c =
    let short : length c.args.bytes.now ≤ 35 = omega (arith, c.if-bytes-gt-FRONT.false) in
    sym (take_all 35 c.args.bytes.now short)
