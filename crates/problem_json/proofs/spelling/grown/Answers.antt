use Rattle.std.proofs.Common.{◌+◌, ◌*◌, ap, arith}
use Rattle.problem_json.proofs.Spelled.{far_above, just_above, has_room}
use Rattle.problem_json.proofs.spelling.grown.Goals as goal

pub returns-then-number-gt-TENTH : goal.returns-then-number-gt-TENTH
returns-then-number-gt-TENTH c = far_above c.args.number c.args.digit (omega (arith, c.if-number-gt-TENTH.true))

pub returns-then-more-gt-LARGEST : goal.returns-then-more-gt-LARGEST
returns-then-more-gt-LARGEST c =
    just_above c.args.number c.args.digit (c.args.number * 10 + c.from.result) (ap (λ d. c.args.number * 10 + d) c.from.ensures) (omega (arith, c.if-more-gt-LARGEST.true))

pub returns : goal.returns
returns c =
    has_room c.args.number c.args.digit (c.args.number * 10 + c.from.result) (ap (λ d. c.args.number * 10 + d) c.from.ensures) (omega (arith, c.if-more-gt-LARGEST.false))
