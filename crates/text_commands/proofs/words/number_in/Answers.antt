use Rattle.std.proofs.Common.{◌≡◌, ◌≤◌, true, length, sym, ap, ◌∙◌, arith}
use Rattle.text_commands.specs.Words.{are_digits}
use Rattle.text_commands.proofs.Digits.{number-read, number-refused}
use Rattle.text_commands.proofs.words.number_in.Goals as goal

pub returns-in-Ok : goal.returns-in-Ok
returns-in-Ok c =
    let digits : are_digits c.args.word.now ≡ true = ap are_digits (sym c.as_bytes.ensures.value) ∙ sym c.are_digits.ensures ∙ c.if-not-are_digits.false in
    let short : length c.args.word.now ≤ 19 = omega (arith, c.if-word-gt-MOST_DIGITS.false) in
    number-read 32 c.args.word.now c.parse.result c.parse.ensures.value.0 digits short c.in-Ok.number c.in-Ok.is

pub returns-in-Err : goal.returns-in-Err
returns-in-Err c =
    let digits : are_digits c.args.word.now ≡ true = ap are_digits (sym c.as_bytes.ensures.value) ∙ sym c.are_digits.ensures ∙ c.if-not-are_digits.false in
    let short : length c.args.word.now ≤ 19 = omega (arith, c.if-word-gt-MOST_DIGITS.false) in
    number-refused 32 c.args.word.now c.parse.result c.parse.ensures.value.0 digits short _ c.in-Err.is
