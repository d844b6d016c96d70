use Rattle.std.proofs.Common.{Some, string_bytes, ap, sym, ◌∙◌}
use Rattle.text_commands.specs.Words.{one_or}
use Rattle.text_commands.proofs.Pairs.{value-found}
use Rattle.text_commands.proofs.words.value_or.Goals as goal

pub returns : goal.returns
returns c =
    ap (λ value. Some value.now) c.unwrap_or.ensures
    ∙ sym (ap (one_or c.args.default.now) c.loop-rest.invariant
    ∙ value-found string_bytes (λ value. value.now) c.args.name.now c.args.default c.loop-rest.found c.loop-rest.rest.now c.in_default.len_below)
