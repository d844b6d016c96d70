use Rattle.std.proofs.Common.{string_bytes, sym, ◌∙◌}
use Rattle.swanroll_top.specs.Words.{names_of}
use Rattle.text_commands.proofs.Pairs.{last-pairs}
use Rattle.swanroll_top.proofs.words.are_pairs.Goals as goal

pub returns : goal.returns
returns c = c.is_empty.ensures ∙ sym (c.loop-rest.invariant ∙ last-pairs string_bytes (names_of c.args.kind) c.loop-rest.rest.now c.in_default.len_below)
