use Rattle.std.proofs.Common.{string_bytes, sym, ◌∙◌}
use Rattle.text_commands.specs.Words.{text_names_of}
use Rattle.text_commands.proofs.Pairs.{last-pairs}
use Rattle.text_commands.proofs.words.are_text_pairs.Goals as goal

pub returns : goal.returns
returns c = c.is_empty.ensures ∙ sym (c.loop-rest.invariant ∙ last-pairs string_bytes (text_names_of c.args.kind) c.loop-rest.rest.now c.in_default.len_below)
