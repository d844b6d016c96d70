use Rattle.std.proofs.Common.{string_bytes, sym, ◌∙◌}
use Rattle.retarget_top.specs.Words.{retarget_names}
use Rattle.text_commands.proofs.Pairs.{last-pairs}
use Rattle.retarget_top.proofs.words.are_retarget_pairs.Goals as goal

pub returns : goal.returns
returns c = c.is_empty.ensures ∙ sym (c.loop-rest.invariant ∙ last-pairs string_bytes retarget_names c.loop-rest.rest.now c.in_default.len_below)
