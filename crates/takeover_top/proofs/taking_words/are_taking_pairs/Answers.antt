use Rattle.std.proofs.Common.{string_bytes, sym, ◌∙◌}
use Rattle.takeover_top.specs.TakingWords.{taking_names}
use Rattle.text_commands.proofs.Pairs.{last-pairs}
use Rattle.takeover_top.proofs.taking_words.are_taking_pairs.Goals as goal

pub returns : goal.returns
returns c = c.is_empty.ensures ∙ sym (c.loop-rest.invariant ∙ last-pairs string_bytes taking_names c.loop-rest.rest.now c.in_default.len_below)
