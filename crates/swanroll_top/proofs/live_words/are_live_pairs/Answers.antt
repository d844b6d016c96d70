use Rattle.std.proofs.Common.{string_bytes, sym, ◌∙◌}
use Rattle.swanroll_top.specs.LiveWords.{live_names}
use Rattle.text_commands.proofs.Pairs.{last-pairs}
use Rattle.swanroll_top.proofs.live_words.are_live_pairs.Goals as goal

pub returns : goal.returns
returns c = c.is_empty.ensures ∙ sym (c.loop-rest.invariant ∙ last-pairs string_bytes live_names c.loop-rest.rest.now c.in_default.len_below)
