use Rattle.std.proofs.Common.{◌-◌, ℕ, List, length, map, string_bytes, take, drop, refl, sym, ap, ◌∙◌}
use Rattle.swanroll_top.specs.LiveWords.{live_behind, live_with}
use Rattle.text_commands.proofs.FirstWords.{first-read}
use Rattle.swanroll_top.proofs.live_words.live_behind.Goals as goal

pub returns-in-len1-up : goal.returns-in-len1-up
returns-in-len1-up c =
    c.live_with.ensures
    ∙ ap (λ (word : List ℕ). live_with word (map string_bytes (take (length c.args.words.now - 1) (drop 1 c.args.words.now)))) c.as_str.ensures.value
    ∙ sym (first-read live_behind live_with (λ word pairs. refl) c.args.words.now c.word-item.result _ c.in-len1-up.len_at_least c.word-item.is)
