use Rattle.std.proofs.Common.{◌-◌, ℕ, List, length, map, string_bytes, take, drop, refl, sym, ap, ◌∙◌}
use Rattle.swanroll_top.specs.LeftWords.{left_at, left_in}
use Rattle.text_commands.proofs.FirstWords.{first-read}
use Rattle.swanroll_top.proofs.left_words.left_of.Goals as goal

pub returns-in-len1-up : goal.returns-in-len1-up
returns-in-len1-up c =
    c.left_at.ensures
    ∙ ap (λ (word : List ℕ). left_at word (map string_bytes (take (length c.args.words.now - 1) (drop 1 c.args.words.now)))) c.as_str.ensures.value
    ∙ sym (first-read left_in left_at (λ word rest. refl) c.args.words.now c.word-item.result _ c.in-len1-up.len_at_least c.word-item.is)
