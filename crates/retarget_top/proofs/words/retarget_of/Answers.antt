use Rattle.std.proofs.Common.{◌-◌, ℕ, List, length, map, string_bytes, take, drop, refl, sym, ap, ◌∙◌}
use Rattle.retarget_top.specs.Words.{retarget_at, retarget_in}
use Rattle.text_commands.proofs.FirstWords.{first-read}
use Rattle.retarget_top.proofs.words.retarget_of.Goals as goal

pub returns-in-len1-up-clause-asked : goal.returns-in-len1-up-clause-asked
returns-in-len1-up-clause-asked c =
    c.retarget_at.ensures.asked
    ∙ ap (λ (word : List ℕ). retarget_at word (map string_bytes (take (length c.args.words.now - 1) (drop 1 c.args.words.now)))) c.as_str.ensures.value
    ∙ sym (first-read retarget_in retarget_at (λ word rest. refl) c.args.words.now c.word-item.result _ c.in-len1-up.len_at_least c.word-item.is)
