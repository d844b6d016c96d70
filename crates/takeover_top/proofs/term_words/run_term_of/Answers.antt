use Rattle.std.proofs.Common.{◌-◌, ℕ, List, length, map, string_bytes, take, drop, refl, sym, ap, ◌∙◌}
use Rattle.text_commands.proofs.FirstWords.{first-read}
use Rattle.takeover_top.specs.TermWords.{run_term_at, run_term_by, run_term_in}
use Rattle.takeover_top.proofs.term_words.run_term_of.Goals as goal

pub returns-in-len1-up : goal.returns-in-len1-up
unfolding run_term_by
returns-in-len1-up c =
    c.run_term_at.ensures
    ∙ ap (λ (word : List ℕ). run_term_at word (map string_bytes (take (length c.args.words.now - 1) (drop 1 c.args.words.now)))) c.as_str.ensures.value
    ∙ sym (first-read run_term_in run_term_at (λ word rest. refl) c.args.words.now c.word-item.result _ c.in-len1-up.len_at_least c.word-item.is)
