use Rattle.std.proofs.Common.{◌-◌, ℕ, List, length, map, string_bytes, take, drop, refl, sym, ap, ◌∙◌}
use Rattle.order_policy.specs.Named.{answers_in}
use Rattle.text_commands.proofs.FirstWords.{first-read}
use Rattle.takeover_top.specs.TakingWords.{taking_at, taking_by, taking_in}
use Rattle.takeover_top.proofs.taking_words.taking_of.Goals as goal

pub returns-in-len1-up-clause-asked : goal.returns-in-len1-up-clause-asked
unfolding taking_by
returns-in-len1-up-clause-asked g c =
    let policies = answers_in c.args.policies.now in
    c.taking_at.ensures.asked
    ∙ ap (λ (word : List ℕ). taking_at policies word (map string_bytes (take (length c.args.words.now - 1) (drop 1 c.args.words.now)))) c.as_str.ensures.value
    ∙ sym (first-read (taking_in policies) (taking_at policies) (λ word rest. refl) c.args.words.now c.word-item.result _ c.in-len1-up.len_at_least c.word-item.is)
