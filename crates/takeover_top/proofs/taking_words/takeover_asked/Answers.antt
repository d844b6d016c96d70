use Rattle.std.proofs.Common.{◌≡◌, List, String, Global, drop, ap, ◌∙◌}
use Rattle.std.specs.Option.{option_map}
use Rattle.lists.proofs.Results.{if_ok}
use Rattle.order_policy.specs.Named.{answers_in}
use Rattle.takeover_top.specs.TakingWords.{taking_by, term_of}
use Rattle.takeover_top.proofs.taking_words.takeover_asked.Goals as goal

pub returns-in-Ok-clause-asked : goal.returns-in-Ok-clause-asked
returns-in-Ok-clause-asked g c =
    if_ok c.args.arguments.now c.in-Ok.arguments (λ all. c.term_asked.result ≡ option_map term_of (taking_by (answers_in c.args.policies.now) (drop 1 all.items))) c.in-Ok.is
    (c.term_asked.ensures.asked
    ∙ ap (λ (words : List (String Global)). option_map term_of (taking_by (answers_in c.args.policies.now) words)) (c.words_of.ensures ∙ ap (λ (words : List (String Global)). drop 1 words) c.as_slice.ensures.value))
