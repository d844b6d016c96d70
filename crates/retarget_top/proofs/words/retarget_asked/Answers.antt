use Rattle.std.proofs.Common.{◌≡◌, List, String, Global, drop, map, string_bytes, option_map, ap, ◌∙◌}
use Rattle.lists.proofs.Results.{if_ok}
use Rattle.retarget_top.specs.Words.{asked, retarget_in}
use Rattle.retarget_top.proofs.words.retarget_asked.Goals as goal

pub returns-in-Ok-clause-asked : goal.returns-in-Ok-clause-asked
returns-in-Ok-clause-asked c =
    if_ok c.args.arguments.now c.in-Ok.arguments (λ all. option_map asked c.retarget_of.result ≡ retarget_in (map string_bytes (drop 1 all.items))) c.in-Ok.is
    (c.retarget_of.ensures.asked
    ∙ ap (λ (words : List (String Global)). retarget_in (map string_bytes words)) (c.words_of.ensures ∙ ap (λ (words : List (String Global)). drop 1 words) c.as_slice.ensures.value))
