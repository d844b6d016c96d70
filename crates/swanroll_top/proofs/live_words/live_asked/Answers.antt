use Rattle.std.proofs.Common.{◌≡◌, List, String, Global, drop, map, string_bytes, ap, ◌∙◌}
use Rattle.lists.proofs.Results.{if_ok}
use Rattle.swanroll_top.specs.LiveWords.{live_in}
use Rattle.swanroll_top.proofs.live_words.live_asked.Goals as goal

pub returns-in-Ok : goal.returns-in-Ok
returns-in-Ok c =
    if_ok c.args.arguments.now c.in-Ok.arguments (λ all. c.live_of.result ≡ live_in (map string_bytes (drop 1 all.items))) c.in-Ok.is
    (c.live_of.ensures
    ∙ ap (λ (words : List (String Global)). live_in (map string_bytes words)) (c.words_of.ensures ∙ ap (λ (words : List (String Global)). drop 1 words) c.as_slice.ensures.value))
