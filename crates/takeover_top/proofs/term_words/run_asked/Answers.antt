use Rattle.std.proofs.Common.{◌≡◌, List, String, drop, ap, ◌∙◌}
use Rattle.std.specs.declared.alloc.Global.{Global}
use Rattle.lists.proofs.Results.{if_ok}
use Rattle.takeover_top.specs.TermWords.{run_term_by}
use Rattle.takeover_top.proofs.term_words.run_asked.Goals as goal

pub returns-in-Ok : goal.returns-in-Ok
returns-in-Ok c =
    if_ok c.args.arguments.now c.in-Ok.arguments (λ all. c.run_term_of.result ≡ run_term_by (drop 1 all.items)) c.in-Ok.is
    (c.run_term_of.ensures ∙ ap run_term_by (c.words_of.ensures ∙ ap (λ (words : List (String Global)). drop 1 words) c.as_slice.ensures.value))
