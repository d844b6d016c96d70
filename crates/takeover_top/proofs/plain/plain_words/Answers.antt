use Rattle.std.proofs.Common.{◌≡◌, List, String, drop, sym, ap, ◌∙◌}
use Rattle.std.specs.declared.alloc.Global.{Global}
use Rattle.takeover_top.specs.TermWords.{run_term_by}
use Rattle.takeover_top.proofs.TermOnce.{plain-rest, plain-same}
use Rattle.takeover_top.proofs.plain.plain_words.Goals as goal

pub returns-in-Some : goal.returns-in-Some
returns-in-Some c =
    let asked = c.run_term_of.ensures ∙ ap run_term_by (c.words_of.ensures ∙ ap (λ (words : List (String Global)). drop 1 words) c.as_slice.ensures.value) in
    plain-rest c.args.arguments.items c.without_term.result.items _ (sym asked ∙ c.in-Some.is) c.requires c.without_term.ensures

pub returns-in-None : goal.returns-in-None
returns-in-None c =
    let asked = c.run_term_of.ensures ∙ ap run_term_by (c.words_of.ensures ∙ ap (λ (words : List (String Global)). drop 1 words) c.as_slice.ensures.value) in
    plain-same c.args.arguments.items (sym asked ∙ c.in-None.is)
