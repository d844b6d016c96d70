use Rattle.std.proofs.Common.{List, String, Global, ap, ◌∙◌}
use Rattle.std.specs.List.{remove}
use Rattle.takeover_top.proofs.TermPlaces.{removed-two}
use Rattle.takeover_top.proofs.term_words.without_pair.Goals as goal

pub returns : goal.returns
returns c =
    c.remove-value.ensures.items ∙ ap (λ (words : List (String Global)). remove words c.args.place) c.remove-name.ensures.items
    ∙ removed-two c.args.arguments.items c.args.place c.remove-name.result c.requires
