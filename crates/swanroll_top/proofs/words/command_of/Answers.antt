use Rattle.std.proofs.Common.{sym, ap, ◌∙◌}
use Rattle.order_policy.specs.Named.{answers_in}
use Rattle.swanroll_top.specs.Words.{kind_named}
use Rattle.swanroll_top.proofs.FirstAsked.{first-asked}
use Rattle.swanroll_top.proofs.words.command_of.Goals as goal

pub returns-in_ok-kind_named-in-len1-up-clause-asked : goal.returns-in_ok-kind_named-in-len1-up-clause-asked
returns-in_ok-kind_named-in-len1-up-clause-asked g c =
    c.command_with.ensures.asked
    ∙ sym (first-asked (answers_in c.args.policies.now) c.args.words.now c.word-item.result _ c.in_ok-kind_named-in-len1-up.field-0 c.in-len1-up.len_at_least c.word-item.is
    (sym (c.in_ok-kind_named-in-len1-up.ensures ∙ ap kind_named c.as_str.ensures.value)))
