use Rattle.std.proofs.Common.{sym, ap, ◌∙◌}
use Rattle.order_policy.specs.Named.{answers_in}
use Rattle.text_commands.specs.Words.{text_kind_named}
use Rattle.text_commands.proofs.Pairs.{first-text}
use Rattle.text_commands.proofs.words.text_command_of.Goals as goal

pub returns-in_ok-text_kind_named-in-len1-up : goal.returns-in_ok-text_kind_named-in-len1-up
returns-in_ok-text_kind_named-in-len1-up g c =
    c.text_command_with.ensures
    ∙ sym (first-text (answers_in c.args.policies.now) c.args.words.now c.word-item.result _ c.in_ok-text_kind_named-in-len1-up.field-0 c.in-len1-up.len_at_least c.word-item.is
    (sym (c.in_ok-text_kind_named-in-len1-up.ensures ∙ ap text_kind_named c.as_str.ensures.value)))
