use Rattle.std.proofs.Common.{◌≡◌, List, String, drop, ap, ◌∙◌}
use Rattle.std.specs.declared.alloc.Global.{Global}
use Rattle.lists.proofs.Results.{if_ok}
use Rattle.order_policy.specs.Named.{answers_in}
use Rattle.swanroll_top.specs.KeptAgents.{guests_in}
use Rattle.swanroll_top.specs.Words.{asked_by}
use Rattle.swanroll_top.proofs.kept_agent.guests_asked.Goals as goal

pub returns-in-Ok : goal.returns-in-Ok
returns-in-Ok g c =
    if_ok c.args.arguments.now c.in-Ok.arguments (λ all. c.guests_of.result ≡ guests_in (asked_by (answers_in c.args.policies.now) (drop 1 all.items))) c.in-Ok.is
    (c.guests_of.ensures ∙ ap guests_in (c.command_of.ensures.asked ∙ ap (asked_by (answers_in c.args.policies.now)) (c.words_of.ensures ∙ ap (λ (words : List (String Global)). drop 1 words) c.as_slice.ensures.value)))
