use Rattle.std.proofs.Common.{◌≡◌, List, String, Some, drop, ap, ◌∙◌}
use Rattle.std.specs.declared.alloc.Global.{Global}
use Rattle.std.specs.Option.{option_map}
use Rattle.lists.proofs.Results.{of_ok}
use Rattle.order_policy.specs.Named.{answers_in}
use Rattle.takeover_top.specs.TakingWords.{taking_by, term_of}
use Rattle.takeover_top.proofs.Starting.{read-taken, unread-taken}
use Rattle.takeover_top.proofs.top.take_over_from.Goals as goal

pub take_over_by-requires-clause-term : goal.take_over_by-requires-clause-term
take_over_by-requires-clause-term g c κs within =
    ap (λ (words : List (String Global)). option_map term_of (taking_by (answers_in c.args.policies.now) words)) (c.words_of-words.ensures ∙ ap (λ (words : List (String Global)). drop 1 words) c.as_slice.ensures.value)
    ∙ of_ok c.args.arguments c.in-Ok.arguments (λ all. option_map term_of (taking_by (answers_in c.args.policies.now) (drop 1 all.items)) ≡ Some (g.F.OneTerm.of_term c.args.fleet.now)) c.in-Ok.is c.requires

pub returns-in-Ok : goal.returns-in-Ok
returns-in-Ok g c = read-taken _ _ _ _ _ c.in-Ok.arguments _ _ _ _ c.in-Ok.is (c.words_of-words.ensures ∙ ap (λ (words : List (String Global)). drop 1 words) c.as_slice.ensures.value) c.take_over_by.ensures

pub returns-in-Err : goal.returns-in-Err
returns-in-Err g c = unread-taken _ _ _ _ _ c.in-Err.why _ _ _ _ _ _ _ _ c.in-Err.is c.from.ensures c.note.ensures.told
