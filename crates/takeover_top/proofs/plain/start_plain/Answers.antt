use Rattle.std.proofs.Common.{drop}
use Rattle.lists.proofs.Results.{of_ok}
use Rattle.takeover_top.specs.TermWords.{IsPlain, run_term_by}
use Rattle.takeover_top.proofs.Starting.{read-plain, unread-plain}
use Rattle.takeover_top.proofs.plain.start_plain.Goals as goal

pub plain_words-words-requires : goal.plain_words-words-requires
plain_words-words-requires g c = of_ok c.args.arguments c.in-Ok.arguments (λ all. IsPlain (run_term_by (drop 1 all.items))) c.in-Ok.is c.requires

pub returns-in-Ok-clause-runs : goal.returns-in-Ok-clause-runs
returns-in-Ok-clause-runs g c = read-plain _ (λ f. 0) _ _ _ c.in-Ok.arguments c.plain_words-words.result _ _ _ c.in-Ok.is c.plain_words-words.ensures c.start_logged.ensures.starts

pub returns-in-Err-clause-runs : goal.returns-in-Err-clause-runs
returns-in-Err-clause-runs g c = unread-plain _ (λ f. 0) _ _ _ c.in-Err.why _ _ _ c.in-Err.is c.start_logged-in-Err.ensures.starts
