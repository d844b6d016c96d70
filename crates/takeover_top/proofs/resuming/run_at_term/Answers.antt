use Rattle.std.proofs.Common.{◌≡◌, Some, drop}
use Rattle.lists.proofs.Results.{of_ok}
use Rattle.takeover_top.specs.TermWords.{run_term_by}
use Rattle.takeover_top.proofs.Starting.{read-at, unread-at}
use Rattle.takeover_top.proofs.TermOnce.{without-one}
use Rattle.takeover_top.proofs.resuming.run_at_term.Goals as goal

pub returns-in-Ok-clause-runs : goal.returns-in-Ok-clause-runs
returns-in-Ok-clause-runs g c =
    let term = of_ok c.args.arguments c.in-Ok.arguments (λ all. run_term_by (drop 1 all.items) ≡ Some (g.F.OneTerm.of_term c.args.fleet.now)) c.in-Ok.is c.requires in
    read-at _ _ _ _ _ c.in-Ok.arguments c.without_term-words.result _ _ _ c.in-Ok.is term
    (without-one c.in-Ok.arguments.items c.without_term-words.result.items (g.F.OneTerm.of_term c.args.fleet.now) term c.without_term-words.ensures) c.start_logged.ensures.starts

pub returns-in-Err-clause-runs : goal.returns-in-Err-clause-runs
returns-in-Err-clause-runs g c = unread-at _ _ _ _ _ c.in-Err.why _ _ _ c.in-Err.is c.start_logged-in-Err.ensures.starts
