use Rattle.std.proofs.Common.{◌≡◌, Some, None, sym, ap, subst, ◌∙◌}
use Rattle.lp_proof.specs.Least.{by_first, first_overloaded, IsAnswered}
use Rattle.lp_proof.proofs.Built.{found-overloaded}
use Rattle.lp_proof.proofs.proving.by_link.Goals as goal

pub returns-in-Some-clause-value : goal.returns-in-Some-clause-value
returns-in-Some-clause-value c =
    let p = c.args.problem.now in
    let found : first_overloaded p ≡ Some c.in-Some.link = sym c.first_overloaded.ensures.value ∙ c.in-Some.is in
    ap (by_first p) found

pub returns-in-Some-clause-worth : goal.returns-in-Some-clause-worth
returns-in-Some-clause-worth c =
    let p = c.args.problem.now in
    found-overloaded p c.in-Some.link (sym c.first_overloaded.ensures.value ∙ c.in-Some.is)

pub by_frame-requires-clause-carried : goal.by_frame-requires-clause-carried
by_frame-requires-clause-carried c = sym c.first_overloaded.ensures.value ∙ c.in-None.is

pub returns-in-None-clause-value : goal.returns-in-None-clause-value
returns-in-None-clause-value c =
    let p = c.args.problem.now in
    let none : first_overloaded p ≡ None = sym c.first_overloaded.ensures.value ∙ c.in-None.is in
    subst (IsAnswered c.by_frame.result) (sym (ap (by_first p) none)) c.by_frame.ensures.value
