use Rattle.std.proofs.Common.{List, ◌∙◌, ◌==◌, ap, eqb-true, inr, length, refl, sym}
use Rattle.wan_edge.specs.Frames.{Answer}
use Rattle.controller_run.proofs.Works.{none-told}
use Rattle.controller_run.proofs.settling.settle_late.Goals as goal

pub returns-then-is_empty-clause-settled : goal.returns-then-is_empty-clause-settled
returns-then-is_empty-clause-settled g c =
    let answers = c.args.heard.answers in
    let empty = eqb-true (length answers) 0 (ap (λ (us : List Answer). length us == 0) (sym c.answers.ensures.answers) ∙ sym c.is_empty.ensures ∙ c.if-is_empty.true) in
    inr (refl, none-told answers empty, refl)
