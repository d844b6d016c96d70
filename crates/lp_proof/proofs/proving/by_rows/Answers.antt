use Rattle.std.proofs.Common.{◌-◌, sym, subst}
use Rattle.fraction_lp.specs.Dictionary.{Program, end_of, IsEndUnlessMemory}
use Rattle.fraction_lp.specs.Program.{IsJust}
use Rattle.step_lp.specs.Program.{move_program}
use Rattle.lp_proof.specs.Least.{IsAnswered}
use Rattle.lp_proof.proofs.Answered.{program-ends, tried, answered-on}
use Rattle.lp_proof.proofs.proving.by_rows.Goals as goal

pub by_end-requires-clause-tried : goal.by_end-requires-clause-tried
by_end-requires-clause-tried c = tried c.args.problem.now c.args.q c.requires.built

pub by_end-requires-clause-just : goal.by_end-requires-clause-just
by_end-requires-clause-just c = subst (λ (r : Program). IsJust r c.solve-end.result) c.requires.rows c.solve-end.ensures.just

pub returns-clause-value : goal.returns-clause-value
returns-clause-value c =
    let p = c.args.problem.now in
    let q = c.args.q in
    subst (IsAnswered c.by_end.result) (sym (program-ends p q c.requires.built))
    (answered-on p q c.by_end.result c.solve-end.result (end_of (move_program p (q - 1)))
    (subst (λ (r : Program). IsEndUnlessMemory c.solve-end.result (end_of r)) c.requires.rows c.solve-end.ensures.end)
    c.by_end.ensures.value)
