use Rattle.std.proofs.Common.{◌∙◌, length, sym}
use Rattle.std.proofs.lemmas.Bool.{eqb-true}
use Rattle.retarget_top.proofs.Aiming.{gives-same, unnamed-aim}
use Rattle.retarget_top.proofs.aims.aim_of.Goals as goal

pub returns-then-is_empty-clause-aim : goal.returns-then-is_empty-clause-aim
returns-then-is_empty-clause-aim c =
    gives-same c.toward.result _ _ (unnamed-aim c.args.problem.now c.args.input.now c.args.shed.now (eqb-true (length c.args.shed.now) 0 (sym c.is_empty.ensures ∙ c.if-is_empty.true))) c.toward.ensures.aim
