use Rattle.std.proofs.Common.{refl, ap, ◌∙◌}
use Rattle.rollout_rules.specs.Valid.{is_valid_plan}
use Rattle.lp_proof.proofs.Built.{direct-valid}
use Rattle.lp_proof.proofs.proving.by_frame.Goals as goal

pub returns-in-Ok-clause-worth : goal.returns-in-Ok-clause-worth
returns-in-Ok-clause-worth c =
    let p = c.args.problem.now in
    (refl, ap (is_valid_plan p) c.in-Ok.ensures ∙ direct-valid p c.requires.network c.requires.free c.requires.carried)
