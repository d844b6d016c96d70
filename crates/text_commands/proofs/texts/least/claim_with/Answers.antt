use Rattle.std.proofs.Common.{ap}
use Rattle.problem_json.specs.declared.claim.Claim.{Claim}
use Rattle.text_commands.proofs.texts.least.claim_with.Goals as goal

pub returns : goal.returns
returns c = ap (λ n. let claim : Claim = record { steps = n; proof = c.args.proof } in claim) c.one_less.ensures
