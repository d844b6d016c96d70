use Rattle.order_policy.specs.Answers.{rank_by}
use Rattle.order_policy.proofs.Finding.{found-each}
use Rattle.takeover_top.proofs.taking_words.policy_named.Goals as goal

pub returns : goal.returns
returns g c = found-each (λ policy. rank_by policy.answers) c.args.name.now (λ policy. policy.now) c.find.result c.args.policies.now c.find.ensures
