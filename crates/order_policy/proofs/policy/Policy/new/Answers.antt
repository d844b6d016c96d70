use Rattle.std.proofs.Common.{arith}
use Rattle.order_policy.specs.Answers.{last_rank}
use Rattle.rollout_rules.specs.Release.{held_back}
use Rattle.order_policy.proofs.Ranks.{wider, stays_below}
use Rattle.order_policy.proofs.policy.Policy.new.Goals as goal

pub holding-requires-clause-answers : goal.holding-requires-clause-answers
holding-requires-clause-answers g c = wider last_rank held_back (omega arith) c.requires.answers

pub returns-clause-unheld : goal.returns-clause-unheld
returns-clause-unheld g c view = stays_below last_rank held_back c.requires.answers c.holding.result.answers c.holding.ensures view
