use Rattle.order_policy.specs.Answers.{rank_by}
use Rattle.update_scheduler.proofs.Still.{nothing-held, held-nothing}
use Rattle.update_scheduler.proofs.releases.release.Goals as goal

pub returns-clause-held : goal.returns-clause-held
returns-clause-held g c = nothing-held c.args.graph.now (rank_by c.args.policy.now.answers) c.release_into.new.begun.items c.release_into.ensures.begun

pub returns-clause-none : goal.returns-clause-none
returns-clause-none g c = held-nothing c.args.graph.now (rank_by c.args.policy.now.answers) c.release_into.new.begun.items c.release_into.ensures.begun
