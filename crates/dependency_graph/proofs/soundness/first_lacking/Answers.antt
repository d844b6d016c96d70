use Rattle.std.proofs.Common.{◌∙◌, sym, ap}
use Rattle.rollout_rules.specs.Wan.{Rollout}
use Rattle.rollout_rules.specs.Items.{item_at}
use Rattle.dependency_graph.proofs.Standings.{is_item-read}
use Rattle.dependency_graph.proofs.soundness.first_lacking.Goals as goal

pub lacking_of-requires-clause-what : goal.lacking_of-requires-clause-what
lacking_of-requires-clause-what c = is_item-read c.args.plan.now c.args.progress.now.rollout c.args.item c.item-what.result c.requires.own c.requires.item c.item-what.ensures

pub lacking_of-requires-clause-is : goal.lacking_of-requires-clause-is
lacking_of-requires-clause-is c = c.item-what.ensures ∙ ap (λ (r : Rollout). item_at r.problem c.args.item) (sym c.requires.own)
