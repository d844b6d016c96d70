use Rattle.rollout_rules.proofs.Numbers.{is_item-item_at}
use Rattle.rollout_book.proofs.commands.command_of.Goals as goal

pub command_to-requires-clause-item : goal.command_to-requires-clause-item
command_to-requires-clause-item c = rw (c.plan.ensures, c.requires.item) (is_item-item_at c.args.graph.now.rollout.problem c.args.op.item c.requires.flying.item)
