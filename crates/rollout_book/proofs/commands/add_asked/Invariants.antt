use Rattle.std.proofs.Common.{◌≡◌, ◌++◌, drop}
use Rattle.rollout_book.specs.Commands.{asked}
use Rattle.rollout_book.proofs.commands.add_asked.Given as goal

-- what was added, with what is left to add, is all
abbrev pub invariant-loop-op : goal.invariant-loop-op
invariant-loop-op l = l.out ++ asked l.graph.rollout l.switches (drop l.op-index l.ops) ≡ l.initial.out ++ asked l.graph.rollout l.switches l.ops
