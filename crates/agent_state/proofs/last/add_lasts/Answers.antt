use Rattle.std.proofs.Common.{rules}
use Rattle.agent_state.proofs.Lasts.{adds-none, lasts-all, lasts-more}
use Rattle.agent_state.proofs.last.add_lasts.Goals as goal

pub loop-entry-init : goal.loop-entry-init
loop-entry-init c = adds-none c.args.bytes.now.items

pub loop-entry-preserved : goal.loop-entry-preserved
loop-entry-preserved c =
    lasts-more c.args.agent.now c.loop-entry.place c.args.bytes.now.items c.loop-entry.bytes.items c.add_last.new.bytes.items c.in-Some.entry.0 c.in-Some.entry.1 (search rules) c.in_ok-add_last.ensures.bytes c.add_last.ensures.fit c.loop-entry.invariant

pub returns : goal.returns
returns c = lasts-all c.args.agent.now c.loop-entry.place c.args.bytes.now.items c.loop-entry.bytes.items (search rules) c.loop-entry.invariant
