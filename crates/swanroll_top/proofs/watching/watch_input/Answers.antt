use Rattle.std.proofs.Common.{List, ℕ, subst, sym}
use Rattle.text_commands.specs.Answers.{rollout_in}
use Rattle.swanroll_top.specs.Watches.{Wrote}
use Rattle.swanroll_top.proofs.LookingOn.{wrote-more, wrote-none}
use Rattle.swanroll_top.proofs.watching.watch_input.Goals as goal

pub loop-init : goal.loop-init
loop-init g c =
    subst (λ (last : List ℕ). Wrote g.W.Source.told c.args.asked.migration (rollout_in c.args.input.now) (g.K.Sink.told c.args.sink.now).written last (g.K.Sink.told c.args.sink.now).written) (sym c.new-last.ensures)
    (wrote-none g.W.Source.told c.args.asked.migration (rollout_in c.args.input.now) (g.K.Sink.told c.args.sink.now).written)

pub loop-preserved : goal.loop-preserved
loop-preserved g c =
    wrote-more g.W.Source.told c.args.asked.migration (rollout_in c.args.input.now) (g.K.Sink.told c.args.sink.now).written (g.K.Sink.told c.loop.sink).written (g.K.Sink.told c.look_once.new.sink).written c.loop.last c.loop.invariant
    c.in-Goes.text c.in-Goes.ensures

pub returns-in-Ends : goal.returns-in-Ends
returns-in-Ends g c = record { last = c.loop.last; until = (g.K.Sink.told c.loop.sink).written; wrote = c.loop.invariant; ends = c.in-Ends.ensures }
