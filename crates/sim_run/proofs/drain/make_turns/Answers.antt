use Rattle.std.proofs.Common.{sym, ◌∙◌}
use Rattle.order_policy.specs.Answers.{rank_by}
use Rattle.sim_run.proofs.Draining.{ends-finished, turns-on}
use Rattle.sim_run.proofs.drain.make_turns.Goals as goal

pub is_finished-requires : goal.is_finished-requires
is_finished-requires g c = c.loop-made.invariant.live ∙ c.requires

pub turn-requires : goal.turn-requires
turn-requires g c = c.loop-made.invariant.live ∙ c.requires

pub returns-then-is_finished-clause-state : goal.returns-then-is_finished-clause-state
returns-then-is_finished-clause-state g c =
    (ends-finished (rank_by c.args.policy.now.answers) c.args.most c.args.rehearsal.now c.loop-made.made c.loop-made.rehearsal c.loop-made.invariant (sym c.is_finished.ensures ∙ c.if-is_finished.true)).state

pub returns-then-is_finished-clause-turns : goal.returns-then-is_finished-clause-turns
returns-then-is_finished-clause-turns g c =
    (ends-finished (rank_by c.args.policy.now.answers) c.args.most c.args.rehearsal.now c.loop-made.made c.loop-made.rehearsal c.loop-made.invariant (sym c.is_finished.ensures ∙ c.if-is_finished.true)).turns

pub loop-made-preserved : goal.loop-made-preserved
loop-made-preserved g c =
    turns-on (rank_by c.args.policy.now.answers) c.args.most c.args.rehearsal.now c.loop-made.made c.loop-made.rehearsal c.loop-made.invariant c.loop-made-test.true
    (sym c.is_finished.ensures ∙ c.if-is_finished.false) c.turn.new.rehearsal c.in_ok-turn.ensures
