use Rattle.std.proofs.Common.{sym, ◌∙◌, arith}
use Rattle.order_policy.specs.Answers.{rank_by}
use Rattle.sim_run.proofs.Drafting.{before, ends-over, ends-spent, over-in, turns-on}
use Rattle.sim_run.proofs.draft.make_turns.Goals as goal

pub loop-made-init : goal.loop-made-init
loop-made-init g c = before (rank_by c.args.policy.now.answers) c.args.most c.args.rehearsal.now c.args.script.now

pub is_over-requires : goal.is_over-requires
is_over-requires g c = c.loop-made.invariant.live ∙ c.requires

pub turn-requires : goal.turn-requires
turn-requires g c = c.loop-made.invariant.live ∙ c.requires

pub returns-then-is_over : goal.returns-then-is_over
returns-then-is_over g c =
    ends-over (rank_by c.args.policy.now.answers) c.args.most c.args.rehearsal.now c.args.script.now c.loop-made._made c.loop-made.rehearsal c.loop-made.script c.loop-made.invariant
    (over-in c.loop-made.rehearsal c.loop-made.script c.as_slice.result.now c.as_slice.ensures ∙ sym c.is_over.ensures ∙ c.if-is_over.true)

pub loop-made-preserved : goal.loop-made-preserved
loop-made-preserved g c =
    turns-on (rank_by c.args.policy.now.answers) c.args.most c.args.rehearsal.now c.args.script.now c.loop-made._made c.loop-made.rehearsal c.loop-made.script c.loop-made.invariant c.loop-made-test.true
    (over-in c.loop-made.rehearsal c.loop-made.script c.as_slice.result.now c.as_slice.ensures ∙ sym c.is_over.ensures ∙ c.if-is_over.false)
    c.turn.new.rehearsal c.turn.new.script c.in_ok-turn.ensures

pub returns : goal.returns
returns g c =
    ends-spent (rank_by c.args.policy.now.answers) c.args.most c.args.rehearsal.now c.args.script.now c.loop-made._made c.loop-made.rehearsal c.loop-made.script c.loop-made.invariant
    (omega (arith, c.loop-made.invariant.within, c.loop-made-test.false))
