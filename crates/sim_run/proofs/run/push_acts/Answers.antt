use Rattle.std.proofs.Common.{◌≡◌, ◌∙◌, get_or, rules}
use Rattle.rollout_rules.specs.declared.event.Act.TheVariants as act
use Rattle.order_policy.specs.Answers.{rank_by}
use Rattle.sim_run.proofs.Going.{IsGoing, goes_on}
use Rattle.sim_run.proofs.run.push_acts.Goals as goal

pub act-requires : goal.act-requires
act-requires g c = c.loop-number.invariant.live ∙ c.requires

pub loop-number-preserved : goal.loop-number-preserved
loop-number-preserved g c =
    let k = c.loop-number.number in
    let policy = rank_by c.args.policy.now.answers in
    let a = get_or c.args.script.now k act.Round in
    let at : get_or c.args.script.now k a ≡ a = search rules in
    let was : IsGoing policy c.args.rehearsal.now c.args.text.now c.args.script.now k c.loop-number.rehearsal c.loop-number.text = record {
      rollout = c.loop-number.invariant.rollout;
      live = c.loop-number.invariant.live;
      state = c.loop-number.invariant.state;
      text = c.loop-number.invariant.text;
    } in
    let on = goes_on policy c.args.rehearsal.now c.args.text.now c.args.script.now k c.loop-number.rehearsal c.loop-number.text was c.loop-number-test.true
    a at c.in_ok-line.line c.in_ok-line.ensures.line c.act.new.self c.in_ok-line.ensures.state c.push_act_line.new.text c.in_ok-push_act_line.ensures in
    record { rollout = on.rollout; live = on.live; state = on.state; text = on.text }
