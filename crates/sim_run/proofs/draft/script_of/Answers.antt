use Rattle.std.proofs.Common.{refl, ◌∙◌}
use Rattle.order_policy.specs.Answers.{rank_by}
use Rattle.sim_run.proofs.Drafting.{drawn-rollout, drawn-script, sketch-lives}
use Rattle.sim_run.proofs.draft.script_of.Goals as goal

pub draw_events-requires-clause-none : goal.draw_events-requires-clause-none
draw_events-requires-clause-none g c = c.new-script.ensures

pub drain_script-requires : goal.drain_script-requires
drain_script-requires g c =
    sketch-lives (rank_by c.args.policy.now.answers) c.args.rehearsal.now c.new-draws.result c.args.shape.now.events c.draw_events.new.rehearsal c.draw_events.new.script c.draw_events.new.draws c.in_ok-draw_events.ensures
    ∙ c.requires.live

pub returns-clause-rollout : goal.returns-clause-rollout
returns-clause-rollout g c =
    drawn-rollout (rank_by c.args.policy.now.answers) c.args.rehearsal.now c.new-draws.result c.args.shape.now.events
    c.draw_events.new.rehearsal c.draw_events.new.script c.draw_events.new.draws c.in_ok-draw_events.ensures
    c.drain_script.new.rehearsal c.drain_script.new.script c.in_ok-drain_script.ensures

pub returns-clause-script : goal.returns-clause-script
returns-clause-script g c =
    drawn-script (rank_by c.args.policy.now.answers) c.args.rehearsal.now c.new-draws.result c.args.shape.now.events
    c.draw_events.new.rehearsal c.draw_events.new.script c.draw_events.new.draws c.in_ok-draw_events.ensures
    c.drain_script.new.rehearsal c.drain_script.new.script c.in_ok-drain_script.ensures
    c.args.shape.now c.new-draws.ensures refl
