use Rattle.std.proofs.Common.{◌≡◌, ap, ◌∙◌}
use Rattle.std.proofs.lemmas.Result.{on_ok_weaker}
use Rattle.dependency_graph.specs.Graph.{Followed, op_total}
use Rattle.order_policy.specs.Answers.{rank_by}
use Rattle.sim_run.specs.Trials.{all_operations}
use Rattle.sim_run.proofs.Drafting.{drafted-live, drains}
use Rattle.sim_run.proofs.draft.drain_script.Goals as goal

pub graph-requires : goal.graph-requires
graph-requires g c = drafted-live c.args.rehearsal.now _ c.raise.new.rehearsal c.raise.new.script c.in_ok-raise.ensures ∙ c.requires

pub make_turns-requires : goal.make_turns-requires
make_turns-requires g c = drafted-live c.args.rehearsal.now _ c.raise.new.rehearsal c.raise.new.script c.in_ok-raise.ensures ∙ c.requires

pub returns : goal.returns
returns g c =
    let r = c.raise.new.rehearsal in
    let all : c.from.result ≡ all_operations r.rollout.problem r.rollout.plan = c.from.ensures ∙ c.op_total-operations.ensures ∙ ap (λ (f : Followed). op_total f.rollout) c.graph.ensures.value in
    on_ok_weaker c.make_turns.result
    (drains (rank_by c.args.policy.now.answers) c.args.rehearsal.now c.args.script.now r c.raise.new.script c.from.result c.in_ok-raise.ensures all c.make_turns.new.rehearsal c.make_turns.new.script)
    c.make_turns.ensures
