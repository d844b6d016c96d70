use Rattle.std.proofs.Common.{◌≡◌, ap, ◌∙◌}
use Rattle.std.proofs.lemmas.Result.{IfOk-weaker, on_ok_weaker}
use Rattle.dependency_graph.specs.Graph.{Followed, op_total}
use Rattle.order_policy.specs.Answers.{rank_by}
use Rattle.sim_run.specs.Trials.{all_operations}
use Rattle.sim_run.proofs.Draining.{drained-whole, turns-whole}
use Rattle.sim_run.proofs.drain.drain.Goals as goal

pub returns-clause-state : goal.returns-clause-state
returns-clause-state g c =
    let r = c.raise.new.rehearsal in
    let all : c.from.result ≡ all_operations r.rollout.problem r.rollout.plan = c.from.ensures ∙ c.op_total-operations.ensures ∙ ap (λ (f : Followed). op_total f.rollout) c.graph.ensures.value in
    on_ok_weaker c.make_turns.result (drained-whole (rank_by c.args.policy.now.answers) c.args.rehearsal.now r c.from.result c.in_ok-raise.ensures all c.make_turns.new.rehearsal) c.make_turns.ensures.state

pub returns-clause-turns : goal.returns-clause-turns
returns-clause-turns g c =
    let r = c.raise.new.rehearsal in
    let all : c.from.result ≡ all_operations r.rollout.problem r.rollout.plan = c.from.ensures ∙ c.op_total-operations.ensures ∙ ap (λ (f : Followed). op_total f.rollout) c.graph.ensures.value in
    IfOk-weaker c.make_turns.result _ _ (turns-whole (rank_by c.args.policy.now.answers) c.args.rehearsal.now r c.from.result c.in_ok-raise.ensures all) c.make_turns.ensures.turns
