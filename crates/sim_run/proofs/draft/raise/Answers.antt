use Rattle.std.proofs.Common.{sym, ◌∙◌}
use Rattle.std.proofs.lemmas.Result.{on_ok_weaker}
use Rattle.order_policy.specs.Answers.{rank_by}
use Rattle.sim_run.proofs.Drafting.{starts, stays-up}
use Rattle.sim_run.proofs.draft.raise.Goals as goal

pub returns-then-is_up : goal.returns-then-is_up
returns-then-is_up g c = stays-up (rank_by c.args.policy.now.answers) c.args.rehearsal.now c.args.script.now (sym c.is_up.ensures ∙ c.if-is_up.true)

pub returns : goal.returns
returns g c =
    on_ok_weaker c.join.result
    (starts (rank_by c.args.policy.now.answers) c.args.rehearsal.now c.args.script.now (sym c.is_up.ensures ∙ c.if-is_up.false) c.join.new.rehearsal c.join.new.script) c.join.ensures
