use Rattle.std.proofs.Common.{◌∙◌, ◌++◌, map, length, ap, arith}
use Rattle.rollout_rules.specs.declared.op.Entry.TheVariants.{Begin}
use Rattle.order_policy.specs.Answers.{rank_by}
use Rattle.rollout_laws.proofs.Rounds.{release_begins_next}
use Rattle.update_scheduler.specs.Benches.{Begun}
use Rattle.update_scheduler.specs.Tried.{released_by}
use Rattle.update_scheduler.proofs.Batches.{begun-few, begins-all}
use Rattle.update_scheduler.proofs.turns.begin_released.Goals as goal

pub add_begins-requires : goal.add_begins-requires
add_begins-requires g c =
    let now = c.args.graph.now in
    omega (arith, ap length (c.begun.ensures ∙ ap (λ (b : Begun). b.begun) c.release.ensures.begun), begun-few now.rollout.problem now.rollout.plan (rank_by c.args.policy.now.answers) now.history, c.requires.room)

pub returns-clause-batch : goal.returns-clause-batch
returns-clause-batch g c =
    let now = c.args.graph.now in
    let policy = rank_by c.args.policy.now.answers in
    c.add_begins.ensures.batch
    ∙ ap (λ ops. c.args.batch.now.items ++ map (λ op. Begin op) ops) (c.begun.ensures ∙ ap (λ (b : Begun). b.begun) c.release.ensures.begun)
    ∙ ap (λ es. c.args.batch.now.items ++ es) (begins-all now.history (released_by now policy) (release_begins_next now.rollout.problem now.rollout.plan policy now.history))
