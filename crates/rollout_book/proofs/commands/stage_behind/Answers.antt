use Rattle.std.proofs.Common.{◌≡◌, ap, ◌∙◌, arith}
use Rattle.rollout_rules.specs.Items.{content, item_at}
use Rattle.rollout_rules.specs.Operations.{stand_after}
use Rattle.rollout_rules.specs.History.{settled}
use Rattle.rollout_rules.specs.Wan.{Rollout, last_stage, next_stage}
use Rattle.rollout_rules.proofs.Numbers.{number_of-item_at}
use Rattle.rollout_laws.proofs.Standing.{stand-most}
use Rattle.rollout_book.proofs.Sendings.{brings}
use Rattle.rollout_book.proofs.commands.stage_behind.Goals as goal

pub next_stage-requires : goal.next_stage-requires
next_stage-requires c =
    let r = c.args.graph.now.rollout in
    let h = c.args.graph.now.history in
    let n = c.args.op.item in
    let i = item_at r.problem n in
    omega (
      arith,
      c.stands.ensures,
      stand-most r.problem r.plan i (settled h n),
      ap (λ m. stand_after r.problem r.plan i (settled h m)) (number_of-item_at r.problem n c.requires.flying.item),
      ap (λ (now : Rollout). last_stage now.plan) c.plan.ensures,
    )

pub returns-clause-brings : goal.returns-clause-brings
returns-clause-brings c =
    let r = c.args.graph.now.rollout in
    let h = c.args.graph.now.history in
    let n = c.args.op.item in
    let i = item_at r.problem n in
    let at : c.stands.result ≡ stand_after r.problem r.plan i (settled h n) = c.stands.ensures ∙ ap (λ m. stand_after r.problem r.plan i (settled h m)) (number_of-item_at r.problem n c.requires.flying.item) in
    ap (content r.problem r.plan i) (c.next_stage.ensures.value ∙ ap (λ (now : Rollout). next_stage now.plan c.stands.result) c.plan.ensures ∙ ap (next_stage r.plan) at)
    ∙ brings r.problem r.plan h c.args.op c.requires.legal c.requires.flying
