-- Where nothing flies, each switch holds what is settled.
use Rattle.std.proofs.Common.{◌≡◌, ℕ, ◌+◌, ◌<◌, ap, ◌∙◌, arith}
use Rattle.std.proofs.lemmas.Bool.{eqb-false}
use Rattle.rollout_rules.specs.Wan.{Problem, Plan}
use Rattle.rollout_rules.specs.Items.{item_at, item_count}
use Rattle.rollout_rules.specs.Operations.{content_after}
use Rattle.rollout_rules.specs.History.{begun, settled}
use Rattle.rollout_rules.specs.World.{World, held_of, now}
use Rattle.rollout_laws.specs.SafeWorlds.{IsSafeWorld}
use Rattle.rollout_laws.specs.Waiting.{NothingFlies}
use Rattle.rollout_laws.proofs.Histories.{is_counted}

module _ (p : Problem) (plan : Plan) (w : World) (safe : IsSafeWorld p plan w) (idle : NothingFlies p w.durable) (n : ℕ) (lt : n < item_count p) where
  applied-settled : now w n ≡ settled w.durable n
  applied-settled =
      let between = safe.held n lt in
      let counted = is_counted p plan w.durable safe.durable n in
      omega (arith, between.settled, between.begun, counted.settled_begun, counted.one_flies, eqb-false (begun w.durable n) (settled w.durable n + 1) (idle n lt))

  pub held-settled : (held_of w n).content ≡ content_after p plan (item_at p n) (settled w.durable n)
  held-settled = (safe.held n lt).content ∙ ap (content_after p plan (item_at p n)) applied-settled
