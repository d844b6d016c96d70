use Rattle.std.proofs.Common.{[], sym, ap, ◌∙◌, subst}
use Rattle.std.specs.Prelude.{IfOk}
use Rattle.rollout_rules.specs.History.{from_nothing}
use Rattle.rollout_rules.specs.Wan.{Rollout}
use Rattle.dependency_graph.specs.Graph.{Followed}
use Rattle.intent_journal.specs.Verdicts.{verdict}
use Rattle.sim_run.specs.Booked.{IsOpened, Opens, own_digest}
use Rattle.sim_run.proofs.booked.opened_for.Goals as goal

pub open_on-requires : goal.open_on-requires
open_on-requires c =
    let is = c.in-Ok.ensures.ok in
    record {
      empty = ap (λ (g : Followed). g.history) is ∙ ap (λ (g : Followed). from_nothing g.rollout.problem []) (sym is);
      opens = subst (λ (g : Followed). Opens (verdict g.rollout own_digest c.args.disk.timeline.medium.bytes)) (sym is) c.requires;
    }

pub returns-in-Ok : goal.returns-in-Ok
returns-in-Ok c =
    subst (λ (r : Rollout). IfOk c.open_on.result (IsOpened r c.args.disk.timeline.medium.bytes)) (ap (λ (g : Followed). g.rollout) c.in-Ok.ensures.ok) c.open_on.ensures
