use Rattle.std.proofs.Common.{◌<◌, ◌∙◌, inl, sym, ap, ap₂, subst}
use Rattle.rollout_rules.specs.Wan.{Rollout}
use Rattle.rollout_rules.specs.Items.{item_count}
use Rattle.dependency_graph.specs.Graph.{count_of}
use Rattle.dependency_graph.specs.declared.start_fault.StartFault.TheVariants as fault
use Rattle.dependency_graph.proofs.FirstFaults.{behind-exist}
use Rattle.dependency_graph.proofs.soundness.first_fault.Goals as goal

pub settled-requires : goal.settled-requires
settled-requires c = subst (λ (r : Rollout). c.in-Some.item < item_count r.problem) c.requires c.in-Some.ensures.there

pub operations-requires : goal.operations-requires
operations-requires c = subst (λ (r : Rollout). c.in-Some.item < item_count r.problem) c.requires c.in-Some.ensures.there

pub returns-in-Some : goal.returns-in-Some
returns-in-Some c = inl (record {
  number = c.in-Some.item;
  is = ap₂ (fault.Above c.in-Some.item) c.settled.ensures (c.operations.ensures ∙ ap (λ (r : Rollout). count_of r c.in-Some.item) (sym c.requires));
  first = c.in-Some.ensures;
})

pub returns-in-None : goal.returns-in-None
returns-in-None c = behind-exist c.args.plan.now c.args.progress.now c.first_of_places.result c.in-None.ensures c.first_of_places.ensures
