use Rattle.std.proofs.Common.{◌≡◌, ap, arith}
use Rattle.dependency_graph.specs.Wakes.{Awake}
use Rattle.dependency_graph.proofs.Waking.{rouses-both, freed-more}
use Rattle.dependency_graph.proofs.wakes.Wakes.free_all.Goals as goal

pub loop-resource-preserved : goal.loop-resource-preserved
loop-resource-preserved c = (
  rouses-both c.args.self.now c.loop-resource.self c.free.new.self c.loop-resource.invariant.0 c.free.ensures.rouses,
  freed-more c.loop-resource.self c.free.new.self c.loop-resource.resource c.free.ensures.rouses c.loop-resource.invariant.1 c.free.ensures.freed,
)

pub returns-clause-freed : goal.returns-clause-freed
returns-clause-freed c q lt =
    let same : c.self.inside.kept.resources ≡ c.args.self.now.resources = ap (λ (v : Awake). v.resources) c.self.view_is in
    c.loop-resource.invariant.1 q (omega (arith, lt, c.loop-resource-test.false, c.resources-resource-end.ensures, same))
