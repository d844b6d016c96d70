use Rattle.std.proofs.Common.{ap}
use Rattle.dependency_graph.specs.Graph.{Followed}
use Rattle.dependency_graph.proofs.graph.parts_at.Goals as goal

pub sides_of-requires : goal.sides_of-requires
sides_of-requires c = ap (λ (f : Followed). f.rollout) c.in_ok-course.ensures
