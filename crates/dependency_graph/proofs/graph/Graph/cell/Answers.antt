use Rattle.std.proofs.Common.{◌<◌, ◌≤◌, ◌∙◌, sym, ap, subst}
use Rattle.rollout_rules.specs.Wan.{last_stage}
use Rattle.rollout_rules.specs.Room as rooms
use Rattle.dependency_graph.specs.Graph.{Followed, places}
use Rattle.dependency_graph.specs.Cells.{resource_count, resource_at}
use Rattle.dependency_graph.proofs.RoomCells.{cell-inside, cell-room}
use Rattle.dependency_graph.proofs.graph.Graph.cell.Goals as goal

pub cell-requires : goal.cell-requires
cell-requires c =
    let s = c.self.inside in
    cell-inside s.course.rollout s.cells (places s.course) c.self.invariant.graph.rooms c.args.resource c.args.stage
    (subst (λ (g : Followed). c.args.resource < resource_count g.rollout.problem) (sym c.self.view_is) c.requires.resource)
    (subst (λ (g : Followed). c.args.stage < last_stage g.rollout.plan) (sym c.self.view_is) c.requires.stage)

pub returns : goal.returns
returns c =
    let s = c.self.inside in
    c.cell.ensures
    ∙ cell-room s.course.rollout s.cells (places s.course) c.self.invariant.graph.rooms c.args.resource c.args.stage
    (subst (λ (g : Followed). c.args.resource < resource_count g.rollout.problem) (sym c.self.view_is) c.requires.resource)
    (subst (λ (g : Followed). rooms.least_stage g.rollout.problem g.rollout.plan (places g) ≤ c.args.stage) (sym c.self.view_is) c.requires.least)
    (subst (λ (g : Followed). c.args.stage < last_stage g.rollout.plan) (sym c.self.view_is) c.requires.stage)
    ∙ ap (λ (g : Followed). rooms.room g.rollout.problem g.rollout.plan (places g) c.args.stage (resource_at g.rollout.problem c.args.resource)) c.self.view_is
