use Rattle.std.proofs.Common.{◌≡◌, ◌∙◌, ◌||◌, [], nat_lt, sym, ap, arith, lt-ltb, le-ltb}
use Rattle.std.proofs.lemmas.Bool.{or_left, or_right}
use Rattle.rollout_rules.specs.Room.{least_stage, fits_at}
use Rattle.rollout_rules.proofs.Below.{all_below-from}
use Rattle.dependency_graph.specs.Ahead.{places_with}
use Rattle.dependency_graph.specs.Cells.{resource_count}
use Rattle.dependency_graph.specs.FirstFault.{has_room_at, has_room_for}
use Rattle.dependency_graph.proofs.Counts.{own-least-with}
use Rattle.dependency_graph.proofs.FirstFaults.{fails-all}
use Rattle.dependency_graph.proofs.Starts.{fits_at-numbers}
use Rattle.dependency_graph.proofs.Walks.{all_below-more}
use Rattle.dependency_graph.proofs.soundness.first_without_room.Goals as goal

pub loop-stage-init : goal.loop-stage-init
loop-stage-init c =
    let r = c.args.plan.now in
    let places = places_with r c.args.progress.now [] in
    let least = least_stage r.problem r.plan places in
    let low : c.least_stand-stage.result ≡ least = c.least_stand-stage.ensures.value ∙ own-least-with r c.args.progress.now in
    all_below-from c.least_stand-stage.result (has_room_at r.problem r.plan places) (λ s before. or_left (nat_lt s least) (fits_at r.problem r.plan places s) (lt-ltb s least (omega (arith, before, low))))

pub returns-in-Some : goal.returns-in-Some
returns-in-Some c =
    let r = c.args.plan.now in
    let places = places_with r c.args.progress.now [] in
    let least = least_stage r.problem r.plan places in
    let low : c.least_stand-stage.result ≡ least = c.least_stand-stage.ensures.value ∙ own-least-with r c.args.progress.now in
    let s = c.loop-stage.stage in
    let near = le-ltb s least (omega (arith, low, c.loop-stage.auto.stage)) in
    let full = sym (fits_at-numbers r.problem r.plan places s) ∙ fails-all (resource_count r.problem) c.in-Some.resource (has_room_for r.problem r.plan places s) c.in-Some.ensures in
    record {
      at = s;
      number = c.in-Some.resource;
      is = c.lack_of_room.ensures;
      stage = record { there = omega (arith, c.loop-stage-test.true, c.last_stage-stage-end.ensures.value); fails = ap (λ b. b || fits_at r.problem r.plan places s) near ∙ full; before = c.loop-stage.invariant };
      resource = c.in-Some.ensures;
    }

pub loop-stage-preserved : goal.loop-stage-preserved
loop-stage-preserved c =
    let r = c.args.plan.now in
    let places = places_with r c.args.progress.now [] in
    let s = c.loop-stage.stage in
    all_below-more (has_room_at r.problem r.plan places) s c.loop-stage.invariant (or_right (nat_lt s (least_stage r.problem r.plan places)) (fits_at r.problem r.plan places s) c.in-None.ensures)
