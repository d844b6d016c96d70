use Rattle.std.proofs.Common.{Option, unwrap_or, ap, ◌∙◌}
use Rattle.plan_choose.specs.Choice.{Choice}
use Rattle.fewest_plan.specs.Fewest.{room_beside}
use Rattle.fewest_plan.proofs.Chosen.{beside-is}
use Rattle.fewest_plan.proofs.choosing.beside.Goals as goal

pub returns-in-Some : goal.returns-in-Some
returns-in-Some c =
    let steps = ap (λ (x : Choice). x.rate_steps) c.chosen.view_is in
    beside-is c.args.problem.now c.args.chosen c.slack_over.result c.room_beside-room.result c.in_ok-found.found c.in-Some.better
    c.slack_over.ensures (c.room_beside-room.ensures.value ∙ ap (room_beside c.slack_over.result) steps) c.in_ok-found.ensures (ap (λ (o : Option Choice). unwrap_or o c.args.chosen) c.in-Some.is)

pub returns-in-None : goal.returns-in-None
returns-in-None c =
    let steps = ap (λ (x : Choice). x.rate_steps) c.chosen.view_is in
    beside-is c.args.problem.now c.args.chosen c.slack_over.result c.room_beside-room.result c.in_ok-found.found c.args.chosen
    c.slack_over.ensures (c.room_beside-room.ensures.value ∙ ap (room_beside c.slack_over.result) steps) c.in_ok-found.ensures (ap (λ (o : Option Choice). unwrap_or o c.args.chosen) c.in-None.is)
