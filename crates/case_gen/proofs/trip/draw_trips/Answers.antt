use Rattle.std.proofs.Common.{rules, ◌≡◌, [], ◌∷◌, ◌++◌, ◌∙◌}
use Rattle.case_gen.proofs.Drawing.{none_yet, place_more, trip_more}
use Rattle.case_gen.proofs.trip.draw_trips.Goals as goal

pub loop-flow-init : goal.loop-flow-init
loop-flow-init c = (search rules, none_yet c.args.draws.now)

pub loop-flow-preserved : goal.loop-flow-preserved
loop-flow-preserved c =
    let pushed : c.push.new.self.items ≡ c.loop-flow.trips.items ++ c.draw.result ∷ [] = search rules in (
      pushed ∙ trip_more c.args.draws.now c.loop-flow.draws c.args.switches c.loop-flow._flow c.loop-flow.trips.items c.draw.result c.loop-flow.invariant.0 c.loop-flow.invariant.1 c.draw.ensures.value,
      place_more c.args.draws.now c.loop-flow.draws c.draw.new.draws c.loop-flow._flow c.loop-flow.invariant.1 c.draw.ensures.six_words,
    )
