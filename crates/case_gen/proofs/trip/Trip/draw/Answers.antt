use Rattle.std.proofs.Common.{rules, ◌≡◌}
use Rattle.case_gen.specs.Trips.{most_steps}
use Rattle.case_gen.proofs.Drawing.{is_trip, six_words}
use Rattle.case_gen.proofs.trip.Trip.draw.Goals as goal

pub returns-clause-value : goal.returns-clause-value
returns-clause-value c =
    let bound : c.min.result ≡ most_steps c.args.switches = search rules in
    is_trip c.args.draws.now c.draw-start.new.self c.draw-steps.new.self c.draw-first.new.draws c.draw-second.new.draws
    c.draw-start.ensures.one_word c.draw-steps.ensures.one_word c.draw-first.ensures.two_words c.draw-second.ensures.two_words
    c.args.switches _ _ _ _ _ c.draw-start.ensures.value bound c.draw-steps.ensures.value c.draw-first.ensures.value c.draw-second.ensures.value

pub returns-clause-six_words : goal.returns-clause-six_words
returns-clause-six_words c =
    six_words c.args.draws.now c.draw-start.new.self c.draw-steps.new.self c.draw-first.new.draws c.draw-second.new.draws
    c.draw-start.ensures.one_word c.draw-steps.ensures.one_word c.draw-first.ensures.two_words c.draw-second.ensures.two_words
