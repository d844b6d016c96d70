use Rattle.std.proofs.Common.{◌≡◌, true, sym, subst, ◌∙◌}
use Rattle.std.proofs.lemmas.Result.{IfOk-weaker}
use Rattle.rollout_rules.specs.Slack.{has_slack, has_table_room}
use Rattle.rollout_rules.specs.Wan.{Problem}
use Rattle.case_gen.specs.Conditions.{AreTrips}
use Rattle.case_gen.proofs.Made.{is_case, trips-AreTrips}
use Rattle.case_gen.proofs.Room.{room, slack}
use Rattle.case_gen.proofs.make.drawn_case.Goals as goal

pub fitted_ring-requires-clause-trips : goal.fitted_ring-requires-clause-trips
fitted_ring-requires-clause-trips c =
    subst (AreTrips c.args.switches) (sym (c.as_slice.ensures.value ∙ c.in_ok-trips.ensures.value)) (trips-AreTrips c.args.draws.now c.args.switches c.args.flows c.requires.least_switches c.requires.most_flows)

pub returns-clause-case : goal.returns-clause-case
returns-clause-case c =
    IfOk-weaker c.fitted_ring.result _ _
    (λ p. is_case c.args.k c.args.switches c.args.flows c.args.draws.now c.as_slice.result.now p (c.as_slice.ensures.value ∙ c.in_ok-trips.ensures.value))
    c.fitted_ring.ensures

pub returns-clause-slack : goal.returns-clause-slack
returns-clause-slack c =
    IfOk-weaker c.fitted_ring.result _ _
    (λ p is. subst (λ (q : Problem). has_slack q c.args.k ≡ true) (sym (is_case c.args.k c.args.switches c.args.flows c.args.draws.now c.as_slice.result.now p (c.as_slice.ensures.value ∙ c.in_ok-trips.ensures.value) is))
    (slack c.args.k c.args.switches c.args.flows c.args.draws.now c.requires.least_k))
    c.fitted_ring.ensures

pub returns-clause-room : goal.returns-clause-room
returns-clause-room c =
    IfOk-weaker c.fitted_ring.result _ _
    (λ p is. subst (λ (q : Problem). has_table_room q ≡ true) (sym (is_case c.args.k c.args.switches c.args.flows c.args.draws.now c.as_slice.result.now p (c.as_slice.ensures.value ∙ c.in_ok-trips.ensures.value) is))
    (room c.args.k c.args.switches c.args.flows c.args.draws.now))
    c.fitted_ring.ensures
