use Rattle.std.proofs.Common.{◌≤◌, ◌*◌, refl, arith}
use Rattle.rollout_rules.specs.Wan.{link_at}
use Rattle.rollout_rules.specs.Items.{load}
use Rattle.rollout_rules.specs.Named.{pause}
use Rattle.step_lp.specs.Moves.{rate_in, top_in}
use Rattle.step_lp.specs.Words.{lacking_a_top, overlapping}
use Rattle.step_lp.proofs.Trading.{by_way_of_rest}
use Rattle.step_lp.proofs.worked.a_trade_is_a_move_by_way_of_rest.Goals as goal

pub returns-clause-rest : goal.returns-clause-rest
returns-clause-rest c = by_way_of_rest

pub returns-clause-top : goal.returns-clause-top
returns-clause-top c moves =
    let over : rate_in pause 2 1 lacking_a_top 2 1 ≤ top_in 2 lacking_a_top 1 1 = moves.behind 1 1 (omega arith) (omega arith) refl in
    omega arith

pub returns-clause-link : goal.returns-clause-link
returns-clause-link c moves =
    let over : load pause (top_in 2 overlapping 1) 0 ≤ 1 * (link_at pause 0).capacity = moves.links 1 0 (omega arith) (omega arith) in
    omega arith
