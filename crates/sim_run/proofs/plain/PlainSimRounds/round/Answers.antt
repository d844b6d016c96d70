use Rattle.std.proofs.Common.{All, sym, subst}
use Rattle.order_policy.specs.Answers.{rank_by}
use Rattle.rollout_book.specs.Aliens.{told_by}
use Rattle.update_scheduler.specs.Rounds.{graph_of}
use Rattle.sim_run.specs.Keeping.{Keeping, MayTell}
use Rattle.sim_run.proofs.Graphs.{items-known, plain-made, turn-made}
use Rattle.sim_run.proofs.plain.PlainSimRounds.round.Goals as goal

pub hear_each-requires : goal.hear_each-requires
hear_each-requires g c =
    let told = subst (λ (p : Keeping). All (MayTell p.graph) (told_by c.args.answers.now)) (sym c.self.view_is) c.requires.told in
    record { items = items-known (graph_of c.self.inside.rounds) c.args.answers.now told }

pub returns-clause-state : goal.returns-clause-state
returns-clause-state g c =
    let old = c.self.inside in
    plain-made old.rounds c.hear_each.new.rounds c.round.new.self (rank_by c.args.policy.now.answers) c.args.answers.now c.self.invariant.heard c.hear_each.ensures c.round.ensures.next old.is_live c.args.self.now c.self.view_is
    c.requires.live

pub returns-clause-turn : goal.returns-clause-turn
returns-clause-turn g c =
    let old = c.self.inside in
    turn-made old.rounds c.hear_each.new.rounds c.round.new.self (rank_by c.args.policy.now.answers) c.args.answers.now c.self.invariant.heard c.hear_each.ensures c.round.ensures.next old.is_live c.args.self.now c.self.view_is
    c.dones.result c.begins.result c.dones.ensures c.begins.ensures
