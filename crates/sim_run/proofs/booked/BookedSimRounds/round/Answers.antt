use Rattle.std.proofs.Common.{◌≡◌, All, sym, subst}
use Rattle.std.specs.Prelude.{IfOk}
use Rattle.order_policy.specs.Answers.{rank_by}
use Rattle.rollout_book.specs.Aliens.{told_by}
use Rattle.rollout_book.specs.JournaledRounds.{turn_of}
use Rattle.sim_run.specs.Keeping.{Keeping, MayTell, batch_over}
use Rattle.sim_run.proofs.Books.{seat-rounds}
use Rattle.sim_run.proofs.booked.BookedSimRounds.round.Goals as goal

pub round_in-requires-clause-told : goal.round_in-requires-clause-told
round_in-requires-clause-told g c = subst (λ (k : Keeping). All (MayTell k.graph) (told_by c.args.answers.now)) (sym c.self.view_is) c.requires.told

pub returns-clause-state : goal.returns-clause-state
returns-clause-state g c =
    seat-rounds c.round_in.result c.self.inside.seat c.round_in.new.seat c.args.self.now (rank_by c.args.policy.now.answers) c.args.answers.now c.self.view_is c.requires.live c.round_in.ensures.graph c.round_in.ensures.live

pub returns-clause-turn : goal.returns-clause-turn
returns-clause-turn g c =
    subst (λ (k : Keeping). IfOk c.round_in.result (λ turn. turn ≡ turn_of (batch_over k.graph (rank_by c.args.policy.now.answers) c.args.answers.now))) c.self.view_is c.round_in.ensures.turn
