use Rattle.std.proofs.Common.{List, All, sym, ap, ◌∙◌, subst}
use Rattle.wan_edge.specs.Frames.{Answer}
use Rattle.rollout_book.specs.Aliens.{told_by}
use Rattle.order_policy.specs.Answers.{rank_by}
use Rattle.rollout_book.specs.JournaledRounds.{turn_of}
use Rattle.sim_run.specs.Controlling.{Controlling, after_round, batch_of}
use Rattle.sim_run.specs.Keeping.{MayTell, batch_over}
use Rattle.sim_run.specs.Earlier.{answers_in}
use Rattle.sim_run.proofs.Books.{rounded-is}
use Rattle.sim_run.proofs.controller.Controller.round.Goals as goal

pub round-requires-clause-told : goal.round-requires-clause-told
round-requires-clause-told g c =
    let kept = g.K.SimRounds.keeping c.self.inside.rounds in
    let told = subst (λ (s : Controlling). All (MayTell (record { rollout = s.rollout; history = s.history })) s.heard) (sym c.self.view_is) c.requires.told in
    subst (λ (l : List Answer). All (MayTell kept.graph) (told_by l)) (sym c.as_slice.ensures.value) told

pub returns-clause-state : goal.returns-clause-state
returns-clause-state g c =
    let r = c.self.inside in
    let policy = rank_by c.args.policy.now.answers in
    rounded-is (g.K.SimRounds.keeping r.rounds) (g.K.SimRounds.keeping c.round.new.self) (answers_in r.earlier) (answers_in c.hear_all.new.earlier) r.answers.items c.as_slice.result.now c.hear_all.new.answers.items r.is_up policy
    c.in_ok-turn.ensures.state c.as_slice.ensures.value c.hear_all.ensures.earlier c.hear_all.ensures.answers
    ∙ ap (λ (s : Controlling). after_round s policy) c.self.view_is

pub returns-clause-turn : goal.returns-clause-turn
returns-clause-turn g c =
    let r = c.self.inside in
    let policy = rank_by c.args.policy.now.answers in
    c.in_ok-turn.ensures.turn
    ∙ ap (λ l. turn_of (batch_over (g.K.SimRounds.keeping r.rounds).graph policy l)) c.as_slice.ensures.value
    ∙ ap (λ (s : Controlling). turn_of (batch_of s policy)) c.self.view_is
