use Rattle.std.proofs.Common.{arith, subst, sym}
use Rattle.fenced_agent.specs.Agents.{fenced_holding}
use Rattle.agent_service.specs.Keeping.{StoresAll}
use Rattle.agent_service.proofs.KeptRows.{at_err, come_kept, come_still, went_out}
use Rattle.agent_service.proofs.keeping.keep_read.Goals as goal

pub returns-in_err-served-clause-any_moment : goal.returns-in_err-served-clause-any_moment
returns-in_err-served-clause-any_moment g c = come_still g.D.Disk.told c.args.disk.now c.args.place (fenced_holding c.args.agent.now) (g.met.D.Disk.only_now c.args.disk.now) c.requires.kept

pub returns-in_err-now-clause-any_moment : goal.returns-in_err-now-clause-any_moment
returns-in_err-now-clause-any_moment g c =
    come_kept g.D.Disk.told c.args.disk.now c.keep_batch.new.disk (fenced_holding c.args.agent.now) (fenced_holding c.gather_batch.new.agent) c.in_ok-served.ensures.carried.commands c.in_ok-served.ensures.carried.whole.fit c.in_ok-served.ensures.carried.holds
    (c.keep_batch.ensures.any_moment (fenced_holding c.args.agent.now) c.requires.kept (subst (StoresAll (fenced_holding c.args.agent.now) (fenced_holding c.gather_batch.new.agent)) (sym c.as_slice.ensures.value) c.in_ok-served.ensures.stored))

pub returns-clause-any_moment : goal.returns-clause-any_moment
returns-clause-any_moment g c =
    come_kept g.D.Disk.told c.args.disk.now c.keep_batch.new.disk (fenced_holding c.args.agent.now) (fenced_holding c.gather_batch.new.agent) c.in_ok-served.ensures.carried.commands c.in_ok-served.ensures.carried.whole.fit c.in_ok-served.ensures.carried.holds
    (c.keep_batch.ensures.any_moment (fenced_holding c.args.agent.now) c.requires.kept (subst (StoresAll (fenced_holding c.args.agent.now) (fenced_holding c.gather_batch.new.agent)) (sym c.as_slice.ensures.value) c.in_ok-served.ensures.stored))

pub answer-answered-requires : goal.answer-answered-requires
answer-answered-requires g c = c.in_ok-now.ensures.done (fenced_holding c.args.agent.now) c.requires.kept (subst (StoresAll (fenced_holding c.args.agent.now) (fenced_holding c.gather_batch.new.agent)) (sym c.as_slice.ensures.value) c.in_ok-served.ensures.stored)

pub returns-clause-kept : goal.returns-clause-kept
returns-clause-kept g c = c.in_ok-now.ensures.done (fenced_holding c.args.agent.now) c.requires.kept (subst (StoresAll (fenced_holding c.args.agent.now) (fenced_holding c.gather_batch.new.agent)) (sym c.as_slice.ensures.value) c.in_ok-served.ensures.stored)

-- the answers went out, all of them or a part
pub returns-clause-carried : goal.returns-clause-carried
returns-clause-carried g c =
    went_out c.args.agent.now c.gather_batch.new.agent _ c.in_ok-served.served c.with_answers.result _ c.new-gathered.result.answers.items c.gather_batch.new.gathered.answers.items c.as_slice-2.result.now c.answer-answered.result _ _
    c.new-gathered.ensures.answers c.as_slice-2.ensures.value c.in_ok-served.ensures.unwritten c.with_answers.ensures.all c.with_answers.ensures.part c.in_ok-served.ensures.carried c.answer-answered.ensures.all c.answer-answered.ensures.part

pub returns-clause-few : goal.returns-clause-few
returns-clause-few g c = omega (arith, c.with_answers.ensures.commands, c.in_ok-served.ensures.few)

pub returns-clause-own : goal.returns-clause-own
returns-clause-own g c = c.with_answers.ensures.own c.in_ok-served.ensures.own

pub returns-clause-live : goal.returns-clause-live
returns-clause-live g c = λ none. c.in_ok-served.ensures.live (c.with_answers.ensures.none none)

pub returns-clause-cut : goal.returns-clause-cut
returns-clause-cut g c = λ none. c.in_ok-served.ensures.cut (c.with_answers.ensures.none none)

pub returns-clause-write_cause : goal.returns-clause-write_cause
returns-clause-write_cause g c = λ written. at_err c.answer-answered.result _ (c.with_answers.ensures.written written c.in_ok-served.ensures.unwritten) c.answer-answered.ensures.cause
