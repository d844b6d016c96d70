use Rattle.std.proofs.Common.{◌∙◌, Some, ap, subst}
use Rattle.lists.proofs.Results.{at_err}
use Rattle.switch_agent.specs.Items.{holding}
use Rattle.wan_edge.specs.Ports.{AppendsFront}
use Rattle.lossy_link.specs.Faithful.{AreFirstAnswered, Faith}
use Rattle.lossy_link.specs.Incoming.{Came, offered_of}
use Rattle.lossy_link.proofs.Keeping.{answers_some, appends_all, goes_down, in_order, keeps_down, keeps_up, same_heard, same_heard_up, stands_step, step_down, step_up}
use Rattle.lossy_link.proofs.faithful_port.FaithfulPort.take.Goals as goal

pub returns-in_err-accept-clause-by_rule : goal.returns-in_err-accept-clause-by_rule
returns-in_err-accept-clause-by_rule c =
    stands_step _ _ _ _ (goes_down _ _ _ _ _ c.in_err-accept.ensures.err c.self.invariant)
    _ (ap (λ (v : Faith). holding v.items) c.self.view_is)

pub returns-in_err-accept-clause-in_order : goal.returns-in_err-accept-clause-in_order
returns-in_err-accept-clause-in_order c =
    in_order _ _ _ _ (goes_down _ _ _ _ _ c.in_err-accept.ensures.err c.self.invariant)

pub invariant_of-self-in_err-answer_each : goal.invariant_of-self-in_err-answer_each
invariant_of-self-in_err-answer_each c =
    keeps_down _ _ _ _ _ _ _ _ _ c.self.invariant (ap (λ (v : Faith). v.down) c.self.view_is ∙ c.requires) c.in_ok-accept.ensures.ok c.answer_each.ensures.all c.in_err-answer_each.ensures.some

pub returns-in_err-answer_each-clause-part : goal.returns-in_err-answer_each-clause-part
returns-in_err-answer_each-clause-part c =
    at_err _
    (subst (λ (v : Faith). AppendsFront (Some v.offered) c.args.from.now (Some (offered_of c.answer_each.new.incoming))) c.self.view_is
    (appends_all _ _ _ _ c.in_ok-accept.ensures.ok c.answer_each.ensures.all))

pub returns-in_err-answer_each-clause-some : goal.returns-in_err-answer_each-clause-some
returns-in_err-answer_each-clause-some c =
    at_err _
    (subst (λ (v : Faith). Came (AreFirstAnswered (holding v.items) (holding c.answer_each.new.agent) v.back c.answer_each.new.back) v.offered (offered_of c.answer_each.new.incoming)) c.self.view_is
    (answers_some _ _ _ _ _ _ _ _ _ c.self.invariant (ap (λ (v : Faith). v.down) c.self.view_is ∙ c.requires) c.in_ok-accept.ensures.ok c.answer_each.ensures.all c.in_err-answer_each.ensures.some))

pub returns-in_err-answer_each-clause-unheard : goal.returns-in_err-answer_each-clause-unheard
returns-in_err-answer_each-clause-unheard c =
    same_heard _ _ _ _ _ _ _ _ _ c.self.invariant (ap (λ (v : Faith). v.down) c.self.view_is ∙ c.requires) c.in_ok-accept.ensures.ok c.answer_each.ensures.all c.in_err-answer_each.ensures.some
    ∙ ap (λ (v : Faith). v.back.heard) c.self.view_is

pub returns-in_err-answer_each-clause-by_rule : goal.returns-in_err-answer_each-clause-by_rule
returns-in_err-answer_each-clause-by_rule c =
    step_down _ _ _ _ _ _ _ _ _ c.self.invariant (ap (λ (v : Faith). v.down) c.self.view_is ∙ c.requires) c.in_ok-accept.ensures.ok c.answer_each.ensures.all c.in_err-answer_each.ensures.some
    _ (ap (λ (v : Faith). holding v.items) c.self.view_is)

pub returns-in_err-answer_each-clause-in_order : goal.returns-in_err-answer_each-clause-in_order
returns-in_err-answer_each-clause-in_order c = in_order _ _ _ _ (invariant_of-self-in_err-answer_each c)

pub invariant_of-self-2 : goal.invariant_of-self-2
invariant_of-self-2 c =
    keeps_up _ _ _ _ _ _ _ _ _ c.self.invariant (ap (λ (v : Faith). v.down) c.self.view_is ∙ c.requires) c.in_ok-accept.ensures.ok c.answer_each.ensures.all c.in_ok-answer_each.ensures.each

pub returns-clause-unheard : goal.returns-clause-unheard
returns-clause-unheard c =
    same_heard_up _ _ _ _ _ _ _ _ _ c.self.invariant (ap (λ (v : Faith). v.down) c.self.view_is ∙ c.requires) c.in_ok-accept.ensures.ok c.answer_each.ensures.all c.in_ok-answer_each.ensures.each
    ∙ ap (λ (v : Faith). v.back.heard) c.self.view_is

pub returns-clause-by_rule : goal.returns-clause-by_rule
returns-clause-by_rule c =
    step_up _ _ _ _ _ _ _ _ _ c.self.invariant (ap (λ (v : Faith). v.down) c.self.view_is ∙ c.requires) c.in_ok-accept.ensures.ok c.answer_each.ensures.all c.in_ok-answer_each.ensures.each
    _ (ap (λ (v : Faith). holding v.items) c.self.view_is)

pub returns-clause-in_order : goal.returns-clause-in_order
returns-clause-in_order c = in_order _ _ _ _ (invariant_of-self-2 c)
