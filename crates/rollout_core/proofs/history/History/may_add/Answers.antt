use Rattle.std.proofs.Common.{◌≡◌, true, sym, ap, ◌∙◌, subst}
use Rattle.rollout_rules.specs.History.{History, with_entries}
use Rattle.rollout_rules.specs.Legal.{may_begin, may_end, may_add, may_follow, is_legal}
use Rattle.rollout_laws.proofs.Histories.{is_legal-append}
use Rattle.rollout_core.proofs.Counted.{may_begin-counts, may_end-counts}
use Rattle.rollout_core.proofs.history.History.may_add.Goals as goal

pub returns-in-Begin : goal.returns-in-Begin
returns-in-Begin c =
    let h = c.self.inside in
    let op = c.in-Begin.op in
    let past : History = record { start = h.start.items; entries = h.entries } in
    c.may_begin.ensures
    ∙ may_begin-counts h.plan.now h.progress past c.args.ahead.now op c.self.invariant.rollout c.checked_plan_is_valid.ensures.network c.self.invariant.counts
    ∙ ap (λ s. may_begin s.rollout.problem s.rollout.plan (with_entries s.history c.args.ahead.now) op) c.self.view_is
    ∙ sym (ap (may_add c.args.self.now.rollout.problem c.args.self.now.rollout.plan (with_entries c.args.self.now.history c.args.ahead.now)) c.in-Begin.is)

pub returns-in-Done : goal.returns-in-Done
returns-in-Done c =
    let h = c.self.inside in
    let op = c.in-Done.op in
    let past : History = record { start = h.start.items; entries = h.entries } in
    let follows = subst (λ s. may_follow s.rollout.problem s.rollout.plan s.history c.args.ahead.now ≡ true) (sym c.self.view_is) c.requires in
    let legal = is_legal-append h.plan.now.problem h.plan.now.plan past c.args.ahead.now c.self.invariant.legal follows in
    let own = subst (λ r. is_legal r.problem r.plan (with_entries past c.args.ahead.now) ≡ true) c.self.invariant.rollout legal in
    c.may_end.ensures
    ∙ may_end-counts h.progress past c.args.ahead.now c.self.invariant.counts op own
    ∙ ap (λ s. may_end (with_entries s.history c.args.ahead.now) op) c.self.view_is
    ∙ sym (ap (may_add c.args.self.now.rollout.problem c.args.self.now.rollout.plan (with_entries c.args.self.now.history c.args.ahead.now)) c.in-Done.is)
