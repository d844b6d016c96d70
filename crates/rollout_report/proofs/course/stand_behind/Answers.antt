use Rattle.std.proofs.Common.{◌≡◌, sym, ap, ◌∙◌, arith}
use Rattle.rollout_rules.specs.Wan.{last_stage}
use Rattle.rollout_rules.specs.Operations.{changes_to}
use Rattle.rollout_report.proofs.Walking.{stopped, ended}
use Rattle.rollout_report.proofs.course.stand_behind.Goals as goal

pub returns-then-changes_behind-clause-next : goal.returns-then-changes_behind-clause-next
returns-then-changes_behind-clause-next c = λ j stands.
    let p = c.args.plan.now.problem in
    let plan = c.args.plan.now.plan in
    stopped p plan c.args.item j c.args.here stands c.requires.here c.loop-s.s
    (omega (arith, c.loop-s-test.true, c.last_stage-last.ensures.value)) (omega (arith, c.loop-s.auto.s, c.next_stage-s.ensures.value, c.next_stage-s.ensures.inside)) c.loop-s.invariant
    (cc (c.changes_behind.ensures, c.if-changes_behind.true))

pub returns-clause-next : goal.returns-clause-next
returns-clause-next c = λ j stands.
    let p = c.args.plan.now.problem in
    let plan = c.args.plan.now.plan in
    let last : c.last_stage-last.result ≡ last_stage plan = c.last_stage-last.ensures.value in
    let end : c.loop-s.s ≡ last_stage plan = omega (arith, c.loop-s-test.false, c.loop-s.auto.s-end, c.next_stage-s.ensures.value, c.next_stage-s.ensures.inside, last) in
    last ∙ ended p plan c.args.item j c.args.here stands c.requires.here (ap (changes_to p plan c.args.item) (sym end) ∙ c.loop-s.invariant)
