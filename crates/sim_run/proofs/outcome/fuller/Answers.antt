use Rattle.std.proofs.Common.{◌≡◌, ◌<◌, ◌==◌, false, length, Option, IfSome, sym, ap, ◌∙◌, subst, ne_eqb, arith, ℕ}
use Rattle.sim_run.specs.TrialText.{fuller, room_of}
use Rattle.sim_run.proofs.Fullest.{some-link}
use Rattle.sim_run.proofs.outcome.fuller.Goals as goal

pub returns-in-Some-clause-is : goal.returns-in-Some-clause-is
returns-in-Some-clause-is c = λ h are.
    let p = c.args.plan.now.problem in
    let plan = c.args.plan.now.plan in
    let low : c.in-Some.best < length c.args.peaks.now = subst (λ (o : Option ℕ). IfSome o (λ best. best < length c.args.peaks.now)) c.in-Some.is c.requires.found in
    let has : (room_of p plan c.args.link == 0) ≡ false = ne_eqb (room_of p plan c.args.link) 0 (λ e. omega (arith, e, c.room_of.ensures.value, c.if-room_of-eq0.false)) in
    some-link p plan h c.args.peaks.now c.requires.all are c.in-Some.best c.args.link c.fuller_of.result low c.requires.link has c.fuller_of.ensures.is
    ∙ ap (λ (o : Option ℕ). fuller p plan h o c.args.link) (sym c.in-Some.is)
