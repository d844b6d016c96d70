use Rattle.std.proofs.Common.{◌≡◌, ◌==◌, false, ℕ, Option, sym, ap, ◌∙◌, ne_eqb, arith}
use Rattle.plan_texts.specs.Loads.{fuller, room_of, greatest_total}
use Rattle.plan_texts.proofs.Greatest.{some-link}
use Rattle.plan_texts.proofs.fullest.fuller.Goals as goal

pub returns-in-Some-clause-is : goal.returns-in-Some-clause-is
returns-in-Some-clause-is c =
    let p = c.args.problem.now in
    let plan = c.args.plan.now in
    let has : (room_of p plan c.args.link == 0) ≡ false = ne_eqb (room_of p plan c.args.link) 0 (λ e. omega (arith, e, c.room_of.ensures, c.if-room_of-eq0.false)) in
    some-link (room_of p plan) (greatest_total p plan) c.in-Some.best c.args.link c.fuller_of.result has c.fuller_of.ensures.is
    ∙ ap (λ (o : Option ℕ). fuller (room_of p plan) (greatest_total p plan) o c.args.link) (sym c.in-Some.is)
