use Rattle.std.proofs.Common.{ℕ, ◌<◌, ◌^◌, sym, subst}
use Rattle.plan_texts.specs.Loads.{room_of, greatest_total}
use Rattle.plan_texts.proofs.Greatest.{fuller-yes, fuller-no}
use Rattle.plan_texts.proofs.fullest.fuller_of.Goals as goal

pub is_less-requires-clause-a : goal.is_less-requires-clause-a
is_less-requires-clause-a c = subst (λ (n : ℕ). n < 2 ^ 60) (sym c.greatest_total-most.ensures) (c.numbers_fit.ensures.totals c.args.best c.requires.best)

pub is_less-requires-clause-b : goal.is_less-requires-clause-b
is_less-requires-clause-b c = subst (λ (n : ℕ). n < 2 ^ 60) (sym c.room_of-room.ensures) (c.numbers_fit.ensures.rooms c.args.link c.requires.link)

pub is_less-requires-clause-c : goal.is_less-requires-clause-c
is_less-requires-clause-c c = subst (λ (n : ℕ). n < 2 ^ 60) (sym c.greatest_total-total.ensures) (c.numbers_fit.ensures.totals c.args.link c.requires.link)

pub is_less-requires-clause-d : goal.is_less-requires-clause-d
is_less-requires-clause-d c = subst (λ (n : ℕ). n < 2 ^ 60) (sym c.room_of-other.ensures) (c.numbers_fit.ensures.rooms c.args.best c.requires.best)

pub returns-then-is_less-clause-is : goal.returns-then-is_less-clause-is
returns-then-is_less-clause-is c =
    fuller-yes (room_of c.args.problem.now c.args.plan.now) (greatest_total c.args.problem.now c.args.plan.now) c.args.best c.args.link c.greatest_total-most.result c.room_of-room.result c.greatest_total-total.result c.room_of-other.result c.is_less.result
    c.greatest_total-most.ensures c.room_of-room.ensures c.greatest_total-total.ensures c.room_of-other.ensures c.is_less.ensures c.if-is_less.true

pub returns-clause-is : goal.returns-clause-is
returns-clause-is c =
    fuller-no (room_of c.args.problem.now c.args.plan.now) (greatest_total c.args.problem.now c.args.plan.now) c.args.best c.args.link c.greatest_total-most.result c.room_of-room.result c.greatest_total-total.result c.room_of-other.result c.is_less.result
    c.greatest_total-most.ensures c.room_of-room.ensures c.greatest_total-total.ensures c.room_of-other.ensures c.is_less.ensures c.if-is_less.false
