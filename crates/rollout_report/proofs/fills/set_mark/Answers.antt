use Rattle.std.proofs.Common.{arith}
use Rattle.rollout_report.proofs.PeakTallying.{number-fits, was-counted, sum-small, taken-small, mark-counted}
use Rattle.rollout_report.proofs.fills.set_mark.Goals as goal

pub bounds-marks-number : goal.bounds-marks-number
bounds-marks-number c = number-fits c.args.plan.now.problem c.args.tunnel c.args.hop c.requires.tunnel c.requires.hop c.args.marks.now c.args.sums.now c.requires.tallies c.args.number c.requires.number

pub bounds-marks-number-2 : goal.bounds-marks-number-2
bounds-marks-number-2 c = number-fits c.args.plan.now.problem c.args.tunnel c.args.hop c.requires.tunnel c.requires.hop c.args.marks.now c.args.sums.now c.requires.tallies c.args.number c.requires.number

pub overflow_sub-sums : goal.overflow_sub-sums
overflow_sub-sums c =
    was-counted c.args.plan.now.problem c.args.tunnel c.args.hop c.requires.tunnel c.requires.hop c.args.marks.now c.args.sums.now c.requires.tallies c.checked_plan_is_valid.ensures.network
    c.switch_of-switch.result c.width-width.result c.args.number c.switch_of-switch.ensures.value c.width-width.ensures.value c.requires.number c.amount_taken-was.result c.amount_taken-was.ensures

pub overflow_add-sums : goal.overflow_add-sums
overflow_add-sums c =
    omega (
      arith,
      sum-small c.args.plan.now.problem c.args.tunnel c.args.hop c.requires.tunnel c.requires.hop c.args.marks.now c.args.sums.now c.requires.tallies c.checked_plan_is_valid.ensures.network
          c.switch_of-switch.result c.width-width.result c.args.number c.switch_of-switch.ensures.value c.width-width.ensures.value c.requires.number,
      taken-small c.args.plan.now.problem c.args.tunnel c.args.hop c.requires.tunnel c.requires.hop c.args.marks.now c.args.sums.now c.requires.tallies c.checked_plan_is_valid.ensures.network
          c.switch_of-switch.result c.width-width.result c.args.number c.switch_of-switch.ensures.value c.width-width.ensures.value c.requires.number c.args.mark c.amount_taken.result c.amount_taken.ensures,
    )

pub returns-clause-tallies : goal.returns-clause-tallies
returns-clause-tallies c =
    mark-counted c.args.plan.now.problem c.args.tunnel c.args.hop c.requires.tunnel c.requires.hop c.args.marks.now c.args.sums.now c.requires.tallies c.checked_plan_is_valid.ensures.network
    c.switch_of-switch.result c.width-width.result c.args.number c.switch_of-switch.ensures.value c.width-width.ensures.value c.requires.number
    c.args.mark c.amount_taken-was.result c.amount_taken.result c.amount_taken-was.ensures c.amount_taken.ensures
