use Rattle.std.proofs.Common.{Bool, List, false, get_or, length, ap, ◌∙◌}
use Rattle.switch_ports.proofs.Numbers.{homes_marked}
use Rattle.switch_ports.proofs.homes.working_homes.Goals as goal

pub returns : goal.returns
returns c =
    let p = c.args.plan.now.problem in
    let plan = c.args.plan.now.plan in
    let marks = c.deref.result.now in
    homes_marked p plan marks
    (ap length c.deref.ensures.value ∙ c.in_ok-marks.ensures.count)
    (λ w lt. ap (λ (ms : List Bool). get_or ms w false) c.deref.ensures.value ∙ c.in_ok-marks.ensures.each w lt)
    c.marked_numbers.result c.marked_numbers.ensures
