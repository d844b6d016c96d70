use Rattle.retarget_plan.proofs.Sheds.{one_step-is_valid, shed-empties, shed-is_network, shed-is_planned}
use Rattle.retarget_plan.proofs.laws.shedding_takes_one_step.Goals as goal

pub returns : goal.returns
returns c = record {
  gives_way = λ q net gives fits. one_step-is_valid q net gives fits;
  planned = λ q l net fits. shed-is_planned q l net fits;
  network = λ q l net. shed-is_network q l net;
  empty = λ q l t lt crossing. shed-empties q l t lt crossing;
}
