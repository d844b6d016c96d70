use Rattle.rollout_laws.proofs.Validity.{plan-is_valid}
use Rattle.rollback_plan.proofs.Alike.{count-turned, item_at-turned}
use Rattle.rollback_plan.proofs.Mirror.{last-turned, content-mirrored, changes-mirrored}
use Rattle.rollback_plan.proofs.way_back.the_way_back_goes_through_the_same_stages.Goals as goal

pub returns : goal.returns
returns c = record {
  count = count-turned;
  items = item_at-turned;
  stages = last-turned;
  content = λ p plan i s valid most. content-mirrored plan p (plan-is_valid p plan valid).stages i s most;
  changes = λ p plan i s valid most. changes-mirrored plan p (plan-is_valid p plan valid).stages i s most;
}
