use Rattle.rollback_plan.proofs.Views.{views-are_views}
use Rattle.rollback_plan.proofs.levels.policies_see_views.Goals as goal

pub returns : goal.returns
returns c = views-are_views
