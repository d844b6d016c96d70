use Rattle.std.proofs.Common.{refl}
use Rattle.rollout_laws.proofs.Released.{never-stuck}
use Rattle.update_scheduler.specs.Benches.{ops_of}
use Rattle.update_scheduler.specs.Tried.{released_by}
use Rattle.update_scheduler.proofs.Still.{nothing-held}
use Rattle.update_scheduler.proofs.progress.a_release_is_stuck_by_its_policy_alone.Goals as goal

pub returns-clause-some : goal.returns-clause-some
returns-clause-some c g net valid legal unfinished idle = never-stuck g.rollout.problem g.rollout.plan g.history net valid legal unfinished idle

pub returns-clause-held : goal.returns-clause-held
returns-clause-held c g policy none = nothing-held g policy (ops_of (released_by g policy)) refl none
