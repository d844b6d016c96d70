-- What an event makes of a rehearsal.
use Rattle.std.specs.Prelude.{◌≡◌, ℕ, Option, Some, None}
use Rattle.rand_pcg.specs.Lcg.{Lcg}
use Rattle.rollout_rules.specs.Wan.{Plan, Problem}
use Rattle.rollout_rules.specs.declared.op.OpView.{OpView}
use Rattle.rollout_rules.specs.declared.event.Act.{Act}
use Rattle.sim_run.specs.Acts.{Rehearsal, after_act}
use Rattle.sim_run.specs.Rehearsing.{Rehearsing}
use Rattle.sim_run.specs.Trials.{next_act}

-- what is chosen for an event leads to a rehearsal, or skips it
abbrev pub after_chosen : Problem → Plan → (OpView → ℕ) → Rehearsal → Option Act → Rehearsal
after_chosen p plan policy r None = r
after_chosen p plan policy r (Some a) = after_act p plan policy r a

abbrev pub skips : Option Act → ℕ
skips None = 1
skips (Some a) = 0

-- what is drawn for the next event is done, or the event is skipped
pub record HasTried (policy : OpView → ℕ) (r : Rehearsing) (draws : Lcg) (s : Rehearsing) (left : Lcg) (skipped : ℕ) : Type 0 where
  pub rehearsal : s ≡ record r { state = after_chosen r.rollout.problem r.rollout.plan policy r.state (next_act r.rollout.problem r.state.world draws).chosen }
  pub rest : left ≡ (next_act r.rollout.problem r.state.world draws).left
  pub skip : skipped ≡ skips (next_act r.rollout.problem r.state.world draws).chosen
