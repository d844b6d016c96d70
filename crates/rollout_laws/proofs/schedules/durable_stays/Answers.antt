use Rattle.rollout_laws.proofs.Durable.{durable_stays, ended_stays, goes_on_from}
use Rattle.rollout_laws.proofs.schedules.durable_stays.Goals as goal

pub returns : goal.returns
returns c = record { stays = durable_stays; ended = ended_stays; from = goes_on_from }
