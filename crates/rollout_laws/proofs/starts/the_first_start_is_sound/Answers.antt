use Rattle.rollout_laws.proofs.SoundStarts.{no_start-sound, empty_start-sound, from_nothing-legal}
use Rattle.rollout_laws.proofs.starts.the_first_start_is_sound.Goals as goal

pub returns : goal.returns
returns c = record { sound = no_start-sound; empty = empty_start-sound; legal = from_nothing-legal }
