use Rattle.rollout_laws.proofs.SoundStarts.{sound-good, good-sound}
use Rattle.rollout_laws.proofs.starts.a_sound_start_is_good.Goals as goal

pub returns : goal.returns
returns c = λ p plan start. (sound-good p plan start, good-sound p plan start)
