use Rattle.rollout_laws.proofs.Within.{within-good, within-safe, within-least, within-room, held-safe, held-sound}
use Rattle.rollout_laws.proofs.between.between_settled_and_begun_is_safe.Goals as goal

pub returns : goal.returns
returns c = record { good = within-good; safe = within-safe; least = within-least; room = within-room; held = held-safe; sound = held-sound }
