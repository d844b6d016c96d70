use Rattle.switch_laws.proofs.Fitting.{has_frame}
use Rattle.switch_laws.proofs.laws.begun_commands_have_frames.Goals as goal

pub returns : goal.returns
returns c r migration h command net valid legal small begun = has_frame r migration h net valid legal small command begun
