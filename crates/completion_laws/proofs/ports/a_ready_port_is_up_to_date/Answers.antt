use Rattle.completion_laws.proofs.Readied.{ready-up}
use Rattle.completion_laws.proofs.ports.a_ready_port_is_up_to_date.Goals as goal

pub returns : goal.returns
returns c = λ r migration homes found first ready. ready-up r migration homes found first ready
