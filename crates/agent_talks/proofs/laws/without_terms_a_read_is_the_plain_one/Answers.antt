use Rattle.agent_talks.proofs.Plain.{floor_stays, read_plain}
use Rattle.agent_talks.proofs.laws.without_terms_a_read_is_the_plain_one.Goals as goal

pub returns : goal.returns
returns c = record { plain = read_plain; floor = floor_stays }
