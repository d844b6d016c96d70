use Rattle.fenced_ports.proofs.Sifted.{after-append}
use Rattle.fenced_ports.proofs.laws.it_does_not_matter_where_a_stream_is_cut.Goals as goal

pub returns : goal.returns
returns c = after-append
