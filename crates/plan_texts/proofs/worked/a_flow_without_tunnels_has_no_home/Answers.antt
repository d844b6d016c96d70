use Rattle.std.specs.Fmt.{digits}
use Rattle.json.specs.Print.{escape_byte}
use Rattle.std.proofs.Common.{refl}
use Rattle.plan_texts.proofs.worked.a_flow_without_tunnels_has_no_home.Goals as goal

pub returns : goal.returns
unfolding digits escape_byte
returns c = refl
