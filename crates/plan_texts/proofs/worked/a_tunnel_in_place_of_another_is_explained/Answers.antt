use Rattle.std.specs.Fmt.{digits}
use Rattle.json.specs.Print.{escape_byte}
use Rattle.std.proofs.Common.{refl}
use Rattle.plan_texts.specs.Explain.{explain_text}
use Rattle.plan_texts.proofs.worked.a_tunnel_in_place_of_another_is_explained.Goals as goal

pub returns : goal.returns
unfolding explain_text digits escape_byte
returns c = refl
