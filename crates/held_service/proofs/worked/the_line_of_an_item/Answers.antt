use Rattle.std.specs.Fmt.{digits}
use Rattle.json.specs.Print.{escape_byte}
use Rattle.std.proofs.Common.{refl}
use Rattle.held_service.proofs.worked.the_line_of_an_item.Goals as goal

pub returns : goal.returns
unfolding digits escape_byte
returns c = record { line = refl; none = refl }
