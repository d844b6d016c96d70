use Rattle.std.specs.Fmt.{digits}
use Rattle.std.proofs.Common.{refl}
use Rattle.held_service.proofs.worked.the_last_line_counts_what_was_told.Goals as goal

pub returns : goal.returns
unfolding digits
returns c = record { count = refl; greatest = refl; line = refl }
