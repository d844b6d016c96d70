use Rattle.std.proofs.Common.{◌∙◌}
use Rattle.shared_book.proofs.HomeRows.{home-is}
use Rattle.shared_book.proofs.seats.LockedBook+NotedBook+D+M+ref+Policy.home.Goals as goal

pub returns : goal.returns
returns g c = c.home_in.ensures ∙ home-is g.M.Marker.opening.rollout.problem c.as_slice.result.now c.args.item (c.as_slice.ensures ∙ c.requires)
