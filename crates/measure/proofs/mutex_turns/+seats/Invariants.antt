use Rattle.std.proofs.Common.{◌+◌, ◌*◌}
use Rattle.measure.proofs.mutex_turns.+seats.Given as goal

abbrev pub decreases-work : goal.decreases-work
decreases-work g l = 2 * l.others + 1

abbrev pub decreases-more : goal.decreases-more
decreases-more g l = 2 * l.others
