use Rattle.std.proofs.Common.{rules, ap, Option}
use Rattle.atomic_table.specs.Table.{Me}
use Rattle.turn_lock.specs.declared.view.View.{View}
use Rattle.turn_lock.proofs.Seating.{joins, settles}
use Rattle.turn_lock.proofs.lock.TurnLock.join.Goals as goal

pub join_seat-requires : goal.join_seat-requires
join_seat-requires g c = (search rules, search rules, search rules, search rules, joins _ _ _ _ _ _ c.args.one.idle c.args.other.idle c.requires.first)

pub load-requires : goal.load-requires
load-requires g c = (search rules, search rules, settles _ _ _ _ _ _ _ _ _ _ (ap (λ (m : Me (Option g.row.V.Denot) (View g.row.V-Entry.Denot)). m.0.stage) c.join_seat.ensures.2))
