use Rattle.std.proofs.Common.{rules, ap, ◌∙◌, subst, sym, ◌<◌, ℕ, Option}
use Rattle.atomic_table.specs.Table.{Me}
use Rattle.turn_lock.specs.declared.view.View.{View}
use Rattle.turn_lock.proofs.Seating.{rests, splits}
use Rattle.turn_lock.proofs.lock.TurnLock.split.Goals as goal

pub load-requires : goal.load-requires
load-requires g c = (search rules, search rules, rests _ _ _ _ _ c.args.pass.idle)

pub split_seat-next-requires : goal.split_seat-next-requires
split_seat-next-requires g c =
    let told = c.load.ensures.2.0 in (
      search rules,
      search rules,
      splits _ _ _ _ (ap (λ (m : Me (Option g.row.V.Denot) (View g.row.V-Entry.Denot)). m.0.stage) told)
          (ap (λ (m : Me (Option g.row.V.Denot) (View g.row.V-Entry.Denot)). m.0.seat) told ∙ c.requires.first)
          (subst (λ (n : ℕ). n < 4294967295) (sym (ap (λ (m : Me (Option g.row.V.Denot) (View g.row.V-Entry.Denot)). m.0.given) told)) c.requires.room),
    )
