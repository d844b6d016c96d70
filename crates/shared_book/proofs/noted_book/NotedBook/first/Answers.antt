use Rattle.std.proofs.Common.{rules, subst, sym, vec_capacity}
use Rattle.rollout_book.specs.JournaledRounds.{Journaled}
use Rattle.shared_book.specs.Images.{StandsSo}
use Rattle.shared_book.specs.Opened.{IsOpenedOn}
use Rattle.shared_book.proofs.HeardDones.{first-heard}
use Rattle.shared_book.proofs.Firsts.{first-images, first-shares}
use Rattle.shared_book.proofs.Staying.{stays-first}
use Rattle.shared_book.proofs.noted_book.NotedBook.first.Goals as goal

pub invariant_of-result : goal.invariant_of-result
invariant_of-result g c =
    let opened =
    subst (λ (b : Journaled g.row.D.Denot). IsOpenedOn g.D.Disk.told g.M.Marker.opening g.M.Marker.moment g.M.Marker.faults b) (sym c.in-Ok.ensures.ok) c.requires.opened in (
      first-shares g.M.Marker.opening g.M.Marker.seats c.args.seats c.in-Ok.chronicle.value c.reserve.new.self.items (vec_capacity c.reserve.new.self) opened.opened c.requires.seats (search rules) (search rules),
      first-images g.D.Disk.told g.M.Marker.opening g.M.Marker.moment g.M.Marker.faults
          c.in-Ok.chronicle.value c.reserve.new.self.items opened (search rules) (g.met.D.Disk.only_now c.in-Ok.chronicle.value.disk),
      first-heard g.M.Marker.heard c.in-Ok.chronicle.value c.reserve.new.self.items (search rules),
      stays-first g.D.Disk.told g.M.Marker.opening g.M.Marker.stood c.in-Ok.chronicle.value.disk
          (subst (λ (b : Journaled g.row.D.Denot). StandsSo g.M.Marker.stood (g.D.Disk.told b.disk)) (sym c.in-Ok.ensures.ok) c.requires.stood),
    )
