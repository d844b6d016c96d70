use Rattle.std.proofs.Common.{◌≡◌, subst, sym}
use Rattle.rollout_rules.specs.Legal.{is_finished}
use Rattle.turn_lock.specs.Passes.{given_of, seen_of}
use Rattle.rollout_book.specs.JournaledRounds.{Journaled}
use Rattle.shared_book.specs.Homes.{homes_of}
use Rattle.shared_book.specs.Images.{StaysOpened}
use Rattle.shared_book.proofs.Staying.{stays-first}
use Rattle.controller_run.specs.Runs.{Runs}
use Rattle.controller_run.specs.Workers.{workers_ports}
use Rattle.controller_run.specs.declared.end.RunEnd.{RunEnd}
use Rattle.controller_run.proofs.Ends.{ends, has_begun, was_told}
use Rattle.controller_run.proofs.Over.{same_switches}
use Rattle.controller_run.proofs.leading.run_named.Goals as goal

pub returns-in-Ok-clause-switches : goal.returns-in-Ok-clause-switches
returns-in-Ok-clause-switches g c =
    let o = g.M.Marker.opening in
    let pass = c.work-pass.result.0.pass in
    let team = c.args.team in
    let now = c.work-pass.result.1 in
    same_switches g.T.Port.told o c.args.limits.migration (homes_of o.rollout.problem) c.args.limits.rounds
    (workers_ports team.own.ports team.own.spare.items team.crews.items) (given_of pass) (seen_of pass) (workers_ports now.own.ports now.own.spare.items now.crews.items) c.work-pass.ensures.worked

pub returns-in-Ok-clause-ran : goal.returns-in-Ok-clause-ran
returns-in-Ok-clause-ran g c =
    let o = g.M.Marker.opening in
    let pass = c.work-pass.result.0.pass in
    let book = c.close-book.result.0.chronicle in
    let closed = c.close-book.ensures in
    let team = c.args.team in
    let now = c.work-pass.result.1 in
    let whole = workers_ports team.own.ports team.own.spare.items team.crews.items in
    let left = workers_ports now.own.ports now.own.spare.items now.crews.items in
    let end = ends o (seen_of pass) book closed.legal closed.book c.close-book.result.2 c.end_of-end.result closed.halt c.end_of-end.ensures in
    has_begun c.close-book.result.2 (is_finished book.rollout.problem book.rollout.plan book.history)
    (λ (e : RunEnd). Runs g.D.Disk.told g.T.Port.told o g.M.Marker.moment g.M.Marker.faults c.args.limits.migration c.args.limits.rounds whole e book left)
    ((book ≡ c.args.book.chronicle) × (left ≡ whole)) c.end_of-end.result c.end_of-end.ensures
    (record {
      log = seen_of pass;
      seats = given_of pass;
      legal = closed.legal;
      closed = closed.book;
      images = closed.images;
      heard = was_told g.T.Port.told c.args.limits.migration g.M.Marker.heard (seen_of pass) c.requires.only closed.heard;
      made = closed.made;
      worked = c.work-pass.ensures.worked;
      ends = end;
    })

pub returns-in-Ok-clause-stays : goal.returns-in-Ok-clause-stays
returns-in-Ok-clause-stays g c = c.close-book.ensures.stays

pub returns-in-Err-clause-stays : goal.returns-in-Err-clause-stays
returns-in-Err-clause-stays g c =
    subst (λ (b : Journaled g.row.D.Denot). StaysOpened g.D.Disk.told g.M.Marker.opening g.M.Marker.stood b.disk) (sym c.in-Err.ensures.err.0)
    (stays-first g.D.Disk.told g.M.Marker.opening g.M.Marker.stood c.args.book.chronicle.disk c.requires.stood)
