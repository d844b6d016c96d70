use Rattle.std.proofs.Common.{length, ap, ◌∙◌}
use Rattle.disk_model.specs.Memory.{MayLeave}
use Rattle.intent_journal.specs.Verdicts.{verdict}
use Rattle.intent_journal.proofs.Openings.{found_brought}
use Rattle.rollout_book.specs.JournaledRounds.{graph_of}
use Rattle.sim_run.specs.Booked.{own_digest}
use Rattle.sim_run.proofs.Books.{is-want, own-opened}
use Rattle.sim_run.proofs.booked.open_on.Goals as goal

pub open-requires : goal.open-requires
open-requires c = record { empty = c.requires.empty }

pub returns-in-Ok : goal.returns-in-Ok
returns-in-Ok c =
    let r = c.args.graph.rollout in
    let v = verdict r own_digest c.args.disk.timeline.medium.bytes in
    let opened = c.in-Ok.ensures.opened in
    let new = c.in-Ok.ensures.book in
    record {
      live = new.live;
      brought = found_brought v r c.in-Ok.book.entries (graph_of c.in-Ok.book) opened.rollout opened.entries opened.found;
      own = own-opened c.in-Ok.book.disk.timeline.medium.bytes (MayLeave c.in-Ok.book.disk.timeline.medium) r v opened.on.keeps;
      found = new.count ∙ ap length new.list;
    }

pub want_of_memory-requires : goal.want_of_memory-requires
want_of_memory-requires c =
    is-want c.in-Err.unopened.cause own_digest (verdict c.args.graph.rollout own_digest c.args.disk.timeline.medium.bytes) c.in-Err.ensures.left.refusal c.requires.opens
