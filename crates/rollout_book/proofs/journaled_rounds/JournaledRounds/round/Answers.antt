use Rattle.std.proofs.Common.{arith, ◌≡◌, ◌≤◌, ◌++◌, [], true, List, Some, None, IfOk, IfSome, refl, sym, ap, ◌∙◌, subst}
use Rattle.rollout_rules.specs.History.{with_entries}
use Rattle.rollout_rules.specs.Release.{batch}
use Rattle.rollout_rules.specs.declared.op.Entry.{Entry}
use Rattle.disk_model.specs.Moments.{LeavesOnly}
use Rattle.wan_edge.specs.Streams.{KeepsTelling, Rose}
use Rattle.dependency_graph.specs.Graph.{Followed}
use Rattle.order_policy.specs.Answers.{rank_by}
use Rattle.update_scheduler.specs.Rounds.{Turning}
use Rattle.update_scheduler.specs.Rounds as rounds
use Rattle.rollout_book.specs.Aliens.{first_alien, told_by}
use Rattle.rollout_book.specs.JournaledRounds.{Journaled, batch_of, graph_of, turn_of, with_batch, with_lost}
use Rattle.rollout_book.specs.Lists.{HasBeforeOrAfter, KeepsOwner}
use Rattle.rollout_book.proofs.Owners.{owner-still}
use Rattle.rollout_book.proofs.Rounded.{alien-is, alien-only, alien-still, book-lost, book-still, book-written, book_of, disk-alone, disk-refused, none-alien, on-lost, on-ok, on-written, stays-still}
use Rattle.rollout_book.proofs.Turned.{run-still}
use Rattle.rollout_book.proofs.journaled_rounds.JournaledRounds.round.Goals as goal

pub returns-in-Some : goal.returns-in-Some
returns-in-Some g c =
    let t = c.self.inside.rounds in
    let j = c.self.inside.journal in
    let entries = c.self.inside.entries.items in
    let policy = rank_by c.args.policy.now.answers in
    let answers = c.args.answers.now in
    let fault = c.in-Some.fault in
    let live : j.live ≡ true = ap (λ (b : Journaled g.row.D.Denot). b.live) c.self.view_is ∙ c.requires.live in
    let first : first_alien (graph_of c.args.self.now) answers ≡ Some fault =
    sym (c.in-Some.ensures ∙ ap (λ (f : Followed). first_alien f answers) c.graph.ensures.value ∙ ap (λ (b : Journaled g.row.D.Denot). first_alien (graph_of b) answers) c.self.view_is) in
    record {
      known = tt;
      turn = tt;
      written = tt;
      has = tt;
      alien = alien-is (graph_of c.args.self.now) answers fault first;
      unchanged = alien-still fault _ refl;
      lost = alien-only (graph_of c.args.self.now) answers fault _ first;
      cause = alien-only (graph_of c.args.self.now) answers fault _ first;
      none = λ _. refl;
      any_moment = subst
          (λ (b : Journaled g.row.D.Denot). IfSome (g.D.Disk.told b.disk).bytes (λ _. LeavesOnly g.D.Disk.told b.disk b.disk (HasBeforeOrAfter b.history.start b.entries (batch_of b policy answers))))
          c.self.view_is
          (run-still g.D.Disk.told t.history.start entries (batch_of (book_of t entries j c.self.inside.found) policy answers) (g.D.Disk.told j.disk).bytes j.disk j.disk
          (g.met.D.Disk.only_now j.disk) refl (c.self.invariant.2.kept live));
      owner = subst (λ (b : Journaled g.row.D.Denot). IfSome (g.D.Disk.told b.disk).bytes (λ image. LeavesOnly g.D.Disk.told b.disk b.disk (KeepsOwner image))) c.self.view_is
          (owner-still g.D.Disk.told (g.D.Disk.told j.disk).bytes j.disk j.disk t.history.start entries (g.met.D.Disk.only_now j.disk) refl (c.self.invariant.2.kept live));
      told = refl;
      count = omega arith;
    }

pub hear_each-requires : goal.hear_each-requires
hear_each-requires g c =
    let t = c.self.inside.rounds in
    let answers = c.args.answers.now in
    let none : first_alien (rounds.graph_of t) answers ≡ None = sym (c.in-None.ensures ∙ ap (λ (f : Followed). first_alien f answers) c.graph.ensures.value) in
    record { items = none-alien (rounds.graph_of t) answers none }

pub returns-in-None : goal.returns-in-None
returns-in-None g c =
    let t = c.self.inside.rounds in
    let j = c.self.inside.journal in
    let j' = c.turn.new.journal in
    let entries = c.self.inside.entries.items in
    let found = c.self.inside.found in
    let policy = rank_by c.args.policy.now.answers in
    let answers = c.args.answers.now in
    let heard = c.hear_each.ensures in
    let turned = c.turn.ensures in
    let es = rounds.batch_of c.hear_each.new.rounds policy in
    let es-is : es ≡ batch_of c.args.self.now policy answers =
    ap (λ (u : Turning). rounds.batch_of u policy) heard
    ∙ ap (λ heard. batch t.rollout.problem t.rollout.plan policy t.history (heard ++ told_by answers)) c.self.invariant.0
    ∙ ap (λ (b : Journaled g.row.D.Denot). batch_of b policy answers) c.self.view_is
    in
    let rollout-is = ap (λ (u : Turning). u.rollout) turned.rounds ∙ ap (λ (u : Turning). u.rollout) heard in
    let history-is = ap (λ (u : Turning). u.history) turned.rounds ∙ ap (λ (u : Turning). with_entries u.history es) heard in
    let was-live : j.live ≡ true = ap (λ (b : Journaled g.row.D.Denot). b.live) c.self.view_is ∙ c.requires.live in
    let none-is : first_alien (graph_of c.args.self.now) answers ≡ None =
    sym (c.in-None.ensures ∙ ap (λ (f : Followed). first_alien f answers) c.graph.ensures.value ∙ ap (λ (b : Journaled g.row.D.Denot). first_alien (graph_of b) answers) c.self.view_is) in
    let over-rounds = subst (λ (u : Turning). IfSome (g.D.Disk.told j.disk).bytes (λ _. LeavesOnly g.D.Disk.told j.disk j'.disk (HasBeforeOrAfter u.history.start entries es))) heard turned.any_moment in
    let over-batch = subst (λ (xs : List Entry). IfSome (g.D.Disk.told j.disk).bytes (λ _. LeavesOnly g.D.Disk.told j.disk j'.disk (HasBeforeOrAfter t.history.start entries xs))) es-is over-rounds in
    record {
      known = on-ok c.turn.result _ none-is;
      turn = subst (λ (xs : List Entry). IfOk c.turn.result (λ turn. turn ≡ turn_of xs)) es-is turned.turn;
      written = on-written c.turn.result j'.live _ _ turned.live turned.added
          (λ live added.
          book-written t c.turn.new.rounds entries c.turn.new.entries.items j j' found es rollout-is history-is added (live ∙ sym was-live)
          ∙ ap (λ (xs : List Entry). with_batch (book_of t entries j found) xs j'.disk) es-is
          ∙ ap (λ (b : Journaled g.row.D.Denot). with_batch b (batch_of c.args.self.now policy answers) j'.disk) c.self.view_is);
      has = on-written c.turn.result j'.live _ _ turned.live turned.added (λ live added. turned.own.kept live);
      alien = disk-refused c.turn.result _ turned.fault none-is;
      unchanged = disk-alone c.turn.result _ turned.fault;
      lost = on-lost c.turn.result j'.live _ _ turned.live turned.stays
          (λ dead stays.
          book-lost t c.turn.new.rounds entries c.turn.new.entries.items j j' found es rollout-is history-is stays dead
          ∙ ap (λ (xs : List Entry). with_lost (book_of t entries j found) xs j'.disk) es-is
          ∙ ap (λ (b : Journaled g.row.D.Denot). with_lost b (batch_of c.args.self.now policy answers) j'.disk) c.self.view_is);
      cause = on-lost c.turn.result j'.live _ _ turned.live turned.cause (λ dead rose. subst (λ (b : Journaled g.row.D.Denot). Rose (g.D.Disk.told b.disk).faults (g.D.Disk.told j'.disk).faults) c.self.view_is rose);
      none = λ none.
          let empty : es ≡ [] = es-is ∙ none in
          book-still t c.turn.new.rounds entries c.turn.new.entries.items j j' found es rollout-is history-is empty
          (stays-still c.turn.result entries c.turn.new.entries.items es turned.added turned.stays empty) (turned.none empty)
          ∙ c.self.view_is;
      any_moment = subst
          (λ (b : Journaled g.row.D.Denot). IfSome (g.D.Disk.told b.disk).bytes (λ _. LeavesOnly g.D.Disk.told b.disk j'.disk (HasBeforeOrAfter b.history.start b.entries (batch_of c.args.self.now policy answers))))
          c.self.view_is over-batch;
      owner = subst (λ (b : Journaled g.row.D.Denot). IfSome (g.D.Disk.told b.disk).bytes (λ image. LeavesOnly g.D.Disk.told b.disk j'.disk (KeepsOwner image))) c.self.view_is turned.owner;
      told = subst (λ (b : Journaled g.row.D.Denot). KeepsTelling (g.D.Disk.told b.disk).bytes (g.D.Disk.told j'.disk).bytes) c.self.view_is turned.told;
      count = subst (λ (b : Journaled g.row.D.Denot). (g.D.Disk.told b.disk).faults ≤ (g.D.Disk.told j'.disk).faults) c.self.view_is turned.faults;
    }
