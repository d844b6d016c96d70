use Rattle.std.proofs.Common.{◌*◌, ap, sym, ◌∙◌}
use Rattle.rollout_rules.specs.Wan.{Rollout}
use Rattle.dependency_graph.specs.Graph.{op_total}
use Rattle.rollout_book.proofs.Openings.{kept-found}
use Rattle.rollout_book.proofs.opening.find.Goals as goal

pub returns-in-Ok-clause-found : goal.returns-in-Ok-clause-found
returns-in-Ok-clause-found g c =
    let opened = c.in-Ok.ensures.opened in
    let journal = c.in-Ok.ensures.journal in
    record {
      live = journal.live;
      most = journal.most ∙ ap (λ (r : Rollout). 2 * op_total r) (sym opened.rollout);
      count = journal.count;
      same = opened.entries;
      kept = kept-found c.args.graph.now.rollout c.args.digest.now c.in-Ok.list c.recover.new.graph.history opened.entries (g.D.Disk.told c.in-Ok.journal.disk).bytes (g.D.Disk.told c.in-Ok.journal.disk).may_leave
          (g.D.Disk.told c.args.disk).bytes opened.on.told opened.found opened.on.keeps;
    }
