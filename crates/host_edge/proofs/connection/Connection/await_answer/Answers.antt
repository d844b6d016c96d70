use Rattle.std.proofs.Common.{◌∙◌, sym}
use Rattle.host_edge.proofs.Sorting.{cut_more, empty_list}
use Rattle.host_edge.proofs.connection.Connection.await_answer.Goals as goal

pub loop-preserved : goal.loop-preserved
loop-preserved g c =
    let known = g.S.Read.remaining in
    let first = c.args.self.now in
    let mid = c.loop.self in
    let now = c.read.new.self in
    let sorted = c.read.ensures.sorted in
    let empty = empty_list now.inbox.ready (sym c.is_empty.ensures.empty ∙ c.if-not-is_empty.false) in
    let cut = cut_more (known first.stream) (known mid.stream) (known now.stream) first.inbox mid.inbox now.inbox first.came mid.came now.came sorted.0 c.loop.invariant.cut sorted.2 sorted.3 sorted.4 empty in
    record { cut = cut; outbox = c.read.ensures.outbox ∙ c.loop.invariant.outbox }
