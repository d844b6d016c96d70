use Rattle.std.proofs.Common.{◌≤◌, arith, subst}
use Rattle.std.proofs.lemmas.List.{length-take}
use Rattle.host_edge.specs.Inboxes.{IsCutFronted}
use Rattle.host_edge.proofs.Sorting.{by_places, cut_is}
use Rattle.host_edge.proofs.inbox.Inbox.sorted.Goals as goal

pub invariant_of-result : goal.invariant_of-result
invariant_of-result c =
    let whole = c.whole_len-whole in
    let within : whole.result ≤ c.args.end = omega (arith, whole.ensures.within, length-take c.args.end c.args.bytes) in
    (omega arith, within, c.requires, subst IsCutFronted (cut_is c.args.bytes whole.result c.args.end within) whole.ensures.sorted.begun)

pub returns : goal.returns
returns c =
    let whole = c.whole_len-whole in
    let within : whole.result ≤ c.args.end = omega (arith, whole.ensures.within, length-take c.args.end c.args.bytes) in
    by_places c.args.bytes whole.result c.args.end within whole.ensures.sorted
