use Rattle.std.proofs.Common.{ℕ, ◌+◌, ◌-◌, List, length, take, drop, subst}
use Rattle.std.specs.Io.KnownBytes.{Appends}
use Rattle.std.proofs.KnownBytes.{Appends-trans}
use Rattle.lists.proofs.Rows.{take_further}
use Rattle.host_edge.proofs.Noting.{added_further}
use Rattle.host_edge.proofs.unbroken.write_whole.Goals as goal

pub loop-done-preserved : goal.loop-done-preserved
loop-done-preserved g c =
    let from = c.args.from.now in
    let done = c.loop-done.done in
    let n = c.in_ok-done.field-0 in
    let piece : List ℕ = take n (take (length from - done) (drop done from)) in
    let further = take_further from done n c.loop-done.invariant.within c.in_ok-done.ensures.within in
    let before = g.W.Write.contents c.args.writer.now in
    let between = g.W.Write.contents c.loop-done.writer in
    let after = g.W.Write.contents c.write_noted.new.writer in
    record {
      within = further.0;
      taken = subst (λ (bytes : List ℕ). Appends before after bytes) further.1 (Appends-trans before between after (take done from) piece c.loop-done.invariant.taken c.in_ok-done.ensures.taken);
      noted = added_further c.args.written.now c.loop-done.written c.write_noted.new.written (take done from) piece (take (done + n) from) c.loop-done.invariant.noted c.in_ok-done.ensures.noted further.1;
    }
