use Rattle.std.proofs.Common.{◌-◌, arith, ◌∙◌, sym}
use Rattle.lists.proofs.Rows.{take_further}
use Rattle.wan_edge.proofs.Chains.{Appends-chain, sink_steps}
use Rattle.wan_edge.proofs.writing.write_all.Goals as goal

pub loop-done-preserved : goal.loop-done-preserved
loop-done-preserved g c =
    let further = take_further _ _ _ c.loop-done.invariant.within c.in_ok-done.ensures.within in
    record {
      within = further.0;
      appended = rw (← further.1) (Appends-chain _ _ _ _ _ c.loop-done.invariant.appended c.in_ok-done.ensures.taken.written);
      apart = c.in_ok-done.ensures.apart ∙ c.loop-done.invariant.apart;
      step = sink_steps _ _ _ c.loop-done.invariant.step c.in_ok-done.ensures.step;
    }
