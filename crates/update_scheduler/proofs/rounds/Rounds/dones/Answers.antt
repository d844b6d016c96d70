use Rattle.std.proofs.Common.{rules, length, ap, arith, Fits, w32}
use Rattle.update_scheduler.specs.Counts.{count_done}
use Rattle.update_scheduler.specs.Rounds.{Turning}
use Rattle.update_scheduler.proofs.Batches.{counts-long}
use Rattle.update_scheduler.proofs.rounds.Rounds.dones.Goals as goal

pub overflow_sub-result : goal.overflow_sub-result
overflow_sub-result c = omega (arith, c.len.ensures, c.self.inside.batch.ok.0, ap length c.begun.ensures, c.self.invariant.begins, counts-long c.self.inside.batch.items)

pub overflow_cast-result : goal.overflow_cast-result
overflow_cast-result c =
    let f : Fits w32 c.items.result = search rules in
    omega (arith, f, c.items.ensures, c.self.invariant.bench_fits, c.self.invariant.few_dones, c.len.ensures, c.self.inside.batch.ok.0, ap length c.begun.ensures, c.self.invariant.begins, counts-long c.self.inside.batch.items)

pub returns : goal.returns
returns c =
    omega (arith, c.len.ensures, c.self.inside.batch.ok.0, ap length c.begun.ensures, c.self.invariant.begins, counts-long c.self.inside.batch.items, ap (λ (t : Turning). count_done t.batch) c.self.view_is)
