use Rattle.std.proofs.Common.{◌≡◌, ◌<◌, ◌≤◌}
use Rattle.fenced_ports.specs.Parts.{left}
use Rattle.fenced_ports.specs.Sieves.{AfterPart, Sifts}
use Rattle.fenced_ports.proofs.hearing.hear_plain.Given as goal

-- what the bytes so far have changed, of which all but the last one are silent
abbrev pub invariant-loop-part : goal.invariant-loop-part
invariant-loop-part g l = record {
  place : l.sieve.at < 18;
  sifts : Sifts l.term (g.T.Port.told l.fn.port).heard l.fn.sieve (g.T.Port.told l.port).heard l.sieve;
  after : AfterPart l.part l.fn.sieve l.sieve;
  quiet : (g.T.Port.told l.port).quiet ≡ (g.T.Port.told l.fn.port).quiet;
  unsent : (g.T.Port.told l.port).offered ≡ (g.T.Port.told l.fn.port).offered;
  count : (g.T.Port.told l.fn.port).faults ≤ (g.T.Port.told l.port).faults;
}

abbrev pub decreases-loop-part : goal.decreases-loop-part
decreases-loop-part g l = left l.part l.sieve.at
