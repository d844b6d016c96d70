use Rattle.std.proofs.Common.{◌≡◌, ℕ, ◌+◌, ◌≤◌, List, ◌++◌, length, Option, Result, Ok, Err, IsErrAnd, sym, subst, arith, length-append}
use Rattle.std.proofs.lemmas.List.{length-take}
use Rattle.wan_edge.specs.Streams.{FailsToRead, SourceTrace, Takes}
use Rattle.wan_edge.specs.ReadAll.{ReadsMore, ReadsToEnd}
use Rattle.wan_edge.specs.declared.reading.ReadFault.{ReadFault}
use Rattle.wan_edge.specs.declared.reading.ReadFault.TheVariants.{Failed, Memory, TooLong}
use Rattle.wan_edge.proofs.Chains.{Takes-chain}
use Rattle.wan_edge.proofs.reading.read_all.Goals as goal

-- a read that fails takes nothing
unread : (before between now : SourceTrace) (bytes : List ℕ) → Takes bytes before between → FailsToRead between now → Takes bytes before now
unread before between now bytes taken failed = record {
  left = rw failed.left taken.left;
  taken = rw failed.taken taken.taken;
}

-- a read that fails after some bytes ends the whole of it
stops : (most room : ℕ) (before between now : SourceTrace) (bytes longer : List ℕ) (fault : ReadFault) → length bytes ≤ most → room + length bytes ≤ most + 1 → Takes bytes before between → ReadsMore room between bytes (Err fault) longer now → ReadsToEnd most before (Err fault) now
stops most room before between now bytes longer TooLong few fits taken read = absurd read
stops most room before between now bytes longer Failed few fits taken read = record {
  bytes = bytes;
  within = few;
  takes = unread before between now bytes taken read;
}
stops most room before between now bytes longer Memory few fits taken read = record {
  bytes = bytes ++ read.bytes;
  within = omega (arith, length-append bytes read.bytes, read.within);
  takes = Takes-chain before between now bytes read.bytes taken read.takes;
}

-- the fault that `?` gives on is the answer
answers : (most : ℕ) (before now : SourceTrace) (fault : ReadFault) (answer : Result (List ℕ) ReadFault) → IsErrAnd answer (λ e. e ≡ fault) → ReadsToEnd most before (Err fault) now → ReadsToEnd most before answer now
answers most before now fault (Ok bytes) same read = absurd same
answers most before now fault (Err e) same read = subst (λ (f : ReadFault). ReadsToEnd most before (Err f) now) (sym same) read

pub returns-in_err-n-clause-read : goal.returns-in_err-n-clause-read
returns-in_err-n-clause-read g c =
    answers _ _ _ _ _ c.from_residual-in_err-n.ensures.1
    (stops _ _ _ _ _ _ _ _ (omega arith) (grind (arith, length-take c.min-fits.result c.deref_mut.result.now)) c.loop-room.invariant.taken c.in_err-n.ensures.read)
