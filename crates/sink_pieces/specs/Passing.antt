-- Pieces of a text on their way to a sink: they are written, or kept for it.
use Rattle.std.specs.Prelude.{◌≡◌, ℕ, ◌+◌, Bool, true, false, List, [], ◌++◌, length, take, Option}
use Rattle.std.proofs.Common.{refl, sym, ap, subst, ◌∙◌, append_assoc, append-nil, length-append, arith}
use Rattle.std.proofs.Math.Seq.{take-append-add}
use Rattle.std.proofs.lemmas.List.{take-append-le}
use Rattle.wan_edge.specs.Streams.{Appends, AppendsPart, Rose, SinkSteps, SinkTrace, SourceTrace}
use Rattle.wan_edge.proofs.Chains.{Appends-chain, Appends-nothing, sink_stays, sink_steps}
use Rattle.wan_edge.proofs.Faults.{rose_since}

-- the first of these bytes were written, and the others are kept
pub record GoesOn (bytes : List ℕ) (before : Option (List ℕ)) (kept : List ℕ) (now : Option (List ℕ)) : Type 0 where
  pub out : List ℕ
  pub written : Appends before out now
  pub parts : bytes ≡ out ++ kept

-- a write failed, and a part of these bytes was written
pub record Stops (bytes : List ℕ) (before now : SinkTrace) : Type 0 where
  pub part : AppendsPart before.written bytes now.written
  pub cause : Rose before.faults now.faults

-- Where a text stands at a moment: what its sink tells, as a sink and as a source; the bytes that are kept for it; and whether a write has failed.
pub record Standing : Type 0 where
  pub told : SinkTrace
  pub source : SourceTrace
  pub kept : List ℕ
  pub failed : Bool

-- What came of these bytes, by whether a write had failed before and has failed now: after a failure nothing is written any more.
abbrev pub Moves : Bool → Bool → List ℕ → Standing → Standing → Type 0
Moves false false bytes before now = GoesOn bytes before.told.written now.kept now.told.written
Moves false true bytes before now = Stops bytes before.told now.told
Moves true failed bytes before now = (failed ≡ true) × (now.told ≡ before.told)

-- these bytes were taken after what was kept
pub record Takes (bytes : List ℕ) (before now : Standing) : Type 0 where
  pub step : SinkSteps before.told now.told
  pub apart : now.source ≡ before.source
  pub moves : Moves before.failed now.failed (before.kept ++ bytes) before now

-- ---- none is taken, and some after others

nothing-moves : (failed : Bool) (s : Standing) → Moves failed failed (s.kept ++ []) s s
nothing-moves false s = record {
  out = [];
  written = Appends-nothing s.told.written;
  parts = append-nil s.kept;
}
nothing-moves true s = (refl, refl)

pub Takes-nothing : (s : Standing) → Takes [] s s
Takes-nothing s = record {
  step = sink_stays s.told;
  apart = refl;
  moves = nothing-moves s.failed s;
}

-- a part of what comes after bytes that were written
pub part_behind : (a b c : Option (List ℕ)) (out rest all : List ℕ) → all ≡ out ++ rest → Appends a out b → AppendsPart b rest c → AppendsPart a all c
part_behind a b c out rest all is written part =
    subst (λ xs. AppendsPart a xs c) (sym is) (record {
      count = length out + part.count;
      not_all = omega (arith, length-append out rest, part.not_all);
      appended = subst (λ xs. Appends a xs c) (sym (take-append-add out rest part.count)) (Appends-chain a b c out (take part.count rest) written part.appended);
    })

-- a part of a front is one of all
pub part_of_front : (a c : Option (List ℕ)) (front behind : List ℕ) → AppendsPart a front c → AppendsPart a (front ++ behind) c
part_of_front a c front behind part = record {
  count = part.count;
  not_all = omega (arith, length-append front behind, part.not_all);
  appended = subst (λ xs. Appends a xs c) (sym (take-append-le part.count front behind (omega (arith, part.not_all)))) part.appended;
}

pub stops_behind : (a b c : SinkTrace) (out rest all : List ℕ) → SinkSteps a b → all ≡ out ++ rest → Appends a.written out b.written → Stops rest b c → Stops all a c
stops_behind a b c out rest all step is written stops = record {
  part = part_behind a.written b.written c.written out rest all is written stops.part;
  cause = rose_since a.faults b.faults c.faults step.count stops.cause;
}

pub stops_in_front : (a c : SinkTrace) (front behind : List ℕ) → Stops front a c → Stops (front ++ behind) a c
stops_in_front a c front behind stops = record {
  part = part_of_front a.written c.written front behind stops.part;
  cause = stops.cause;
}

pub goes_further : (a b c : Option (List ℕ)) (bytes between more kept : List ℕ) → GoesOn bytes a between b → GoesOn (between ++ more) b kept c → GoesOn (bytes ++ more) a kept c
goes_further a b c bytes between more kept first second = record {
  out = first.out ++ second.out;
  written = Appends-chain a b c first.out second.out first.written second.written;
  parts = ap (λ t. t ++ more) first.parts ∙ append_assoc first.out between more ∙ ap (λ t. first.out ++ t) second.parts ∙ sym (append_assoc first.out second.out kept);
}

moves_further : (fa fb fc : Bool) (first second : List ℕ) (a b c : Standing) → SinkSteps a.told b.told
    → Moves fa fb (a.kept ++ first) a b → Moves fb fc (b.kept ++ second) b c → Moves fa fc ((a.kept ++ first) ++ second) a c
moves_further false false false first second a b c step x y =
    goes_further a.told.written b.told.written c.told.written (a.kept ++ first) b.kept second c.kept x y
moves_further false false true first second a b c step x y =
    stops_behind a.told b.told c.told x.out (b.kept ++ second) ((a.kept ++ first) ++ second) step
    (ap (λ t. t ++ second) x.parts ∙ append_assoc x.out b.kept second) x.written y
moves_further false true true first second a b c step x y =
    subst (λ t. Stops ((a.kept ++ first) ++ second) a.told t) (sym y.1) (stops_in_front a.told b.told (a.kept ++ first) second x)
moves_further false true false first second a b c step x y = cc
moves_further true true fc first second a b c step x y = (y.0, y.1 ∙ x.1)
moves_further true false fc first second a b c step x y = cc

pub Takes-chain : (a b c : Standing) (first second : List ℕ) → Takes first a b → Takes second b c → Takes (first ++ second) a c
Takes-chain a b c first second x y = record {
  step = sink_steps a.told b.told c.told x.step y.step;
  apart = y.apart ∙ x.apart;
  moves = subst (λ bytes. Moves a.failed c.failed bytes a c) (append_assoc a.kept first second)
      (moves_further a.failed b.failed c.failed first second a b c x.step x.moves y.moves);
}
