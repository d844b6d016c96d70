-- What a whole text comes to that is pushed from the first byte on, and finished.
use Rattle.std.proofs.Common.{◌≡◌, ℕ, Bool, true, false, List, [], ◌++◌, Option, OnOk, OnErr, Result, Ok, Err, sym, ap, subst, ◌∙◌, append_assoc}
use Rattle.wan_edge.specs.Streams.{Appends, SinkSteps, SinkTrace, SourceTrace}
use Rattle.wan_edge.specs.declared.stream.Failed.{Failed}
use Rattle.wan_edge.proofs.Chains.{Appends-chain}
use Rattle.sink_pieces.specs.Passing.{GoesOn, Moves, Standing, Stops, Takes, stops_behind}
use Rattle.sink_pieces.specs.Pushing.{Ends, Finishes, Pushes, standing}
use Rattle.sink_pieces.specs.declared.piece_sink.PieceSink.{PieceSink}

-- what was begun with bytes that were written goes on
pub behind_written : (a b c : Option (List ℕ)) (out bytes kept : List ℕ) → Appends a out b → GoesOn bytes b kept c → GoesOn (out ++ bytes) a kept c
behind_written a b c out bytes kept written on = record {
  out = out ++ on.out;
  written = Appends-chain a b c out on.out written on.written;
  parts = ap (λ t. out ++ t) on.parts ∙ sym (append_assoc out on.out kept);
}

-- all of the text was written, or a part of it where the sink failed
pub record IsWritten (text : List ℕ) (result : Result Unit Failed) (before now : SinkTrace) : Type 0 where
  pub all : OnOk result (Appends before.written text now.written)
  pub stops : OnErr result (Stops text before now)

all-written : (text : List ℕ) (a b c : Standing) → SinkSteps a.told b.told → a.kept ≡ [] → (failed : Bool) → (result : Result Unit Failed) → Moves false failed (a.kept ++ text) a b → Finishes result failed b c → IsWritten text result a.told c.told
all-written text a b c step empty false (Ok done) moves ends =
    let parts : text ≡ moves.out ++ b.kept = ap (λ k. k ++ text) (sym empty) ∙ moves.parts in
    record {
      all = subst (λ t. Appends a.told.written t c.told.written) (sym parts) (Appends-chain a.told.written b.told.written c.told.written moves.out b.kept moves.written ends.1);
      stops = tt;
    }
all-written text a b c step empty true (Ok done) moves ends = cc
all-written text a b c step empty false (Err fault) moves ends =
    let parts : text ≡ moves.out ++ b.kept = ap (λ k. k ++ text) (sym empty) ∙ moves.parts in
    record {
      all = tt;
      stops = stops_behind a.told b.told c.told moves.out b.kept text step parts moves.written ends;
    }
all-written text a b c step empty true (Err fault) moves ends =
    let front : Stops text a.told b.told = subst (λ k. Stops (k ++ text) a.told b.told) empty moves in
    record {
      all = tt;
      stops = subst (λ t. Stops text a.told t) (sym ends) front;
    }

-- A text that was pushed where nothing was kept and nothing had failed, and was finished.
pub written-whole : (text : List ℕ) (a b c : Standing) (result : Result Unit Failed) → a.kept ≡ [] → a.failed ≡ false → Takes text a b → Ends result b c → IsWritten text result a.told c.told
written-whole text a b c result empty sound takes ends =
    all-written text a b c takes.step empty b.failed result (subst (λ f. Moves f b.failed (a.kept ++ text) a b) sound takes.moves) ends.finishes

-- the same of a sink with its buffer
pub whole-written : {K : Type 0} (told : K → SinkTrace) (source : K → SourceTrace) (fresh pushed ended : PieceSink K) (before : SinkTrace) (as_source : SourceTrace) (text : List ℕ) (result : Result Unit Failed)
    → standing told source fresh ≡ record { told = before; source = as_source; kept = []; failed = false }
    → Pushes told source fresh text pushed
    → Ends result (standing told source pushed) (standing told source ended)
    → IsWritten text result before (told ended.sink.now)
whole-written told source fresh pushed ended before as_source text result begins pushes ends =
    subst (λ t. IsWritten text result t (told ended.sink.now)) (ap (λ (s : Standing). s.told) begins)
    (written-whole text (standing told source fresh) (standing told source pushed) (standing told source ended) result
    (ap (λ (s : Standing). s.kept) begins) (ap (λ (s : Standing). s.failed) begins) pushes.takes ends)
