-- What is pushed into a sink, and how that ends.
use Rattle.std.specs.Prelude.{◌≡◌, ℕ, Bool, true, false, List, [], ◌++◌, Result, Ok, Err, OnOk, is_err, IsUtf8}
use Rattle.std.proofs.Common.{refl, ◌∙◌}
use Rattle.std.proofs.lemmas.Str.{IsUtf8-append, IsUtf8-nil}
use Rattle.wan_edge.specs.Streams.{Appends, SinkSteps, SinkTrace, SourceTrace}
use Rattle.wan_edge.specs.declared.stream.Failed.{Failed}
use Rattle.sink_pieces.specs.Passing.{Standing, Stops, Takes, Takes-chain, Takes-nothing}
use Rattle.sink_pieces.specs.declared.piece_sink.PieceSink.{PieceSink}

-- where a text stands
abbrev pub standing : {K : Type 0} → (K → SinkTrace) → (K → SourceTrace) → PieceSink K → Standing
standing told source p = record {
  told = told p.sink.now;
  source = source p.sink.now;
  kept = p.kept.now;
  failed = p.failed;
}

-- these bytes, which are UTF-8, were pushed, and sink and buffer are the same
pub record Pushes {K : Type 0} (told : K → SinkTrace) (source : K → SourceTrace) (before : PieceSink K) (bytes : List ℕ) (now : PieceSink K) : Type 0 where
  pub utf8 : IsUtf8 bytes
  pub same_sink : now.sink.ghost_name ≡ before.sink.ghost_name
  pub same_kept : now.kept.ghost_name ≡ before.kept.ghost_name
  pub takes : Takes bytes (standing told source before) (standing told source now)

pub Pushes-nothing : {K : Type 0} (told : K → SinkTrace) (source : K → SourceTrace) (p : PieceSink K) → Pushes told source p [] p
Pushes-nothing told source p = record {
  utf8 = IsUtf8-nil;
  same_sink = refl;
  same_kept = refl;
  takes = Takes-nothing (standing told source p);
}

pub Pushes-chain : {K : Type 0} (told : K → SinkTrace) (source : K → SourceTrace) (a b c : PieceSink K) (first second : List ℕ)
    → Pushes told source a first b → Pushes told source b second c → Pushes told source a (first ++ second) c
Pushes-chain told source a b c first second x y = record {
  utf8 = IsUtf8-append first second x.utf8 y.utf8;
  same_sink = y.same_sink ∙ x.same_sink;
  same_kept = y.same_kept ∙ x.same_kept;
  takes = Takes-chain (standing told source a) (standing told source b) (standing told source c) first second x.takes y.takes;
}

pub Pushes-utf8 : {K : Type 0} (told : K → SinkTrace) (source : K → SourceTrace) (a b : PieceSink K) (bytes : List ℕ) → Pushes told source a bytes b → IsUtf8 bytes
Pushes-utf8 told source a b bytes x = x.utf8

-- the rest was written, or a write failed, now or before
abbrev pub Finishes : Result Unit Failed → Bool → Standing → Standing → Type 0
Finishes (Ok done) failed before now = (failed ≡ false) × Appends before.told.written before.kept now.told.written
Finishes (Err fault) false before now = Stops before.kept before.told now.told
Finishes (Err fault) true before now = now.told ≡ before.told

-- How a text ends. Once all is written nothing is kept, and after a failure none of it is written any more.
pub record Ends (result : Result Unit Failed) (before now : Standing) : Type 0 where
  pub step : SinkSteps before.told now.told
  pub apart : now.source ≡ before.source
  pub finishes : Finishes result before.failed before now
  pub emptied : OnOk result (now.kept ≡ [])
  pub failed : now.failed ≡ is_err result
