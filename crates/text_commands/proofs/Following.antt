-- How a run follows from reading its source.
use Rattle.std.proofs.Common.{◌≡◌, ℕ, List, Option, refl, subst}
use Rattle.wan_edge.specs.Streams.{SourceTrace}
use Rattle.text_commands.specs.Answers.{answer_in}
use Rattle.text_commands.specs.Reading.{IsShortInput, IsCut}
use Rattle.text_commands.specs.Runs.{EndsWith, Follows, FollowsInput, Runs}
use Rattle.text_commands.specs.Safety.{DoesSafely}
use Rattle.text_commands.specs.Taken.{IsTaken}
use Rattle.text_commands.specs.declared.command_end.CommandEnd.{CommandEnd}
use Rattle.text_commands.specs.declared.command_end.CommandEnd.TheVariants.{Done, Usage, AboveLimit, Input, NotValid, NoPlan, Unshown, ReadFault, WriteFault, DiskFault, GuestFault, Refused, NotFinished, OutOfMemory}
use Rattle.text_commands.specs.declared.unfinished.Unfinished.{Unfinished}
use Rattle.text_commands.specs.Words.{TextAsked}
use Rattle.text_commands.proofs.Answering.{no-read-fault}
use Rattle.text_commands.proofs.Inputs.{beyond-follows, short-answered}
use Rattle.text_commands.proofs.Refused.{answer-judged, refused-exactly}

short-follows : (c : TextAsked) (source source_now : SourceTrace) (out out_now : Option (List ℕ)) (bytes : List ℕ) (e : CommandEnd) → IsShortInput source source_now bytes → EndsWith (answer_in c bytes) e out out_now → (e ≡ OutOfMemory → ⊥) → (e ≡ Done → DoesSafely c bytes) → FollowsInput c source source_now e out out_now
short-follows c source source_now out out_now bytes e s h some safe = record {
  input = bytes;
  read = s.input;
  answer = rw (short-answered c bytes s.within) h;
  refused = refused-exactly (IsTaken c bytes) (answer_in c bytes) e out out_now h some (answer-judged c bytes s.within);
  safe = safe;
}

pub short-runs : (c : TextAsked) (source source_now : SourceTrace) (out out_now : Option (List ℕ)) (bytes : List ℕ) (e : CommandEnd) → IsShortInput source source_now bytes → Follows (answer_in c bytes) e out out_now → (e ≡ Done → DoesSafely c bytes) → Runs c source source_now e out out_now
short-runs c source source_now out out_now bytes Done s h safe = short-follows c source source_now out out_now bytes _ s h (λ m. cc) safe
short-runs c source source_now out out_now bytes Usage s h safe = short-follows c source source_now out out_now bytes _ s h (λ m. cc) safe
short-runs c source source_now out out_now bytes AboveLimit s h safe = short-follows c source source_now out out_now bytes _ s h (λ m. cc) safe
short-runs c source source_now out out_now bytes (Input f) s h safe = short-follows c source source_now out out_now bytes _ s h (λ m. cc) safe
short-runs c source source_now out out_now bytes (NotValid p b) s h safe = short-follows c source source_now out out_now bytes _ s h (λ m. cc) safe
short-runs c source source_now out out_now bytes (NoPlan u) s h safe = short-follows c source source_now out out_now bytes _ s h (λ m. cc) safe
short-runs c source source_now out out_now bytes (Unshown u) s h safe = short-follows c source source_now out out_now bytes _ s h (λ m. cc) safe
short-runs c source source_now out out_now bytes ReadFault s h safe = absurd (no-read-fault c bytes out out_now h)
short-runs c source source_now out out_now bytes WriteFault s h safe = short-follows c source source_now out out_now bytes _ s h (λ m. cc) safe
short-runs c source source_now out out_now bytes DiskFault s h safe = short-follows c source source_now out out_now bytes _ s h (λ m. cc) safe
short-runs c source source_now out out_now bytes GuestFault s h safe = short-follows c source source_now out out_now bytes _ s h (λ m. cc) safe
short-runs c source source_now out out_now bytes (Refused f) s h safe = short-follows c source source_now out out_now bytes _ s h (λ m. cc) safe
short-runs c source source_now out out_now bytes (NotFinished u) s h safe = short-follows c source source_now out out_now bytes _ s h (λ m. cc) safe
short-runs c source source_now out out_now bytes OutOfMemory s h safe = h

pub cut-runs : (c : TextAsked) (source source_now : SourceTrace) (out : Option (List ℕ)) (e : CommandEnd) → IsCut source e source_now → Runs c source source_now e out out
cut-runs c source source_now out Done r = absurd r
cut-runs c source source_now out Usage r = absurd r
cut-runs c source source_now out AboveLimit r = beyond-follows c source source_now out r
cut-runs c source source_now out (Input f) r = absurd r
cut-runs c source source_now out (NotValid p b) r = absurd r
cut-runs c source source_now out (NoPlan u) r = absurd r
cut-runs c source source_now out (Unshown u) r = absurd r
cut-runs c source source_now out ReadFault r = refl
cut-runs c source source_now out WriteFault r = absurd r
cut-runs c source source_now out DiskFault r = absurd r
cut-runs c source source_now out GuestFault r = absurd r
cut-runs c source source_now out (Refused f) r = absurd r
cut-runs c source source_now out (NotFinished u) r = absurd r
cut-runs c source source_now out OutOfMemory r = refl

-- no reading ends as a rollout does
pub cut-rollout : (source source_now : SourceTrace) (e : CommandEnd) (u : Unfinished) → IsCut source e source_now → e ≡ NotFinished u → ⊥
cut-rollout source source_now e u cut is = subst (λ x. IsCut source x source_now) is cut
