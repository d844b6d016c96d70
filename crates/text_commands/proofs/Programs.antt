-- A whole run, from its ending and what was noted.
use Rattle.std.proofs.Common.{◌≡◌, ℕ, List, true, false, Option, Some, None, Result, Ok, Err, IsTrue, refl, sym, ap, ◌∙◌, subst, inl, inr, arith}
use Rattle.wan_edge.specs.Streams.{Rose, SourceTrace}
use Rattle.wan_edge.proofs.Chains.{Appends-nothing}
use Rattle.text_commands.specs.CommandEnds.{status_of, tells_place}
use Rattle.text_commands.specs.Lines.{IsLineOf, IsToldAs}
use Rattle.text_commands.specs.Program.{Streams, IsStatus, IsRun, IsEnded, IsUnfinished}
use Rattle.text_commands.specs.Uses.{Uses}
use Rattle.text_commands.specs.Runs.{EndsWith, Follows, FollowsInput, IsTold, Notes, Runs}
use Rattle.text_commands.specs.declared.command_end.CommandEnd.{CommandEnd}
use Rattle.text_commands.specs.declared.command_end.CommandEnd.TheVariants.{Done, Usage, AboveLimit, Input, NotValid, NoPlan, Unshown, ReadFault, WriteFault, DiskFault, GuestFault, Refused, NotFinished, OutOfMemory}
use Rattle.text_commands.specs.declared.line.Line.{Line}
use Rattle.text_commands.specs.declared.unfinished.Unfinished.{Unfinished}
use Rattle.text_commands.specs.Words.{TextAsked}
use Rattle.text_commands.proofs.Statuses.{is-done, is-usage, is-read-fault, is-write-fault, is-disk-fault, is-fleet-fault, is-status, is-unfinished, not-status}

-- ---- what an ending says of the input and the sink

pub ends-unwritten : (answer : Result (List ℕ) CommandEnd) (e : CommandEnd) (out now : Option (List ℕ)) → EndsWith answer e out now → (e ≡ Done → ⊥) → (e ≡ WriteFault → ⊥) → now ≡ out
ends-unwritten (Ok text) e out now (inl done) d w = absurd (d done.0)
ends-unwritten (Ok text) e out now (inr cut) d w = absurd (w cut.0)
ends-unwritten (Err x) e out now h d w = h.1

-- nothing was written but a text, or a part of it
pub follows-unwritten : (answer : Result (List ℕ) CommandEnd) (e : CommandEnd) (out now : Option (List ℕ)) → Follows answer e out now → (status_of e ≡ 0 → ⊥) → (status_of e ≡ 7 → ⊥) → now ≡ out
follows-unwritten answer Done out now h d w = ends-unwritten answer Done out now h (λ is. d (ap status_of is)) (λ is. w (ap status_of is))
follows-unwritten answer Usage out now h d w = ends-unwritten answer Usage out now h (λ is. d (ap status_of is)) (λ is. w (ap status_of is))
follows-unwritten answer AboveLimit out now h d w = ends-unwritten answer AboveLimit out now h (λ is. d (ap status_of is)) (λ is. w (ap status_of is))
follows-unwritten answer (Input f) out now h d w = ends-unwritten answer (Input f) out now h (λ is. d (ap status_of is)) (λ is. w (ap status_of is))
follows-unwritten answer (NotValid p b) out now h d w = ends-unwritten answer (NotValid p b) out now h (λ is. d (ap status_of is)) (λ is. w (ap status_of is))
follows-unwritten answer (NoPlan u) out now h d w = ends-unwritten answer (NoPlan u) out now h (λ is. d (ap status_of is)) (λ is. w (ap status_of is))
follows-unwritten answer (Unshown u) out now h d w = ends-unwritten answer (Unshown u) out now h (λ is. d (ap status_of is)) (λ is. w (ap status_of is))
follows-unwritten answer ReadFault out now h d w = ends-unwritten answer ReadFault out now h (λ is. d (ap status_of is)) (λ is. w (ap status_of is))
follows-unwritten answer WriteFault out now h d w = ends-unwritten answer WriteFault out now h (λ is. d (ap status_of is)) (λ is. w (ap status_of is))
follows-unwritten answer DiskFault out now h d w = ends-unwritten answer DiskFault out now h (λ is. d (ap status_of is)) (λ is. w (ap status_of is))
follows-unwritten answer GuestFault out now h d w = ends-unwritten answer GuestFault out now h (λ is. d (ap status_of is)) (λ is. w (ap status_of is))
follows-unwritten answer (Refused f) out now h d w = ends-unwritten answer (Refused f) out now h (λ is. d (ap status_of is)) (λ is. w (ap status_of is))
follows-unwritten answer (NotFinished u) out now h d w = ends-unwritten answer (NotFinished u) out now h (λ is. d (ap status_of is)) (λ is. w (ap status_of is))
follows-unwritten answer OutOfMemory out now h d w = h

-- where memory sufficed it ends as the answer says
pub follows-ends : (answer : Result (List ℕ) CommandEnd) (e : CommandEnd) (out now : Option (List ℕ)) → Follows answer e out now → (status_of e ≡ 12 → ⊥) → EndsWith answer e out now
follows-ends answer Done out now h memory = h
follows-ends answer Usage out now h memory = h
follows-ends answer AboveLimit out now h memory = h
follows-ends answer (Input f) out now h memory = h
follows-ends answer (NotValid p b) out now h memory = h
follows-ends answer (NoPlan u) out now h memory = h
follows-ends answer (Unshown u) out now h memory = h
follows-ends answer ReadFault out now h memory = h
follows-ends answer WriteFault out now h memory = h
follows-ends answer DiskFault out now h memory = h
follows-ends answer GuestFault out now h memory = h
follows-ends answer (Refused f) out now h memory = h
follows-ends answer (NotFinished u) out now h memory = h
follows-ends answer OutOfMemory out now h memory = absurd (memory refl)

module _ (c : TextAsked) (source source_now : SourceTrace) (out out_now : Option (List ℕ)) where
  pub follows-of : (t : CommandEnd) → Runs c source source_now t out out_now → (status_of t ≡ 6 → ⊥) → (status_of t ≡ 12 → ⊥) → FollowsInput c source source_now t out out_now
  follows-of Done r read memory = r
  follows-of Usage r read memory = r
  follows-of AboveLimit r read memory = r
  follows-of (Input f) r read memory = r
  follows-of (NotValid p b) r read memory = r
  follows-of (NoPlan u) r read memory = r
  follows-of (Unshown u) r read memory = r
  follows-of ReadFault r read memory = absurd (read refl)
  follows-of WriteFault r read memory = r
  follows-of DiskFault r read memory = r
  follows-of GuestFault r read memory = r
  follows-of (Refused f) r read memory = r
  follows-of (NotFinished u) r read memory = r
  follows-of OutOfMemory r read memory = absurd (memory refl)

  pub text-unwritten : (t : CommandEnd) → Runs c source source_now t out out_now → (status_of t ≡ 0 → ⊥) → (status_of t ≡ 7 → ⊥) → out_now ≡ out
  text-unwritten Done r done cut = absurd (done refl)
  text-unwritten Usage r done cut = ends-unwritten _ _ out out_now r.answer (λ e. cc) (λ e. cc)
  text-unwritten AboveLimit r done cut = ends-unwritten _ _ out out_now r.answer (λ e. cc) (λ e. cc)
  text-unwritten (Input f) r done cut = ends-unwritten _ _ out out_now r.answer (λ e. cc) (λ e. cc)
  text-unwritten (NotValid p b) r done cut = ends-unwritten _ _ out out_now r.answer (λ e. cc) (λ e. cc)
  text-unwritten (NoPlan u) r done cut = ends-unwritten _ _ out out_now r.answer (λ e. cc) (λ e. cc)
  text-unwritten (Unshown u) r done cut = ends-unwritten _ _ out out_now r.answer (λ e. cc) (λ e. cc)
  text-unwritten ReadFault r done cut = r
  text-unwritten WriteFault r done cut = absurd (cut refl)
  text-unwritten DiskFault r done cut = ends-unwritten _ _ out out_now r.answer (λ e. cc) (λ e. cc)
  text-unwritten GuestFault r done cut = ends-unwritten _ _ out out_now r.answer (λ e. cc) (λ e. cc)
  text-unwritten (Refused f) r done cut = ends-unwritten _ _ out out_now r.answer (λ e. cc) (λ e. cc)
  text-unwritten (NotFinished u) r done cut = ends-unwritten _ _ out out_now r.answer (λ e. cc) (λ e. cc)
  text-unwritten OutOfMemory r done cut = r

-- an ending that tells a place writes nothing
place-silent : (e : CommandEnd) → tells_place e ≡ true → (status_of e ≡ 0 → ⊥) × (status_of e ≡ 7 → ⊥)
place-silent Done h = cc
place-silent Usage h = cc
place-silent AboveLimit h = cc
place-silent (Input f) h = (λ e. omega (arith, e), λ e. omega (arith, e))
place-silent (NotValid p b) h = (λ e. omega (arith, e), λ e. omega (arith, e))
place-silent (NoPlan u) h = (λ e. omega (arith, e), λ e. omega (arith, e))
place-silent (Unshown u) h = cc
place-silent ReadFault h = cc
place-silent WriteFault h = cc
place-silent DiskFault h = cc
place-silent GuestFault h = cc
place-silent (Refused f) h = (λ e. omega (arith, e), λ e. omega (arith, e))
place-silent (NotFinished u) h = (not-status 0 refl u, not-status 7 refl u)
place-silent OutOfMemory h = cc

-- what is told of an ending holds of the one that it is told as: for lack of memory for a line, where nothing was written
pub told-brings : (Holds : CommandEnd → Type 0) (out out_now : Option (List ℕ)) (e t : CommandEnd) → IsToldAs e t → Holds e → ((status_of e ≡ 0 → ⊥) → (status_of e ≡ 7 → ⊥) → out_now ≡ out)
    → (out_now ≡ out → Holds OutOfMemory) → Holds t
told-brings Holds out out_now e t (inl same) holds silent memory = subst Holds (sym same) holds
told-brings Holds out out_now e t (inr none) holds silent memory = let place = place-silent e none.1 in subst Holds (sym none.0) (memory (silent place.0 place.1))

told-silent : (out out_now : Option (List ℕ)) (e t : CommandEnd) → IsToldAs e t → ((status_of e ≡ 0 → ⊥) → (status_of e ≡ 7 → ⊥) → out_now ≡ out) → (status_of t ≡ 0 → ⊥) → (status_of t ≡ 7 → ⊥) → out_now ≡ out
told-silent out out_now e t (inl same) silent done cut = silent (λ h. done (ap status_of same ∙ h)) (λ h. cut (ap status_of same ∙ h))
told-silent out out_now e t (inr none) silent done cut = let place = place-silent e none.1 in silent place.0 place.1

-- an ending is told by the line that was written
pub told-by : (e t : CommandEnd) (line : Line) (status : ℕ) (before now : Option (List ℕ)) (faults faults_now : ℕ) → IsLineOf e t line → status ≡ status_of t → Notes t before now faults faults_now → IsTold e status before now faults faults_now
told-by e t line status before now faults faults_now is s n = record { told = t; is = is.is; is_status = s; line = n }

-- an ending that isn't lack of memory is the one that was told
pub told-same : (e t : CommandEnd) → IsToldAs e t → (t ≡ OutOfMemory → ⊥) → e ≡ t
told-same e t (inl same) h = sym same
told-same e t (inr memory) h = absurd (h memory.0)

-- a run of a command has another status than words that are no command line
pub not-usage : (e : CommandEnd) (status : ℕ) (before now : Option (List ℕ)) (faults faults_now : ℕ) → (e ≡ Usage → ⊥) → IsTold e status before now faults faults_now → status ≡ 2 → ⊥
not-usage e status before now faults faults_now ran told h =
    let usage : told.told ≡ Usage = is-usage told.told (sym told.is_status ∙ h) in
    ran (told-same e told.told told.is (λ m. let no : Usage ≡ OutOfMemory = sym usage ∙ m in cc) ∙ usage)

-- a run of a command that uses these
pub command-run : {A : Type 0} (uses : Uses) (asked : Option A) (c : A) (before after : Streams) (e : CommandEnd) (status : ℕ) → asked ≡ Some c
    → ((status_of e ≡ 0 → ⊥) → (status_of e ≡ 7 → ⊥) → after.sink.written ≡ before.sink.written)
    → (e ≡ ReadFault → Rose before.source.faults after.source.faults) → (e ≡ WriteFault → Rose before.sink.faults after.sink.faults)
    → (e ≡ DiskFault → IsTrue uses.journal × Rose before.disk_faults after.disk_faults)
    → (e ≡ GuestFault → IsTrue uses.guests × Rose before.fleet_faults after.fleet_faults)
    → ((u : Unfinished) → e ≡ NotFinished u → IsTrue uses.ports) → (e ≡ Usage → ⊥)
    → IsTold e status before.notes.written after.notes.written before.notes.faults after.notes.faults → IsRun uses asked before after status
command-run uses asked c before after e status is silent read write disk guest unfinished ran told =
    let t = told.told in
    let was : (x : CommandEnd) → (x ≡ OutOfMemory → ⊥) → t ≡ x → e ≡ x = λ x other same. told-same e t told.is (λ m. other (sym same ∙ m)) ∙ same in
    record {
      statuses = subst IsStatus (sym told.is_status) (is-status t);
      usage = (λ h. absurd (ran (was Usage (λ m. cc) (is-usage t (sym told.is_status ∙ h)))), λ h. absurd (let no : Some c ≡ None = sym is ∙ h in cc));
      read_fault = λ h. read (was ReadFault (λ m. cc) (is-read-fault t (sym told.is_status ∙ h)));
      write_fault = λ h. write (was WriteFault (λ m. cc) (is-write-fault t (sym told.is_status ∙ h)));
      disk_fault = λ h. disk (was DiskFault (λ m. cc) (is-disk-fault t (sym told.is_status ∙ h)));
      fleet_fault = λ h. elim (is-fleet-fault t (sym told.is_status ∙ h)) [
        | inl same ↦ inl (guest (was GuestFault (λ m. cc) same))
        | inr more ↦ inr (unfinished more.0 (was (NotFinished more.0) (λ m. cc) more.1))
      ];
      unfinished = λ h. let more = is-unfinished t (subst IsUnfinished told.is_status h) in unfinished more.0 (was (NotFinished more.0) (λ m. cc) more.1);
      silent = λ done cut. told-silent before.sink.written after.sink.written e t told.is silent (λ h. done (told.is_status ∙ h)) (λ h. cut (told.is_status ∙ h));
      noted = record { ending = t; is_status = told.is_status; line = told.line };
    }

-- an ending whose line is known is told as it is
pub known-told : (e t : CommandEnd) → tells_place e ≡ false → IsToldAs e t → t ≡ e
known-told e t known (inl same) = same
known-told e t known (inr memory) = absurd (let no : true ≡ false = sym memory.1 ∙ known in cc)

-- an ending before anything was read
pub ended : (before after : Streams) (e : CommandEnd) (status : ℕ) → tells_place e ≡ false → after.source ≡ before.source → after.sink.written ≡ before.sink.written
    → IsTold e status before.notes.written after.notes.written before.notes.faults after.notes.faults → IsEnded e before after status
ended before after e status known source written told =
    let same = known-told e told.told known told.is in
    record {
      is_status = told.is_status ∙ ap status_of same;
      line = rw (sym same) told.line;
      unread = source;
      unwritten = written;
    }

-- a run whose words are no command line
pub usage-run : {A : Type 0} (uses : Uses) (asked : Option A) (before after : Streams) (status : ℕ) → asked ≡ None → after.source ≡ before.source → after.sink.written ≡ before.sink.written
    → IsTold Usage status before.notes.written after.notes.written before.notes.faults after.notes.faults → IsRun uses asked before after status
usage-run uses asked before after status is source written told =
    let e = ended before after Usage status refl source written told in
    let two : status ≡ 2 = e.is_status in
    record {
      statuses = subst IsStatus (sym e.is_status) refl;
      usage = (λ _. is, λ _. e.is_status);
      read_fault = λ h. absurd (omega (arith, h, two));
      write_fault = λ h. absurd (omega (arith, h, two));
      disk_fault = λ h. absurd (omega (arith, h, two));
      fleet_fault = λ h. absurd (omega (arith, h, two));
      unfinished = λ h. absurd (let no : IsUnfinished 2 = subst IsUnfinished two h in cc);
      silent = λ done cut. written;
      noted = record { ending = Usage; is_status = e.is_status; line = e.line };
    }

pub ruleset telling = (told-by, Appends-nothing, is-done)
