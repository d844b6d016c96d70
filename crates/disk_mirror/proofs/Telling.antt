-- What a disk whose bytes are in memory tells, before a call and after it.
use Rattle.std.proofs.Common.{◌≡◌, inl, inr, ◌⊎◌, ⊎_elim, ℕ, ◌≤◌, List, length, Option, Some, None, Result, Ok, refl, sym, subst, ◌∙◌, ap, arith}
use Rattle.disk_model.specs.Crashes.{Within}
use Rattle.disk_model.specs.Effects.{WritesNothing, WritesSome}
use Rattle.disk_model.specs.Memory.{MayLeave, Timeline, after_write, at_rest, moves_to}
use Rattle.disk_model.proofs.Passing.{passes, write_leaves}
use Rattle.disk_model.proofs.Tearing.{Torn-none}
use Rattle.disk_mirror.specs.Mirrors.{Mirrored, synced_in, trace_in, trace_of, written_in}

-- nothing was done
pub stood : (old new : Option Timeline) (faults faults_now : ℕ) → new ≡ old → faults ≤ faults_now → WritesNothing (trace_in old faults) (trace_in new faults_now)
stood old new faults faults_now is count = subst (λ (t : Option Timeline). WritesNothing (trace_in old faults) (trace_in t faults_now)) (sym is) (record {
  same = refl;
  crash = λ c left. left;
  time = record { later = omega arith; keeps = λ t c earlier left. left; nothing_else = λ t c earlier left. inl left };
  count = count;
})

-- no byte of a write was written
pub none_written : (at n : ℕ) (old new : Option Timeline) (faults faults_now : ℕ) → new ≡ old → faults ≤ faults_now → WritesSome at n (trace_in old faults) (trace_in new faults_now)
none_written at n old new faults faults_now is count = subst (λ (t : Option Timeline). WritesSome at n (trace_in old faults) (trace_in t faults_now)) (sym is) (record {
  told = refl;
  crash = λ c left. (c, left, Torn-none at n c);
  time = record { later = omega arith; keeps = λ t c earlier left. left; nothing_else = λ t c earlier left. inl left };
  count = count;
})

all_written : (at : ℕ) (from : List ℕ) (old : Option Timeline) (faults faults_now : ℕ) → faults ≤ faults_now → WritesSome at (length from) (trace_in old faults) (trace_in (written_in at from old) faults_now)
all_written at from None faults faults_now count = none_written at (length from) None None faults faults_now refl count
all_written at from (Some t) faults faults_now count =
    let new : Timeline = moves_to t (after_write at from t.medium) in
    let done : Result (Unit {0}) (Unit {0}) = Ok tt in
    record {
      told = refl;
      crash = write_leaves at from t new done refl tt;
      time = passes t new (after_write at from t.medium) done refl tt;
      count = count;
    }

-- a write was done in memory, or wasn't
pub writes_some : (at : ℕ) (from : List ℕ) (old new : Option Timeline) (faults faults_now : ℕ) → (new ≡ old) ⊎ (new ≡ written_in at from old) → faults ≤ faults_now
    → WritesSome at (length from) (trace_in old faults) (trace_in new faults_now)
writes_some at from old new faults faults_now (inl stands) count = none_written at (length from) old new faults faults_now stands count
writes_some at from old new faults faults_now (inr done) count =
    subst (λ (t : Option Timeline). WritesSome at (length from) (trace_in old faults) (trace_in t faults_now)) (sym done) (all_written at from old faults faults_now count)

all_synced : (old : Option Timeline) (faults faults_now : ℕ) → faults ≤ faults_now → WritesNothing (trace_in old faults) (trace_in (synced_in old) faults_now)
all_synced None faults faults_now count = stood None None faults faults_now refl count
all_synced (Some t) faults faults_now count =
    let new : Timeline = moves_to t (at_rest t.medium.bytes) in
    let done : Result (Unit {0}) (Unit {0}) = Ok tt in
    record {
      same = refl;
      crash = at_rest_leaves t;
      time = passes t new (at_rest t.medium.bytes) done refl tt;
      count = count;
    }
  where
    at_rest_leaves : (t : Timeline) → Within (MayLeave (at_rest t.medium.bytes)) (MayLeave t.medium)
    at_rest_leaves t c (inl now) = inl now
    at_rest_leaves t c (inr now) = inl now

-- all is synced, or nothing was done
syncs : (old new : Option Timeline) (faults faults_now : ℕ) → (new ≡ old) ⊎ (new ≡ synced_in old) → faults ≤ faults_now → WritesNothing (trace_in old faults) (trace_in new faults_now)
syncs old new faults faults_now (inl stands) count = stood old new faults faults_now stands count
syncs old new faults faults_now (inr done) count =
    subst (λ (t : Option Timeline). WritesNothing (trace_in old faults) (trace_in t faults_now)) (sym done) (all_synced old faults faults_now count)

module _ {D : Type 0} (old mid now : Mirrored D) (faults : ℕ) (is : now ≡ mid) (counted : mid.faults ≡ old.faults) (count : now.faults ≤ faults) where
  course : now.course ≡ mid.course
  course = ap (λ (m : Mirrored D). m.course) is

  more : old.faults ≤ faults
  more = omega (arith, counted, count, ap (λ (m : Mirrored D). m.faults) is)

  -- of a write whose answer was counted
  pub write_told : (at : ℕ) (from : List ℕ) → (mid.course ≡ old.course) ⊎ (mid.course ≡ written_in at from old.course) → WritesSome at (length from) (trace_of old) (trace_in now.course faults)
  write_told at from either =
      writes_some at from old.course now.course old.faults faults (⊎_elim (λ stands. inl (course ∙ stands)) (λ done. inr (course ∙ done)) either) more

  -- of a sync whose answer was counted
  pub sync_told : (mid.course ≡ old.course) ⊎ (mid.course ≡ synced_in old.course) → WritesNothing (trace_of old) (trace_in now.course faults)
  sync_told either =
      syncs old.course now.course old.faults faults (⊎_elim (λ stands. inl (course ∙ stands)) (λ done. inr (course ∙ done)) either) more
