-- A disk that isn't opened, and one whose opening failed.
use Rattle.std.proofs.Common.{ℕ, List, Option, Some, None, IfSome, refl, inl, arith}
use Rattle.lists.proofs.Options.{some_itself}
use Rattle.disk_model.specs.Traces.{DiskTrace}
use Rattle.disk_mirror.specs.Openings.{Opens}

told-or-not : (told : Option (List ℕ)) (P : Type 0) → P → IfSome told (λ _. P)
told-or-not None P p = tt
told-or-not (Some all) P p = p

-- a disk that is as it was might have been opened
pub opens-nothing : (trace : DiskTrace) → Opens trace trace
opens-nothing trace = record {
  same = some_itself trace.bytes;
  crash = told-or-not trace.bytes _ (λ image left. left);
  time = told-or-not trace.bytes _ (record {
    later = omega arith;
    keeps = λ t c before left. left;
    nothing_else = λ t c before left. inl left;
  });
  count = omega arith;
}
