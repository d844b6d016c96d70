-- How the tie between the bytes in memory and the disk behind them goes on.
use Rattle.std.proofs.Common.{◌≡◌, inl, inr, ℕ, List, [], ◌∷◌, ◌++◌, length, true, false, Option, Some, None, IfSome, refl, sym, subst, ◌∙◌, ap}
use Rattle.wan_edge.specs.Streams.{KeepsTelling}
use Rattle.disk_model.specs.Crashes.{IsDurable, Stepped, Within}
use Rattle.disk_model.specs.Effects.{WritesSome}
use Rattle.disk_model.specs.Memory.{MayLeave, Medium, Reaches, Timeline, after_write, at_rest, moves_to}
use Rattle.disk_model.specs.Traces.{DiskTrace}
use Rattle.disk_model.specs.Writes.{Torn, Writes, written}
use Rattle.disk_model.proofs.Tearing.{Torn-written}
use Rattle.disk_mirror.specs.Mirrors.{Mirrors}

-- one torn write more, after the others
Reaches-more : (synced : List ℕ) (pending : List (ℕ × ℕ)) (at n : ℕ) (b c : List ℕ) → Reaches synced pending b → Torn at n b c → Reaches synced (pending ++ (at, n) ∷ []) c
Reaches-more synced [] at n b c reached torn = (c, subst (λ (l : List ℕ). Torn at n l c) reached torn, refl)
Reaches-more synced (write ∷ later) at n b c reached torn = (reached.0, reached.1, Reaches-more reached.0 later at n b c reached.2 torn)

module _ (at : ℕ) (from : List ℕ) (medium : Medium) where
  -- what a crash may leave, with this write torn
  torn_leaves : Reaches medium.synced medium.pending medium.bytes → (b c : List ℕ) → MayLeave medium b → Torn at (length from) b c → MayLeave (after_write at from medium) c
  torn_leaves reached b c (inl now) torn =
      inr (Reaches-more medium.synced medium.pending at (length from) medium.bytes c reached (subst (λ (l : List ℕ). Torn at (length from) l c) now torn))
  torn_leaves reached b c (inr other) torn = inr (Reaches-more medium.synced medium.pending at (length from) b c other torn)

  write_crash : (told now : Option (List ℕ)) (left left_now : List ℕ → Type 0) → Reaches medium.synced medium.pending medium.bytes → KeepsTelling told now → Within left_now (Stepped (Torn at (length from)) left)
      → IfSome told (λ _. Within left (MayLeave medium)) → IfSome now (λ _. Within left_now (MayLeave (after_write at from medium)))
  write_crash told None left left_now reached keeps step within = tt
  write_crash None (Some new) left left_now reached keeps step within = absurd (cc keeps)
  write_crash (Some old) (Some new) left left_now reached keeps step within = λ c leaves.
      let torn = step c leaves in
      torn_leaves reached torn.0 c (within torn.0 torn.1) torn.2

  write_same : (told now : Option (List ℕ)) → Writes at from told now → IfSome told (λ all. all ≡ medium.bytes) → IfSome now (λ all. all ≡ written at from medium.bytes)
  write_same None now writes same = subst (λ (t : Option (List ℕ)). IfSome t (λ all. all ≡ written at from medium.bytes)) (sym writes) tt
  write_same (Some old) now writes same = subst (λ (t : Option (List ℕ)). IfSome t (λ all. all ≡ written at from medium.bytes)) (sym writes) (ap (written at from) same)

module _ (at : ℕ) (from : List ℕ) (behind now : DiskTrace) (old new : Timeline) where
  abbrev wrote : Timeline
  wrote = moves_to old (after_write at from old.medium)

  -- the write may have been done in part after
  pub write_failed : new ≡ wrote → Mirrors behind (Some old) true → WritesSome at (length from) behind now → Mirrors now (Some new) false
  write_failed is tied some = subst (λ (t : Timeline). Mirrors now (Some t) false) (sym is) (record {
    same = λ no. absurd (cc no);
    crash = write_crash at from old.medium behind.bytes now.bytes behind.may_leave now.may_leave tied.reached some.told some.crash tied.crash;
    reached = Reaches-more old.medium.synced old.medium.pending at (length from) old.medium.bytes (written at from old.medium.bytes) tied.reached (Torn-written at from old.medium.bytes);
  })

  -- the write was done after, too
  pub write_done : new ≡ wrote → Mirrors behind (Some old) true → WritesSome at (length from) behind now → Writes at from behind.bytes now.bytes → Mirrors now (Some new) true
  write_done is tied some done = subst (λ (t : Timeline). Mirrors now (Some t) true) (sym is) (record {
    same = λ yes. write_same at from old.medium behind.bytes now.bytes done (tied.same refl);
    crash = write_crash at from old.medium behind.bytes now.bytes behind.may_leave now.may_leave tied.reached some.told some.crash tied.crash;
    reached = Reaches-more old.medium.synced old.medium.pending at (length from) old.medium.bytes (written at from old.medium.bytes) tied.reached (Torn-written at from old.medium.bytes);
  })

-- the bytes that a crash leaves, where they are in memory
durable_crash : (told : Option (List ℕ)) (left : List ℕ → Type 0) (bytes : List ℕ) → IfSome told (λ all. all ≡ bytes) → IsDurable told left → IfSome told (λ _. Within left (MayLeave (at_rest bytes)))
durable_crash None left bytes same durable = tt
durable_crash (Some all) left bytes same durable = λ c leaves. inl (durable c leaves ∙ same)

turned : (told : Option (List ℕ)) (image : List ℕ) → IfSome told (λ all. image ≡ all) → IfSome told (λ all. all ≡ image)
turned None image same = tt
turned (Some all) image same = sym same

pub begun : (behind : DiskTrace) (image : List ℕ) (course : Timeline) → course ≡ record { medium = at_rest image; past = [] } → IfSome behind.bytes (λ all. image ≡ all)
    → IsDurable behind.bytes behind.may_leave → Mirrors behind (Some course) true
begun behind image course is read durable = subst (λ (t : Timeline). Mirrors behind (Some t) true) (sym is) (record {
  same = λ yes. turned behind.bytes image read;
  crash = durable_crash behind.bytes behind.may_leave image (turned behind.bytes image read) durable;
  reached = refl;
})
