-- How a report of a journal as it stands follows from what was read.
use Rattle.std.proofs.Common.{◌≡◌, ◌<◌, ◌^◌, ℕ, List, Option, Some, None, IfSome, Ok, Err, Result, refl, sym, ap, subst, ◌∙◌}
use Rattle.rollout_rules.specs.Wan.{Rollout}
use Rattle.disk_model.specs.Memory.{Storing}
use Rattle.wan_edge.specs.Streams.{SourceTrace}
use Rattle.file_sight.specs.Sights.{Looks}
use Rattle.file_sight.specs.declared.unseen.Unseen.{Unseen}
use Rattle.file_sight.specs.declared.unseen.Unseen.TheVariants as unseen
use Rattle.rollout_report.proofs.Watched.{there_once}
use Rattle.retarget_service.specs.JournalRoom.{journal_room}
use Rattle.swanroll_top.specs.Live.{ReportsSeen, WasThere, ending_of_unseen, in_memory}
use Rattle.text_commands.specs.Reading.{IsCut}
use Rattle.swanroll_top.specs.Reports.{FollowsReported}
use Rattle.text_commands.specs.declared.command_end.CommandEnd.{CommandEnd}
use Rattle.text_commands.specs.declared.command_end.CommandEnd.TheVariants.{Done, Usage, AboveLimit, Input, NotValid, NoPlan, Unshown, ReadFault, WriteFault, DiskFault, GuestFault, Refused, NotFinished, OutOfMemory}
use Rattle.swanroll_top.specs.declared.live.LiveEnd.{LiveEnd}
use Rattle.swanroll_top.specs.declared.live.LiveEnd.TheVariants.{Ended, InUse}
use Rattle.swanroll_top.proofs.Outcomes.{without_text}

pub ended-is : (one other : CommandEnd) → Ended one ≡ Ended other → one ≡ other
ended-is one other is = cc is

-- an error by its ending
abbrev pub IsErrEnding : Result (List ℕ) CommandEnd → CommandEnd → Type 0
IsErrEnding answer e = answer ≡ Err e

pub err-same : (one other : CommandEnd) → one ≡ other → IsErrEnding (Err one) other
err-same one other is = ap without_text is

pub read-cause : (e : CommandEnd) (P : Type 0) → (IsErrEnding (Err e) ReadFault → P) → Ended e ≡ Ended ReadFault → P
read-cause e P cause is = cause (err-same e ReadFault (ended-is e ReadFault is))

-- a source that wasn't read to its end is no fault of the file or of the sink
pub cut-no-disk : (source source_now : SourceTrace) (e : CommandEnd) → IsCut source e source_now → Ended e ≡ Ended DiskFault → ⊥
cut-no-disk source source_now e cut is = subst (λ (x : CommandEnd). IsCut source x source_now) (ended-is e DiskFault is) cut

pub cut-no-write : (source source_now : SourceTrace) (e : CommandEnd) → IsCut source e source_now → Ended e ≡ Ended WriteFault → ⊥
cut-no-write source source_now e cut is = subst (λ (x : CommandEnd). IsCut source x source_now) (ended-is e WriteFault is) cut

-- ---- a file that wasn't seen

pub limit-is : (room limit is : ℕ) → room ≡ is → (room < 2 ^ 62 → limit ≡ room) → is < 2 ^ 62 → limit ≡ is
limit-is room limit is same value small = value (subst (λ (n : ℕ). n < 2 ^ 62) (sym same) small) ∙ same

module _ {W : Type 0} (trace : W → SourceTrace) (m : ℕ) (o : Rollout) (limit : ℕ) (before now : W) (out : Option (List ℕ)) (tie : journal_room o < 2 ^ 62 → limit ≡ journal_room o) where
  by_why : (why : Unseen) → Looks trace limit before (Err why) now → ReportsSeen trace m (Ok o) before now (ending_of_unseen why) out out
  by_why unseen.Failed unread = record {
    seen = None;
    sees = tt;
    follows = ((o, refl), refl);
    failed = λ e. record { rollout = o; limit = limit; is = tie; unread = unread };
    moved = λ e. cc;
  }
  by_why unseen.InUse moved = record { seen = None; sees = tt; follows = ((o, refl), refl); failed = λ e. cc; moved = λ e. (limit, moved) }
  by_why unseen.Memory any = record { seen = None; sees = tt; follows = refl; failed = λ e. cc; moved = λ e. cc }

  pub unseen-reports : (why : Unseen) (ending : LiveEnd) → ending ≡ ending_of_unseen why → Looks trace limit before (Err why) now → ReportsSeen trace m (Ok o) before now ending out out
  unseen-reports why ending is looks = subst (λ (e : LiveEnd). ReportsSeen trace m (Ok o) before now e out out) (sym is) (by_why why looks)

unseen_writes : (why : Unseen) → ending_of_unseen why ≡ Ended WriteFault → ⊥
unseen_writes unseen.Failed is = cc
unseen_writes unseen.InUse is = cc
unseen_writes unseen.Memory is = cc

pub unseen-no-write : (why : Unseen) (ending : LiveEnd) → ending ≡ ending_of_unseen why → ending ≡ Ended WriteFault → ⊥
unseen-no-write why ending is write = unseen_writes why (sym is ∙ write)

-- ---- a report over a disk in memory

module _ (m : ℕ) (o : Rollout) (out now : Option (List ℕ)) where
  by_memory : (told : Option (List ℕ)) (e : CommandEnd) → FollowsReported m (Ok o) told e out now → FollowsReported m (Ok o) told (in_memory e) out now
  by_memory told Done h = h
  by_memory told Usage h = h
  by_memory told AboveLimit h = h
  by_memory told (Input f) h = h
  by_memory told (NotValid p b) h = h
  by_memory told (NoPlan u) h = h
  by_memory told (Unshown u) h = h
  by_memory told ReadFault h = h
  by_memory told WriteFault h = h
  by_memory told DiskFault h = h.1
  by_memory told GuestFault h = h
  by_memory told (Refused f) h = h
  by_memory told (NotFinished u) h = h
  by_memory told OutOfMemory h = h

  pub seen-follows : (disk : Storing) (image : List ℕ) (e ending : CommandEnd) → disk.timeline.medium.bytes ≡ image → FollowsReported m (Ok o) (Some disk.timeline.medium.bytes) e out now → ending ≡ in_memory e
      → FollowsReported m (Ok o) (Some image) ending out now
  seen-follows disk image e ending bytes follows is =
      subst (λ (x : CommandEnd). FollowsReported m (Ok o) (Some image) x out now) (sym is)
      (by_memory (Some image) e (subst (λ (b : List ℕ). FollowsReported m (Ok o) (Some b) e out now) bytes follows))

memory_disk : (e : CommandEnd) → in_memory e ≡ DiskFault → ⊥
memory_disk Done is = cc
memory_disk Usage is = cc
memory_disk AboveLimit is = cc
memory_disk (Input f) is = cc
memory_disk (NotValid p b) is = cc
memory_disk (NoPlan u) is = cc
memory_disk (Unshown u) is = cc
memory_disk ReadFault is = cc
memory_disk WriteFault is = cc
memory_disk DiskFault is = cc
memory_disk GuestFault is = cc
memory_disk (Refused f) is = cc
memory_disk (NotFinished u) is = cc
memory_disk OutOfMemory is = cc

pub seen-no-disk : (e ending : CommandEnd) → ending ≡ in_memory e → ending ≡ DiskFault → ⊥
seen-no-disk e ending is disk = memory_disk e (sym is ∙ disk)

memory_write : (e : CommandEnd) → in_memory e ≡ WriteFault → e ≡ WriteFault
memory_write Done is = is
memory_write Usage is = is
memory_write AboveLimit is = is
memory_write (Input f) is = is
memory_write (NotValid p b) is = is
memory_write (NoPlan u) is = is
memory_write (Unshown u) is = is
memory_write ReadFault is = is
memory_write WriteFault is = is
memory_write DiskFault is = cc
memory_write GuestFault is = is
memory_write (Refused f) is = is
memory_write (NotFinished u) is = is
memory_write OutOfMemory is = is

pub seen-write : (e ending : CommandEnd) → ending ≡ in_memory e → ending ≡ WriteFault → e ≡ WriteFault
seen-write e ending is write = memory_write e (sym is ∙ write)

-- ---- what was read was there

pub was_there : (seen : Option (List ℕ)) → IfSome seen WasThere
was_there None = tt
was_there (Some image) = λ home moments are read. there_once home moments image are read
