-- What the writes of a recovery come to for a journal that was judged.
use Rattle.std.proofs.Common.{◌≡◌, ◌⊎◌, inl, inr, ⊎_elim, Bool, true, ℕ, ◌+◌, ◌*◌, ◌<◌, ◌≤◌, ◌^◌, List, [], length, false, if◌then◌else◌, Option, Some, None, IfSome, Result, Ok, Err, refl, sym, subst, ◌∙◌, ap, arith}
use Rattle.std.proofs.lemmas.Bool.Decides.{nat_tests}
use Rattle.std.specs.Prelude.{IfErr, IfOk}
use Rattle.std.specs.Result.{IsErrAnd}
use Rattle.rollout_rules.specs.Wan.{Rollout}
use Rattle.rollout_rules.specs.History.{no_start}
use Rattle.rollout_rules.specs.declared.op.Entry.{Entry}
use Rattle.disk_model.specs.Whole.{IsQuiet}
use Rattle.disk_model.specs.Traces.{DiskTrace}
use Rattle.disk_model.specs.Crashes.{Holds, IsDurable, Within}
use Rattle.disk_model.specs.Moments.{LeavesOnly}
use Rattle.disk_model.proofs.Running.{LeavesOnly-chain, LeavesOnly-start, LeavesOnly-weaker}
use Rattle.dependency_graph.specs.Graph.{Followed}
use Rattle.intent_journal.specs.declared.digest.Digest.{Digest}
use Rattle.intent_journal.specs.declared.found.Found.{Found}
use Rattle.intent_journal.specs.Images.{is_blank, is_placed, journal_in, second_side}
use Rattle.intent_journal.specs.Opened.{HasRoom}
use Rattle.intent_journal.specs.Parts.{Kept, size_of}
use Rattle.intent_journal.specs.Phases.{IsBlankOrMade, IsFound, IsOldOrNew, IsRenewed, Planned, end_of, home_of, kept_of}
use Rattle.intent_journal.specs.Recovered.{IsBroughtTo, IsCause, KeepsNow, MayBeLeft, MayStand, OnRefusal, kept_for}
use Rattle.intent_journal.specs.Verdicts.{Fresh, IsRefusal, NoJournal, NoStart, NotLegal, OfAnother, Stands, Verdict, judged_journal, verdict, with_history}
use Rattle.intent_journal.specs.Whole.{Causes}
use Rattle.wan_edge.specs.Streams.{KeepsTelling, Rose}
use Rattle.intent_journal.specs.declared.fault.JournalFault.{JournalFault}
use Rattle.intent_journal.specs.declared.fault.JournalFault.TheVariants.{BadStart, Disk, Illegal, Memory, NotJournal, OtherPlan}

-- a part that may stand has its size
small_size : (found : Found) → is_placed (home_of found).slot ≡ true → size_of (home_of found).slot ≤ 1000000000
unfolding is_placed
small_size found placed = grind (arith, nat_tests, placed)

pub end_small : (found : Found) (image : List ℕ) → IsFound found image → found.start ≤ 2 ^ 61 → end_of found < 2 ^ 62
end_small found image is early = omega (arith, small_size found is.placed, early)

pub other_small : (found : Found) (image : List ℕ) → IsFound found image → found.other ≤ second_side
other_small found image is = ⊎_elim (λ sides. omega (arith, sides.1)) (λ sides. omega (arith, sides.1)) is.sides

-- what is known of the image that was read is known of what is told
pub holds_of : (P : List ℕ → Type 0) (told : Option (List ℕ)) (left : List ℕ → Type 0) (image : List ℕ) → Holds (λ all. all ≡ image) told left → P image → Holds P told left
holds_of P None left image holds is = tt
holds_of P (Some all) left image holds is = (subst P (sym holds.0) is, holds.1)

module _ {D : Type 0} (trace : D → DiskTrace) (r : Rollout) (digest : Digest) (image : List ℕ) (v : Verdict) where
  -- nothing was written
  pub still : (told : Option (List ℕ)) (old new : D) → ((c : List ℕ) → (trace old).left_since (trace old).moment c → (trace old).may_leave c) → new ≡ old
      → IfSome told (λ _. LeavesOnly trace old new (MayStand r digest image v (trace old).may_leave))
  still None old new now same = tt
  still (Some all) old new now same =
      subst (λ (d : D). LeavesOnly trace old d (MayStand r digest image v (trace old).may_leave)) (sym same)
      (LeavesOnly-start trace old (MayStand r digest image v (trace old).may_leave) (λ c left. inl (now c left)))

  -- the journal was written anew, or in part
  pub rewritten : (told : Option (List ℕ)) (old new : D) (start : List ℕ) (list : List Entry) (kept : Kept) → Holds (λ all. all ≡ image) told (trace old).may_leave → v ≡ Stands start list
      → kept ≡ kept_of digest start list → IfSome told (λ all. LeavesOnly trace old new (IsOldOrNew (journal_in all) kept))
      → IfSome told (λ _. LeavesOnly trace old new (MayStand r digest image v (trace old).may_leave))
  rewritten None old new start list kept holds stands is run = tt
  rewritten (Some all) old new start list kept holds stands is run =
      LeavesOnly-weaker trace old new (IsOldOrNew (journal_in all) kept) (MayStand r digest image v (trace old).may_leave) run
      (λ c left. inr (subst (λ (w : Verdict). MayBeLeft r digest image w c) (sym stands)
      (subst (λ (k : Kept). IsOldOrNew (journal_in image) k c) is (subst (λ (a : List ℕ). IsOldOrNew (journal_in a) kept c) holds.0 left))))

-- what stands there then
pub keeps_now : (gate end : ℕ) (part : Planned) (told : Option (List ℕ)) (left : List ℕ → Type 0) (kept : Option Kept) → kept ≡ Some part.kept → IsRenewed gate end part told left
    → IfSome told (λ _. KeepsNow kept told left)
keeps_now gate end part None left kept is renewed = tt
keeps_now gate end part (Some now) left kept is renewed = record {
  now = now;
  what = part.kept;
  is_told = refl;
  durable = renewed.kept.durable;
  is_kept = is;
  fresh = renewed.fresh;
}

-- and there is room for all that may come
pub room_now : (gate end operations most capacity starts entries : ℕ) (part : Planned) (told : Option (List ℕ)) (left : List ℕ → Type 0) → IsRenewed gate end part told left
    → part.size ≡ 45 + 4 * starts + 28 * operations → length part.kept.starts ≡ starts → length part.kept.rows ≡ entries → most ≡ 2 * operations → most < 2 ^ 32 → entries ≤ most
    → 5 + 9 * most ≤ capacity → HasRoom gate end entries most capacity
room_now gate end operations most capacity starts entries part told left renewed size some_starts some_rows is few fits room = record {
  within = fits;
  few = few;
  on_disk = omega (arith, renewed.room, size, some_starts, some_rows, is, fits);
  small = renewed.small;
  in_memory = room;
}

module _ (r : Rollout) (digest : Digest) (v : Verdict) (start : List ℕ) (list : List Entry) (stands : v ≡ Stands start list) where
  pub brought : (old new : Followed) → new ≡ with_history old start list → IsBroughtTo v list old new
  brought old new is = subst (λ (w : Verdict). IsBroughtTo w list old new) (sym stands) (refl, is)

  pub kept_is : kept_for r digest v ≡ Some (kept_of digest start list)
  kept_is = ap (kept_for r digest) stands

-- a refusal is a cause
pub cause_of : (fault : JournalFault) (digest : Digest) (v : Verdict) → IsRefusal fault digest v → IsCause fault digest v
cause_of Disk digest v refusal = tt
cause_of Memory digest v refusal = tt
cause_of (NotJournal first) digest v refusal = refusal
cause_of (OtherPlan kept wanted) digest v refusal = refusal
cause_of BadStart digest v refusal = refusal
cause_of (Illegal place) digest v refusal = refusal

pub no_refusal : (fault : JournalFault) (digest : Digest) (v : Verdict) → (fault ≡ Disk) ⊎ (fault ≡ Memory) → IsCause fault digest v
no_refusal fault digest v (inl is) = subst (λ (f : JournalFault). IsCause f digest v) (sym is) tt
no_refusal fault digest v (inr is) = subst (λ (f : JournalFault). IsCause f digest v) (sym is) tt

-- one who judged an image refuses by no failure of a disk
pub never_disk : (fault : JournalFault) (digest : Digest) (v : Verdict) (P : Type 0) → IsRefusal fault digest v → fault ≡ Disk → P
never_disk fault digest v P refusal is = absurd (subst (λ (f : JournalFault). IsRefusal f digest v) is refusal)

pub refused : (fault : JournalFault) (P : Type 0) → P → OnRefusal fault P
refused Disk P holds = tt
refused Memory P holds = tt
refused (NotJournal first) P holds = holds
refused (OtherPlan kept wanted) P holds = holds
refused BadStart P holds = holds
refused (Illegal place) P holds = holds

pub not_refused : (fault : JournalFault) (P : Type 0) → (fault ≡ Disk) ⊎ (fault ≡ Memory) → OnRefusal fault P
not_refused fault P (inl is) = subst (λ (f : JournalFault). OnRefusal f P) (sym is) tt
not_refused fault P (inr is) = subst (λ (f : JournalFault). OnRefusal f P) (sym is) tt

-- what holds of what was read holds of what is told
pub told_over : (told told_mid : Option (List ℕ)) (image : List ℕ) (A : Type 0) (B : List ℕ → Type 0) → told_mid ≡ told → IfSome told (λ all. image ≡ all) → IfSome told_mid (λ _. A) → (A → B image)
    → IfSome told B
told_over None told_mid image A B same read holds gives = tt
told_over (Some all) told_mid image A B same read holds gives = subst B read (gives (subst (λ (t : Option (List ℕ)). IfSome t (λ _. A)) same holds))

pub told_as : (told : Option (List ℕ)) (image : List ℕ) (B : List ℕ → Type 0) → IfSome told (λ all. image ≡ all) → B image → IfSome told B
told_as None image B read holds = tt
told_as (Some all) image B read holds = subst B read holds

pub told_all : (told : Option (List ℕ)) (B : List ℕ → Type 0) → ((image : List ℕ) → B image) → IfSome told B
told_all None B holds = tt
told_all (Some image) B holds = holds image

-- what was read is what is told now, which is all that a crash leaves
pub holds_read : (told told_mid : Option (List ℕ)) (left : List ℕ → Type 0) (image : List ℕ) → told_mid ≡ told → IfSome told (λ all. image ≡ all) → IsDurable told_mid left → Holds (λ all. all ≡ image) told_mid left
holds_read told None left image same read durable = tt
holds_read None (Some all) left image same read durable = absurd (cc same)
holds_read (Some was) (Some all) left image same read durable =
    let is : all ≡ was = cc same in
    (is ∙ sym read, durable)

module _ {D : Type 0} (trace : D → DiskTrace) (r : Rollout) (digest : Digest) where
  -- reading, and then the writes
  pub opened_run : (image : List ℕ) (v : Verdict) (old mid new : D) → IfSome (trace old).bytes (λ all. image ≡ all) → IsQuiet trace old mid → verdict r digest image ≡ v
      → IfSome (trace mid).bytes (λ _. LeavesOnly trace mid new (MayStand r digest image v (trace mid).may_leave))
      → IfSome (trace old).bytes (λ all. LeavesOnly trace old new (MayStand r digest all (verdict r digest all) (trace old).may_leave))
  opened_run image v old mid new read quiet is run =
      told_over (trace old).bytes (trace mid).bytes image (LeavesOnly trace mid new (MayStand r digest image v (trace mid).may_leave))
      (λ all. LeavesOnly trace old new (MayStand r digest all (verdict r digest all) (trace old).may_leave)) quiet.same read run
      (λ writes. subst (λ (w : Verdict). LeavesOnly trace old new (MayStand r digest image w (trace old).may_leave)) (sym is)
      (LeavesOnly-chain trace old mid new (MayStand r digest image v (trace old).may_leave) (MayStand r digest image v (trace mid).may_leave)
      (LeavesOnly-weaker trace old mid (trace old).may_leave (MayStand r digest image v (trace old).may_leave) quiet.run (λ c left. inl left)) writes
      (λ c stands. ⊎_elim (λ left. inl (quiet.crash c left)) inr stands)))

  -- reading alone
  pub read_run : (old mid : D) → IsQuiet trace old mid
      → IfSome (trace old).bytes (λ all. LeavesOnly trace old mid (MayStand r digest all (verdict r digest all) (trace old).may_leave))
  read_run old mid quiet = told_all (trace old).bytes (λ all. LeavesOnly trace old mid (MayStand r digest all (verdict r digest all) (trace old).may_leave))
      (λ all. LeavesOnly-weaker trace old mid (trace old).may_leave (MayStand r digest all (verdict r digest all) (trace old).may_leave) quiet.run (λ c left. inl left))

-- the verdict on an image that is blank, and on one that isn't
pub verdict_blank : (r : Rollout) (digest : Digest) (image : List ℕ) → is_blank image ≡ true → verdict r digest image ≡ Fresh
verdict_blank r digest image blank = ap (λ (b : Bool). if b then Fresh else judged_journal r digest image) blank

pub verdict_journal : (r : Rollout) (digest : Digest) (image : List ℕ) → is_blank image ≡ false → verdict r digest image ≡ judged_journal r digest image
verdict_journal r digest image other = ap (λ (b : Bool). if b then Fresh else judged_journal r digest image) other

-- a journal is made, or in part
pub made_run : {D : Type 0} (trace : D → DiskTrace) (r : Rollout) (digest : Digest) (image : List ℕ) (told : Option (List ℕ)) (old new : D) (kept : Kept)
    → Holds (λ all. all ≡ image) told (trace old).may_leave → kept ≡ kept_of digest (no_start r.problem) [] → IfSome told (λ all. LeavesOnly trace old new (IsBlankOrMade kept all))
    → IfSome told (λ _. LeavesOnly trace old new (MayStand r digest image Fresh (trace old).may_leave))
made_run trace r digest image None old new kept holds is run = tt
made_run trace r digest image (Some all) old new kept holds is run =
    LeavesOnly-weaker trace old new (IsBlankOrMade kept all) (MayStand r digest image Fresh (trace old).may_leave) run
    (λ c left. inr (subst (λ (k : Kept). IsBlankOrMade k image c) is (subst (λ (a : List ℕ). IsBlankOrMade kept a c) holds.0 left)))

-- a fault of reading is one of these two
pub causes_either : (fault : JournalFault) (before now : ℕ) → Causes fault before now → (fault ≡ Disk) ⊎ (fault ≡ Memory)
causes_either Disk before now cause = inl refl
causes_either Memory before now cause = inr refl
causes_either (NotJournal first) before now cause = absurd cause
causes_either (OtherPlan kept wanted) before now cause = absurd cause
causes_either BadStart before now cause = absurd cause
causes_either (Illegal place) before now cause = absurd cause

pub cause_rose : (fault : JournalFault) (before now : ℕ) → Causes fault before now → fault ≡ Disk → Rose before now
cause_rose fault before now cause is = subst (λ (f : JournalFault). Causes f before now) is cause

-- it rose before, and has not fallen
pub rose_later : (before mid now : ℕ) → Rose mid now → before ≤ mid → Rose before now
rose_later before mid now (inl more) no_less = inl (omega (arith, more, no_less))
rose_later before mid now (inr most) no_less = inr most

-- nothing that is told was lost
pub tells_still : (told told_mid told_new : Option (List ℕ)) → told_mid ≡ told → KeepsTelling told_mid told_new → KeepsTelling told told_new
tells_still told told_mid told_new same keeps = subst (λ (t : Option (List ℕ)). KeepsTelling t told_new) same keeps

-- what was read is told still, and then what holds of it
pub told_later : (told told_mid told_new : Option (List ℕ)) (image : List ℕ) (A : Type 0) (B : List ℕ → Type 0) → told_mid ≡ told → KeepsTelling told_mid told_new → IfSome told (λ all. image ≡ all)
    → IfSome told_new (λ _. A) → (A → B image) → IfSome told B
told_later None told_mid told_new image A B same keeps read holds gives = tt
told_later (Some all) told_mid (Some new) image A B same keeps read holds gives = subst B read (gives holds)
told_later (Some all) told_mid None image A B same keeps read holds gives =
    let lost : KeepsTelling (Some all) None = subst (λ (t : Option (List ℕ)). KeepsTelling t None) same keeps in
    absurd (cc lost)

-- what holds of an answer, and of a fault, by another word
pub ok_as : {A B : Type 0} (P Q : A → Type 0) (result : Result A B) → IfOk result P → ((a : A) → P a → Q a) → IfOk result Q
ok_as P Q (Ok a) holds gives = gives a holds
ok_as P Q (Err b) holds gives = tt

pub err_as : {A B : Type 0} (P Q : B → Type 0) (result : Result A B) → IfErr result P → ((b : B) → P b → Q b) → IfErr result Q
err_as P Q (Ok a) holds gives = tt
err_as P Q (Err b) holds gives = gives b holds

-- by two words, and by three
pub ok_both : {A B : Type 0} (result : Result A B) (P Q R : A → Type 0) → IfOk result P → IfOk result Q → ((a : A) → P a → Q a → R a) → IfOk result R
ok_both (Ok a) P Q R one other gives = gives a one other
ok_both (Err b) P Q R one other gives = tt

pub err_of_three : {A B : Type 0} (result : Result A B) (P Q S R : B → Type 0) → IfErr result P → IfErr result Q → IfErr result S → ((b : B) → P b → Q b → S b → R b) → IfErr result R
err_of_three (Ok a) P Q S R one second third gives = tt
err_of_three (Err b) P Q S R one second third gives = gives b one second third

-- a fault that was passed on
pub given_err : {A B : Type 0} (result : Result A B) (fault : B) (P : B → Type 0) → IsErrAnd result (λ given. given ≡ fault) → P fault → IfErr result P
given_err (Ok a) fault P is holds = tt
given_err (Err b) fault P is holds = subst P (sym is) holds

-- what comes before the first write by another word
pub refused_as : (fault : JournalFault) (P Q : Type 0) → (P → Q) → OnRefusal fault P → OnRefusal fault Q
refused_as Disk P Q gives holds = tt
refused_as Memory P Q gives holds = tt
refused_as (NotJournal first) P Q gives holds = gives holds
refused_as (OtherPlan kept wanted) P Q gives holds = gives holds
refused_as BadStart P Q gives holds = gives holds
refused_as (Illegal place) P Q gives holds = gives holds

-- nothing was written while the image was read, and nothing since
pub quiet_since : {D : Type 0} (trace : D → DiskTrace) (old mid new : D)
    → IsQuiet trace old mid → new ≡ mid → ((trace new).bytes ≡ (trace old).bytes) × Within (trace new).may_leave (trace old).may_leave
quiet_since {D} trace old mid new quiet is =
    subst (λ (d : D). ((trace d).bytes ≡ (trace old).bytes) × Within (trace d).may_leave (trace old).may_leave) (sym is) (quiet.same, quiet.crash)

-- what holds of the disk that was written holds of the one that the journal owns
pub owned : {D : Type 0} (P : D → Type 0) (has disk : D) → has ≡ disk → P disk → P has
owned P has disk is holds = subst P (sym is) holds
