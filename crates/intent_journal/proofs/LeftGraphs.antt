-- What a refusal leaves of a graph.
use Rattle.std.proofs.Common.{◌≡◌, ◌==◌, Bool, true, false, ℕ, ◌≤◌, nat_lt, List, length, take, drop, Option, Some, None, IfSome, if◌then◌else◌, inl, inr, refl, sym, subst, ◌∙◌, ap, le_refl}
use Rattle.std.proofs.lemmas.List.{take_all}
use Rattle.rollout_rules.specs.Wan.{Rollout}
use Rattle.rollout_rules.specs.History.{started}
use Rattle.rollout_rules.specs.declared.op.Entry.{Entry}
use Rattle.dependency_graph.specs.Graph.{Followed}
use Rattle.intent_journal.specs.declared.digest.Digest.{Digest}
use Rattle.intent_journal.specs.declared.fault.JournalFault.{JournalFault}
use Rattle.intent_journal.specs.declared.fault.JournalFault.TheVariants.{BadStart, Disk, Illegal, Memory, NotJournal, OtherPlan}
use Rattle.intent_journal.specs.Faults.{IsMemory}
use Rattle.intent_journal.specs.Images.{open_journal, slot_at}
use Rattle.intent_journal.specs.Judging.{IsAlong, IsOfList, LeavesGraph, LeavesGraphOf, entries_at, part_entries, part_start, start_at}
use Rattle.disk_model.specs.Numbers.{byte_at}
use Rattle.intent_journal.specs.Parts.{Slot, digest_in, migration_in, part_rows}
use Rattle.intent_journal.specs.Reading.{live_side, nothing_read, with_rows}
use Rattle.intent_journal.specs.Verdicts.{IsRefusal, NoJournal, NoStart, NotLegal, OfAnother, Stands, Verdict, is_own, is_start, judged_at, judged_journal, judged_list, judged_part, judged_start, legal_count, with_history}
use Rattle.intent_journal.specs.Whole.{Causes}

-- ---- faults that leave a graph on the way
module _ (start : List ℕ) (entries : List Entry) (old new : Followed) where
  pub along_all : new ≡ with_history old start entries → IsAlong start entries old new
  along_all is = inr (length entries, is ∙ ap (with_history old start) (sym (take_all (length entries) entries (le_refl (length entries)))))

  pub leaves_cause : (fault : JournalFault) (before now : ℕ) → Causes fault before now → IsAlong start entries old new → LeavesGraph start entries fault old new
  leaves_cause Disk before now cause along = along
  leaves_cause Memory before now cause along = along
  leaves_cause (NotJournal first) before now cause along = absurd cause
  leaves_cause (OtherPlan kept wanted) before now cause along = absurd cause
  leaves_cause (Illegal place) before now cause along = absurd cause
  leaves_cause BadStart before now cause along = absurd cause

  pub leaves_memory : (fault : JournalFault) → IsMemory fault → IsAlong start entries old new → LeavesGraph start entries fault old new
  leaves_memory fault is along = subst (λ (f : JournalFault). LeavesGraph start entries f old new) (sym is) along

  -- a place at which the list isn't legal
  pub leaves_place : (fault : JournalFault) (place : ℕ) (digest : Digest) → IsOfList fault → IsRefusal fault digest (NotLegal place) → new ≡ with_history old start (take place entries) → LeavesGraph start entries fault old new
  leaves_place (Illegal at) place digest late is there =
      let same : place ≡ at = number place at is in
      subst (λ (n : ℕ). new ≡ with_history old start (take n entries)) same there
    where
      number : (n m : ℕ) → NotLegal n ≡ NotLegal m → n ≡ m
      number n m e = cc
  leaves_place Memory place digest late is there = inr (place, there)
  leaves_place Disk place digest late is there = absurd late
  leaves_place (NotJournal first) place digest late is there = absurd late
  leaves_place (OtherPlan kept wanted) place digest late is there = absurd late
  leaves_place BadStart place digest late is there = absurd late

-- ---- the start and the list of an image that stands
if_stands : (b : Bool) (v w : Verdict) (s : List ℕ) (es : List Entry) → (if b then v else w) ≡ Stands s es → (w ≡ Stands s es → ⊥) → v ≡ Stands s es
if_stands true v w s es is never = is
if_stands false v w s es is never = absurd (never is)

else_stands : (b : Bool) (v w : Verdict) (s : List ℕ) (es : List Entry) → (if b then v else w) ≡ Stands s es → (v ≡ Stands s es → ⊥) → w ≡ Stands s es
else_stands true v w s es is never = absurd (never is)
else_stands false v w s es is never = is

-- it stands with what was read of it
pub record IsStandingOf (s start : List ℕ) (es entries : List Entry) : Type 0 where
  pub first : s ≡ start
  pub list : es ≡ entries

standing_of : (s start : List ℕ) (es entries : List Entry) → Stands start entries ≡ Stands s es → IsStandingOf s start es entries
standing_of s start es entries is = record { first = same_start is; list = same_list is }
  where
    same_start : Stands start entries ≡ Stands s es → s ≡ start
    same_start e = cc

    same_list : Stands start entries ≡ Stands s es → es ≡ entries
    same_list e = cc

module _ (r : Rollout) (digest : Digest) (s : List ℕ) (es : List Entry) where
  pub part_standing : (slot : Slot) (part : List ℕ) → judged_part r digest slot part ≡ Stands s es → IsStandingOf s (part_start r.problem slot part) es (part_entries slot part)
  part_standing slot part is =
      let start = part_start r.problem slot part in
      let listed = with_rows nothing_read (part_rows slot part) in
      let count = legal_count r.problem r.plan (started start) listed.entries in
      let ends : Verdict = if listed.whole then Stands start listed.entries else NotLegal (length listed.entries) in
      let own = if_stands (is_own digest slot part) (judged_start r start (part_rows slot part)) (OfAnother (digest_in part) (migration_in slot part)) s es is (λ e. cc) in
      let sound = if_stands (is_start r start) (judged_list r start listed) NoStart s es own (λ e. cc) in
      let legal = else_stands (nat_lt count (length listed.entries)) (NotLegal count) ends s es sound (λ e. cc) in
      standing_of s start es listed.entries (if_stands listed.whole (Stands start listed.entries) (NotLegal (length listed.entries)) s es legal (λ e. cc))

  at_standing : (image : List ℕ) (side : Option ℕ) → judged_at r digest image side ≡ Stands s es → IsStandingOf s (start_at r.problem image side) es (entries_at image side)
  at_standing image None is = absurd (no_journal (byte_at 0 image) is)
    where
      no_journal : (first : ℕ) → NoJournal first ≡ Stands s es → ⊥
      no_journal first e = cc
  at_standing image (Some side) is = part_standing (slot_at side image) (drop (slot_at side image).start image) is

  pub journal_standing : (image : List ℕ) → judged_journal r digest image ≡ Stands s es → IsStandingOf s (start_at r.problem image (live_side image)) es (entries_at image (live_side image))
  journal_standing image is =
      at_standing image (live_side image) (if_stands (byte_at 0 image == open_journal) (judged_at r digest image (live_side image)) (NoJournal (byte_at 0 image)) s es is (λ e. cc))

-- a graph that was brought to a list that stands
pub along_judged : (digest : Digest) (image : List ℕ) (s : List ℕ) (es : List Entry) (old new : Followed) → judged_journal old.rollout digest image ≡ Stands s es → new ≡ with_history old s es
    → IsAlong (start_at old.rollout.problem image (live_side image)) (entries_at image (live_side image)) old new
along_judged digest image s es old new stands is =
    let so = journal_standing old.rollout digest s es image stands in
    along_all (start_at old.rollout.problem image (live_side image)) (entries_at image (live_side image)) old new
    (is ∙ ap (λ (x : List ℕ). with_history old x es) so.first ∙ ap (with_history old (start_at old.rollout.problem image (live_side image))) so.list)

-- the same of a part, by its image
pub part_left : (image : List ℕ) (side : ℕ) (slot : Slot) (part : List ℕ) (fault : JournalFault) (old new : Followed) → live_side image ≡ Some side → slot ≡ slot_at side image → part ≡ drop slot.start image
    → LeavesGraph (part_start old.rollout.problem slot part) (part_entries slot part) fault old new → LeavesGraphOf image fault old new
part_left image side slot part fault old new live is part_is left =
    let there = subst (λ (q : List ℕ). LeavesGraph (part_start old.rollout.problem slot q) (part_entries slot q) fault old new) part_is left in
    let here = subst (λ (x : Slot). LeavesGraph (part_start old.rollout.problem x (drop x.start image)) (part_entries x (drop x.start image)) fault old new) is there in
    subst (λ (o : Option ℕ). LeavesGraph (start_at old.rollout.problem image o) (entries_at image o) fault old new) (sym live) here

-- ---- by what the disk told
pub leaves_unread : (told : Option (List ℕ)) (fault : JournalFault) (before now : ℕ) (old : Followed) → Causes fault before now → IfSome told (λ image. LeavesGraphOf image fault old old)
leaves_unread None fault before now old cause = tt
leaves_unread (Some image) fault before now old cause = leaves_cause (start_at old.rollout.problem image (live_side image)) (entries_at image (live_side image)) old old fault before now cause (inl refl)

pub leaves_read : (told : Option (List ℕ)) (image : List ℕ) (fault : JournalFault) (old new : Followed) → IfSome told (λ all. image ≡ all) → LeavesGraphOf image fault old new → IfSome told (λ all. LeavesGraphOf all fault old new)
leaves_read None image fault old new read left = tt
leaves_read (Some all) image fault old new read left = subst (λ (x : List ℕ). LeavesGraphOf x fault old new) read left
