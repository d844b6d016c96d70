-- What a crash may have left of a disk, from before the opening of its book on.
use Rattle.std.proofs.Common.{◌≡◌, ◌⊎◌, inl, inr, ℕ, ◌≤◌, true, List, [], ◌∷◌, ◌++◌, Option, Some, None, IfSome, refl, sym, ap, ◌∙◌, subst, arith}
use Rattle.rollout_rules.specs.History.{History}
use Rattle.rollout_rules.specs.declared.op.Entry.{Entry}
use Rattle.disk_model.specs.Traces.{DiskTrace}
use Rattle.disk_model.specs.Moments.{LeavesOnly}
use Rattle.wan_edge.specs.Streams.{KeepsTelling}
use Rattle.intent_journal.specs.Images.{journal_in}
use Rattle.intent_journal.specs.Parts.{Kept}
use Rattle.intent_journal.specs.Phases.{kept_by}
use Rattle.rollout_book.specs.JournaledRounds.{Journaled}
use Rattle.rollout_book.specs.Lists.{HasBeforeOrAfter, HasList, HasOwner, KeepsOwner}
use Rattle.shared_book.specs.declared.note.What.TheVariants as what
use Rattle.shared_book.specs.Notes.{first_stop}
use Rattle.shared_book.specs.Histories.{Opening, history_of}
use Rattle.shared_book.specs.declared.note.Written.{Written}
use Rattle.shared_book.specs.Legal.{is_legal_shared}
use Rattle.shared_book.specs.Knows.{next_note}
use Rattle.shared_book.proofs.Lists.{history-next}
use Rattle.shared_book.specs.Images.{GoesOnFrom, HasGoneOn, HasLegalList, StandsSo, Stays, StaysOpened}
use Rattle.shared_book.specs.Sharing.{Sharing}
use Rattle.shared_book.proofs.Imaged.{has-all, has-lost}

-- ---- lists of a round
gone : (o : Opening) (log : List Written) (c : List ℕ) → HasLegalList o log c → HasGoneOn o c
gone o log c has = record { past = has.past; legal = has.legal; has = has.has }

module _ (o : Opening) (log : List Written) (seat : ℕ) (es : List Entry) (legal : is_legal_shared o log ≡ true) where
  -- a round that was made leaves the list before or after it
  pub turned-goes : (dones begins : ℕ) → is_legal_shared o (log ++ next_note seat log (what.Turned dones begins) es ∷ []) ≡ true
      → (c : List ℕ) → HasBeforeOrAfter o.found.start (history_of o log).entries es c → HasGoneOn o c
  turned-goes dones begins legal' c (inl before) = gone o log c (has-all o log c legal before)
  turned-goes dones begins legal' c (inr after) =
      let w = next_note seat log (what.Turned dones begins) es in
      gone o (log ++ w ∷ []) c (has-all o (log ++ w ∷ []) c legal' (subst (λ xs. HasList o.found.start xs c) (sym (ap (λ (h : History). h.entries) (history-next o log w))) after))

  -- and so does one whose append failed
  pub lost-goes : first_stop log ≡ None → is_legal_shared o (log ++ next_note seat log what.Disk es ∷ []) ≡ true
      → (c : List ℕ) → HasBeforeOrAfter o.found.start (history_of o log).entries es c → HasGoneOn o c
  lost-goes none legal' c (inl before) = gone o log c (has-all o log c legal before)
  lost-goes none legal' c (inr after) =
      let w = next_note seat log what.Disk es in
      gone o (log ++ w ∷ []) c (has-lost o log w c legal' refl none after)

-- ---- the disk
module _ {D : Type 0} (trace : D → DiskTrace) (o : Opening) (stood : DiskTrace) where
  -- as it stood
  of-first : (disk : D) → StandsSo stood (trace disk) → (first : List ℕ) (told : Option (List ℕ)) → told ≡ Some first
      → (k : Option Kept) → journal_in first ≡ k → IfSome k (λ kept. IfSome told (Stays trace o stood kept disk))
  of-first disk so first told is None keeps = tt
  of-first disk so first told is (Some kept) keeps =
      subst (λ (t : Option (List ℕ)). IfSome t (Stays trace o stood kept disk)) (sym is) (record {
        later = omega (arith, so.moment);
        owner = record { now = kept; is = keeps; digest = refl; migration = refl };
        each = λ t c le left. inl (so.past t c left);
      })

  by-told : (disk : D) → StandsSo stood (trace disk) → (before told : Option (List ℕ)) → told ≡ before → IfSome (kept_by before) (λ kept. IfSome told (Stays trace o stood kept disk))
  by-told disk so None told is = tt
  by-told disk so (Some first) told is = of-first disk so first told is (journal_in first) refl

  pub stays-first : (disk : D) → StandsSo stood (trace disk) → StaysOpened trace o stood disk
  stays-first disk so = by-told disk so stood.bytes (trace disk).bytes so.bytes

  -- the fact of the type, told of what contracts see
  pub stays-at : (seen now : Sharing D) → seen ≡ now → StaysOpened trace o stood seen.book.disk → StaysOpened trace o stood now.book.disk
  stays-at seen now same was = subst (λ (v : Sharing D). StaysOpened trace o stood v.book.disk) same was

  -- and of a book that is this one
  pub stays-as : (b c : Journaled D) → c ≡ b → StaysOpened trace o stood b.disk → StaysOpened trace o stood c.disk
  stays-as b c same was = subst (λ (x : Journaled D). StaysOpened trace o stood x.disk) (sym same) was

  -- ---- writes that leave lists which go on, of the same owner
  module _ (old new : D) (P : List ℕ → Type 0) (list : (c : List ℕ) → P c → HasGoneOn o c) (counts : (t : ℕ) (c : List ℕ) → t ≤ (trace new).moment → (trace new).may_leave c → (trace new).left_since t c) where
    owner-on : (kept : Kept) (a c : List ℕ) → HasOwner kept a → KeepsOwner a c → HasOwner kept c
    owner-on kept a c had keeps =
        let on : HasOwner had.now c = subst (λ (k : Option Kept). IfSome k (λ x. HasOwner x c)) had.is keeps in
        record { now = on.now; is = on.is; digest = on.digest ∙ had.digest; migration = on.migration ∙ had.migration }

    either : (kept : Kept) (a : List ℕ) (t : ℕ) (c : List ℕ) → Stays trace o stood kept old a → t ≤ stood.moment
        → (trace old).left_since t c ⊎ P c → (trace old).left_since t c ⊎ KeepsOwner a c → stood.left_since t c ⊎ GoesOnFrom o kept c
    either kept a t c was le (inl left) own = was.each t c le left
    either kept a t c was le (inr has) (inl left) = was.each t c le left
    either kept a t c was le (inr has) (inr keeps) = inr (record { owner = owner-on kept a c was.owner keeps; list = list c has })

    moved : (kept : Kept) (a b : List ℕ) → Stays trace o stood kept old a → LeavesOnly trace old new P → LeavesOnly trace old new (KeepsOwner a) → (trace new).may_leave b → Stays trace o stood kept new b
    moved kept a b was run own shown = record {
      later = omega (arith, was.later, run.later);
      owner = owner-on kept a b was.owner (own.each b (counts (trace old).moment b run.later shown));
      each = λ t c le left.
          either kept a t c was le (run.before t c (omega (arith, le, was.later)) left) (own.before t c (omega (arith, le, was.later)) left);
    }

    by-kept : (k : Option Kept) (told told' : Option (List ℕ)) → KeepsTelling told told' → IfSome told (λ _. LeavesOnly trace old new P)
        → IfSome told (λ image. LeavesOnly trace old new (KeepsOwner image)) → IfSome told' (trace new).may_leave
        → IfSome k (λ kept. IfSome told (Stays trace o stood kept old)) → IfSome k (λ kept. IfSome told' (Stays trace o stood kept new))
    by-kept None told told' keeps run own shown was = tt
    by-kept (Some kept) told None keeps run own shown was = tt
    by-kept (Some kept) None (Some b) keeps run own shown was = absurd (cc keeps)
    by-kept (Some kept) (Some a) (Some b) keeps run own shown was = moved kept a b was run own shown

    pub stays-round : IfSome (trace old).bytes (λ _. LeavesOnly trace old new P) → IfSome (trace old).bytes (λ image. LeavesOnly trace old new (KeepsOwner image))
        → KeepsTelling (trace old).bytes (trace new).bytes → IfSome (trace new).bytes (trace new).may_leave → StaysOpened trace o stood old → StaysOpened trace o stood new
    stays-round run own keeps shown was = by-kept (kept_by stood.bytes) (trace old).bytes (trace new).bytes keeps run own shown was

-- nothing has happened to a disk since it stood as it does
pub stays_alone : {D : Type 0} (trace : D → DiskTrace) (o : Opening) (disk : D) → StaysOpened trace o (trace disk) disk
stays_alone trace o disk = stays-first trace o (trace disk) disk (record { bytes = refl; moment = refl; past = λ t c left. left })
