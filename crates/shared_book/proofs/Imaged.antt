-- What the disk under a shared book may be left with, as the history goes on.
use Rattle.std.proofs.Common.{◌≡◌, ◌⊎◌, inl, inr, ⊎_elim, ℕ, ◌+◌, ◌≤◌, true, List, [], ◌∷◌, ◌++◌, Option, Some, None, IfSome, refl, sym, ap, ap₂, ◌∙◌, subst, arith, append_assoc, append-nil}
use Rattle.rollout_rules.specs.History.{History}
use Rattle.rollout_rules.specs.Legal.{is_legal}
use Rattle.rollout_rules.specs.declared.op.Entry.{Entry}
use Rattle.rollout_laws.proofs.Histories.{with_both}
use Rattle.wan_edge.proofs.Faults.{rose_since, rose_until}
use Rattle.disk_model.specs.Traces.{DiskTrace}
use Rattle.disk_model.specs.Moments.{LeavesOnly}
use Rattle.wan_edge.specs.Streams.{KeepsTelling, Rose}
use Rattle.rollout_book.specs.Lists.{HasBeforeOrAfter, HasList, IsKeptList}
use Rattle.shared_book.specs.declared.note.What.{What}
use Rattle.shared_book.specs.declared.note.What.TheVariants as what
use Rattle.shared_book.specs.declared.note.Written.{Written}
use Rattle.shared_book.specs.Notes.{cause_of, halt_by, first_stop}
use Rattle.shared_book.specs.Histories.{Opening, segment_of, added, history_of}
use Rattle.shared_book.specs.Legal.{is_legal_shared}
use Rattle.shared_book.specs.Knows.{next_note}
use Rattle.shared_book.proofs.Lists.{history-next, list-is_legal, lost-is_legal}
use Rattle.shared_book.proofs.Stops.{added-append}
use Rattle.shared_book.specs.Images.{lost_by, lost, IsDisk, HasDisk, HasListBehind, HasLegalList, HasImages}
use Rattle.shared_book.proofs.Unstopped.{or-neither, no-cause}

-- ---- what was lost
lost-next : (ws : List Written) (w : Written) → lost (ws ++ w ∷ []) ≡ lost ws ++ lost_by w.note.what w.entries
lost-next [] w = append-nil (lost_by w.note.what w.entries)
lost-next (v ∷ ws) w = ap (λ es. lost_by v.note.what v.entries ++ es) (lost-next ws w) ∙ sym (append_assoc (lost_by v.note.what v.entries) (lost ws) (lost_by w.note.what w.entries))

none-by : (said : What) (es : List Entry) → cause_of said ≡ None → lost_by said es ≡ []
none-by (what.Turned dones begins) es none = refl
none-by (what.Alien item held begun) es none = refl
none-by what.Disk es none = absurd (cc none)
none-by what.Listed es none = refl
none-by what.Work es none = refl
none-by what.Finished es none = refl
none-by what.Held es none = refl
none-by what.Stopped es none = refl
none-by (what.Stop why) es none = refl

nothing-lost : (ws : List Written) → first_stop ws ≡ None → lost ws ≡ []
nothing-lost [] none = refl
nothing-lost (w ∷ ws) none =
    let neither = or-neither (halt_by w.note) (first_stop ws) none in
    ap₂ (λ (xs ys : List Entry). xs ++ ys) (none-by w.note.what w.entries (no-cause _ (cause_of w.note.what) neither.0)) (nothing-lost ws neither.1)

-- a note without entries adds none, and loses none
adds-none : (said : What) → segment_of said [] ≡ []
adds-none (what.Turned dones begins) = refl
adds-none (what.Alien item held begun) = refl
adds-none what.Disk = refl
adds-none what.Listed = refl
adds-none what.Work = refl
adds-none what.Finished = refl
adds-none what.Held = refl
adds-none what.Stopped = refl
adds-none (what.Stop why) = refl

loses-none : (said : What) → lost_by said [] ≡ []
loses-none (what.Turned dones begins) = refl
loses-none (what.Alien item held begun) = refl
loses-none what.Disk = refl
loses-none what.Listed = refl
loses-none what.Work = refl
loses-none what.Finished = refl
loses-none what.Held = refl
loses-none what.Stopped = refl
loses-none (what.Stop why) = refl

disk-next : (ws : List Written) (w : Written) → HasDisk (ws ++ w ∷ []) → HasDisk ws ⊎ IsDisk w.note.what
disk-next [] w (inl here) = inr here
disk-next [] w (inr later) = absurd later
disk-next (v ∷ ws) w (inl here) = inl (inl here)
disk-next (v ∷ ws) w (inr later) = ⊎_elim (λ (old : HasDisk ws). inl (inr old)) (λ (new : IsDisk w.note.what). inr new) (disk-next ws w later)

-- ---- lists of images
module _ (o : Opening) (log : List Written) where
  -- the list after all notes
  pub has-all : (c : List ℕ) → is_legal_shared o log ≡ true → HasList o.found.start (history_of o log).entries c → HasLegalList o log c
  has-all c legal has = record {
    seen = log;
    later = [];
    is = sym (append-nil log);
    past = added log;
    legal = list-is_legal o log legal;
    has = has;
    behind = inl refl;
  }

  -- what was known is known of a longer history
  pub has-longer : (more : List Written) (c : List ℕ) → HasLegalList o log c → HasLegalList o (log ++ more) c
  has-longer more c was = record {
    seen = was.seen;
    later = was.later ++ more;
    is = ap (λ ws. ws ++ more) was.is ∙ append_assoc was.seen was.later more;
    past = was.past;
    legal = was.legal;
    has = was.has;
    behind = was.behind;
  }

  -- with a batch that was lost
  pub has-lost : (w : Written) (c : List ℕ) → is_legal_shared o (log ++ w ∷ []) ≡ true → w.note.what ≡ what.Disk → first_stop log ≡ None
      → HasList o.found.start ((history_of o log).entries ++ w.entries) c → HasLegalList o (log ++ w ∷ []) c
  has-lost w c legal disk none has = record {
    seen = log ++ w ∷ [];
    later = [];
    is = sym (append-nil (log ++ w ∷ []));
    past = added log ++ w.entries;
    legal = subst (λ h. is_legal o.rollout.problem o.rollout.plan h ≡ true) (with_both o.found (added log) w.entries) (lost-is_legal o log w legal disk);
    has = subst (λ es. HasList o.found.start es c) (append_assoc o.found.entries (added log) w.entries) has;
    behind = inr (ap₂ (λ (xs ys : List Entry). xs ++ ys) added-is lost-is);
  }
    where
      added-is : added log ≡ added (log ++ w ∷ [])
      added-is = sym (added-append o log (w ∷ []) ∙ ap (λ es. added log ++ es) (append-nil (segment_of w.note.what w.entries) ∙ ap (λ s. segment_of s w.entries) disk) ∙ append-nil (added log))

      lost-is : w.entries ≡ lost (log ++ w ∷ [])
      lost-is = sym (lost-next log w ∙ ap₂ (λ (xs ys : List Entry). xs ++ ys) (nothing-lost log none) (ap (λ s. lost_by s w.entries) disk))

  module _ (w : Written) where
    -- a note that has no entries
    pub behind-same : (c : List ℕ) → segment_of w.note.what w.entries ≡ [] → lost_by w.note.what w.entries ≡ [] → HasListBehind o log c → HasListBehind o (log ++ w ∷ []) c
    behind-same c segment loses was =
        let entries : (history_of o log).entries ≡ (history_of o (log ++ w ∷ [])).entries =
        sym (ap (λ (h : History). h.entries) (history-next o log w) ∙ ap (λ es. (history_of o log).entries ++ es) segment ∙ append-nil (history_of o log).entries) in
        let gone : lost log ≡ lost (log ++ w ∷ []) = sym (lost-next log w ∙ ap (λ es. lost log ++ es) loses ∙ append-nil (lost log)) in
        subst (λ ls. HasBeforeOrAfter o.found.start (history_of o (log ++ w ∷ [])).entries ls c) gone
        (subst (λ es. HasBeforeOrAfter o.found.start es (lost log) c) entries was)

    pub behind-turned : (c : List ℕ) → HasList o.found.start ((history_of o log).entries ++ segment_of w.note.what w.entries) c → HasListBehind o (log ++ w ∷ []) c
    behind-turned c has = inl (subst (λ es. HasList o.found.start es c) (sym (ap (λ (h : History). h.entries) (history-next o log w))) has)

    pub behind-lost : (c : List ℕ) → w.note.what ≡ what.Disk → first_stop log ≡ None → HasBeforeOrAfter o.found.start (history_of o log).entries w.entries c → HasListBehind o (log ++ w ∷ []) c
    behind-lost c disk none was =
        let entries : (history_of o log).entries ≡ (history_of o (log ++ w ∷ [])).entries =
        sym (ap (λ (h : History). h.entries) (history-next o log w) ∙ ap (λ es. (history_of o log).entries ++ es) (ap (λ s. segment_of s w.entries) disk) ∙ append-nil (history_of o log).entries) in
        let gone : w.entries ≡ lost (log ++ w ∷ []) = sym (lost-next log w ∙ ap₂ (λ (xs ys : List Entry). xs ++ ys) (nothing-lost log none) (ap (λ s. lost_by s w.entries) disk)) in
        subst (λ ls. HasBeforeOrAfter o.found.start (history_of o (log ++ w ∷ [])).entries ls c) gone
        (subst (λ es. HasBeforeOrAfter o.found.start es w.entries c) entries was)

-- ---- what is known of the disk
module _ {D : Type 0} (trace : D → DiskTrace) (o : Opening) (from count : ℕ) where
  abbrev Since : List Written → D → Type 0
  Since log disk = (c : List ℕ) → (trace disk).left_since from c → HasLegalList o log c

  abbrev Now : List Written → D → Type 0
  Now log disk = (c : List ℕ) → (trace disk).may_leave c → HasListBehind o log c

  if-told : (told : Option (List ℕ)) (P Q : Type 0) → (P → Q) → IfSome told (λ _. P) → IfSome told (λ _. Q)
  if-told None P Q f holds = tt
  if-told (Some image) P Q f holds = f holds

  -- at first
  pub images-first : (disk : D) → from ≡ (trace disk).moment → count ≡ (trace disk).faults → is_legal o.rollout.problem o.rollout.plan o.found ≡ true → is_legal_shared o [] ≡ true
      → ((c : List ℕ) → (trace disk).left_since (trace disk).moment c → (trace disk).may_leave c) → IfSome (trace disk).bytes (IsKeptList o.found.start o.found.entries (trace disk).may_leave)
      → HasImages trace o from count disk []
  images-first disk at many legal legal' only kept = record {
    more = omega (arith, many);
    later = at-first (trace disk).bytes;
    since = first-since (trace disk).bytes kept;
    now = first-now (trace disk).bytes kept;
    failed = λ none. absurd none;
  }
    where
      at-first : (told : Option (List ℕ)) → IfSome told (λ _. from ≤ (trace disk).moment)
      at-first None = tt
      at-first (Some image) = omega (arith, at)

      has-found : (image c : List ℕ) → IsKeptList o.found.start o.found.entries (trace disk).may_leave image → (trace disk).may_leave c → HasList o.found.start (history_of o []).entries c
      has-found image c kept left = subst (λ es. HasList o.found.start es c) (sym (append-nil o.found.entries)) (subst (HasList o.found.start o.found.entries) (sym (kept.only c left)) kept.has)

      first-since : (told : Option (List ℕ)) → IfSome told (IsKeptList o.found.start o.found.entries (trace disk).may_leave) → IfSome told (λ _. Since [] disk)
      first-since None kept = tt
      first-since (Some image) kept = λ c left. has-all o [] c legal' (has-found image c kept (only c (subst (λ t. (trace disk).left_since t c) at left)))

      first-now : (told : Option (List ℕ)) → IfSome told (IsKeptList o.found.start o.found.entries (trace disk).may_leave) → IfSome told (λ _. Now [] disk)
      first-now None kept = tt
      first-now (Some image) kept = λ c left. inl (has-found image c kept left)

  module _ (log : List Written) (old : D) (was : HasImages trace o from count old log) where
    -- a note without entries, and the disk is as it was
    pub images-same : (seat : ℕ) (said : What) (new : D) → new ≡ old → (IsDisk said → ⊥) → HasImages trace o from count new (log ++ next_note seat log said [] ∷ [])
    images-same seat said new same other =
        let w = next_note seat log said [] in
        subst (λ d. HasImages trace o from count d (log ++ w ∷ [])) (sym same) (record {
          more = was.more;
          later = was.later;
          since = if-told (trace old).bytes (Since log old) (Since (log ++ w ∷ []) old) (λ f c left. has-longer o log (w ∷ []) c (f c left)) was.since;
          now = if-told (trace old).bytes (Now log old) (Now (log ++ w ∷ []) old) (λ f c left. behind-same o log w c (adds-none said) (loses-none said) (f c left)) was.now;
          failed = λ has. ⊎_elim was.failed (λ (here : IsDisk said). absurd (other here)) (disk-next log w has);
        })

    module _ (new : D) (seat : ℕ) (es : List Entry) (none : first_stop log ≡ None) (legal : is_legal_shared o log ≡ true)
        (run : IfSome (trace old).bytes (λ _. LeavesOnly trace old new (HasBeforeOrAfter o.found.start (history_of o log).entries es)))
        (keeps : KeepsTelling (trace old).bytes (trace new).bytes) (grows : (trace old).faults ≤ (trace new).faults) where
      later-by : (told told' : Option (List ℕ)) → KeepsTelling told told' → IfSome told (λ _. from ≤ (trace old).moment)
          → IfSome told (λ _. LeavesOnly trace old new (HasBeforeOrAfter o.found.start (history_of o log).entries es)) → IfSome told' (λ _. from ≤ (trace new).moment)
      later-by told None kept at ran = tt
      later-by None (Some image) kept at ran = absurd (cc kept)
      later-by (Some before) (Some image) kept at ran = omega (arith, at, ran.later)

      -- what was left since, where it is known of each new image
      since-by : (log' : List Written) → ((c : List ℕ) → HasLegalList o log c → HasLegalList o log' c) → ((c : List ℕ) → HasBeforeOrAfter o.found.start (history_of o log).entries es c → HasLegalList o log' c)
          → (told told' : Option (List ℕ)) → KeepsTelling told told' → IfSome told (λ _. from ≤ (trace old).moment) → IfSome told (λ _. Since log old)
          → IfSome told (λ _. LeavesOnly trace old new (HasBeforeOrAfter o.found.start (history_of o log).entries es)) → IfSome told' (λ _. Since log' new)
      since-by log' longer here told None kept at known ran = tt
      since-by log' longer here None (Some image) kept at known ran = absurd (cc kept)
      since-by log' longer here (Some before) (Some image) kept at known ran =
          λ c left. ⊎_elim (λ (earlier : (trace old).left_since from c). longer c (known c earlier)) (here c) (ran.before from c at left)

      now-by : (log' : List Written) → ((c : List ℕ) → HasBeforeOrAfter o.found.start (history_of o log).entries es c → HasListBehind o log' c)
          → ((t : ℕ) (c : List ℕ) → t ≤ (trace new).moment → (trace new).may_leave c → (trace new).left_since t c) → (told told' : Option (List ℕ)) → KeepsTelling told told'
          → IfSome told (λ _. LeavesOnly trace old new (HasBeforeOrAfter o.found.start (history_of o log).entries es)) → IfSome told' (λ _. Now log' new)
      now-by log' here counts told None kept ran = tt
      now-by log' here counts None (Some image) kept ran = absurd (cc kept)
      now-by log' here counts (Some before) (Some image) kept ran = λ c left. here c (ran.each c (counts (trace old).moment c ran.later left))

      -- a round that was made
      pub images-turned : (dones begins : ℕ) → is_legal_shared o (log ++ next_note seat log (what.Turned dones begins) es ∷ []) ≡ true
          → IfSome (trace new).bytes (IsKeptList o.found.start ((history_of o log).entries ++ es) (trace new).may_leave)
          → HasImages trace o from count new (log ++ next_note seat log (what.Turned dones begins) es ∷ [])
      images-turned dones begins legal' kept =
          let w = next_note seat log (what.Turned dones begins) es in
          let has-new : (c : List ℕ) → HasList o.found.start ((history_of o log).entries ++ es) c → HasLegalList o (log ++ w ∷ []) c =
          λ c has. has-all o (log ++ w ∷ []) c legal' (subst (λ xs. HasList o.found.start xs c) (sym (ap (λ (h : History). h.entries) (history-next o log w))) has) in
          record {
            more = omega (arith, was.more, grows);
            later = later-by (trace old).bytes (trace new).bytes keeps was.later run;
            since = since-by (log ++ w ∷ []) (has-longer o log (w ∷ []))
                (λ c has. ⊎_elim (λ (before : HasList o.found.start (history_of o log).entries c). has-longer o log (w ∷ []) c (has-all o log c legal before)) (has-new c) has)
                (trace old).bytes (trace new).bytes keeps was.later was.since run;
            now = turned-now (trace new).bytes kept;
            failed = λ has. rose_until count (trace old).faults (trace new).faults (⊎_elim was.failed (λ (here : ⊥). absurd here) (disk-next log w has)) grows;
          }
        where
          turned-now : (told : Option (List ℕ)) → IfSome told (IsKeptList o.found.start ((history_of o log).entries ++ es) (trace new).may_leave) → IfSome told (λ _. Now (log ++ next_note seat log (what.Turned dones begins) es ∷ []) new)
          turned-now None kept = tt
          turned-now (Some image) kept =
              λ c left. behind-turned o log (next_note seat log (what.Turned dones begins) es) c (subst (HasList o.found.start ((history_of o log).entries ++ es)) (sym (kept.only c left)) kept.has)

      -- one whose append failed
      pub images-lost : is_legal_shared o (log ++ next_note seat log what.Disk es ∷ []) ≡ true → ((t : ℕ) (c : List ℕ) → t ≤ (trace new).moment → (trace new).may_leave c → (trace new).left_since t c) → Rose (trace old).faults (trace new).faults
          → HasImages trace o from count new (log ++ next_note seat log what.Disk es ∷ [])
      images-lost legal' counts rose =
          let w = next_note seat log what.Disk es in
          record {
            more = omega (arith, was.more, grows);
            later = later-by (trace old).bytes (trace new).bytes keeps was.later run;
            since = since-by (log ++ w ∷ []) (has-longer o log (w ∷ []))
                (λ c has. ⊎_elim (λ (before : HasList o.found.start (history_of o log).entries c). has-longer o log (w ∷ []) c (has-all o log c legal before)) (has-lost o log w c legal' refl none) has)
                (trace old).bytes (trace new).bytes keeps was.later was.since run;
            now = now-by (log ++ w ∷ []) (λ c has. behind-lost o log w c refl none has) counts (trace old).bytes (trace new).bytes keeps run;
            failed = λ has. rose_since count (trace old).faults (trace new).faults was.more rose;
          }
