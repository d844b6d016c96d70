-- What the calls of a shared book make of what is known of its disk.
use Rattle.std.proofs.Common.{arith, is_some, ◌≡◌, ℕ, ◌≤◌, true, List, [], ◌∷◌, ◌++◌, Option, Some, None, IfSome, refl, sym, ap, ◌∙◌, subst}
use Rattle.std.specs.Prelude.{⊤}
use Rattle.rollout_rules.specs.History.{History}
use Rattle.rollout_rules.specs.declared.op.OpView.{OpView}
use Rattle.rollout_rules.specs.declared.op.Entry.{Entry}
use Rattle.disk_model.specs.Traces.{DiskTrace}
use Rattle.disk_model.specs.Moments.{LeavesOnly}
use Rattle.wan_edge.specs.Frames.{Answer}
use Rattle.wan_edge.specs.Streams.{KeepsTelling, Rose}
use Rattle.rollout_book.specs.Aliens.{told_by}
use Rattle.rollout_book.specs.JournaledRounds.{Journaled, batch_of, with_batch, with_lost}
use Rattle.rollout_book.specs.Lists.{HasBeforeOrAfter, IsKeptList, KeepsOwner}
use Rattle.rollout_book.specs.declared.fault.BookFault.TheVariants as fault
use Rattle.shared_book.specs.declared.note.Cause.{Cause}
use Rattle.shared_book.specs.declared.note.Note.{Note}
use Rattle.shared_book.specs.declared.note.What.{What}
use Rattle.shared_book.specs.declared.note.What.TheVariants as what
use Rattle.shared_book.specs.declared.note.Written.{Written}
use Rattle.shared_book.specs.declared.call_reply.Halt.{Halt}
use Rattle.shared_book.specs.declared.call_reply.ListReply.{ListReply}
use Rattle.shared_book.specs.declared.call_reply.ListReply.TheVariants as list
use Rattle.shared_book.specs.declared.call_reply.Wake.{Wake}
use Rattle.shared_book.specs.declared.call_reply.Wake.TheVariants as wake
use Rattle.shared_book.specs.Histories.{Opening, history_of}
use Rattle.shared_book.specs.Knows.{next_note}
use Rattle.shared_book.specs.Legal.{is_legal_shared}
use Rattle.shared_book.specs.Notes.{first_stop}
use Rattle.shared_book.specs.Replies.{batch_at, wake_says}
use Rattle.shared_book.specs.declared.reply.RoundReply.{RoundReply}
use Rattle.shared_book.specs.declared.reply.RoundReply.TheVariants as round
use Rattle.shared_book.specs.Images.{HasImages, StaysOpened}
use Rattle.shared_book.specs.Rounds.{IsRoundOf}
use Rattle.shared_book.specs.Sharing.{Sharing, IsShared}
use Rattle.shared_book.specs.Told.{list_notes, round_notes, with_noted, OnFailed}
use Rattle.shared_book.proofs.Imaged.{images-lost, images-same, images-turned}
use Rattle.shared_book.proofs.Rounded.{IsMade, batch-at, made-plain}
use Rattle.shared_book.proofs.Staying.{lost-goes, stays-as, stays-round, turned-goes}

-- what holds of a round whose batch was to be added, and of one whose batch was
abbrev OnBatch : RoundReply → Type 0 → Type 0
OnBatch (round.Turned turn) holds = holds
OnBatch (round.Refused (fault.Alien item held begun)) holds = ⊤
OnBatch (round.Refused fault.Disk) holds = holds
OnBatch (round.Stopped halt) holds = ⊤
OnBatch round.Memory holds = ⊤

abbrev OnTurned : RoundReply → Type 0 → Type 0
OnTurned (round.Turned turn) holds = holds
OnTurned (round.Refused why) holds = ⊤
OnTurned (round.Stopped halt) holds = ⊤
OnTurned round.Memory holds = ⊤

module _ {D : Type 0} (trace : D → DiskTrace) (o : Opening) (from count : ℕ) where
  abbrev Images : D → List Written → Type 0
  Images disk log = HasImages trace o from count disk log

  -- the fact of the type, told of what contracts see
  pub images-at : (disk : D) (seen now : Sharing D) → seen ≡ now → Images disk seen.log → Images disk now.log
  images-at disk seen now same was = subst (λ (v : Sharing D). Images disk v.log) same was

  -- and of a history that is this one
  pub images-of : (disk : D) (log after : List Written) → log ≡ after → Images disk after → Images disk log
  images-of disk log after same was = subst (Images disk) (sym same) was

  -- and of the disk of a book that is this one
  pub images-as : (b c : Journaled D) (log : List Written) → c ≡ b → Images b.disk log → Images c.disk log
  images-as b c log same was = subst (λ (x : Journaled D). Images x.disk log) (sym same) was

  module _ (log : List Written) (old : D) (was : Images old log) (seat : ℕ) where
    pub list-images : (reply : ListReply) → Images old (with_noted seat log (list_notes reply) [])
    list-images list.Listed = images-same trace o from count log old was seat what.Listed old refl (λ here. here)
    list-images (list.Stopped halt) = images-same trace o from count log old was seat what.Stopped old refl (λ here. here)
    list-images list.Memory = was

    pub wake-images : (woken : Wake) → Images old (with_noted seat log (wake_says woken) [])
    wake-images (wake.Work op) = images-same trace o from count log old was seat what.Work old refl (λ here. here)
    wake-images wake.Finished = images-same trace o from count log old was seat what.Finished old refl (λ here. here)
    wake-images wake.Held = images-same trace o from count log old was seat what.Held old refl (λ here. here)
    wake-images (wake.Stopped halt) = images-same trace o from count log old was seat what.Stopped old refl (λ here. here)
    wake-images wake.Memory = was

    pub stop-images : (why : Cause) → Images old (log ++ next_note seat log (what.Stop why) [] ∷ [])
    stop-images why = images-same trace o from count log old was seat (what.Stop why) old refl (λ here. here)

  module _ (seats : ℕ) (b b' : Journaled D) (ns : List Note) (halt : Option Halt) (left most : ℕ) (log : List Written) (s : IsShared o seats b ns halt left most log) (answers : List Answer) (was : Images b.disk log) (seat : ℕ)
      (counts : (t : ℕ) (c : List ℕ) → t ≤ (trace b'.disk).moment → (trace b'.disk).may_leave c → (trace b'.disk).left_since t c) (keeps : KeepsTelling (trace b.disk).bytes (trace b'.disk).bytes) (grows : (trace b.disk).faults ≤ (trace b'.disk).faults) where
    -- the run of the disk, told by the history
    run-told : first_stop log ≡ None → IfSome (trace b.disk).bytes (λ _. LeavesOnly trace b.disk b'.disk (HasBeforeOrAfter b.history.start b.entries (batch_of b o.policy answers)))
        → IfSome (trace b.disk).bytes (λ _. LeavesOnly trace b.disk b'.disk (HasBeforeOrAfter o.found.start (history_of o log).entries (batch_at o (history_of o log) (told_by answers))))
    run-told none run =
        let P : List ℕ → List Entry → List Entry → Type 0 = λ st es ba. IfSome (trace b.disk).bytes (λ _. LeavesOnly trace b.disk b'.disk (HasBeforeOrAfter st es ba)) in
        subst (λ ba. P o.found.start (history_of o log).entries ba) (batch-at o seats b ns halt left most log s answers none)
        (subst (λ es. P o.found.start es (batch_of b o.policy answers)) s.entries (subst (λ st. P st b.entries (batch_of b o.policy answers)) (ap (λ (h : History). h.start) s.history) run))

    kept-told : first_stop log ≡ None → b' ≡ with_batch b (batch_of b o.policy answers) b'.disk → IfSome (trace b'.disk).bytes (IsKeptList b'.history.start b'.entries (trace b'.disk).may_leave)
        → IfSome (trace b'.disk).bytes (IsKeptList o.found.start ((history_of o log).entries ++ batch_at o (history_of o log) (told_by answers)) (trace b'.disk).may_leave)
    kept-told none is kept =
        let P : List ℕ → List Entry → Type 0 = λ st es. IfSome (trace b'.disk).bytes (IsKeptList st es (trace b'.disk).may_leave) in
        let starts : b'.history.start ≡ o.found.start = ap (λ (x : Journaled D). x.history.start) is ∙ ap (λ (h : History). h.start) s.history in
        let lists : b'.entries ≡ (history_of o log).entries ++ batch_at o (history_of o log) (told_by answers) =
        ap (λ (x : Journaled D). x.entries) is ∙ ap (λ es. es ++ batch_of b o.policy answers) s.entries ∙ ap (λ ba. (history_of o log).entries ++ ba) (batch-at o seats b ns halt left most log s answers none) in
        subst (λ es. P o.found.start es) lists (subst (λ st. P st b'.entries) starts kept)

    round-images : (reply : RoundReply) → IsMade b halt o.policy answers reply b'
        → OnBatch reply (IfSome (trace b.disk).bytes (λ _. LeavesOnly trace b.disk b'.disk (HasBeforeOrAfter b.history.start b.entries (batch_of b o.policy answers))))
        → OnTurned reply (IfSome (trace b'.disk).bytes (IsKeptList b'.history.start b'.entries (trace b'.disk).may_leave)) → OnFailed reply (Rose (trace b.disk).faults (trace b'.disk).faults)
        → is_legal_shared o (with_noted seat log (round_notes reply) (batch_at o (history_of o log) (told_by answers))) ≡ true
        → Images b'.disk (with_noted seat log (round_notes reply) (batch_at o (history_of o log) (told_by answers)))
    round-images (round.Turned turn) made run kept rose legal =
        let none = sym s.halted ∙ made.0 in
        images-turned trace o from count log b.disk was b'.disk seat (batch_at o (history_of o log) (told_by answers)) none s.legal (run-told none run) keeps grows turn.dones turn.begins legal
        (kept-told none made.3 kept)
    round-images (round.Refused (fault.Alien item held begun)) made run kept rose legal =
        images-same trace o from count log b.disk was seat (what.Alien item held begun) b'.disk (ap (λ (x : Journaled D). x.disk) made.1.1) (λ here. here)
    round-images (round.Refused fault.Disk) made run kept rose legal =
        let none = sym s.halted ∙ made.0 in
        images-lost trace o from count log b.disk was b'.disk seat (batch_at o (history_of o log) (told_by answers)) none s.legal (run-told none run) keeps grows legal counts rose
    round-images (round.Stopped first) made run kept rose legal =
        images-same trace o from count log b.disk was seat what.Stopped b'.disk (ap (λ (x : Journaled D). x.disk) made.1) (λ here. here)
    round-images round.Memory made run kept rose legal = absurd made

    -- from before the opening on
    round-stays : (stood : DiskTrace) → StaysOpened trace o stood b.disk → IfSome (trace b'.disk).bytes (trace b'.disk).may_leave
        → (reply : RoundReply) → IsMade b halt o.policy answers reply b'
        → OnBatch reply (IfSome (trace b.disk).bytes (λ _. LeavesOnly trace b.disk b'.disk (HasBeforeOrAfter b.history.start b.entries (batch_of b o.policy answers))))
        → OnBatch reply (IfSome (trace b.disk).bytes (λ image. LeavesOnly trace b.disk b'.disk (KeepsOwner image)))
        → is_legal_shared o (with_noted seat log (round_notes reply) (batch_at o (history_of o log) (told_by answers))) ≡ true
        → StaysOpened trace o stood b'.disk
    round-stays stood stays shown (round.Turned turn) made run own legal =
        let none = sym s.halted ∙ made.0 in
        stays-round trace o stood b.disk b'.disk (HasBeforeOrAfter o.found.start (history_of o log).entries (batch_at o (history_of o log) (told_by answers)))
        (turned-goes o log seat (batch_at o (history_of o log) (told_by answers)) s.legal turn.dones turn.begins legal) counts (run-told none run) own keeps shown stays
    round-stays stood stays shown (round.Refused (fault.Alien item held begun)) made run own legal = subst (λ (d : D). StaysOpened trace o stood d) (sym (ap (λ (x : Journaled D). x.disk) made.1.1)) stays
    round-stays stood stays shown (round.Refused fault.Disk) made run own legal =
        let none = sym s.halted ∙ made.0 in
        stays-round trace o stood b.disk b'.disk (HasBeforeOrAfter o.found.start (history_of o log).entries (batch_at o (history_of o log) (told_by answers)))
        (lost-goes o log seat (batch_at o (history_of o log) (told_by answers)) s.legal none legal) counts (run-told none run) own keeps shown stays
    round-stays stood stays shown (round.Stopped first) made run own legal = stays-as trace o stood b b' made.1 stays
    round-stays stood stays shown round.Memory made run own legal = absurd made

  -- ---- what the book promises of its disk

  module _ (halt : Option Halt) (policy : OpView → ℕ) (answers : List Answer) (b b' : Journaled D) where
    abbrev Round : RoundReply → Type 0
    Round reply = IsRoundOf trace halt policy answers b reply b'

    run-of : (reply : RoundReply) → Round reply → OnBatch reply (IfSome (trace b.disk).bytes (λ _. LeavesOnly trace b.disk b'.disk (HasBeforeOrAfter b.history.start b.entries (batch_of b policy answers))))
    run-of (round.Turned turn) made = made.1.any_moment
    run-of (round.Refused (fault.Alien item held begun)) made = tt
    run-of (round.Refused fault.Disk) made = made.1.any_moment
    run-of (round.Stopped first) made = tt
    run-of round.Memory made = tt

    own-of : (reply : RoundReply) → Round reply → OnBatch reply (IfSome (trace b.disk).bytes (λ image. LeavesOnly trace b.disk b'.disk (KeepsOwner image)))
    own-of (round.Turned turn) made = made.1.owner
    own-of (round.Refused (fault.Alien item held begun)) made = tt
    own-of (round.Refused fault.Disk) made = made.1.owner
    own-of (round.Stopped first) made = tt
    own-of round.Memory made = tt

    kept-of : (reply : RoundReply) → Round reply → OnTurned reply (IfSome (trace b'.disk).bytes (IsKeptList b'.history.start b'.entries (trace b'.disk).may_leave))
    kept-of (round.Turned turn) made = made.1.has
    kept-of (round.Refused why) made = tt
    kept-of (round.Stopped first) made = tt
    kept-of round.Memory made = tt

    pub rose-of : (reply : RoundReply) → Round reply → OnFailed reply (Rose (trace b.disk).faults (trace b'.disk).faults)
    rose-of (round.Turned turn) made = tt
    rose-of (round.Refused (fault.Alien item held begun)) made = tt
    rose-of (round.Refused fault.Disk) made = made.1.cause
    rose-of (round.Stopped first) made = tt
    rose-of round.Memory made = tt

    tells-of : (reply : RoundReply) → Round reply → KeepsTelling (trace b.disk).bytes (trace b'.disk).bytes
    tells-of (round.Turned turn) made = made.1.told
    tells-of (round.Refused why) made = made.1.told
    tells-of (round.Stopped first) made = ap (λ (x : Journaled D). is_some (trace x.disk).bytes) made.1
    tells-of round.Memory made = absurd made

    pub grows-of : (reply : RoundReply) → Round reply → (trace b.disk).faults ≤ (trace b'.disk).faults
    grows-of (round.Turned turn) made = made.1.count
    grows-of (round.Refused why) made = made.1.count
    grows-of (round.Stopped first) made = omega (arith, ap (λ (x : Journaled D). (trace x.disk).faults) made.1)
    grows-of round.Memory made = absurd made

  -- the same with the policy of the code, and the history of the parts
  pub round-images-by : (seats : ℕ) (b b' : Journaled D) (ns : List Note) (halt : Option Halt) (left most : ℕ) (log after : List Written) (answers : List Answer) (policy : OpView → ℕ) (seat : ℕ) (reply : RoundReply)
      → IsShared o seats b ns halt left most log → o.policy ≡ policy → Images b.disk log → ((t : ℕ) (c : List ℕ) → t ≤ (trace b'.disk).moment → (trace b'.disk).may_leave c → (trace b'.disk).left_since t c)
      → IsRoundOf trace halt policy answers b reply b'
      → is_legal_shared o after ≡ true → after ≡ with_noted seat log (round_notes reply) (batch_at o (history_of o log) (told_by answers)) → Images b'.disk after
  round-images-by seats b b' ns halt left most log after answers policy seat reply s same was counts made legal noted =
      let made' = subst (λ (f : OpView → ℕ). IsRoundOf trace halt f answers b reply b') (sym same) made in
      subst (Images b'.disk) (sym noted)
      (round-images seats b b' ns halt left most log s answers was seat counts (tells-of halt policy answers b b' reply made) (grows-of halt policy answers b b' reply made) reply
      (made-plain trace b b' halt o.policy answers reply made') (run-of halt o.policy answers b b' reply made') (kept-of halt o.policy answers b b' reply made')
      (rose-of halt o.policy answers b b' reply made') (subst (λ ws. is_legal_shared o ws ≡ true) noted legal))

  pub round-stays-by : (stood : DiskTrace) (seats : ℕ) (b b' : Journaled D) (ns : List Note) (halt : Option Halt) (left most : ℕ) (log after : List Written) (answers : List Answer) (policy : OpView → ℕ) (seat : ℕ) (reply : RoundReply)
      → IsShared o seats b ns halt left most log → o.policy ≡ policy → Images b.disk log → StaysOpened trace o stood b.disk → IfSome (trace b'.disk).bytes (trace b'.disk).may_leave
      → ((t : ℕ) (c : List ℕ) → t ≤ (trace b'.disk).moment → (trace b'.disk).may_leave c → (trace b'.disk).left_since t c)
      → IsRoundOf trace halt policy answers b reply b'
      → is_legal_shared o after ≡ true → after ≡ with_noted seat log (round_notes reply) (batch_at o (history_of o log) (told_by answers)) → StaysOpened trace o stood b'.disk
  round-stays-by stood seats b b' ns halt left most log after answers policy seat reply s same was stays shown counts made legal noted =
      let made' = subst (λ (f : OpView → ℕ). IsRoundOf trace halt f answers b reply b') (sym same) made in
      round-stays seats b b' ns halt left most log s answers was seat counts (tells-of halt policy answers b b' reply made) (grows-of halt policy answers b b' reply made) stood stays shown reply
      (made-plain trace b b' halt o.policy answers reply made') (run-of halt o.policy answers b b' reply made') (own-of halt o.policy answers b b' reply made')
      (subst (λ ws. is_legal_shared o ws ≡ true) noted legal)
