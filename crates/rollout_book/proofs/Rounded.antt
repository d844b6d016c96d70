-- What a round makes of a book.
use Rattle.std.proofs.Common.{◌≡◌, ℕ, ◌<◌, Bool, true, false, List, [], ◌∷◌, ◌++◌, append-nil, All, Option, Some, None, Result, Ok, Err, IfErr, OnErr, OnOk, if◌then◌else◌, is_ok, nat_lt, nat_le, refl, sym, subst, ap, ◌∙◌, ltb-true}
use Rattle.std.proofs.lemmas.Bool.{and_parts}
use Rattle.std.proofs.lemmas.List.Elements.{All-cons, All-nil}
use Rattle.rollout_rules.specs.Items.{item_count}
use Rattle.rollout_rules.specs.History.{with_entries}
use Rattle.rollout_rules.specs.declared.op.Entry.{Entry}
use Rattle.rollout_laws.proofs.Histories.{with_none}
use Rattle.dependency_graph.specs.Graph.{Followed}
use Rattle.intent_journal.specs.Opened.{Opened}
use Rattle.wan_edge.specs.Frames.{Answer}
use Rattle.update_scheduler.specs.Rounds.{Turning}
use Rattle.rollout_book.specs.declared.fault.BookFault.{BookFault}
use Rattle.rollout_book.specs.declared.fault.BookFault.TheVariants.{Alien, Disk}
use Rattle.rollout_book.specs.declared.turn.Turn.{Turn}
use Rattle.rollout_book.specs.Aliens.{IsFault, OnAlien, OnDisk, begun_of, first_alien, is_known}
use Rattle.rollout_book.specs.JournaledRounds.{Journaled, with_batch, with_lost}

-- ---- which answers are alien
pick : (known : Bool) (later : Option BookFault) (item held begun : ℕ) → (later ≡ Some Disk → ⊥) → (if known then later else (if known then None else Some (Alien item held begun))) ≡ Some Disk → ⊥
pick true later item held begun never e = never e
pick false later item held begun never e = cc

-- the disk is never the fault of an answer
never-disk : (g : Followed) (answers : List Answer) → first_alien g answers ≡ Some Disk → ⊥
never-disk g [] e = cc
never-disk g (answer ∷ later) e = pick (is_known g answer) (first_alien g later) answer.item answer.held (begun_of g answer.item) (never-disk g later) e

pub alien-is : (g : Followed) (answers : List Answer) (fault : BookFault) → first_alien g answers ≡ Some fault → IsFault fault (first_alien g answers)
alien-is g answers (Alien item held begun) e = e
alien-is g answers Disk e = absurd (never-disk g answers e)

pub alien-only : (g : Followed) (answers : List Answer) (fault : BookFault) (P : Type 0) → first_alien g answers ≡ Some fault → OnDisk fault P
alien-only g answers (Alien item held begun) P e = tt
alien-only g answers Disk P e = absurd (never-disk g answers e)

pass : (known : Bool) (later : Option BookFault) (item held begun : ℕ) → (if known then later else (if known then None else Some (Alien item held begun))) ≡ None → (known ≡ true) × (later ≡ None)
pass true later item held begun e = (refl, e)
pass false later item held begun e = absurd (cc e)

-- where none is, all are of items that exist
pub none-alien : (g : Followed) (answers : List Answer) → first_alien g answers ≡ None → All (λ a. a.item < item_count g.rollout.problem) answers
none-alien g [] e = All-nil (λ a. a.item < item_count g.rollout.problem)
none-alien g (answer ∷ later) e =
    let both = pass (is_known g answer) (first_alien g later) answer.item answer.held (begun_of g answer.item) e in
    All-cons (λ a. a.item < item_count g.rollout.problem) answer later
    (ltb-true answer.item (item_count g.rollout.problem) (and_parts (nat_lt answer.item (item_count g.rollout.problem)) (nat_le answer.held (begun_of g answer.item)) both.0).0)
    (none-alien g later both.1)

-- ---- what stands after the batch
abbrev pub book_of : {D : Type 0} → Turning → List Entry → Opened D → ℕ → Journaled D
book_of t entries j found = record { rollout = t.rollout; history = t.history; entries = entries; disk = j.disk; live = j.live; found = found }

module _ {D : Type 0} (t t' : Turning) (entries entries' : List Entry) (j j' : Opened D) (found : ℕ) (es : List Entry) (rollout-is : t'.rollout ≡ t.rollout) (history-is : t'.history ≡ with_entries t.history es) where
  pub book-written : entries' ≡ entries ++ es → j'.live ≡ j.live → book_of t' entries' j' found ≡ with_batch (book_of t entries j found) es j'.disk
  book-written added lives = λ i. record { rollout = rollout-is i; history = history-is i; entries = added i; disk = j'.disk; live = lives i; found = found }

  pub book-lost : entries' ≡ entries → j'.live ≡ false → book_of t' entries' j' found ≡ with_lost (book_of t entries j found) es j'.disk
  book-lost stays dead = λ i. record { rollout = rollout-is i; history = history-is i; entries = stays i; disk = j'.disk; live = dead i; found = found }

  pub book-still : es ≡ [] → entries' ≡ entries → j' ≡ j → book_of t' entries' j' found ≡ book_of t entries j found
  book-still none stays same =
      let history = history-is ∙ ap (with_entries t.history) none ∙ with_none t.history in
      λ i. record { rollout = rollout-is i; history = history i; entries = stays i; disk = (same i).disk; live = (same i).live; found = found }

-- an empty batch adds nothing, whatever the answer
pub stays-still : (r : Result Turn BookFault) (entries entries' es : List Entry) → OnOk r (entries' ≡ entries ++ es) → OnErr r (entries' ≡ entries) → es ≡ [] → entries' ≡ entries
stays-still (Ok turn) entries entries' es added stays none = added ∙ ap (λ xs. entries ++ xs) none ∙ append-nil entries
stays-still (Err fault) entries entries' es added stays none = stays

-- what a round gives where it was written, and where it wasn't
pub on-written : (r : Result Turn BookFault) (live : Bool) (P Q : Type 0) → live ≡ is_ok r → OnOk r P → (live ≡ true → P → Q) → OnOk r Q
on-written (Ok turn) live P Q lives holds give = give lives holds
on-written (Err fault) live P Q lives holds give = tt

pub on-lost : (r : Result Turn BookFault) (live : Bool) (P Q : Type 0) → live ≡ is_ok r → OnErr r P → (live ≡ false → P → Q) → IfErr r (λ fault. OnDisk fault Q)
on-lost (Ok turn) live P Q lives holds give = tt
on-lost (Err (Alien item held begun)) live P Q lives holds give = tt
on-lost (Err Disk) live P Q lives holds give = give lives holds

-- what holds whatever is answered, and what is said of the disk alone
pub on-ok : (r : Result Turn BookFault) (P : Type 0) → P → OnOk r P
on-ok (Ok turn) P holds = holds
on-ok (Err fault) P holds = tt

pub alien-still : (fault : BookFault) (P : Type 0) → P → OnAlien fault P
alien-still (Alien item held begun) P holds = holds
alien-still Disk P holds = tt

pub disk-refused : (r : Result Turn BookFault) (alien : Option BookFault) → IfErr r (λ fault. fault ≡ Disk) → alien ≡ None → IfErr r (λ fault. IsFault fault alien)
disk-refused (Ok turn) alien disk none = tt
disk-refused (Err fault) alien disk none = subst (λ f. IsFault f alien) (sym disk) none

pub disk-alone : (r : Result Turn BookFault) (P : Type 0) → IfErr r (λ fault. fault ≡ Disk) → IfErr r (λ fault. OnAlien fault P)
disk-alone (Ok turn) P disk = tt
disk-alone (Err fault) P disk = subst (λ f. OnAlien f P) (sym disk) tt
