-- A shared book at first.
use Rattle.std.proofs.Common.{◌≡◌, ℕ, zero, suc, ◌+◌, ◌≤◌, true, List, [], length, Option, None, refl, sym, ap, ◌∙◌, subst, arith}
use Rattle.std.proofs.lemmas.Bool.{and_from}
use Rattle.rollout_rules.specs.History.{History}
use Rattle.rollout_rules.specs.Legal.{is_legal}
use Rattle.rollout_rules.specs.declared.op.OpView.{OpView}
use Rattle.rollout_laws.proofs.Histories.{with_none}
use Rattle.disk_model.specs.Traces.{DiskTrace}
use Rattle.rollout_book.specs.JournaledRounds.{Journaled, IsNewBook}
use Rattle.shared_book.specs.declared.note.Note.{Note}
use Rattle.shared_book.specs.Histories.{Opening}
use Rattle.shared_book.specs.Images.{HasImages}
use Rattle.shared_book.specs.Opened.{IsOpened, IsOpenedOn, opening_of}
use Rattle.shared_book.specs.Sharing.{IsShared, log_of, unasked}
use Rattle.shared_book.proofs.Imaged.{images-first}
use Rattle.shared_book.proofs.Sharing.{at-log}

-- a new book is one that was opened
pub is-opened : {D : Type 0} (trace : D → DiskTrace) (book : Journaled D) (policy : OpView → ℕ) → IsNewBook trace book → IsOpened (opening_of book policy) book
is-opened trace book policy new = record { rollout = refl; history = refl; entries = new.list; count = new.count ∙ ap length new.list; live = new.live; legal = new.legal }

all-wait : (seats : ℕ) → unasked seats [] ≡ seats
all-wait zero = refl
all-wait (suc n) = omega (arith, all-wait n)

pub shares-at-first : {D : Type 0} (o : Opening) (seats : ℕ) (b : Journaled D) (most : ℕ) → IsOpened o b → seats ≤ most → IsShared o seats b [] None seats most []
shares-at-first o seats b most opened room = record {
  legal = and_from (is_legal o.rollout.problem o.rollout.plan o.found) true opened.legal refl;
  rollout = opened.rollout;
  history = opened.history ∙ sym (with_none o.found);
  entries = opened.entries ∙ sym (ap (λ (h : History). h.entries) (with_none o.found));
  found = opened.count;
  live = λ none. opened.live;
  notes = refl;
  halted = refl;
  spare = sym (all-wait seats);
  room = omega (arith, room);
}

pub first-shares : {D : Type 0} (o : Opening) (seats left : ℕ) (b : Journaled D) (items : List Note) (most : ℕ) → IsOpened o b → seats ≡ left → items ≡ [] → left ≤ most → IsShared o seats b items None left most (log_of b items)
first-shares o seats left b items most opened same empty room =
    let s : IsShared o seats b [] None left most [] = subst (λ (n : ℕ). IsShared o seats b [] None n most []) same (shares-at-first o seats b most opened (omega (arith, same, room))) in
    subst (λ (xs : List Note). IsShared o seats b xs None left most (log_of b xs)) (sym empty) (at-log o seats b [] None left most [] s)

-- what is known of the disk at first
pub first-images : {D : Type 0} (trace : D → DiskTrace) (o : Opening) (from count : ℕ) (b : Journaled D) (items : List Note)
    → IsOpenedOn trace o from count b → items ≡ [] → ((c : List ℕ) → (trace b.disk).left_since (trace b.disk).moment c → (trace b.disk).may_leave c)
    → HasImages trace o from count b.disk (log_of b items)
first-images trace o from count b items opened empty only =
    subst (λ (xs : List Note). HasImages trace o from count b.disk (log_of b xs)) (sym empty)
    (images-first trace o from count b.disk opened.moment_is opened.count_is opened.opened.legal
    (and_from (is_legal o.rollout.problem o.rollout.plan o.found) true opened.opened.legal refl) only opened.has)
