-- What a shared history says is done was answered: by answers that were heard.
use Rattle.std.proofs.Common.{◌≡◌, ◌⊎◌, ℕ, ◌+◌, ◌≤◌, Bool, true, false, ◌&&◌, ◌||◌, ◌==◌, nat_le, List, [], ◌∷◌, ◌++◌, length, map, Option, Some, None, refl, sym, ⊎_elim, subst, arith, eqb-true, leb-true}
use Rattle.std.proofs.lemmas.Bool.{and_parts, false≢true, or_cases}
use Rattle.std.proofs.lemmas.List.Elements.{All-append, All-contains, All-cons, All-head, All-nil, All-tail, Contains-append_cases}
use Rattle.std.specs.List.{All, Contains, list_any}
use Rattle.rollout_rules.specs.Wan.{Plan, Problem}
use Rattle.rollout_rules.specs.History.{History, with_entries}
use Rattle.rollout_rules.specs.Release.{batch, dones, release}
use Rattle.rollout_rules.specs.declared.op.Op.{Op}
use Rattle.rollout_rules.specs.declared.op.OpView.{OpView}
use Rattle.rollout_rules.specs.declared.op.Entry.{Entry}
use Rattle.rollout_rules.specs.declared.op.Entry.TheVariants.{Done}
use Rattle.rollout_laws.specs.Batches.{BeginsNext, EndsAnswered, covers}
use Rattle.rollout_laws.proofs.Rounds.{dones_are_answered, release_begins_next}
use Rattle.disk_model.specs.Traces.{DiskTrace}
use Rattle.wan_edge.specs.Frames.{Answer}
use Rattle.rollout_book.specs.Aliens.{op_of, told_by}
use Rattle.rollout_book.specs.JournaledRounds.{Journaled}
use Rattle.shared_book.specs.declared.note.Note.{Note}
use Rattle.shared_book.specs.declared.note.What.{What}
use Rattle.shared_book.specs.declared.note.What.TheVariants as what
use Rattle.shared_book.specs.declared.note.Written.{Written}
use Rattle.shared_book.specs.declared.call_reply.Halt.{Halt}
use Rattle.shared_book.specs.Histories.{Opening, history_of}
use Rattle.shared_book.specs.Knows.{next_note}
use Rattle.shared_book.specs.Replies.{batch_at}
use Rattle.shared_book.specs.Images.{HasImages, StaysOpened}
use Rattle.shared_book.specs.Lasting.{AllHeard, AreHeard, HasAnswer}
use Rattle.shared_book.specs.Sharing.{IsShared, Sharing, log_of}
use Rattle.shared_book.specs.Told.{brought, with_noted}
use Rattle.shared_book.proofs.Sharing.{unnoted}

nothing-inside : {A : Type 0} (x : A) → Contains [] x → ⊥
nothing-inside x at = absurd (omega (arith, at.1))

module _ (heard : Answer → Type 0) where
  -- no entry, no operation
  pub none-heard : AreHeard heard []
  none-heard op at = absurd (nothing-inside (Done op) at)

  -- where one of the answers covers an operation
  any-heard : (op : Op) (answers : List Answer) → list_any (covers op) (told_by answers) ≡ true → All heard answers → HasAnswer heard op
  any-heard op [] some each = absurd (false≢true some)
  any-heard op (a ∷ later) some each =
      ⊎_elim
      (λ (first : covers op (op_of a) ≡ true).
      let parts = and_parts (a.item == op.item) (nat_le op.number a.held) first in
      record { answer = a; item = eqb-true a.item op.item parts.0; covers = leb-true op.number a.held parts.1; was_heard = All-head heard a later each })
      (λ (others : list_any (covers op) (told_by later) ≡ true). any-heard op later others (All-tail heard a later each))
      (or_cases (covers op (op_of a)) (list_any (covers op) (told_by later)) some)

  module _ (p : Problem) (plan : Plan) (policy : OpView → ℕ) (h : History) (answers : List Answer) (each : All heard answers) where
    of-done : (op : Op) → Contains (dones p h (told_by answers)) (Done op) → HasAnswer heard op
    of-done op at =
        let ended = All-contains (EndsAnswered h (told_by answers)) (dones p h (told_by answers)) (Done op) (dones_are_answered p h (told_by answers)) at in
        any-heard op answers ended.2 each

    never-released : (op : Op) → Contains (release p plan policy (with_entries h (dones p h (told_by answers)))) (Done op) → ⊥
    never-released op at =
        let after = with_entries h (dones p h (told_by answers)) in
        All-contains (BeginsNext after) (release p plan policy after) (Done op) (release_begins_next p plan policy after) at

    batch-heard : AreHeard heard (batch p plan policy h (told_by answers))
    batch-heard op at =
        ⊎_elim (of-done op) (λ (late : Contains (release p plan policy (with_entries h (dones p h (told_by answers)))) (Done op)). absurd (never-released op late))
        (Contains-append_cases (dones p h (told_by answers)) (release p plan policy (with_entries h (dones p h (told_by answers)))) (Done op) at)

  -- the batch of a round to which answers were handed that were heard
  pub round-heard : (o : Opening) (h : History) (answers : List Answer) → All heard answers → AreHeard heard (batch_at o h (told_by answers))
  round-heard o h answers each = batch-heard o.rollout.problem o.rollout.plan o.policy h answers each

  brought-heard : (said : What) (es : List Entry) → AreHeard heard es → AreHeard heard (brought said es)
  brought-heard (what.Turned dones begins) es each = each
  brought-heard (what.Alien item held begun) es each = none-heard
  brought-heard what.Disk es each = each
  brought-heard what.Listed es each = none-heard
  brought-heard what.Work es each = none-heard
  brought-heard what.Finished es each = none-heard
  brought-heard what.Held es each = none-heard
  brought-heard what.Stopped es each = none-heard
  brought-heard (what.Stop why) es each = none-heard

  -- a note more, whose entries were answered
  pub noted-heard : (seat : ℕ) (log after : List Written) (said : Option What) (es : List Entry) → AllHeard heard log → AreHeard heard es → after ≡ with_noted seat log said es → AllHeard heard after
  noted-heard seat log after None es each newly is = subst (AllHeard heard) (sym is) each
  noted-heard seat log after (Some said) es each newly is =
      subst (AllHeard heard) (sym is)
      (All-append (λ (w : Written). AreHeard heard w.entries) log (next_note seat log said (brought said es) ∷ []) each
      (All-cons (λ (w : Written). AreHeard heard w.entries) (next_note seat log said (brought said es)) [] (brought-heard said es newly) (All-nil (λ (w : Written). AreHeard heard w.entries))))

  -- what is seen of the book is what it keeps
  pub heard-at : {D : Type 0} (seen now : Sharing D) → seen ≡ now → AllHeard heard seen.log → AllHeard heard now.log
  heard-at seen now same each = subst (λ (v : Sharing _). AllHeard heard v.log) same each

  -- before the first note
  pub first-heard : {D : Type 0} (b : Journaled D) (notes : List Note) → notes ≡ [] → AllHeard heard (log_of b notes)
  first-heard b notes none = subst (λ (ns : List Note). AllHeard heard (log_of b ns)) (sym none) (All-nil (λ (w : Written). AreHeard heard w.entries))

-- Where there is room for more notes all that is kept stays as it was.
pub grown : {D : Type 0} (trace : D → DiskTrace) (o : Opening) (seats from count : ℕ) (heard : Answer → Type 0) (stood : DiskTrace) (b : Journaled D) (ns ns' : List Note) (halt : Option Halt) (left most most' : ℕ)
    → IsShared o seats b ns halt left most (log_of b ns) × HasImages trace o from count b.disk (log_of b ns) × AllHeard heard (log_of b ns) × StaysOpened trace o stood b.disk → ns' ≡ ns → length ns + left ≤ most'
    → IsShared o seats b ns' halt left most' (log_of b ns') × HasImages trace o from count b.disk (log_of b ns') × AllHeard heard (log_of b ns') × StaysOpened trace o stood b.disk
grown trace o seats from count heard stood b ns ns' halt left most most' kept same room =
    subst (λ (xs : List Note). IsShared o seats b xs halt left most' (log_of b xs) × HasImages trace o from count b.disk (log_of b xs) × AllHeard heard (log_of b xs) × StaysOpened trace o stood b.disk) (sym same)
    (unnoted o seats b ns ns halt halt left most most' (log_of b ns) kept.0 refl refl room, kept.1, kept.2, kept.3)
