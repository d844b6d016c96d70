-- What a round makes of a shared book.
use Rattle.std.proofs.Common.{◌≡◌, ℕ, ◌+◌, ◌≤◌, Bool, true, false, List, [], ◌∷◌, ◌++◌, length, Option, Some, None, option_map, refl, sym, ap, ap₂, ◌∙◌, subst, is_some, arith, append-nil}
use Rattle.std.specs.Option.{option_or}
use Rattle.rollout_rules.specs.Wan.{Rollout}
use Rattle.rollout_rules.specs.History.{History, with_entries}
use Rattle.rollout_rules.specs.Release.{batch}
use Rattle.rollout_rules.specs.declared.op.Op.{Op}
use Rattle.rollout_rules.specs.declared.op.OpView.{OpView}
use Rattle.rollout_rules.specs.declared.op.Entry.{Entry}
use Rattle.disk_model.specs.Traces.{DiskTrace}
use Rattle.wan_edge.specs.Frames.{Answer}
use Rattle.rollout_book.specs.declared.fault.BookFault.{BookFault}
use Rattle.rollout_book.specs.declared.fault.BookFault.TheVariants as fault
use Rattle.rollout_book.specs.Aliens as aliens
use Rattle.rollout_book.specs.Aliens.{told_by}
use Rattle.rollout_book.specs.JournaledRounds.{Journaled, batch_of, graph_of, turn_of, with_batch, with_lost}
use Rattle.shared_book.specs.declared.note.What.{What}
use Rattle.shared_book.specs.declared.note.What.TheVariants as what
use Rattle.shared_book.specs.declared.note.Note.{Note}
use Rattle.shared_book.specs.declared.note.Written.{Written}
use Rattle.shared_book.specs.declared.call_reply.Halt.{Halt}
use Rattle.shared_book.specs.Notes.{calls_by, halt_by, first_stop, is_stopped}
use Rattle.shared_book.specs.Histories.{Opening, segment_of, history_of}
use Rattle.shared_book.specs.Legal.{may_say}
use Rattle.shared_book.specs.Knows.{next_note}
use Rattle.shared_book.specs.Replies.{batch_at, first_alien, or_stopped, or_turned, round_says, turned}
use Rattle.shared_book.proofs.Batched.{batch-is}
use Rattle.shared_book.proofs.Saying.{alien-may, stopped-may, turned-may, disk-may}
use Rattle.shared_book.specs.declared.reply.RoundReply.{RoundReply}
use Rattle.shared_book.specs.declared.reply.RoundReply.TheVariants as round
use Rattle.shared_book.specs.Rounds.{IsRoundOf}
use Rattle.shared_book.specs.Sharing.{IsNoted, IsShared, log_of}
use Rattle.shared_book.specs.Told.{fault_notes, round_notes, with_noted, IsRoundAt}
use Rattle.shared_book.proofs.Counting.{alien-same, turned-is}
use Rattle.shared_book.proofs.Sharing.{GoesOnBy, still, first_stop-next, goes-on, log-is, at-log}
use Rattle.shared_book.proofs.Unstopped.{or-neither, unstopped}

-- What a round makes of a book, whatever its disk: nothing has changed, the batch is there, or its append failed.
abbrev IsRefused : {D : Type 0} → Journaled D → (OpView → ℕ) → List Answer → BookFault → Journaled D → Type 0
IsRefused b policy answers (fault.Alien item held begun) new = (aliens.first_alien (graph_of b) answers ≡ Some (fault.Alien item held begun)) × (new ≡ b)
IsRefused b policy answers fault.Disk new = (aliens.first_alien (graph_of b) answers ≡ None) × (new ≡ with_lost b (batch_of b policy answers) new.disk)

abbrev pub IsMade : {D : Type 0} → Journaled D → Option Halt → (OpView → ℕ) → List Answer → RoundReply → Journaled D → Type 0
IsMade b halted policy answers (round.Turned turn) new =
    (halted ≡ None) × (aliens.first_alien (graph_of b) answers ≡ None) × (turn ≡ turn_of (batch_of b policy answers)) × (new ≡ with_batch b (batch_of b policy answers) new.disk)
IsMade b halted policy answers (round.Refused why) new = (halted ≡ None) × IsRefused b policy answers why new
IsMade b halted policy answers (round.Stopped halt) new = (halted ≡ Some halt) × (new ≡ b)
IsMade b halted policy answers round.Memory new = ⊥

pub made-plain : {D : Type 0} (trace : D → DiskTrace) (b new : Journaled D) (halted : Option Halt) (policy : OpView → ℕ) (answers : List Answer) (reply : RoundReply)
    → IsRoundOf trace halted policy answers b reply new → IsMade b halted policy answers reply new
made-plain trace b new halted policy answers (round.Turned turn) made = (made.0, made.1.known, made.1.turn, made.1.written)
made-plain trace b new halted policy answers (round.Refused (fault.Alien item held begun)) made = (made.0, (made.1.alien, made.1.unchanged))
made-plain trace b new halted policy answers (round.Refused fault.Disk) made = (made.0, (made.1.alien, made.1.lost))
made-plain trace b new halted policy answers (round.Stopped first) made = made
made-plain trace b new halted policy answers round.Memory made = made

module _ {D : Type 0} (o : Opening) (seats : ℕ) (b : Journaled D) (ns : List Note) (halt : Option Halt) (left most : ℕ) (log : List Written) (s : IsShared o seats b ns halt left most log) (answers : List Answer) where
  -- what the book is before the first stop
  history-is : first_stop log ≡ None → b.history ≡ history_of o log
  history-is none = s.history ∙ unstopped o log s.legal none

  alien-at : first_stop log ≡ None → first_alien o.rollout.problem (history_of o log) (told_by answers) ≡ option_map fault_notes (aliens.first_alien (graph_of b) answers)
  alien-at none =
      ap₂ (λ (r : Rollout) (h : History). first_alien r.problem h (told_by answers)) (sym s.rollout) (sym (history-is none)) ∙ alien-same (graph_of b) answers

  pub batch-at : first_stop log ≡ None → batch_of b o.policy answers ≡ batch_at o (history_of o log) (told_by answers)
  batch-at none = ap₂ (λ (r : Rollout) (h : History). batch r.problem r.plan o.policy h (told_by answers)) s.rollout (history-is none)

  -- what a round says, where no stop stands
  says-alien : (why : What) → first_stop log ≡ None → first_alien o.rollout.problem (history_of o log) (told_by answers) ≡ Some why → round_says o log (told_by answers) ≡ why
  says-alien why none alien =
      ap₂ (λ st a. or_stopped st (or_turned a (batch_at o (history_of o log) (told_by answers)))) none alien

  says-turned : first_stop log ≡ None → first_alien o.rollout.problem (history_of o log) (told_by answers) ≡ None → round_says o log (told_by answers) ≡ turned (batch_at o (history_of o log) (told_by answers))
  says-turned none alien =
      ap₂ (λ st a. or_stopped st (or_turned a (batch_at o (history_of o log) (told_by answers)))) none alien

  -- what is told is what the history says
  pub round-told : (reply : RoundReply) (b' : Journaled D) → IsMade b halt o.policy answers reply b' → IsRoundAt o log (told_by answers) reply
  round-told (round.Turned turn) b' made =
      let none = sym s.halted ∙ made.0 in
      let es = batch_of b o.policy answers in (
        none,
        says-turned none (alien-at none ∙ ap (option_map fault_notes) made.1)
            ∙ ap turned (sym (batch-at none))
            ∙ sym (turned-is b.rollout.problem b.rollout.plan o.policy b.history (told_by answers))
            ∙ sym (ap (λ t. what.Turned t.dones t.begins) made.2),
      )
  round-told (round.Refused (fault.Alien item held begun)) b' made =
      let none = sym s.halted ∙ made.0 in (none, says-alien (what.Alien item held begun) none (alien-at none ∙ ap (option_map fault_notes) made.1.0))
  round-told (round.Refused fault.Disk) b' made =
      let none = sym s.halted ∙ made.0 in (none, says-turned none (alien-at none ∙ ap (option_map fault_notes) made.1.0))
  round-told (round.Stopped first) b' made = sym s.halted ∙ made.0
  round-told round.Memory b' made = tt

  module _ (b' : Journaled D) (ns' : List Note) (halt' : Option Halt) (most' seat : ℕ) (room : length ns + 1 + left ≤ most') where
    -- a book that has a stop after it need not live
    lives-not : (said : What) (es : List Entry) (first : Halt) → option_or (first_stop log) (halt_by (next_note seat log said es).note) ≡ Some first
        → first_stop (log ++ next_note seat log said es ∷ []) ≡ None → b'.live ≡ true
    lives-not said es first some none = absurd (cc (sym some ∙ sym (first_stop-next log (next_note seat log said es)) ∙ none))

    pub round-shared : (reply : RoundReply) → IsMade b halt o.policy answers reply b' → IsNoted seat (calls_by seat log) (round_notes reply) ns halt ns' halt'
        → IsShared o seats b' ns' halt' left most' (with_noted seat log (round_notes reply) (batch_at o (history_of o log) (told_by answers)))
    round-shared (round.Turned turn) made noted =
        let none = sym s.halted ∙ made.0 in
        let es = batch_at o (history_of o log) (told_by answers) in
        let said = what.Turned turn.dones turn.begins in
        let is : b' ≡ with_batch b es b'.disk = made.3 ∙ ap (λ xs. with_batch b xs b'.disk) (batch-at none) in
        let told = round-told (round.Turned turn) b' made in
        let turned-said : turned es ≡ said = sym (says-turned none (alien-at none ∙ ap (option_map fault_notes) made.1)) ∙ told.1 in
        let may = turned-may o log seat es none (batch-is o.rollout.problem o.rollout.plan o.policy (history_of o log) (told_by answers)) in
        goes-on o seats b b' ns ns' halt halt' left most most' log seat said es s (subst (λ w. may_say o log seat es w ≡ true) turned-said may)
        (record {
          rollout = ap (λ (x : Journaled D). x.rollout) is;
          found = ap (λ (x : Journaled D). x.found) is;
          history = ap (λ (x : Journaled D). x.history) is;
          entries = ap (λ (x : Journaled D). x.entries) is;
        })
        (λ later. ap (λ (x : Journaled D). x.live) is ∙ s.live none) noted.0 noted.1 refl room
    round-shared (round.Refused (fault.Alien item held begun)) made noted =
        let none = sym s.halted ∙ made.0 in
        let said = what.Alien item held begun in
        goes-on o seats b b' ns ns' halt halt' left most most' log seat said [] s
        (alien-may o log seat (told_by answers) said none (alien-at none ∙ ap (option_map fault_notes) made.1.0)) (still b b' said made.1.1 refl)
        (lives-not said [] _ (ap (λ st. option_or st (halt_by (next_note seat log said []).note)) none)) noted.0 noted.1 refl room
    round-shared (round.Refused fault.Disk) made noted =
        let none = sym s.halted ∙ made.0 in
        let es = batch_at o (history_of o log) (told_by answers) in
        let is : b' ≡ with_lost b es b'.disk = made.1.1 ∙ ap (λ xs. with_lost b xs b'.disk) (batch-at none) in
        goes-on o seats b b' ns ns' halt halt' left most most' log seat what.Disk es s
        (disk-may o log seat es none (batch-is o.rollout.problem o.rollout.plan o.policy (history_of o log) (told_by answers)))
        (record {
          rollout = ap (λ (x : Journaled D). x.rollout) is;
          found = ap (λ (x : Journaled D). x.found) is;
          history = ap (λ (x : Journaled D). x.history) is;
          entries = ap (λ (x : Journaled D). x.entries) is ∙ sym (append-nil b.entries);
        })
        (lives-not what.Disk es _ (ap (λ st. option_or st (halt_by (next_note seat log what.Disk es).note)) none)) noted.0 noted.1 refl room
    round-shared (round.Stopped first) made noted =
        let is = sym s.halted ∙ made.0 in
        goes-on o seats b b' ns ns' halt halt' left most most' log seat what.Stopped [] s
        (stopped-may o log seat (ap is_some is)) (still b b' what.Stopped made.1 refl)
        (lives-not what.Stopped [] first (ap (λ st. option_or st (halt_by (next_note seat log what.Stopped []).note)) is)) noted.0 noted.1 refl room
    round-shared round.Memory made noted = absurd made

-- What a round leaves: the type's own facts, the history with the note, and what was told.
pub record RoundLeaves {D : Type 0} (o : Opening) (seats : ℕ) (book : Journaled D) (list : List Note) (first : Option Halt) (waiting capacity : ℕ) (log : List Written) (seat : ℕ) (answers : List Answer) (reply : RoundReply) : Type 0 where
  pub shared : IsShared o seats book list first waiting capacity (log_of book list)
  pub noted : log_of book list ≡ with_noted seat log (round_notes reply) (batch_at o (history_of o log) (told_by answers))
  pub told : IsRoundAt o log (told_by answers) reply

pub round-leaves : {D : Type 0} (o : Opening) (seats : ℕ) (b b' : Journaled D) (ns mid ns' : List Note) (halt halt' : Option Halt) (left most most' : ℕ) (log : List Written) (answers : List Answer) (policy : OpView → ℕ) (seat call : ℕ)
    (reply : RoundReply) (said : Option What) → IsShared o seats b ns halt left most log → o.policy ≡ policy → call ≡ calls_by seat log → IsMade b halt policy answers reply b' → said ≡ round_notes reply
    → mid ≡ ns → IsNoted seat call said mid halt ns' halt' → length ns + 1 + left ≤ most' → RoundLeaves o seats b' ns' halt' left most' log seat answers reply
round-leaves o seats b b' ns mid ns' halt halt' left most most' log answers policy seat call reply said s same numbered made is mid-is noted room =
    let made' : IsMade b halt o.policy answers reply b' = subst (λ (f : OpView → ℕ). IsMade b halt f answers reply b') (sym same) made in
    let by-call : IsNoted seat (calls_by seat log) said mid halt ns' halt' = subst (λ (k : ℕ). IsNoted seat k said mid halt ns' halt') numbered noted in
    let by-reply : IsNoted seat (calls_by seat log) (round_notes reply) mid halt ns' halt' = subst (λ (w : Option What). IsNoted seat (calls_by seat log) w mid halt ns' halt') is by-call in
    let noted' : IsNoted seat (calls_by seat log) (round_notes reply) ns halt ns' halt' = subst (λ (xs : List Note). IsNoted seat (calls_by seat log) (round_notes reply) xs halt ns' halt') mid-is by-reply in
    let shared = round-shared o seats b ns halt left most log s answers b' ns' halt' most' seat room reply made' noted' in
    record {
      shared = at-log o seats b' ns' halt' left most' _ shared;
      noted = log-is o seats b' ns' halt' left most' _ shared;
      told = round-told o seats b ns halt left most log s answers reply b' made';
    }
