-- What listing makes of a shared book.
use Rattle.std.proofs.Common.{◌≡◌, ℕ, ◌+◌, ◌≤◌, true, List, [], ◌∷◌, ◌++◌, length, Option, Some, None, is_some, if◌then◌else◌, refl, sym, ap, ap₂, ◌∙◌, subst, append-nil, arith}
use Rattle.std.proofs.lemmas.List.Elements.{All-append, Contains-get_or}
use Rattle.std.specs.List.{All}
use Rattle.std.specs.Option.{option_or}
use Rattle.disk_model.specs.Traces.{DiskTrace}
use Rattle.wan_edge.specs.Frames.{Command}
use Rattle.rollout_rules.specs.Wan.{Rollout}
use Rattle.rollout_rules.specs.History.{History}
use Rattle.rollout_rules.specs.World.{in_flight}
use Rattle.rollout_book.specs.JournaledRounds.{Journaled}
use Rattle.rollout_book.specs.Commands.{asked, commands_of}
use Rattle.shared_book.specs.declared.note.What.{What}
use Rattle.shared_book.specs.declared.note.What.TheVariants as what
use Rattle.shared_book.specs.declared.note.Note.{Note}
use Rattle.shared_book.specs.declared.note.Written.{Written}
use Rattle.shared_book.specs.declared.call_reply.Halt.{Halt}
use Rattle.shared_book.specs.declared.call_reply.ListReply.{ListReply}
use Rattle.shared_book.specs.declared.call_reply.ListReply.TheVariants as list
use Rattle.shared_book.specs.Notes.{calls_by, halt_by, first_stop}
use Rattle.shared_book.specs.Histories.{Opening}
use Rattle.shared_book.specs.Knows.{next_note}
use Rattle.shared_book.specs.Replies.{list_reply}
use Rattle.shared_book.proofs.Saying.{listing-may, stopped-may}
use Rattle.shared_book.specs.Legal.{is_legal_shared}
use Rattle.shared_book.specs.Images.{HasImages}
use Rattle.shared_book.specs.Lasting.{IsLasting}
use Rattle.shared_book.specs.Sharing.{IsNoted, IsShared, log_of}
use Rattle.shared_book.specs.Told.{commands_at, if_listed, list_notes, with_noted, OnListTold}
use Rattle.shared_book.proofs.Unstopped.{unstopped}
use Rattle.shared_book.proofs.Sharing.{still, unnoted, goes-on, first_stop-next, log-is, at-log}

unhalted : (halt : Option Halt) → list.Listed ≡ list_reply halt → halt ≡ None
unhalted (Some h) e = absurd (cc e)
unhalted None e = refl

pub halted-by : (halt : Option Halt) (first : Halt) → list.Stopped first ≡ list_reply halt → halt ≡ Some first
halted-by (Some h) first e = cc e
halted-by None first e = absurd (cc e)

pub none-of : (a : Option Halt) → option_or a None ≡ None → a ≡ None
none-of (Some h) e = e
none-of None e = e

module _ {D : Type 0} (o : Opening) (seats : ℕ) (b : Journaled D) (ns ns' : List Note) (halt halt' : Option Halt) (left most most' : ℕ) (log : List Written) (seat : ℕ)
    (s : IsShared o seats b ns halt left most log) (room : length ns + 1 + left ≤ most') where
  pub list-shared : (reply : ListReply) → OnListTold reply (reply ≡ list_reply halt) → IsNoted seat (calls_by seat log) (list_notes reply) ns halt ns' halt'
      → IsShared o seats b ns' halt' left most' (with_noted seat log (list_notes reply) [])
  list-shared list.Listed told noted =
      let none = sym s.halted ∙ unhalted halt told in
      goes-on o seats b b ns ns' halt halt' left most most' log seat what.Listed [] s (listing-may o log seat None none) (still b b what.Listed refl refl)
      (λ later. s.live none) noted.0 noted.1 refl room
  list-shared (list.Stopped first) told noted =
      let is = sym s.halted ∙ halted-by halt first told in
      goes-on o seats b b ns ns' halt halt' left most most' log seat what.Stopped [] s (stopped-may o log seat (ap is_some is)) (still b b what.Stopped refl refl)
      (λ later. s.live (none-of (first_stop log) (sym (first_stop-next log (next_note seat log what.Stopped [])) ∙ later))) noted.0 noted.1 refl room
  list-shared list.Memory told noted = unnoted o seats b ns ns' halt halt' left most most' log s noted.0 noted.1 (omega (arith, room))

-- what is added is what the history says
pub listed-at : {D : Type 0} (o : Opening) (seats : ℕ) (b : Journaled D) (ns : List Note) (halt : Option Halt) (left most : ℕ) (log : List Written) → IsShared o seats b ns halt left most log → (switches : List ℕ) (reply : ListReply)
    → OnListTold reply (reply ≡ list_reply halt) → if_listed reply (commands_of b switches) ≡ if_listed reply (commands_at o log switches)
listed-at o seats b ns halt left most log s switches list.Listed told =
    let none = sym s.halted ∙ unhalted halt told in
    ap (λ live. if live then asked b.rollout switches (in_flight b.rollout.problem b.history) else []) (s.live none)
    ∙ ap₂ (λ (r : Rollout) (h : History). asked r switches (in_flight r.problem h)) s.rollout (s.history ∙ unstopped o log s.legal none)
listed-at o seats b ns halt left most log s switches (list.Stopped first) told = refl
listed-at o seats b ns halt left most log s switches list.Memory told = refl

-- What listing leaves: the type's own facts, and the history with the note.
pub record ListLeaves {D : Type 0} (o : Opening) (seats : ℕ) (book : Journaled D) (list : List Note) (first : Option Halt) (waiting capacity : ℕ) (log : List Written) (seat : ℕ) (reply : ListReply) : Type 0 where
  pub shared : IsShared o seats book list first waiting capacity (log_of book list)
  pub noted : log_of book list ≡ with_noted seat log (list_notes reply) []

pub list-leaves : {D : Type 0} (o : Opening) (seats : ℕ) (b : Journaled D) (ns mid ns' : List Note) (halt halt' : Option Halt) (left most most' : ℕ) (log : List Written) (seat call : ℕ) (reply : ListReply) (said : Option What)
    → IsShared o seats b ns halt left most log → call ≡ calls_by seat log → OnListTold reply (reply ≡ list_reply halt) → said ≡ list_notes reply → mid ≡ ns → IsNoted seat call said mid halt ns' halt'
    → length ns + 1 + left ≤ most' → ListLeaves o seats b ns' halt' left most' log seat reply
list-leaves o seats b ns mid ns' halt halt' left most most' log seat call reply said s numbered told is mid-is noted room =
    let by-call : IsNoted seat (calls_by seat log) said mid halt ns' halt' = subst (λ (k : ℕ). IsNoted seat k said mid halt ns' halt') numbered noted in
    let by-reply : IsNoted seat (calls_by seat log) (list_notes reply) mid halt ns' halt' = subst (λ (w : Option What). IsNoted seat (calls_by seat log) w mid halt ns' halt') is by-call in
    let noted' : IsNoted seat (calls_by seat log) (list_notes reply) ns halt ns' halt' = subst (λ (xs : List Note). IsNoted seat (calls_by seat log) (list_notes reply) xs halt ns' halt') mid-is by-reply in
    let shared = list-shared o seats b ns ns' halt halt' left most most' log seat s room reply told noted' in
    record { shared = at-log o seats b ns' halt' left most' _ shared; noted = log-is o seats b ns' halt' left most' _ shared }

-- What is listed lasts, where the disk has all that the history begins.
pub list-lasts : {D : Type 0} (trace : D → DiskTrace) (o : Opening) (from count : ℕ) (disk : D) (log : List Written) (switches : List ℕ) (earlier now : List Command) (reply : ListReply) → is_legal_shared o log ≡ true
    → HasImages trace o from count disk log → now ≡ earlier ++ if_listed reply (commands_at o log switches) → All (IsLasting trace o from count) earlier → All (IsLasting trace o from count) now
list-lasts trace o from count disk log switches earlier now list.Listed legal images is before =
    subst (All (IsLasting trace o from count)) (sym is)
    (All-append (IsLasting trace o from count) earlier (commands_at o log switches) before
    (λ k d inside. record { disk = disk; log = log; legal = legal; images = images; switches = switches; among = Contains-get_or (commands_at o log switches) k d inside }))
list-lasts trace o from count disk log switches earlier now (list.Stopped halt) legal images is before = subst (All (IsLasting trace o from count)) (sym (is ∙ append-nil earlier)) before
list-lasts trace o from count disk log switches earlier now list.Memory legal images is before = subst (All (IsLasting trace o from count)) (sym (is ∙ append-nil earlier)) before
