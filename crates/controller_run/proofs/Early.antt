-- Why a worker stopped all that has served nothing.
use Rattle.std.proofs.Common.{◌≡◌, ◌≢◌, ℕ, Bool, true, false, List, [], ◌∷◌, ◌++◌, Option, Some, None, refl, sym, ap, ◌∙◌, subst, append_assoc, inl, inr, arith, if◌then◌else◌}
use Rattle.std.specs.Option.{option_or}
use Rattle.std.proofs.lemmas.List.Elements.{All-nil}
use Rattle.lists.proofs.Conditions.{some_same_is}
use Rattle.rollout_rules.specs.declared.op.Entry.{Entry}
use Rattle.rollout_book.specs.declared.fault.BookFault.TheVariants as fault
use Rattle.turn_lock.specs.Histories.{Follows}
use Rattle.shared_book.specs.declared.note.Cause.{Cause}
use Rattle.shared_book.specs.declared.note.Cause.TheVariants as cause
use Rattle.shared_book.specs.declared.note.What.TheVariants as what
use Rattle.shared_book.specs.declared.note.Written.{Written}
use Rattle.shared_book.specs.declared.call_reply.Halt.{Halt}
use Rattle.shared_book.specs.Histories.{Opening, history_of}
use Rattle.shared_book.specs.Knows.{next_note}
use Rattle.shared_book.specs.Notes.{calls_by, first_stop, has_asked}
use Rattle.shared_book.specs.Replies.{batch_at}
use Rattle.shared_book.proofs.Stops.{first_stop-append, first_stop-stays}
use Rattle.shared_book.specs.Calls.{IsRoundCall, IsStopCall, seat_of}
use Rattle.shared_book.specs.Images.{HasDisk, IsDisk}
use Rattle.shared_book.specs.declared.reply.RoundReply.{RoundReply}
use Rattle.shared_book.specs.declared.reply.RoundReply.TheVariants as round
use Rattle.controller_run.specs.Promises.{StopsNothing}
use Rattle.controller_run.proofs.Quiet.{quiet-first, quiet-past}
use Rattle.controller_run.proofs.Reasoned.{round-alien}
use Rattle.controller_run.specs.Runs.{cause_behind}
use Rattle.controller_run.specs.Shifts.{IsEarlyCause, StopsEarly}

-- a note that the disk failed, anywhere
pub disk_inside : (front later : List Written) (w : Written) → IsDisk w.note.what → HasDisk (front ++ w ∷ later)
disk_inside [] later w is = inl is
disk_inside (v ∷ front) later w is = inr (disk_inside front later w is)

pub same_halt : (s : Option Halt) (a b : Halt) → s ≡ Some a → s ≡ Some b → a ≡ b
same_halt s a b is_a is_b = let both : Some a ≡ Some b = sym is_a ∙ is_b in cc both

no_cause : {A : Type 0} (why : Cause) → None ≡ Some why → A
no_cause why e = absurd (cc e)

module _ (o : Opening) (seat : ℕ) where
  -- a stop's history goes on from the one before it
  record Extends (seen after : List Written) : Type 0 where
    more : List Written
    is : after ≡ seen ++ more

  extended : (seen log after : List Written) (past : Follows seat_of (seat ∷ []) seen log) (note : Written) (asked : Bool) → after ≡ (if asked then log else log ++ note ∷ []) → Extends seen after
  extended seen log after past note true is = record { more = past.past; is = is ∙ past.is }
  extended seen log after past note false is = record { more = past.past ++ note ∷ []; is = is ∙ ap (λ (ws : List Written). ws ++ note ∷ []) past.is ∙ append_assoc seen past.past (note ∷ []) }

  stop_extends : (seen after : List Written) (why : Cause) (halt : Halt) → IsStopCall o (seat ∷ []) seat seen why halt after → Extends seen after
  stop_extends seen after why halt call = extended seen call.log after call.past (next_note seat call.log (what.Stop why) []) (has_asked seat call.log) call.noted

  still_first : (seen after : List Written) (why : Cause) (asked first : Halt) → IsStopCall o (seat ∷ []) seat seen why asked after → first_stop seen ≡ Some first → first_stop after ≡ Some first
  still_first seen after why asked first call is =
      let on = stop_extends seen after why asked call in
      ap first_stop on.is ∙ first_stop-stays seen on.more first is

  -- a stop by a seat that had stopped nothing
  own_stop : (s : Option Halt) (own halt : Halt) → option_or s (Some own) ≡ Some halt → ((first : Halt) → s ≡ Some first → first.seat ≢ seat) → halt.seat ≡ seat → halt.cause ≡ own.cause
  own_stop (Some first) own halt is others mine = let same = same_halt (Some first) first halt refl is in absurd (others first refl (ap (λ (h : Halt). h.seat) same ∙ mine))
  own_stop None own halt is others mine = ap (λ (h : Halt). h.cause) (same_halt (Some own) halt own is refl)

  own_cause : (log : List Written) (why : Cause) (halt : Halt) (asked : Bool) → StopsNothing seat log → first_stop (if asked then log else log ++ next_note seat log (what.Stop why) [] ∷ []) ≡ Some halt → halt.seat ≡ seat → halt.cause ≡ why
  own_cause log why halt true quiet first mine = absurd (quiet-first seat log halt quiet first mine)
  own_cause log why halt false quiet first mine =
      own_stop (first_stop log) (record { seat = seat; call = calls_by seat log; cause = why }) halt (sym (first_stop-append log (next_note seat log (what.Stop why) [] ∷ [])) ∙ first) (λ other is. quiet-first seat log other quiet is) mine

  -- the disk failed in the round
  by_disk : (seen turned after : List Written) (why : Cause) (asked : Halt) → IsRoundCall o (seat ∷ []) seat seen [] (round.Refused fault.Disk) turned → IsStopCall o (seat ∷ []) seat turned why asked after → StopsEarly seat after
  by_disk seen turned after why asked call stop halt first mine =
      let es : List Entry = batch_at o (history_of o call.log) [] in
      let note = next_note seat call.log what.Disk es in
      let own : Halt = record { seat = seat; call = calls_by seat call.log; cause = cause.Disk } in
      let at : first_stop turned ≡ Some own = ap first_stop call.noted ∙ first_stop-append call.log (note ∷ []) ∙ ap (λ (s : Option Halt). option_or s (Some own)) call.told.0 in
      let same : own ≡ halt = same_halt (first_stop after) own halt (still_first turned after why asked own stop at) first in
      let on = stop_extends turned after why asked stop in
      let is : after ≡ call.log ++ note ∷ on.more = on.is ∙ ap (λ (ws : List Written). ws ++ on.more) call.noted ∙ append_assoc call.log (note ∷ []) on.more in
      subst (λ (h : Halt). IsEarlyCause after h.cause) same (subst HasDisk (sym is) (disk_inside call.log on.more note tt))

  -- another had stopped all
  by_stop : (seen turned after : List Written) (why : Cause) (told asked : Halt) → StopsNothing seat seen → IsRoundCall o (seat ∷ []) seat seen [] (round.Stopped told) turned → IsStopCall o (seat ∷ []) seat turned why asked after → StopsEarly seat after
  by_stop seen turned after why told asked quiet call stop halt first mine =
      let at : first_stop turned ≡ Some told = ap first_stop call.noted ∙ first_stop-stays call.log _ told call.told in
      let same : told ≡ halt = same_halt (first_stop after) told halt (still_first turned after why asked told stop at) first in
      absurd (quiet-first seat call.log told (quiet-past seat [] seen call.log quiet call.past) call.told (ap (λ (h : Halt). h.seat) same ∙ mine))

  -- the seat stops all for lack of memory
  pub memory_stop : (seen after : List Written) (asked : Halt) → StopsNothing seat seen → IsStopCall o (seat ∷ []) seat seen cause.Memory asked after → StopsEarly seat after
  memory_stop seen after asked still stop halt first mine =
      let log_still = quiet-past seat [] seen stop.log still stop.past in
      let why : halt.cause ≡ cause.Memory = own_cause stop.log cause.Memory halt (has_asked seat stop.log) log_still (sym (ap first_stop stop.noted) ∙ first) mine in
      subst (λ (c : Cause). IsEarlyCause after c) (sym why) tt

  -- memory ran out
  by_memory : (seen turned after : List Written) (asked : Halt) → StopsNothing seat seen → IsRoundCall o (seat ∷ []) seat seen [] round.Memory turned → IsStopCall o (seat ∷ []) seat turned cause.Memory asked after → StopsEarly seat after
  by_memory seen turned after asked quiet call stop = memory_stop turned after asked (subst (StopsNothing seat) (sym call.noted) (quiet-past seat [] seen call.log quiet call.past)) stop

  early : (seen turned after : List Written) (reply : RoundReply) (why : Cause) (asked : Halt) → StopsNothing seat seen → cause_behind reply ≡ Some why
      → IsRoundCall o (seat ∷ []) seat seen [] reply turned → IsStopCall o (seat ∷ []) seat turned why asked after → StopsEarly seat after
  early seen turned after (round.Turned turn) why asked quiet is call stop = no_cause why is
  early seen turned after (round.Refused (fault.Alien item held begun)) why asked quiet is call stop =
      let told = round-alien o.rollout.problem (history_of o call.log) item held begun (first_stop call.log) [] (batch_at o (history_of o call.log) []) call.told.0 call.told.1 in
      absurd (omega (arith, told.among.1))
  early seen turned after (round.Refused fault.Disk) why asked quiet is call stop = by_disk seen turned after why asked call stop
  early seen turned after (round.Stopped told) why asked quiet is call stop = by_stop seen turned after why told asked quiet call stop
  early seen turned after round.Memory why asked quiet is call stop =
      by_memory seen turned after asked quiet call (subst (λ (c : Cause). IsStopCall o (seat ∷ []) seat turned c asked after) (sym (some_same_is cause.Memory why is)) stop)

  -- the same, said of a pass that is the first
  pub early_stop : (seats seats' : List ℕ) (mine mine' : ℕ) (seen turned after : List Written) (reply : RoundReply) (why : Cause) (asked : Halt) → seats ≡ seat ∷ [] → mine ≡ seat → seats' ≡ seat ∷ [] → mine' ≡ seat → seen ≡ [] → cause_behind reply ≡ Some why
      → IsRoundCall o seats mine seen [] reply turned → IsStopCall o seats' mine' turned why asked after → StopsEarly seat after
  early_stop seats seats' mine mine' seen turned after reply why asked same is same' is' none caused call stop =
      early seen turned after reply why asked (subst (StopsNothing seat) (sym none) (All-nil _)) caused
      (subst (λ (ns : List ℕ). IsRoundCall o ns seat seen [] reply turned) same (subst (λ (n : ℕ). IsRoundCall o seats n seen [] reply turned) is call))
      (subst (λ (ns : List ℕ). IsStopCall o ns seat turned why asked after) same' (subst (λ (n : ℕ). IsStopCall o seats' n turned why asked after) is' stop))
