-- Reads of commands that were kept, one after the other, and guests that were served turn by turn by an agent with a file.
use Rattle.std.proofs.Common.{◌≡◌, ◌≢◌, ◌⊎◌, ◌∙◌, inl, inr, ⊎_elim, ℕ, ◌≤◌, ◌<◌, List, [], ◌∷◌, ◌++◌, length, take, Option, Some, None, IfErr, IfOk, IfSome, IsErr, Result, Ok, Err, OnErr, OnOk, unwrap_or, refl, sym, ap, ap₂, subst, arith, length-append}
use Rattle.std.specs.List.{All, flat_map}
use Rattle.std.proofs.lemmas.List.Elements.{All-append, All-nil}
use Rattle.wan_edge.specs.Frames.{CommandFrame, command_bytes}
use Rattle.wan_edge.specs.Streams.{Appends, AppendsPart, KeepsTelling, Reads, Rose, SinkTrace, SourceTrace}
use Rattle.wan_edge.specs.Switches.{Holdings}
use Rattle.wan_edge.proofs.Sizes.{command-some}
use Rattle.wan_edge.proofs.Faults.{rose_until}
use Rattle.fenced_agent.specs.Agents.{FencedHoldings, FencedItems, after_all_termed, fenced_holding}
use Rattle.fenced_agent.specs.Frames.{IsTermedCommand, TermedCommand, fence_bytes}
use Rattle.disk_model.specs.Moments.{LeavesOnly}
use Rattle.disk_model.specs.Traces.{DiskTrace}
use Rattle.disk_model.proofs.Running.{LeavesOnly-chain, LeavesOnly-weaker}
use Rattle.agent_talks.specs.Serving.{CarriesOut, Ends, HearsBytes, HearsGuest, answered}
use Rattle.switch_agent.specs.ReadStates.{ReadSoFar}
use Rattle.agent_talks.specs.declared.heard.Heard.{Heard}
use Rattle.switch_agent.specs.declared.serve_fault.ServeFault.{ServeFault}
use Rattle.switch_agent.specs.declared.serve_fault.ServeFault.TheVariants.{Frame, Long, Memory, Read, Write}
use Rattle.switch_agent.specs.declared.serve_fault.Served.{Served}
use Rattle.agent_talks.proofs.Pieces.{guest_heard}
use Rattle.agent_talks.proofs.Chains.{after_all_termed-append}
use Rattle.agent_state.specs.Stored.{AreBytes, IsBeforeOrAfter, IsKept, IsReadAs, with_all, with_batch}
use Rattle.agent_state.specs.declared.place.Place.{Place}
use Rattle.agent_state.proofs.KeptFiles.{kept_reads}
use Rattle.disk_model.proofs.Passages.{chained_run, still_run, weaker_run}
use Rattle.agent_state.proofs.Quiet.{causes_later}
use Rattle.agent_state.proofs.Refusals.{at_disk_later, causes_at_disk}
use Rattle.agent_service.specs.Keeping.{HasCome, IsOnDisk, StoresAll}
use Rattle.agent_service.specs.KeptServices.{EndsService, HasComeAlways, IsHeldOnDisk, IsKeptBehind, KeepsFrom, KeepsSeated, KeepsTurn, MayBeLeft, StopsService, at_place}
use Rattle.agent_service.specs.Services.{Guests, MakesRoom, SeatsNext, SitsDown, Table, Tells, TurnByTurn, Turns, after_leaving, counted, first_table}
use Rattle.agent_state.specs.Opened.{ReadsAlike}
use Rattle.agent_service.specs.declared.keep_fault.KeepFault.{KeepFault}
use Rattle.agent_service.specs.declared.keep_fault.KeepFault.TheVariants.{Fleet, NoRoom, State}
use Rattle.agent_service.specs.declared.service.Service.{Service}
use Rattle.agent_service.proofs.Rows.{TurnsSoFar, none_came}

-- ---- batches

none_by : (commands : List CommandFrame) (a b : Holdings) (bytes : List ℕ) → AreBytes commands bytes → length bytes ≡ 0 → b ≡ with_all a commands → b ≡ a
none_by [] a b bytes are none leads = leads
none_by (c ∷ cs) a b bytes are none leads = absurd (omega (arith, none, ap length are.is, length-append (command_bytes c) (flat_map command_bytes cs), command-some c))

abbrev under : ℕ → Holdings → FencedHoldings
under floor held = record { floor = floor; held = held }

none_in : (floor : Option ℕ) (commands : List CommandFrame) (a : FencedHoldings) (bytes behind : List ℕ) → AreBytes commands behind → bytes ≡ fence_bytes floor ++ behind → length bytes ≡ 0 → with_batch a (record { floor = floor; commands = commands }) ≡ a
none_in None commands a bytes behind are parts none = ap (under a.floor) (none_by commands a.held (with_all a.held commands) behind are (sym (ap length parts) ∙ none) refl)
none_in (Some floor) commands a bytes behind are parts none = absurd (omega (arith, ap length parts, none))

-- an empty batch changes nothing
pub none_stored : (a b : FencedHoldings) (batch : List ℕ) → StoresAll a b batch → length batch ≡ 0 → b ≡ a
none_stored a b batch stores none = stores.leads ∙ none_in stores.stored.floor stores.stored.commands a batch stores.is.behind stores.is.are stores.is.parts none

-- ---- what a crash leaves

pub come_now : (a : FencedHoldings) (image : List ℕ) → IsReadAs image a → HasCome a image
come_now a image read = record { commands = []; fit = All-nil IsTermedCommand; read = read }

pub come_more : (a b : FencedHoldings) (commands : List TermedCommand) (image : List ℕ) → All IsTermedCommand commands → b ≡ after_all_termed a commands → HasCome b image → HasCome a image
come_more a b commands image fit reached come = record {
  commands = commands ++ come.commands;
  fit = All-append IsTermedCommand commands come.commands fit come.fit;
  read = subst (IsReadAs image) (ap (λ (h : FencedHoldings). after_all_termed h come.commands) reached ∙ sym (after_all_termed-append a commands come.commands)) come.read;
}

pub come_either : (a b : FencedHoldings) (commands : List TermedCommand) (image : List ℕ) → All IsTermedCommand commands → b ≡ after_all_termed a commands → IsBeforeOrAfter a b image → HasCome a image
come_either a b commands image fit reached (inl was) = come_now a image was
come_either a b commands image fit reached (inr is) = come_more a b commands image fit reached (come_now b image is)

module _ {D : Type 0} (trace : D → DiskTrace) where
  -- nothing was written
  pub come_still : (disk : D) (place : Place) (held : FencedHoldings) → ((c : List ℕ) → (trace disk).left_since (trace disk).moment c → (trace disk).may_leave c) → IsOnDisk (trace disk) place held → HasComeAlways trace disk disk held
  come_still disk place held now kept = still_run trace (IsKept place held) (λ image. HasCome held) (trace disk).bytes disk now kept (λ image is. come_now held image (kept_reads place held image is))

  -- a batch, done or not
  pub come_kept : (old new : D) (a b : FencedHoldings) (commands : List TermedCommand) → All IsTermedCommand commands → b ≡ after_all_termed a commands
      → IfSome (trace old).bytes (λ _. LeavesOnly trace old new (IsBeforeOrAfter a b)) → HasComeAlways trace old new a
  come_kept old new a b commands fit reached run =
      weaker_run trace (λ image. IsBeforeOrAfter a b) (λ image. HasCome a) (trace old).bytes old new (λ image c either. come_either a b commands c fit reached either) run

  -- one run after another
  pub come_then : (old mid new : D) (a b : FencedHoldings) (commands : List TermedCommand) → All IsTermedCommand commands → b ≡ after_all_termed a commands → KeepsTelling (trace old).bytes (trace mid).bytes
      → IfSome (trace mid).bytes (trace mid).may_leave → ((t : ℕ) (c : List ℕ) → t ≤ (trace mid).moment → (trace mid).may_leave c → (trace mid).left_since t c)
      → HasComeAlways trace old mid a → HasComeAlways trace mid new b → HasComeAlways trace old new a
  come_then old mid new a b commands fit reached told shows counts first second =
      chained_run trace (λ image. HasCome a) (λ image. HasCome b) (λ image. HasCome a) (trace old).bytes (trace mid).bytes old mid new told (λ image c come. come) (λ image m c was come. come_more a b commands c fit reached come)
      shows counts first second

-- ---- answers

bytes_of : {a b : List ℕ} → Some a ≡ Some b → a ≡ b
bytes_of {a} {b} is = ap (λ (told : Option (List ℕ)). unwrap_or told a) is

-- all that was gathered is the answers to what was carried out
gathered_all : (fault : Option ServeFault) (P : List ℕ → Type 0) (items : FencedItems) (rest none answers xs : List ℕ) → none ≡ [] → fault ≢ Some Write → Ends fault P items rest (Some none) xs (Some answers) → answers ≡ xs
gathered_all None P items rest none answers xs empty unwritten ends = bytes_of ends.1 ∙ ap (λ (l : List ℕ). l ++ xs) empty
gathered_all (Some (Frame fault)) P items rest none answers xs empty unwritten ends = bytes_of ends.1 ∙ ap (λ (l : List ℕ). l ++ xs) empty
gathered_all (Some Read) P items rest none answers xs empty unwritten ends = bytes_of ends.1 ∙ ap (λ (l : List ℕ). l ++ xs) empty
gathered_all (Some Write) P items rest none answers xs empty unwritten ends = absurd (unwritten refl)
gathered_all (Some Long) P items rest none answers xs empty unwritten ends = bytes_of ends.1 ∙ ap (λ (l : List ℕ). l ++ xs) empty
gathered_all (Some Memory) P items rest none answers xs empty unwritten ends = bytes_of ends.1 ∙ ap (λ (l : List ℕ). l ++ xs) empty

ends_out : (fault : Option ServeFault) (P : List ℕ → Type 0) (items : FencedItems) (rest none answers xs : List ℕ) (w w' : Option (List ℕ)) → none ≡ [] → fault ≢ Some Write → Ends fault P items rest (Some none) xs (Some answers)
    → Appends w answers w' → Ends fault P items rest w xs w'
ends_out None P items rest none answers xs w w' empty unwritten ends out = (ends.0, subst (λ (l : List ℕ). Appends w l w') (gathered_all None P items rest none answers xs empty unwritten ends) out)
ends_out (Some (Frame fault)) P items rest none answers xs w w' empty unwritten ends out = (ends.0, subst (λ (l : List ℕ). Appends w l w') (gathered_all (Some (Frame fault)) P items rest none answers xs empty unwritten ends) out)
ends_out (Some Read) P items rest none answers xs w w' empty unwritten ends out = (ends.0, subst (λ (l : List ℕ). Appends w l w') (gathered_all (Some Read) P items rest none answers xs empty unwritten ends) out)
ends_out (Some Write) P items rest none answers xs w w' empty unwritten ends out = absurd (unwritten refl)
ends_out (Some Long) P items rest none answers xs w w' empty unwritten ends out = (ends.0, subst (λ (l : List ℕ). Appends w l w') (gathered_all (Some Long) P items rest none answers xs empty unwritten ends) out)
ends_out (Some Memory) P items rest none answers xs w w' empty unwritten ends out = (ends.0, subst (λ (l : List ℕ). Appends w l w') (gathered_all (Some Memory) P items rest none answers xs empty unwritten ends) out)

-- what was gathered goes out whole
pub all_out : (a b : FencedItems) (bytes : List ℕ) (served now : Served) (P : List ℕ → Type 0) (none answers : List ℕ) (w w' : Option (List ℕ)) → none ≡ [] → served.fault ≢ Some Write → now ≡ served
    → CarriesOut a b bytes served P (Some none) (Some answers) → Appends w answers w' → CarriesOut a b bytes now P w w'
all_out a b bytes served now P none answers w w' empty unwritten same carried out =
    subst (λ (s : Served). CarriesOut a b bytes s P w w') (sym same) (record {
      commands = carried.commands;
      rest = carried.rest;
      whole = carried.whole;
      counted = carried.counted;
      holds = carried.holds;
      items_seen = carried.items_seen;
      ends = ends_out served.fault P b carried.rest none answers (answered (fenced_holding a) carried.commands) w w' empty unwritten carried.ends out;
    })

-- or in part
pub part_out : (a b : FencedItems) (bytes : List ℕ) (served now : Served) (P : List ℕ → Type 0) (none answers : List ℕ) (w w' : Option (List ℕ)) → none ≡ [] → served.fault ≢ Some Write
    → now ≡ record { commands = served.commands; fault = Some Write } → CarriesOut a b bytes served P (Some none) (Some answers) → AppendsPart w answers w' → CarriesOut a b bytes now P w w'
part_out a b bytes served now P none answers w w' empty unwritten same carried out =
    subst (λ (s : Served). CarriesOut a b bytes s P w w') (sym same) (record {
      commands = carried.commands;
      rest = carried.rest;
      whole = carried.whole;
      counted = carried.counted;
      holds = carried.holds;
      items_seen = carried.items_seen;
      ends = subst (λ (xs : List ℕ). AppendsPart w xs w') (gathered_all served.fault P b carried.rest none answers (answered (fenced_holding a) carried.commands) empty unwritten carried.ends) out;
    })

pub went_out : {X E : Type 0} (a b : FencedItems) (bytes : List ℕ) (served now : Served) (P : List ℕ → Type 0) (none answers out : List ℕ) (result : Result X E) (w w' : Option (List ℕ)) → none ≡ [] → out ≡ answers → served.fault ≢ Some Write
    → OnOk result (now ≡ served) → OnErr result (now ≡ record { commands = served.commands; fault = Some Write })
    → CarriesOut a b bytes served P (Some none) (Some answers) → OnOk result (Appends w out w') → OnErr result (AppendsPart w out w') → CarriesOut a b bytes now P w w'
went_out a b bytes served now P none answers out (Ok x) w w' empty is unwritten same other carried all part =
    all_out a b bytes served now P none answers w w' empty unwritten same carried (subst (λ (l : List ℕ). Appends w l w') is all)
went_out a b bytes served now P none answers out (Err e) w w' empty is unwritten same other carried all part =
    part_out a b bytes served now P none answers w w' empty unwritten other carried (subst (λ (l : List ℕ). AppendsPart w l w') is part)

-- ---- one read

pub kept_heard : {E : Type 0} (result : Result (Place × Heard) E) (a b : FencedItems) (talk : ReadSoFar) (kept : List ℕ) (room n : ℕ) (buffer : List ℕ) (source mid now : SourceTrace) (sink mid_sink : SinkTrace) (w' : Option (List ℕ))
    → kept ≡ talk.kept → room ≡ talk.room → OnOk result (now ≡ mid) → mid_sink ≡ sink → Reads n buffer source mid → n ≤ room → n ≤ length buffer
    → IfOk result (λ k. HearsBytes a b (record { kept = kept; room = room }) (take n buffer) k.1 mid.left mid_sink.written w') → IfOk result (λ k. HearsGuest a b talk source now k.1 sink.written w')
kept_heard (Ok k) a b talk kept room n buffer source mid now sink mid_sink w' kept_is room_is unread unwritten reads few inside hears =
    guest_heard a b talk kept room n buffer source mid now k.1 sink mid_sink w' kept_is room_is unread unwritten reads few inside hears
kept_heard (Err why) a b talk kept room n buffer source mid now sink mid_sink w' kept_is room_is unread unwritten reads few inside hears = tt

pub kept_read_cause : {E : Type 0} (result : Result (Place × Heard) E) (P : Type 0) → IfOk result (λ k. k.1.served.fault ≢ Some Read) → IfOk result (λ k. k.1.served.fault ≡ Some Read → P)
kept_read_cause (Ok k) P unfailed = λ is. absurd (unfailed is)
kept_read_cause (Err why) P unfailed = tt

pub kept_write_cause : {E : Type 0} (result : Result (Place × Heard) E) (sink mid now : SinkTrace) → mid ≡ sink → IfOk result (λ k. k.1.served.fault ≡ Some Write → Rose mid.faults now.faults)
    → IfOk result (λ k. k.1.served.fault ≡ Some Write → Rose sink.faults now.faults)
kept_write_cause (Ok k) sink mid now same cause = λ is. subst (λ (s : SinkTrace). Rose s.faults now.faults) same (cause is)
kept_write_cause (Err why) sink mid now same cause = tt

-- what holds at an error holds where there was one
pub at_err : {X E : Type 0} (result : Result X E) (P : Type 0) → IsErr result → OnErr result P → P
at_err (Ok x) P is holds = absurd (cc is)
at_err (Err e) P is holds = holds

-- ---- one turn

-- what follows from after a wait follows from before it
pub kept_waited : {G E : Type 0} (tells : Tells G) (before waited now : Table G) (result : Result (Option (Place × Service)) E) → waited ≡ before → IfOk result (λ found. KeepsTurn tells waited found now) → IfOk result (λ found. KeepsTurn tells before found now)
kept_waited tells before waited now result is turn = subst (λ (t : Table _). IfOk result (λ found. KeepsTurn tells t found now)) is turn

-- the next guest sat down, or none came
next_kept : {G : Type 0} (tells : Tells G) (before now : Table G) (place : Place) (found : Option Service) → IfSome before.coming (λ gs. 0 < length gs) → SeatsNext tells before found now → KeepsTurn tells before (at_place place found) now
next_kept tells before now place (Some count) some next = inl next
next_kept tells before now place None some next = (next.0, none_came before.coming before.guests some next.1)

pub seats_kept : {G : Type 0} (tells : Tells G) (before now : Table G) (place : Place) (found : Option Service) (kept : Option (Place × Service)) → kept ≡ at_place place found → IfSome before.coming (λ gs. 0 < length gs) → SeatsNext tells before found now → KeepsTurn tells before kept now
seats_kept tells before now place found kept is some next = subst (λ (k : Option (Place × Service)). KeepsTurn tells before k now) (sym is) (next_kept tells before now place found some next)

place_kept : (disk : DiskTrace) (place : Place) (found : Option Service) (held : FencedHoldings) → IsOnDisk disk place held → IsKeptBehind disk place (at_place place found) held
place_kept disk place (Some count) held kept = kept
place_kept disk place None held kept = kept

pub seats_durable : (disk : DiskTrace) (place : Place) (found : Option Service) (kept : Option (Place × Service)) (held : FencedHoldings) → kept ≡ at_place place found → IsOnDisk disk place held → IsKeptBehind disk place kept held
seats_durable disk place found kept held is durable = subst (λ (k : Option (Place × Service)). IsKeptBehind disk place k held) (sym is) (place_kept disk place found held durable)

-- a guest was read, and where it sits is settled
pub settled_kept : {E : Type 0} (result : Result (Option (Place × Service)) E) (place : Place) (count : Service) (Q : Type 0) (P : Option (Place × Service) → Type 0) → IfOk result (λ found. (found ≡ Some (place, count)) × Q) → (Q → P (Some (place, count))) → IfOk result P
settled_kept (Ok found) place count Q P is holds = subst P (sym is.0) (holds is.1)
settled_kept (Err why) place count Q P is holds = tt

-- a turn, where it is known that there was one
pub turn_kept : {G : Type 0} (tells : Tells G) (before now : Table G) (found : Option (Place × Service)) (kept : Place × Service) → found ≡ Some kept → KeepsTurn tells before found now → Turns tells before (counted now kept.1)
turn_kept tells before now found kept is turn = subst (λ (f : Option (Place × Service)). KeepsTurn tells before f now) is turn

pub next_durable : (disk : DiskTrace) (place : Place) (found : Option (Place × Service)) (kept : Place × Service) (held : FencedHoldings) → found ≡ Some kept → IsKeptBehind disk place found held → IsOnDisk disk kept.0 held
next_durable disk place found kept held is behind = subst (λ (f : Option (Place × Service)). IsKeptBehind disk place f held) is behind

pub none_durable : (disk : DiskTrace) (place : Place) (found : Option (Place × Service)) (held : FencedHoldings) → found ≡ None → IsKeptBehind disk place found held → IsOnDisk disk place held
none_durable disk place found held is behind = subst (λ (f : Option (Place × Service)). IsKeptBehind disk place f held) is behind

-- all that were asked for were served
pub all_kept : {G : Type 0} (tells : Tells G) (first now : Table G) (asked : ℕ) → TurnsSoFar tells first now → now.count.guests ≤ asked → asked ≤ now.count.guests
    → KeepsSeated tells first asked now.guests now.items now.count (record { coming = now.coming; served = now.back })
all_kept tells first now asked so_far within enough = record { course = so_far.course; end = now; goes = so_far.goes; ends = inl (omega (arith, within, enough)); holds = refl; counts = refl; sits = refl; coming = refl; back = refl }

-- no more come, and nobody sits: what was served so far is all
pub none_kept : {G : Type 0} (tells : Tells G) (first before now : Table G) (asked : ℕ) (found : Option (Place × Service)) → TurnsSoFar tells first before → before.count.guests < asked → found ≡ None → KeepsTurn tells before found now
    → KeepsSeated tells first asked now.guests now.items before.count (record { coming = now.coming; served = now.back })
none_kept tells first before now asked found so_far more is turn =
    let none : (now ≡ before) × IfSome before.coming (λ later. (length later ≡ 0) × (length before.guests ≡ 0)) = subst (λ (f : Option (Place × Service)). KeepsTurn tells before f now) is turn in
    let same : now ≡ before = none.0 in
    record {
      course = so_far.course;
      end = before;
      goes = so_far.goes;
      ends = inr (more, none.1);
      holds = ap (λ (t : Table _). t.items) same;
      counts = refl;
      sits = ap (λ (t : Table _). t.guests) (sym same);
      coming = ap (λ (t : Table _). t.coming) (sym same);
      back = ap (λ (t : Table _). t.back) (sym same);
    }

-- those that sat were given back
pub seats_left : {D G E : Type 0} (trace : D → DiskTrace) (tells : Tells G) (items items_now : FencedItems) (new : D) (before mid now : Guests G) (asked : ℕ) (guests : List G) (result : Result Service E) → now.coming ≡ mid.coming → now.served ≡ after_leaving mid.served guests
    → IfOk result (λ service. KeepsSeated tells (first_table items before) asked guests items_now service mid) → IfOk result (λ service. IsHeldOnDisk (trace new) (fenced_holding items_now)) → IfOk result (λ service. KeepsFrom trace tells items new before now asked service)
seats_left trace tells items items_now new before mid now asked guests (Ok service) coming back keeps durable = record {
  items_now = items_now;
  serves = record {
    course = keeps.course;
    end = keeps.end;
    goes = keeps.goes;
    ends = keeps.ends;
    holds = keeps.holds;
    counts = keeps.counts;
    coming = coming ∙ sym keeps.coming;
    back = back ∙ ap₂ after_leaving (sym keeps.back) (sym keeps.sits);
  };
  durable = durable;
}
seats_left trace tells items items_now new before mid now asked guests (Err why) coming back keeps durable = tt

-- ---- from the opening on

module _ {D : Type 0} (trace : D → DiskTrace) where
  -- the opening alone
  pub opened_run : (told : Option (List ℕ)) (old new : D) (left : List ℕ → Type 0) → IfSome told (λ image. LeavesOnly trace old new (λ c. left c ⊎ ReadsAlike image c)) → IfSome told (λ image. LeavesOnly trace old new (MayBeLeft left image))
  opened_run told old new left run = weaker_run trace (λ image c. left c ⊎ ReadsAlike image c) (MayBeLeft left) told old new (λ image c is. ⊎_elim inl (λ alike. inr (inl alike)) is) run

  -- and the guests after it
  pub served_run : (told between : Option (List ℕ)) (old mid new : D) (left : List ℕ → Type 0) (held : FencedHoldings) → KeepsTelling told between
      → IfSome between (trace mid).may_leave → ((t : ℕ) (c : List ℕ) → t ≤ (trace mid).moment → (trace mid).may_leave c → (trace mid).left_since t c)
      → IfSome told (λ image. IsReadAs image held) → IfSome told (λ image. LeavesOnly trace old mid (λ c. left c ⊎ ReadsAlike image c)) → IfSome between (λ _. LeavesOnly trace mid new (HasCome held))
      → IfSome told (λ image. LeavesOnly trace old new (MayBeLeft left image))
  served_run None between old mid new left held keeps shows counts read first second = tt
  served_run (Some image) None old mid new left held keeps shows counts read first second = absurd (cc keeps)
  served_run (Some image) (Some m) old mid new left held keeps shows counts read first second =
      LeavesOnly-chain trace old mid new (MayBeLeft left image) (HasCome held)
      (LeavesOnly-weaker trace old mid (λ c. left c ⊎ ReadsAlike image c) (MayBeLeft left image) first (λ c is. ⊎_elim inl (λ alike. inr (inl alike)) is)) second
      (λ c come. inr (inr (record { held = held; read = read; come = come })))

-- ---- why no more guests are served

-- a cause since a later moment is one since an earlier
pub stops_later : (why : KeepFault) (fleet fleet_mid fleet_now before mid now : ℕ) → StopsService why fleet_mid fleet_now mid now → fleet ≤ fleet_mid → before ≤ mid → StopsService why fleet fleet_now before now
stops_later Fleet fleet fleet_mid fleet_now before mid now (inl more) no_less also = inl (omega (arith, more, no_less))
stops_later Fleet fleet fleet_mid fleet_now before mid now (inr most) no_less also = inr most
stops_later NoRoom fleet fleet_mid fleet_now before mid now stops no_less also = tt
stops_later (State why) fleet fleet_mid fleet_now before mid now stops no_less also = causes_later why before mid now stops also

-- and one of the whole, after the opening
pub stops_ends : (why : KeepFault) (fleet fleet_now before mid now : ℕ) → StopsService why fleet fleet_now mid now → before ≤ mid → EndsService why fleet fleet_now before now
stops_ends Fleet fleet fleet_now before mid now stops no_less = stops
stops_ends NoRoom fleet fleet_now before mid now stops no_less = tt
stops_ends (State why) fleet fleet_now before mid now stops no_less = at_disk_later why before mid now (causes_at_disk why mid now stops) no_less

-- a cause up to an earlier moment of the fleet is one up to a later
pub stops_until : (why : KeepFault) (fleet fleet_mid fleet_now before now : ℕ) → StopsService why fleet fleet_mid before now → fleet_mid ≤ fleet_now → StopsService why fleet fleet_now before now
stops_until Fleet fleet fleet_mid fleet_now before now stops no_less = rose_until fleet fleet_mid fleet_now stops no_less
stops_until NoRoom fleet fleet_mid fleet_now before now stops no_less = tt
stops_until (State why) fleet fleet_mid fleet_now before now stops no_less = stops

-- the same of a result
pub kept_cause_since : {X : Type 0} (result : Result X KeepFault) (a b c x y : ℕ) → a ≤ b → IfErr result (λ why. StopsService why b c x y) → IfErr result (λ why. StopsService why a c x y)
kept_cause_since (Ok found) a b c x y no_less cause = tt
kept_cause_since (Err why) a b c x y no_less cause = stops_later why a b c x x y cause no_less (omega arith)

pub kept_cause_until : {X : Type 0} (result : Result X KeepFault) (a b c x y : ℕ) → b ≤ c → IfErr result (λ why. StopsService why a b x y) → IfErr result (λ why. StopsService why a c x y)
kept_cause_until (Ok found) a b c x y no_less cause = tt
kept_cause_until (Err why) a b c x y no_less cause = stops_until why a b c x y cause no_less

pub no_room_stops : {X : Type 0} (result : Result X KeepFault) (a b x y : ℕ) → IfErr result (λ why. why ≡ NoRoom) → IfErr result (λ why. StopsService why a b x y)
no_room_stops (Ok found) a b x y is = tt
no_room_stops (Err why) a b x y is = subst (λ (w : KeepFault). StopsService w a b x y) (sym is) tt

-- who sits down changes nothing that is held
room_items : {G : Type 0} (a b : Table G) → MakesRoom a b → b.items ≡ a.items
room_items a b (inl free) = ap (λ (t : Table _). t.items) free.1
room_items a b (inr loses) = ap (λ (t : Table _). t.items) loses.left

sat_items : {G : Type 0} (tells : Tells G) (a b : Table G) → SitsDown tells a b → b.items ≡ a.items
sat_items tells a b sits =
    let sat = sits.sits in
    ap (λ (t : Table _). t.items) sat.sits ∙ room_items (record a { coming = sits.coming }) sat.between sat.room

-- ---- turns, one after the other

-- turns bring what was held on by commands alone
pub record Reached (before now : FencedHoldings) : Type 0 where
  pub commands : List TermedCommand
  pub fit : All IsTermedCommand commands
  pub are : now ≡ after_all_termed before commands

one_reached : {G : Type 0} (tells : Tells G) (a b : Table G) → Turns tells a b → Reached (fenced_holding a.items) (fenced_holding b.items)
one_reached tells a b (inl sits) = record { commands = []; fit = All-nil IsTermedCommand; are = ap fenced_holding (sat_items tells a b sits) }
one_reached tells a b (inr hears) =
    let carried = hears.hears.hears.hears.carried in
    record {
      commands = carried.commands;
      fit = carried.whole.fit;
      are = ap (λ (t : Table _). fenced_holding t.items) hears.hears.behind ∙ carried.holds;
    }

turns_reached : {G : Type 0} (tells : Tells G) (before : Table G) (course : List (Table G)) (now : Table G) → TurnByTurn tells before course now → Reached (fenced_holding before.items) (fenced_holding now.items)
turns_reached tells before [] now row = record { commands = []; fit = All-nil IsTermedCommand; are = ap (λ (t : Table _). fenced_holding t.items) row }
turns_reached tells before (table ∷ later) now row =
    let first = one_reached tells before table row.0 in
    let rest = turns_reached tells table later now row.1 in
    record {
      commands = first.commands ++ rest.commands;
      fit = All-append IsTermedCommand first.commands rest.commands first.fit rest.fit;
      are = rest.are ∙ ap (λ (h : FencedHoldings). after_all_termed h rest.commands) first.are ∙ sym (after_all_termed-append (fenced_holding before.items) first.commands rest.commands);
    }

-- the run of one turn more
pub come_on : {D G : Type 0} (trace : D → DiskTrace) (old mid new : D) (tells : Tells G) (first before : Table G) → TurnsSoFar tells first before → KeepsTelling (trace old).bytes (trace mid).bytes
    → IfSome (trace mid).bytes (trace mid).may_leave → ((t : ℕ) (c : List ℕ) → t ≤ (trace mid).moment → (trace mid).may_leave c → (trace mid).left_since t c)
    → HasComeAlways trace old mid (fenced_holding first.items) → HasComeAlways trace mid new (fenced_holding before.items) → HasComeAlways trace old new (fenced_holding first.items)
come_on trace old mid new tells first before so_far told shows counts first_run second =
    let reached = turns_reached tells first so_far.course before so_far.goes in
    come_then trace old mid new (fenced_holding first.items) (fenced_holding before.items) reached.commands reached.fit reached.are told shows counts first_run second
