-- Why the first stop of a run stands in its history, drawn from what its workers have come to.
use Rattle.std.proofs.Common.{◌≡◌, ◌≢◌, ℕ, ◌<◌, ◌≤◌, true, List, [], ◌∷◌, ◌++◌, IsPermutation, Option, Some, None, option_map, inl, inr, length, length-append, slice_index_or, append_assoc, if◌then◌else◌, refl, sym, ap, ◌∙◌, subst, arith}
use Rattle.std.specs.Prelude.{All, IsTrue}
use Rattle.std.specs.Option.{option_or}
use Rattle.std.specs.List.{AllZip, Contains}
use Rattle.std.proofs.lemmas.List.Elements.{All-contains, Contains-append_left, Contains-get_or}
use Rattle.std.proofs.lemmas.List.Sorted.{Contains-permutation, IsPermutation-sym}
use Rattle.rollout_rules.specs.declared.op.Op.{Op}
use Rattle.rollout_rules.specs.declared.op.Entry.TheVariants as entry
use Rattle.wan_edge.specs.Frames.{Command}
use Rattle.wan_edge.specs.Ports.{PortTrace}
use Rattle.port_session.specs.Sessions.{SessionView}
use Rattle.switch_ports.specs.Stories.{LastStoryEach}
use Rattle.shared_book.specs.declared.note.Cause.{Cause}
use Rattle.shared_book.specs.declared.note.Cause.TheVariants as cause
use Rattle.shared_book.specs.declared.note.What.TheVariants as what
use Rattle.shared_book.specs.declared.note.Written.{Written}
use Rattle.shared_book.specs.declared.call_reply.Halt.{Halt}
use Rattle.shared_book.specs.declared.call_reply.Wake.{Wake}
use Rattle.shared_book.specs.declared.call_reply.Wake.TheVariants as wake
use Rattle.shared_book.specs.Histories.{Opening, history_of}
use Rattle.shared_book.specs.Knows.{next_note}
use Rattle.shared_book.specs.Legal.{is_legal_shared}
use Rattle.shared_book.specs.Notes.{cause_of, first_stop}
use Rattle.shared_book.proofs.Going.{front_is_legal}
use Rattle.shared_book.proofs.Stops.{first_stop-append}
use Rattle.shared_book.specs.Calls.{seat_of}
use Rattle.shared_book.specs.Images.{HasDisk}
use Rattle.controller_run.specs.Promises.{AreListed, IsEndAt, Promises, StopsNothing, switches_of}
use Rattle.controller_run.specs.Reasons.{HeardAbove, IsReason, SaysFailed, Spends}
use Rattle.controller_run.specs.Serving.{Served}
use Rattle.controller_run.specs.Working.{is_some_command}
use Rattle.controller_run.proofs.Begun.{begun-stays, listed-begun}
use Rattle.controller_run.proofs.FirstStops.{serves-reason}
use Rattle.controller_run.proofs.Keeps.{serves-keeps}
use Rattle.controller_run.proofs.Quiet.{quiet-first}
use Rattle.controller_run.specs.Causes.{HasCause, IfStopped, IsAbove, IsCause, IsSpent}
use Rattle.controller_run.specs.Keeping.{Keeps}
use Rattle.controller_run.specs.Runs.{IsRunEnd}
use Rattle.controller_run.specs.Shifts.{IsEarlyCause, IsOfOne, IsShift, Returns, Shift}
use Rattle.controller_run.specs.Together.{given_ports}
use Rattle.controller_run.specs.declared.end.RunEnd.{RunEnd}
use Rattle.controller_run.specs.declared.end.RunEnd.TheVariants as run
use Rattle.controller_run.proofs.Early.{disk_inside, same_halt}
use Rattle.controller_run.proofs.RunPorts.{contains_head, contains_later, in_all, of_one}

-- ---- rounds and commands
some_many : (cs : List Command) → (if is_some_command cs then 1 else 0) ≤ length cs
some_many [] = omega arith
some_many (c ∷ cs) = omega arith

-- in no more rounds some command was listed than commands were
many_listed : (o : Opening) (seat : ℕ) (switches : List ℕ) (log more : List Written) (listed : List Command) (rounds : ℕ) → AreListed o seat switches log more listed rounds → rounds ≤ length listed
many_listed o seat switches log [] listed rounds lists = let none = lists.1 in omega (arith, none)
many_listed o seat switches log (w ∷ later) listed rounds lists =
    let counted = lists.5 in
    let parts : length listed ≡ length (lists.0 ++ lists.1) = ap length lists.4 in
    omega (arith, counted, parts, some_many lists.0, many_listed o seat switches (log ++ w ∷ []) later lists.1 lists.2 lists.6, length-append lists.0 lists.1)

-- ---- whose the first stop is
none_halt : {A : Type 0} (s : Option Halt) (halt : Halt) → s ≡ None → s ≡ Some halt → A
none_halt s halt none is = absurd (cc (sym none ∙ is))

module _ (seat : ℕ) where
  others_first : (past : List Written) (halt : Halt) → All (λ w. All (λ k. k ≢ seat_of w) (seat ∷ [])) past → first_stop past ≡ Some halt → halt.seat ≢ seat
  others_first past halt none first = quiet-first seat past halt (λ k d inside own. absurd (none k d inside 0 seat (omega arith) (sym own))) first

  -- a stop of a seat stands where the seat's notes do
  pub stands_in : (s p : Option Halt) (halt : Halt) → option_or s p ≡ Some halt → (p ≡ Some halt → halt.seat ≢ seat) → halt.seat ≡ seat → s ≡ Some halt
  stands_in (Some first) p halt is other mine = is
  stands_in None p halt is other mine = absurd (other is mine)

  first_in : (seen past : List Written) (halt : Halt) → All (λ w. All (λ k. k ≢ seat_of w) (seat ∷ [])) past → first_stop (seen ++ past) ≡ Some halt → halt.seat ≡ seat → first_stop seen ≡ Some halt
  first_in seen past halt none first mine = stands_in (first_stop seen) (first_stop past) halt (sym (first_stop-append seen past) ∙ first) (others_first past halt none) mine

-- a first stop is that of a note
pub record IsNoted (log : List Written) (halt : Halt) : Type 0 where
  pub note : Written
  pub among : Contains log note
  pub seat : seat_of note ≡ halt.seat

abbrev halt_of : Written → Option Cause → Option Halt
halt_of w why = option_map (λ (c : Cause). record { seat = w.note.seat; call = w.note.call; cause = c }) why

noted_here : (w : Written) (log : List Written) (halt : Halt) (why : Option Cause) → option_or (halt_of w why) (first_stop log) ≡ Some halt → (first_stop log ≡ Some halt → IsNoted log halt) → IsNoted (w ∷ log) halt
noted_here w log halt None is later = let found = later is in record { note = found.note; among = contains_later w log found.note found.among; seat = found.seat }
noted_here w log halt (Some why) is later =
    let same : record { seat = w.note.seat; call = w.note.call; cause = why } ≡ halt = same_halt (Some halt) (record { seat = w.note.seat; call = w.note.call; cause = why }) halt (sym is) refl in
    record { note = w; among = contains_head w log; seat = ap (λ (h : Halt). h.seat) same }

pub noted : (log : List Written) (halt : Halt) → first_stop log ≡ Some halt → IsNoted log halt
noted [] halt first = none_halt None halt refl first
noted (w ∷ log) halt first = noted_here w log halt (cause_of w.note.what) first (λ later. noted log halt later)

-- ---- the cause of a worker's stop
module _ {P : Type 0} (tell : P → PortTrace) (o : Opening) (migration : ℕ) (homes : List (Option ℕ)) (rounds : ℕ) (log : List Written) (legal : is_legal_shared o log ≡ true) (s : Shift P) (shift : IsShift tell o migration homes rounds log s) where
  abbrev Causes : Cause → Type 0
  Causes why = IsCause tell o migration homes rounds (HasDisk log) log s.given.before.ports why s.now.ports

  -- a beginning of what it has seen is one of the history
  further : (front later : List Written) → s.now.seen ≡ front ++ later → log ≡ front ++ (later ++ shift.follows.past)
  further front later is = shift.follows.is ∙ ap (λ (ws : List Written). ws ++ shift.follows.past) is ∙ append_assoc front later shift.follows.past

  spent : (given : ℕ) (op : Op) → Spends tell o s.given.seat migration homes rounds s.given.before given op s.now → IsSpent tell o migration homes rounds log s.given.before.ports given op s.now.ports
  spent given op spends =
      let switches = switches_of s.given.before.ports in
      let seen = s.given.before.seen ++ spends.more in
      let listed = spends.listed in
      let parts : log ≡ seen ++ shift.follows.past = shift.follows.is ∙ ap (λ (ws : List Written). ws ++ shift.follows.past) spends.goes_on in
      let seen_legal : is_legal_shared o seen ≡ true = front_is_legal o seen shift.follows.past (subst (λ (ws : List Written). is_legal_shared o ws ≡ true) parts legal) in
      record {
        given_is = spends.given_is;
        commands = listed;
        begun = λ k d inside.
            let known = listed-begun o s.given.seat switches s.given.before.seen spends.more listed rounds (slice_index_or listed k d) seen_legal spends.lists (Contains-get_or listed k d inside) in
            record {
              op = known.op;
              is = known.is;
              begun = subst (λ (ws : List Written). Contains (history_of o ws).entries (entry.Begin known.op)) (sym parts) (begun-stays o seen shift.follows.past (entry.Begin known.op) known.begun);
              switch = known.switch;
              home = known.home;
              among = known.among;
            };
        many = many_listed o s.given.seat switches s.given.before.seen spends.more listed rounds spends.lists;
        sent = spends.sent;
        rows = spends.rows;
        told = spends.told;
        heard_out = spends.heard_out;
        uncovered = spends.uncovered;
        come = spends.come;
        front = spends.log;
        later = spends.later ++ shift.follows.past;
        is = further spends.log spends.later spends.is;
        flies = spends.flies;
      }

  above : (item held begun : ℕ) → HeardAbove tell o migration homes s.given.before item held begun s.now → IsAbove tell o migration homes log s.given.before.ports item held begun s.now.ports
  above item held begun heard = record {
    front = heard.log;
    later = heard.later ++ shift.follows.past;
    is = further heard.log heard.later heard.is;
    alien = heard.alien;
    begun_is = heard.begun_is;
    told = heard.told;
  }

  disk_failed : SaysFailed s.given.seat s.now.seen → HasDisk log
  disk_failed says =
      let note = next_note s.given.seat says.log what.Disk says.entries in
      subst HasDisk (sym (further says.log (note ∷ says.later) says.is)) (disk_inside says.log (says.later ++ shift.follows.past) note tt)

  of_reason : (why : Cause) → IsReason tell o s.given.seat migration homes rounds s.given.before why s.now → Causes why
  of_reason (cause.Spent given item number) reason = spent given (record { item = item; number = number }) reason
  of_reason (cause.Port switch) reason = reason
  of_reason (cause.Above item held begun) reason = above item held begun reason
  of_reason (cause.NotMine switch item) reason = reason
  of_reason (cause.NoAnswer switch byte) reason = reason
  of_reason cause.Disk reason = disk_failed reason
  of_reason cause.Memory reason = tt

  -- where it has served
  served : (end : Wake) → All (λ (t : SessionView P). IsTrue t.stream.live) s.given.before.ports → StopsNothing s.given.seat s.given.before.seen → Served tell o (s.given.seat ∷ []) s.given.seat migration homes rounds s.given.before end s.now
      → (halt : Halt) → IsEndAt o s.now.seen end → first_stop s.now.seen ≡ Some halt → halt.seat ≡ s.given.seat → Causes halt.cause
  served (wake.Work op) live quiet did halt ends first mine = absurd ends
  served wake.Finished live quiet did halt ends first mine = none_halt (first_stop s.now.seen) halt ends.0 first
  served wake.Held live quiet did halt ends first mine = none_halt (first_stop s.now.seen) halt ends.0 first
  served (wake.Stopped told) live quiet did halt ends first mine =
      let same : told ≡ halt = same_halt (first_stop s.now.seen) told halt ends first in
      subst (λ (h : Halt). Causes h.cause) same
      (of_reason told.cause (serves-reason tell o s.given.seat [] migration homes rounds s.given.before quiet told s.now live did (ap (λ (h : Halt). h.seat) same ∙ mine)))
  served wake.Memory live quiet did halt ends first mine = absurd ends

  -- where it never began
  of_early : (why : Cause) → IsEarlyCause s.now.seen why → Causes why
  of_early (cause.Spent given item number) early = absurd early
  of_early (cause.Port switch) early = absurd early
  of_early (cause.Above item held begun) early = absurd early
  of_early (cause.NotMine switch item) early = absurd early
  of_early (cause.NoAnswer switch byte) early = absurd early
  of_early cause.Disk early = subst HasDisk (sym shift.follows.is) (disk_before s.now.seen shift.follows.past early)
    where
      disk_before : (ws past : List Written) → HasDisk ws → HasDisk (ws ++ past)
      disk_before [] past none = absurd none
      disk_before (w ∷ ws) past (inl here) = inl here
      disk_before (w ∷ ws) past (inr later) = inr (disk_before ws past later)
  of_early cause.Memory early = tt

  by_end : (end : Option Wake) → Returns tell o s.given.seat migration homes rounds s.given.before end s.now → (halt : Halt) → first_stop s.now.seen ≡ Some halt → halt.seat ≡ s.given.seat → Causes halt.cause
  by_end None returns halt first mine = of_early halt.cause (returns.1 halt first mine)
  by_end (Some end) returns halt first mine =
      let live : All (λ (t : SessionView P). IsTrue t.stream.live) s.given.before.ports = λ k d inside. subst (λ (t : SessionView P). IsTrue t.stream.live) (sym (shift.fresh k d inside)) refl in
      let promises : Promises tell o s.given.seat migration homes rounds s.given.before end s.now = serves-keeps tell o s.given.seat [] migration homes rounds s.given.before returns.0 end s.now live returns.1 in
      served end live returns.0 returns.1 halt promises.ends first mine

  -- the first stop of the history, where it is this worker's
  own_reason : (halt : Halt) → first_stop log ≡ Some halt → halt.seat ≡ s.given.seat → Causes halt.cause
  own_reason halt first mine =
      by_end s.end shift.returns halt
      (first_in s.given.seat s.now.seen shift.follows.past halt shift.follows.none (sym (ap first_stop shift.follows.is) ∙ first) mine) mine

-- ---- the cause of a run's first stop
module _ {P : Type 0} (tell : P → PortTrace) (o : Opening) (migration : ℕ) (homes : List (Option ℕ)) (rounds : ℕ) (log : List Written) (first : List (SessionView P)) (now : List (SessionView P)) where
  -- a note that the disk failed, by what it says of the disk
  by_disk : (failed : Type 0) → (HasDisk log → failed) → (why : Cause) → IsCause tell o migration homes rounds (HasDisk log) log first why now → IsCause tell o migration homes rounds failed log first why now
  by_disk failed says (cause.Spent given item number) holds = holds
  by_disk failed says (cause.Port switch) holds = holds
  by_disk failed says (cause.Above item held begun) holds = holds
  by_disk failed says (cause.NotMine switch item) holds = holds
  by_disk failed says (cause.NoAnswer switch byte) holds = holds
  by_disk failed says cause.Disk holds = says holds
  by_disk failed says cause.Memory holds = tt

module _ {P : Type 0} (tell : P → PortTrace) (migration : ℕ) (homes : List (Option ℕ)) (sent : List Command) (kept : ℕ → Option P) where
  -- ports that are back
  kept_each : (ps ns : List (SessionView P)) → LastStoryEach tell migration homes sent ps ns → ((t : SessionView P) → Contains ns t → kept t.switch ≡ Some t.port) → AllZip (λ before after. kept before.switch ≡ Some after.port) ps ns
  kept_each [] [] story back = tt
  kept_each [] (n ∷ ns) story back = absurd story
  kept_each (p ∷ ps) [] story back = absurd story
  kept_each (p ∷ ps) (n ∷ ns) story back =
      (subst (λ (w : ℕ). kept w ≡ Some n.port) story.0.switch (back n (contains_head n ns)), kept_each ps ns story.1 (λ t at. back t (contains_later n ns t at)))

module _ {P : Type 0} (tell : P → PortTrace) (o : Opening) (migration : ℕ) (homes : List (Option ℕ)) (rounds : ℕ) (log : List Written) (legal : is_legal_shared o log ≡ true) (shifts : List (Shift P)) (spare opened : List (SessionView P)) (seats : ℕ) (kept : ℕ → Option P) (failed : Type 0)
    (whole : All (IsShift tell o migration homes rounds log) shifts) (keeps : All (Keeps tell o migration homes log) shifts) (seated : (seat : ℕ) → seat < seats → IsOfOne shifts seat) (made : All (λ w. seat_of w < seats) log)
    (same : IsPermutation opened (given_ports shifts ++ spare)) (back : (s : Shift P) (t : SessionView P) → Contains shifts s → Contains s.now.ports t → kept t.switch ≡ Some t.port) (says : HasDisk log → failed) where
  has_cause : (halt : Halt) → first_stop log ≡ Some halt → HasCause tell o migration homes rounds failed log opened kept halt.cause
  has_cause halt first =
      let note = noted log halt first in
      let below : halt.seat < seats = subst (λ (n : ℕ). n < seats) note.seat (All-contains (λ w. seat_of w < seats) log note.note made note.among) in
      let one = of_one shifts halt.seat (seated halt.seat below) in
      let s : Shift P = one.0 in
      let mine = All-contains (Keeps tell o migration homes log) shifts s keeps one.1 in
      let shift = All-contains (IsShift tell o migration homes rounds log) shifts s whole one.1 in
      record {
        first = s.given.before.ports;
        now = s.now.ports;
        among = λ t at. Contains-permutation (given_ports shifts ++ spare) opened t (IsPermutation-sym opened (given_ports shifts ++ spare) same)
            (Contains-append_left (given_ports shifts) spare t (in_all (λ r. r.given.before.ports) shifts s t one.1 at));
        back = kept_each tell migration homes mine.sent kept s.given.before.ports s.now.ports mine.story (λ t at. back s t one.1 at);
        holds = by_disk tell o migration homes rounds log s.given.before.ports s.now.ports failed says halt.cause (own_reason tell o migration homes rounds log legal s shift halt first (sym one.2));
      }

  pub has_reason : (end : RunEnd) → IsRunEnd o log end → IfStopped end (λ halt. HasCause tell o migration homes rounds failed log opened kept halt.cause)
  has_reason run.Finished ends = tt
  has_reason run.Held ends = tt
  has_reason (run.Stopped halt) ends = has_cause halt ends
  has_reason (run.NoPort switch) ends = tt
  has_reason run.Memory ends = tt
