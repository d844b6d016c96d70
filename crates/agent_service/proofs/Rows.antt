-- Guests that were served turn by turn, and one turn more.
use Rattle.std.proofs.Common.{◌≡◌, ◌≢◌, inl, inr, ◌∙◌, ℕ, zero, suc, ◌+◌, ◌-◌, ◌*◌, ◌<◌, ◌≤◌, ◌^◌, List, [], ◌∷◌, ◌++◌, length, slice_index_or, Option, Some, None, Result, Ok, Err, refl, sym, ap, subst, arith}
use Rattle.std.specs.Prelude.{IfErr, IfOk, IfSome, IsErrOf}
use Rattle.std.specs.List.{remove}
use Rattle.std.proofs.lemmas.List.{length_push}
use Rattle.wan_edge.specs.Fleets.{WaitsFor}
use Rattle.wan_edge.specs.Streams.{Rose}
use Rattle.wan_edge.specs.declared.waited.Waited.{Waited}
use Rattle.wan_edge.specs.declared.waited.Waited.TheVariants.{Came, NoMore, Seat}
use Rattle.wan_edge.proofs.Faults.{rose_since, rose_until}
use Rattle.fenced_agent.specs.Agents.{FencedItems}
use Rattle.agent_talks.specs.Serving.{GoesFurther}
use Rattle.switch_agent.specs.ReadStates.{ReadSoFar, most, new_read_state, room_of}
use Rattle.agent_talks.specs.declared.heard.Heard.{Heard}
use Rattle.switch_agent.specs.declared.serve_fault.ServeFault.{ServeFault}
use Rattle.switch_agent.specs.declared.serve_fault.ServeFault.TheVariants.{Frame, Long, Memory, Read, Write}
use Rattle.switch_agent.specs.declared.serve_fault.Served.{Served}
use Rattle.agent_service.specs.Seats.{HasSeats}
use Rattle.agent_service.specs.Services.{Guests, HearsOne, MakesRoom, SeatsNext, ServesSeated, StopsTurn, Table, TakesTurn, Tells, TurnByTurn, Turns, after_leaving, back_behind, count_behind, counted, first_table, guests_behind, most_seats, nothing_counted, refused_by, rooms_of, settled, table_of, talks_behind, with_seat}
use Rattle.agent_service.specs.declared.service.Service.{Service}
use Rattle.agent_service.specs.declared.service.ServiceFault.{ServiceFault}
use Rattle.agent_service.specs.declared.service.ServiceFault.TheVariants.{Fleet, Memory as NoMemory}

-- ---- lists

pub length_removed : {X : Type 0} (xs : List X) (n : ℕ) → n < length xs → length (remove xs n) + 1 ≡ length xs
length_removed [] n lt = absurd (omega (arith, lt))
length_removed (x ∷ xs) zero lt = omega arith
length_removed (x ∷ xs) (suc n) lt = omega (arith, length_removed xs n (omega (arith, lt)))

rooms_push : (talks : List ReadSoFar) (talk : ReadSoFar) → rooms_of (talks ++ talk ∷ []) ≡ rooms_of talks + talk.room
rooms_push [] talk = omega arith
rooms_push (t ∷ ts) talk = omega (arith, rooms_push ts talk)

pub rooms_removed : (talks : List ReadSoFar) (n : ℕ) (talk : ReadSoFar) → n < length talks → talk ≡ slice_index_or talks n talk → rooms_of (remove talks n) + talk.room ≡ rooms_of talks
rooms_removed [] n talk lt is = absurd (omega (arith, lt))
rooms_removed (t ∷ ts) zero talk lt is = omega (arith, ap (λ (one : ReadSoFar). one.room) is)
rooms_removed (t ∷ ts) (suc n) talk lt is = omega (arith, rooms_removed ts n talk (omega (arith, lt)) is)

rooms_less : (talks : List ReadSoFar) (n : ℕ) → rooms_of (remove talks n) ≤ rooms_of talks
rooms_less [] zero = omega arith
rooms_less [] (suc n) = omega arith
rooms_less (t ∷ ts) zero = omega arith
rooms_less (t ∷ ts) (suc n) = omega (arith, rooms_less ts n)

-- one that leaves as the last of those that sit is the first of those that leave
pub leaving_push : {G : Type 0} (back guests : List G) (guest : G) → after_leaving back (guests ++ guest ∷ []) ≡ after_leaving (back ++ guest ∷ []) guests
leaving_push back [] guest = refl
leaving_push back (g ∷ gs) guest = ap (λ (xs : List _). xs ++ g ∷ []) (leaving_push back gs guest)

-- ---- turns

pub TurnByTurn-more : {G : Type 0} (tells : Tells G) (a b c : Table G) (course : List (Table G)) → TurnByTurn tells a course b → Turns tells b c → TurnByTurn tells a (course ++ c ∷ []) c
TurnByTurn-more tells a b c [] row next = (subst (λ (t : Table _). Turns tells t c) row next, refl)
TurnByTurn-more tells a b c (t ∷ ts) row next = (row.0, TurnByTurn-more tells t b c ts row.1 next)

-- from a first moment to this one
pub record TurnsSoFar {G : Type 0} (tells : Tells G) (first now : Table G) : Type 0 where
  pub course : List (Table G)
  pub goes : TurnByTurn tells first course now

pub no_turn : {G : Type 0} (tells : Tells G) (first now : Table G) → now ≡ first → TurnsSoFar tells first now
no_turn tells first now is = record { course = []; goes = is }

pub turn_more : {G : Type 0} (tells : Tells G) (first a b : Table G) → TurnsSoFar tells first a → Turns tells a b → TurnsSoFar tells first b
turn_more tells first a b so_far next = record { course = so_far.course ++ b ∷ []; goes = TurnByTurn-more tells first a b so_far.course so_far.goes next }

-- nobody sits at first
pub nobody_seated : {G : Type 0} (items : FencedItems) (guests : List G) (talks : List ReadSoFar) (fleet : Guests G) → guests ≡ [] → talks ≡ [] → table_of items guests talks fleet nothing_counted ≡ first_table items fleet
nobody_seated items guests talks fleet none no_talks = λ i. table_of items (none i) (no_talks i) fleet nothing_counted

-- ---- what stays within its bounds

-- Those that sit and what is kept of them are as many, no more than there are seats. Each command counted has a byte of a guest, and each guest refused is one counted.
pub record IsEven {G : Type 0} (table : Table G) : Type 0 where
  pub even : length table.talks ≡ length table.guests
  pub few : length table.guests ≤ most_seats
  pub bound : table.count.commands + rooms_of table.talks ≤ most * (table.count.guests + length table.guests)
  pub refused : table.count.refused ≤ table.count.guests

-- how far a service still is from its end at most: so many more may sit down, and so many bytes may still be read
abbrev pub weight : {G : Type 0} → ℕ → Table G → ℕ
weight asked table = 100_000_001 * (asked + most_seats - (table.count.guests + length table.guests)) + rooms_of table.talks

-- a turn keeps to the bounds, counts one guest at most, and brings the end nearer
pub record Lightens {G : Type 0} (a b : Table G) : Type 0 where
  pub keeps : IsEven b
  pub no_less : a.count.guests ≤ b.count.guests
  pub one : b.count.guests ≤ a.count.guests + 1
  pub lighter : (asked : ℕ) → a.count.guests < asked → weight asked b < weight asked a

pub nobody_even : {G : Type 0} (items : FencedItems) (guests : List G) (talks : List ReadSoFar) (fleet : Guests G) → guests ≡ [] → talks ≡ [] → IsEven (table_of items guests talks fleet nothing_counted)
nobody_even items guests talks fleet none no_talks = record {
  even = omega (arith, ap length none, ap length no_talks);
  few = omega (arith, ap length none);
  bound = omega (arith, ap length none, ap rooms_of no_talks);
  refused = omega arith;
}

-- room was made
record Frees {G : Type 0} (a b : Table G) : Type 0 where
  keeps : IsEven b
  free : length b.guests < most_seats
  no_less : a.count.guests ≤ b.count.guests
  one : b.count.guests ≤ a.count.guests + 1
  together : b.count.guests + length b.guests ≡ a.count.guests + length a.guests
  rooms : rooms_of b.talks ≤ rooms_of a.talks

frees : {G : Type 0} (a b : Table G) → IsEven a → MakesRoom a b → Frees a b
frees a b even (inl free) = subst (λ (t : Table _). Frees a t) (sym free.1) (record {
  keeps = even;
  free = free.0;
  no_less = omega arith;
  one = omega arith;
  together = refl;
  rooms = omega arith;
})
frees a b even (inr loses) =
    let some : 0 < length a.guests = omega (arith, loses.full) in
    let fewer = length_removed a.guests 0 some in
    let fewer_talks = length_removed a.talks 0 (omega (arith, even.even, some)) in
    subst (λ (t : Table _). Frees a t) (sym loses.left) (record {
      keeps = record {
        even = omega (arith, even.even, fewer, fewer_talks);
        few = omega (arith, even.few, fewer);
        bound = omega (arith, even.bound, fewer, rooms_less a.talks 0);
        refused = omega (arith, even.refused);
      };
      free = omega (arith, loses.full, fewer);
      no_less = omega arith;
      one = omega arith;
      together = omega (arith, fewer);
      rooms = rooms_less a.talks 0;
    })

sits_lighter : {G : Type 0} (a b c : Table G) (guest : G) → length a.guests ≤ most_seats → Frees a b → c ≡ with_seat b guest → Lightens a c
sits_lighter a b c guest few freed is =
    let more = length_push b.guests guest in
    let more_talks = length_push b.talks new_read_state in
    let rooms = rooms_push b.talks new_read_state in
    subst (λ (t : Table _). Lightens a t) (sym is) (record {
      keeps = record {
        even = omega (arith, freed.keeps.even, more, more_talks);
        few = omega (arith, freed.free, more);
        bound = omega (arith, freed.keeps.bound, more, rooms);
        refused = freed.keeps.refused;
      };
      no_less = freed.no_less;
      one = freed.one;
      lighter = λ asked less. omega (arith, less, few, more, rooms, freed.together, freed.rooms);
    })

one_at_most : (fault : Option ServeFault) → refused_by fault ≤ 1
one_at_most None = omega arith
one_at_most (Some fault) = omega arith

-- what a read leaves of what may be read, besides its commands
spent_by : (fault : Option ServeFault) (talk : Option ReadSoFar) (bytes rest : List ℕ) (room commands : ℕ) (left : Option (List ℕ)) → GoesFurther fault talk bytes rest (room - length bytes) left → length bytes ≤ room → 0 < room
    → commands ≤ length bytes → (commands + room_of talk ≤ room) × (room_of talk < room)
spent_by None None bytes rest room commands left further within some few = (omega (arith, within, few), some)
spent_by None (Some talk) bytes rest room commands left further within some few =
    let is : talk.room ≡ room - length bytes = ap (λ (t : ReadSoFar). t.room) further.2 in
    (omega (arith, is, within, few), omega (arith, is, within, further.0))
spent_by (Some (Frame fault)) talk bytes rest room commands left further within some few = (omega (arith, ap room_of further, within, few), omega (arith, ap room_of further, some))
spent_by (Some Read) talk bytes rest room commands left further within some few = (omega (arith, ap room_of further.0, within, few), omega (arith, ap room_of further.0, some))
spent_by (Some Write) talk bytes rest room commands left further within some few = (omega (arith, ap room_of further, within, few), omega (arith, ap room_of further, some))
spent_by (Some Long) talk bytes rest room commands left further within some few = (omega (arith, ap room_of further.0, within, few), omega (arith, ap room_of further.0, some))
spent_by (Some Memory) talk bytes rest room commands left further within some few = (omega (arith, ap room_of further, within, few), omega (arith, ap room_of further, some))

settled_lighter : {G : Type 0} (a : Table G) (place : ℕ) (items : FencedItems) (guest : G) (talk : ReadSoFar) (served : Served) (kept : Option ReadSoFar) → IsEven a → place < length a.guests → talk ≡ slice_index_or a.talks place talk
    → served.commands + room_of kept ≤ talk.room → room_of kept < talk.room → Lightens a (settled a place items guest (record { served = served; talk = kept }))
settled_lighter a place items guest talk served None even inside is spent less =
    let fewer = length_removed a.guests place inside in
    let inside_talks : place < length a.talks = omega (arith, even.even, inside) in
    let fewer_talks = length_removed a.talks place inside_talks in
    let rooms = rooms_removed a.talks place talk inside_talks is in
    record {
      keeps = record {
        even = omega (arith, even.even, fewer, fewer_talks);
        few = omega (arith, even.few, fewer);
        bound = omega (arith, even.bound, fewer, rooms, spent);
        refused = omega (arith, even.refused, one_at_most served.fault);
      };
      no_less = omega arith;
      one = omega arith;
      lighter = λ asked more. omega (arith, more, fewer, rooms, less);
    }
settled_lighter a place items guest talk served (Some now) even inside is spent less =
    let fewer = length_removed a.guests place inside in
    let inside_talks : place < length a.talks = omega (arith, even.even, inside) in
    let fewer_talks = length_removed a.talks place inside_talks in
    let rooms = rooms_removed a.talks place talk inside_talks is in
    let more = length_push (remove a.guests place) guest in
    let more_talks = length_push (remove a.talks place) now in
    let rooms_now = rooms_push (remove a.talks place) now in
    record {
      keeps = record {
        even = omega (arith, even.even, fewer, fewer_talks, more, more_talks);
        few = omega (arith, even.few, fewer, more);
        bound = omega (arith, even.bound, fewer, more, rooms, rooms_now, spent);
        refused = even.refused;
      };
      no_less = omega arith;
      one = omega arith;
      lighter = λ asked most_more. omega (arith, most_more, fewer, more, rooms, rooms_now, less);
    }

pub hears_lighter : {G : Type 0} (tells : Tells G) (a b : Table G) (heard : Heard) → IsEven a → HearsOne tells a heard b → Lightens a b
hears_lighter tells a b heard even one =
    let hears = one.hears.hears in
    let spent = spent_by heard.served.fault heard.talk one.hears.bytes hears.carried.rest one.talk.room heard.served.commands (tells.source one.guest_now).left hears.further one.hears.within one.some hears.few in
    subst (λ (t : Table _). Lightens a t) (sym one.behind) (settled_lighter a one.place one.items one.guest_now one.talk heard.served heard.talk even one.sits.0 one.kept.1 spent.0 spent.1)

pub turn_lighter : {G : Type 0} (tells : Tells G) (a b : Table G) → IsEven a → Turns tells a b → Lightens a b
turn_lighter tells a b even (inl sits) =
    let before : Table _ = record a { coming = sits.coming } in
    let same : IsEven before = record { even = even.even; few = even.few; bound = even.bound; refused = even.refused } in
    let freed = frees before sits.sits.between same sits.sits.room in
    let lightens = sits_lighter before sits.sits.between b sits.guest even.few freed sits.sits.sits in
    record { keeps = lightens.keeps; no_less = lightens.no_less; one = lightens.one; lighter = lightens.lighter }
turn_lighter tells a b even (inr hears) = hears_lighter tells a b hears.heard even hears.hears

-- however many turns there were
turns_even : {G : Type 0} (tells : Tells G) (a : Table G) (course : List (Table G)) (b : Table G) → IsEven a → TurnByTurn tells a course b → IsEven b
turns_even tells a [] b even row = subst (λ (t : Table _). IsEven t) (sym row) even
turns_even tells a (table ∷ later) b even row = turns_even tells table later b (turn_lighter tells a table even row.0).keeps row.1

pub few_from_first : {G : Type 0} (tells : Tells G) (items : FencedItems) (before : Guests G) (course : List (Table G)) (now : Table G) → TurnByTurn tells (first_table items before) course now → length now.guests ≤ most_seats
few_from_first tells items before course now goes = (turns_even tells (first_table items before) course now (nobody_even items [] [] before refl refl) goes).few

-- what a turn asks for is there
pub seats_of : {G : Type 0} (table : Table G) (guest_places talk_places visiting asked : ℕ) → IsEven table → most_seats ≤ guest_places → most_seats ≤ talk_places → length table.guests ≤ visiting
    → table.count.guests < asked → asked < 2 ^ 32 → HasSeats table.guests table.talks table.count guest_places talk_places visiting
seats_of table guest_places talk_places visiting asked even guests talks known more small = record {
  even = even.even;
  few = even.few;
  guest_room = guests;
  talk_room = talks;
  known = known;
  guest_more = omega (arith, more, small);
  refused_more = omega (arith, more, small, even.refused);
  commands_more = omega (arith, even.bound, even.few, more, small);
}

pub seats_known : {G : Type 0} (guests : List G) (talks : List ReadSoFar) (count : Service) (guest_places talk_places visiting now : ℕ) → now ≡ visiting → HasSeats guests talks count guest_places talk_places visiting → HasSeats guests talks count guest_places talk_places now
seats_known guests talks count guest_places talk_places visiting now is seats = subst (λ (v : ℕ). HasSeats guests talks count guest_places talk_places v) (sym is) seats

-- ---- the tables of a turn

-- where a guest is that was read
pub settled_is : {G : Type 0} (before : Table G) (place : ℕ) (items : FencedItems) (guest : G) (heard : Heard) (left guests : List G) (left_talks talks : List ReadSoFar) (coming : Option (List G)) (back : List G) (count : Service)
    → left ≡ remove before.guests place → left_talks ≡ remove before.talks place → guests ≡ guests_behind left guest heard.talk → talks ≡ talks_behind left_talks heard.talk → coming ≡ before.coming
    → back ≡ back_behind before.back guest heard.talk → count ≡ count_behind before.count heard.served heard.talk → table_of items guests talks (record { coming = coming; served = back }) count ≡ settled before place items guest heard
settled_is before place items guest heard left guests left_talks talks coming back count out out_talks guests_are talks_are coming_is back_is count_is =
    let all_guests = guests_are ∙ ap (λ (xs : List _). guests_behind xs guest heard.talk) out in
    let all_talks = talks_are ∙ ap (λ (xs : List ReadSoFar). talks_behind xs heard.talk) out_talks in
    λ i. record { items = items; guests = all_guests i; talks = all_talks i; coming = coming_is i; back = back_is i; count = count_is i }

-- a guest that sat down
pub seated_is : {G : Type 0} (between : Table G) (guest : G) (items : FencedItems) (guests : List G) (talks : List ReadSoFar) (coming : Option (List G)) (back : List G) (count : Service)
    → items ≡ between.items → guests ≡ between.guests ++ guest ∷ [] → talks ≡ between.talks ++ new_read_state ∷ [] → coming ≡ between.coming → back ≡ between.back → count ≡ between.count
    → table_of items guests talks (record { coming = coming; served = back }) count ≡ with_seat between guest
seated_is between guest items guests talks coming back count items_are guests_are talks_are coming_is back_is count_is =
    λ i. record { items = items_are i; guests = guests_are i; talks = talks_are i; coming = coming_is i; back = back_is i; count = count_is i }

-- a table in which nothing has changed but in name
pub same_table : {G : Type 0} (items : FencedItems) (guests guests' : List G) (talks talks' : List ReadSoFar) (coming coming' : Option (List G)) (back back' : List G) (count : Service)
    → guests' ≡ guests → talks' ≡ talks → coming' ≡ coming → back' ≡ back
    → table_of items guests' talks' (record { coming = coming'; served = back' }) count ≡ table_of items guests talks (record { coming = coming; served = back }) count
same_table items guests guests' talks talks' coming coming' back back' count guests_are talks_are coming_is back_is =
    λ i. record { items = items; guests = guests_are i; talks = talks_are i; coming = coming_is i; back = back_is i; count = count }

-- what follows from after a wait follows from before it
pub turn_waited : {G : Type 0} (tells : Tells G) (before waited now : Table G) (found : Option Service) → waited ≡ before → TakesTurn tells waited found now → TakesTurn tells before found now
turn_waited tells before waited now found is turn = subst (λ (t : Table _). TakesTurn tells t found now) is turn

pub stop_waited : {G : Type 0} (tells : Tells G) (before waited now : Table G) (why : ServiceFault) → waited ≡ before → StopsTurn tells waited why now → StopsTurn tells before why now
stop_waited tells before waited now why is stop = subst (λ (t : Table _). StopsTurn tells t why now) is stop

pub turn_found : {G E : Type 0} (tells : Tells G) (before waited now : Table G) (result : Result (Option Service) E) → waited ≡ before → IfOk result (λ found. TakesTurn tells waited found now) → IfOk result (λ found. TakesTurn tells before found now)
turn_found tells before waited now (Ok found) is turn = turn_waited tells before waited now found is turn
turn_found tells before waited now (Err why) is turn = tt

pub stop_found : {G : Type 0} (tells : Tells G) (before waited now : Table G) (result : Result (Option Service) ServiceFault) → waited ≡ before → IfErr result (λ why. StopsTurn tells waited why now) → IfErr result (λ why. StopsTurn tells before why now)
stop_found tells before waited now (Ok found) is stop = tt
stop_found tells before waited now (Err why) is stop = stop_waited tells before waited now why is stop

-- no guest came though a wait has said that one would: only where it isn't told who comes
pub none_came : {G : Type 0} (coming : Option (List G)) (guests : List G) → IfSome coming (λ gs. 0 < length gs) → IfSome coming (λ gs. length gs ≡ 0) → IfSome coming (λ gs. (length gs ≡ 0) × (length guests ≡ 0))
none_came None guests some none = tt
none_came (Some gs) guests some none = absurd (omega (arith, some, none))

pub none_of : {G : Type 0} (coming : Option (List G)) → IfSome coming (λ gs. gs ≡ []) → IfSome coming (λ gs. length gs ≡ 0)
none_of None none = tt
none_of (Some gs) none = ap length none

both_none : {G : Type 0} (coming : Option (List G)) (guests : List G) → length guests ≡ 0 → IfSome coming (λ gs. length gs ≡ 0) → IfSome coming (λ gs. (length gs ≡ 0) × (length guests ≡ 0))
both_none None guests nobody none = tt
both_none (Some gs) guests nobody none = (none, nobody)

pub none_waited : {G : Type 0} (coming : Option (List G)) (guests : List G) (woken : Waited) → woken ≡ NoMore → WaitsFor coming guests woken → IfSome coming (λ gs. (length gs ≡ 0) × (length guests ≡ 0))
none_waited coming guests woken is waits =
    let none : (length guests ≡ 0) × IfSome coming (λ gs. length gs ≡ 0) = subst (λ (w : Waited). WaitsFor coming guests w) is waits in
    both_none coming guests none.0 none.1

pub woken_behind : {G : Type 0} (coming coming' : Option (List G)) (guests guests' : List G) (woken : Waited) → coming' ≡ coming → guests ≡ guests' → WaitsFor coming guests woken → WaitsFor coming' guests' woken
woken_behind coming coming' guests guests' woken coming_is guests_are waits =
    subst (λ (c : Option (List _)). WaitsFor c guests' woken) (sym coming_is) (subst (λ (gs : List _). WaitsFor coming gs woken) guests_are waits)

pub came_waited : {G : Type 0} (coming : Option (List G)) (guests : List G) (woken : Waited) → woken ≡ Came → WaitsFor coming guests woken → IfSome coming (λ gs. 0 < length gs)
came_waited coming guests woken is waits = subst (λ (w : Waited). WaitsFor coming guests w) is waits

pub seat_waited : {G : Type 0} (coming : Option (List G)) (guests : List G) (woken : Waited) (place : ℕ) → woken ≡ Seat place → WaitsFor coming guests woken → place < length guests
seat_waited coming guests woken place is waits = subst (λ (w : Waited). WaitsFor coming guests w) is waits

-- the next guest sat down, or none came
pub seats_taken : {G : Type 0} (tells : Tells G) (before now : Table G) (found : Option Service) → IfSome before.coming (λ gs. 0 < length gs) → SeatsNext tells before found now → TakesTurn tells before found now
seats_taken tells before now (Some count) some next = inl next
seats_taken tells before now None some next = (next.0, none_came before.coming before.guests some next.1)

-- ---- the end of a service

pub found_turn : {G : Type 0} (tells : Tells G) (before now : Table G) (found : Option Service) (count : Service) → found ≡ Some count → TakesTurn tells before found now → Turns tells before (counted now count)
found_turn tells before now found count is turn = subst (λ (f : Option Service). TakesTurn tells before f now) is turn

module _ {G : Type 0} (tells : Tells G) (first before now : Table G) (asked : ℕ) (so_far : TurnsSoFar tells first before) (more : before.count.guests < asked) where
  -- no more come, and nobody sits
  pub no_more : (found : Option Service) → found ≡ None → TakesTurn tells before found now → ServesSeated tells first asked (Ok before.count) now.guests (record { coming = now.coming; served = now.back })
  no_more found is turn =
      let none : (now ≡ before) × IfSome before.coming (λ later. (length later ≡ 0) × (length before.guests ≡ 0)) = subst (λ (f : Option Service). TakesTurn tells before f now) is turn in
      record { course = so_far.course; end = before; last = now; goes = so_far.goes; ends = (none.0, refl, inr (more, none.1)); sits = refl; coming = refl; back = refl }

  -- or there was a fault
  pub stopped : (why : ServiceFault) → StopsTurn tells before why now → ServesSeated tells first asked (Err why) now.guests (record { coming = now.coming; served = now.back })
  stopped Fleet stop = record { course = so_far.course; end = before; last = now; goes = so_far.goes; ends = (stop, more); sits = refl; coming = refl; back = refl }
  stopped NoMemory stop = record {
    course = so_far.course;
    end = before;
    last = counted now stop.1;
    goes = so_far.goes;
    ends = inr (record { heard = stop.0; no_room = stop.2; hears = stop.3; more = more });
    sits = refl;
    coming = refl;
    back = refl;
  }

-- all that were asked for were served
pub all_served : {G : Type 0} (tells : Tells G) (first now : Table G) (asked : ℕ) → TurnsSoFar tells first now → now.count.guests ≤ asked → asked ≤ now.count.guests
    → ServesSeated tells first asked (Ok now.count) now.guests (record { coming = now.coming; served = now.back })
all_served tells first now asked so_far within enough = record {
  course = so_far.course;
  end = now;
  last = now;
  goes = so_far.goes;
  ends = (refl, refl, inl (omega (arith, within, enough)));
  sits = refl;
  coming = refl;
  back = refl;
}

-- ---- causes

pub cause_since : {X : Type 0} (result : Result X ServiceFault) (a b c : ℕ) → a ≤ b → IfErr result (λ why. why ≡ Fleet → Rose b c) → IfErr result (λ why. why ≡ Fleet → Rose a c)
cause_since (Ok x) a b c no_less cause = tt
cause_since (Err why) a b c no_less cause = λ is. rose_since a b c no_less (cause is)

pub never_fleet : {X : Type 0} (result : Result X ServiceFault) (P : Type 0) → IfErr result (λ why. why ≢ Fleet) → IfErr result (λ why. why ≡ Fleet → P)
never_fleet (Ok x) P never = tt
never_fleet (Err why) P never = λ is. absurd (never is)

memory_no_fleet : NoMemory ≡ Fleet → ⊥
memory_no_fleet is = cc

pub not_fleet : (why : ServiceFault) → why ≡ NoMemory → why ≡ Fleet → ⊥
not_fleet why memory fleet = memory_no_fleet (sym memory ∙ fleet)

pub cause_until : {X : Type 0} (result : Result X ServiceFault) (a b c : ℕ) → b ≤ c → IfErr result (λ why. why ≡ Fleet → Rose a b) → IfErr result (λ why. why ≡ Fleet → Rose a c)
cause_until (Ok x) a b c no_less cause = tt
cause_until (Err why) a b c no_less cause = λ is. rose_until a b c (cause is) no_less

pub fleet_cause : (result : Result Service ServiceFault) (P : Type 0) → IfErr result (λ why. why ≡ Fleet → P) → IsErrOf result Fleet → P
fleet_cause result P cause is = subst (λ (r : Result Service ServiceFault). IfErr r (λ why. why ≡ Fleet → P)) is cause refl
