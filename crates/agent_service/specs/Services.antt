-- What the serving of guests by one agent comes to, several of them at once, whose commands may name a term.
use Rattle.std.specs.Prelude.{◌≡◌, ◌≢◌, ◌⊎◌, ℕ, ◌+◌, ◌<◌, ◌≤◌, List, [], ◌∷◌, ◌++◌, length, slice_index_or, Option, Some, None, IfSome, Result, Ok, Err}
use Rattle.std.specs.List.{remove}
use Rattle.wan_edge.specs.Fleets.{FleetTrace, GivesGuest}
use Rattle.wan_edge.specs.Streams.{Rose, SinkTrace, SourceTrace}
use Rattle.fenced_agent.specs.Agents.{FencedItems}
use Rattle.switch_agent.specs.Items.{most_items}
use Rattle.agent_talks.specs.Serving.{HearsGuest}
use Rattle.switch_agent.specs.ReadStates.{ReadSoFar, new_read_state}
use Rattle.agent_talks.specs.declared.heard.Heard.{Heard}
use Rattle.switch_agent.specs.declared.serve_fault.ServeFault.TheVariants.{Memory as NoRoom, Read, Write}
use Rattle.switch_agent.specs.declared.serve_fault.Served.{Served}
use Rattle.agent_service.specs.declared.service.Service.{Service}
use Rattle.agent_service.specs.declared.service.ServiceFault.{ServiceFault}
use Rattle.agent_service.specs.declared.service.ServiceFault.TheVariants.{Fleet, Memory}

-- how many guests sit at once at most
abbrev pub most_seats : ℕ
most_seats = 64

-- what guests tell, as sources and as sinks
pub record Tells (G : Type 0) : Type 0 where
  pub source : G → SourceTrace
  pub sink : G → SinkTrace

-- the guests of a fleet: those to come, where they are told, and those given back
pub record Guests (G : Type 0) : Type 0 where
  pub coming : Option (List G)
  pub served : List G

-- what a fleet tells of these
abbrev pub guests_of : {P G : Type 0} → FleetTrace P G → Guests G
guests_of fleet = record { coming = fleet.coming; served = fleet.served }

-- One moment of a service: the floor of the agent and what it holds; the guests that sit, from the one that has said nothing for longest to the one that spoke last, and what is
-- kept of each of them; who is to come, where that is told; who was given back; and what was counted.
pub record Table (G : Type 0) : Type 0 where
  pub items : FencedItems
  pub guests : List G
  pub talks : List ReadSoFar
  pub coming : Option (List G)
  pub back : List G
  pub count : Service

abbrev pub table_of : {G : Type 0} → FencedItems → List G → List ReadSoFar → Guests G → Service → Table G
table_of items guests talks fleet count = record { items = items; guests = guests; talks = talks; coming = fleet.coming; back = fleet.served; count = count }

-- the same with another count
abbrev pub counted : {G : Type 0} → Table G → Service → Table G
counted table count = record table { count = count }

-- ---- what is counted

abbrev pub nothing_counted : Service
nothing_counted = record { guests = 0; commands = 0; refused = 0 }

-- a guest that wasn't served to its end counts as one refused
abbrev pub refused_by : {F : Type 0} → Option F → ℕ
refused_by None = 0
refused_by (Some fault) = 1

-- with commands that were carried out, those that changed nothing among them
abbrev pub with_commands : Service → ℕ → Service
with_commands service commands = record { guests = service.guests; commands = service.commands + commands; refused = service.refused }

-- with one more guest, by whose last read this was carried out
abbrev pub with_guest : Service → Served → Service
with_guest service served = record { guests = service.guests + 1; commands = service.commands + served.commands; refused = service.refused + refused_by served.fault }

-- with one more guest, that was sent away
abbrev pub with_refused : Service → Service
with_refused service = record { guests = service.guests + 1; commands = service.commands; refused = service.refused + 1 }

-- ---- what happens

-- at a place of a row stands this
abbrev pub IsAt : {X : Type 0} → List X → ℕ → X → Type 0
IsAt row place x = (place < length row) × (x ≡ slice_index_or row place x)

-- The guest that has said nothing for longest left: it was given back, and counts as one refused.
pub record LosesFirst {G : Type 0} (before now : Table G) : Type 0 where
  pub first : G
  pub full : length before.guests ≡ most_seats
  pub is_first : IsAt before.guests 0 first
  pub left : now ≡ record before { guests = remove before.guests 0; talks = remove before.talks 0; back = before.back ++ first ∷ []; count = with_refused before.count }

-- a seat is free; where all were taken, the guest that had said nothing for longest has left its own
abbrev pub MakesRoom : {G : Type 0} → Table G → Table G → Type 0
MakesRoom before now = ((length before.guests < most_seats) × (now ≡ before)) ⊎ LosesFirst before now

-- this guest sits after all others, and nothing of it was read
abbrev pub with_seat : {G : Type 0} → Table G → G → Table G
with_seat table guest = record table { guests = table.guests ++ guest ∷ []; talks = table.talks ++ new_read_state ∷ [] }

-- A guest sat down where there was room, or room was made: only then does one leave that is silent.
pub record SitsFrom {G : Type 0} (before : Table G) (guest : G) (now : Table G) : Type 0 where
  pub between : Table G
  pub room : MakesRoom before between
  pub sits : now ≡ with_seat between guest

-- The next guest came, and sat down.
pub record SitsDown {G : Type 0} (tells : Tells G) (before now : Table G) : Type 0 where
  pub guest : G
  pub coming : Option (List G)
  pub given : GivesGuest tells.source tells.sink before.coming guest coming
  pub sits : SitsFrom (record before { coming = coming }) guest now

-- a guest that is read further sits after all others then: it spoke last
abbrev pub guests_behind : {G : Type 0} → List G → G → Option ReadSoFar → List G
guests_behind guests guest None = guests
guests_behind guests guest (Some talk) = guests ++ guest ∷ []

abbrev pub talks_behind : List ReadSoFar → Option ReadSoFar → List ReadSoFar
talks_behind talks None = talks
talks_behind talks (Some talk) = talks ++ talk ∷ []

-- one that isn't was given back
abbrev pub back_behind : {G : Type 0} → List G → G → Option ReadSoFar → List G
back_behind back guest None = back ++ guest ∷ []
back_behind back guest (Some talk) = back

-- and counts then, while its commands count as they are carried out
abbrev pub count_behind : Service → Served → Option ReadSoFar → Service
count_behind count served None = with_guest count served
count_behind count served (Some talk) = with_commands count served.commands

-- where a guest that sat at a place is then, what is kept of it, and what is counted
abbrev pub settled : {G : Type 0} → Table G → ℕ → FencedItems → G → Heard → Table G
settled table place items guest heard = record {
  items = items;
  guests = guests_behind (remove table.guests place) guest heard.talk;
  talks = talks_behind (remove table.talks place) heard.talk;
  coming = table.coming;
  back = back_behind table.back guest heard.talk;
  count = count_behind table.count heard.served heard.talk;
}

-- One of the guests that sit was read once, by what was kept of it alone; its commands were carried out and answered by the floor and what was held then, whoever
-- brought it about. A fault of reading or of writing came only where the count of these rose. The agent keeps no more items than a document within the limits has,
-- whatever came.
pub record HearsOne {G : Type 0} (tells : Tells G) (before : Table G) (heard : Heard) (now : Table G) : Type 0 where
  pub place : ℕ
  pub guest : G
  pub talk : ReadSoFar
  pub sits : IsAt before.guests place guest
  pub kept : IsAt before.talks place talk
  pub some : 0 < talk.room
  pub guest_now : G
  pub items : FencedItems
  pub hears : HearsGuest before.items items talk (tells.source guest) (tells.source guest_now) heard (tells.sink guest).written (tells.sink guest_now).written
  pub read_cause : heard.served.fault ≡ Some Read → Rose (tells.source guest).faults (tells.source guest_now).faults
  pub write_cause : heard.served.fault ≡ Some Write → Rose (tells.sink guest).faults (tells.sink guest_now).faults
  pub few : length items.items ≤ most_items
  pub behind : now ≡ settled before place items guest_now heard

-- the same, and memory was found for each item that was named
pub record HearsWell {G : Type 0} (tells : Tells G) (before now : Table G) : Type 0 where
  pub heard : Heard
  pub found : heard.served.fault ≢ Some NoRoom
  pub hears : HearsOne tells before heard now

-- what happens at once: a guest sits down, or one is read
abbrev pub Turns : {G : Type 0} → Tells G → Table G → Table G → Type 0
Turns tells before now = SitsDown tells before now ⊎ HearsWell tells before now

-- one turn after the other, each with what stands after it
abbrev pub TurnByTurn : {G : Type 0} → Tells G → Table G → List (Table G) → Table G → Type 0
TurnByTurn tells before [] now = now ≡ before
TurnByTurn tells before (table ∷ later) now = Turns tells before table × TurnByTurn tells table later now

-- ---- how a service ends

-- a guest named an item for which no memory was found
pub record WantsMemory {G : Type 0} (tells : Tells G) (asked : ℕ) (end last : Table G) : Type 0 where
  pub heard : Heard
  pub no_room : heard.served.fault ≡ Some NoRoom
  pub hears : HearsOne tells end heard last
  pub more : end.count.guests < asked

-- So many guests were served as were asked for; or fewer, since no more come and nobody sits.
abbrev pub HasServed : {G : Type 0} → ℕ → Table G → Type 0
HasServed asked end = (end.count.guests ≡ asked) ⊎ ((end.count.guests < asked) × IfSome end.coming (λ later. (length later ≡ 0) × (length end.guests ≡ 0)))

-- Why a service ended: so many guests were served as were asked for; fewer, since no more come and nobody sits; the fleet failed; or memory wasn't found, for
-- an item that the last read named, or for the seats before anybody came.
abbrev pub EndsSo : {G : Type 0} → Tells G → ℕ → List (Table G) → Table G → Result Service ServiceFault → Table G → Type 0
EndsSo tells asked course end (Ok service) last =
    (last ≡ end) × (service ≡ end.count) × HasServed asked end
EndsSo tells asked course end (Err Fleet) last = (last ≡ end) × (end.count.guests < asked)
EndsSo tells asked course end (Err Memory) last = ((length course ≡ 0) × (last ≡ end)) ⊎ WantsMemory tells asked end last

-- those given back, and these after them, from the last on: a service that ends gives all back that sit
abbrev pub after_leaving : {G : Type 0} → List G → List G → List G
after_leaving back [] = back
after_leaving back (guest ∷ guests) = after_leaving back guests ++ guest ∷ []

-- before anybody came
abbrev pub first_table : {G : Type 0} → FencedItems → Guests G → Table G
first_table items guests = table_of items [] [] guests nothing_counted

-- From these items guests were served turn by turn, and the service ended so. Whoever sat then was given back, and counts no further.
pub record ServesBy {G : Type 0} (tells : Tells G) (items : FencedItems) (before now : Guests G) (asked : ℕ) (result : Result Service ServiceFault) : Type 0 where
  pub course : List (Table G)
  pub end : Table G
  pub last : Table G
  pub goes : TurnByTurn tells (first_table items before) course end
  pub ends : EndsSo tells asked course end result last
  pub coming : now.coming ≡ last.coming
  pub back : now.served ≡ after_leaving last.back last.guests

-- no term heard, and no item held
abbrev pub no_items : FencedItems
no_items = record { floor = 0; items = [] }

-- from no term heard and no item held
abbrev pub Serves : {G : Type 0} → Tells G → Guests G → Guests G → ℕ → Result Service ServiceFault → Type 0
Serves tells before now asked result = ServesBy tells no_items before now asked result

-- The same while the guests still sit, from this moment to that.
pub record ServesSeated {G : Type 0} (tells : Tells G) (first : Table G) (asked : ℕ) (result : Result Service ServiceFault) (guests : List G) (now : Guests G) : Type 0 where
  pub course : List (Table G)
  pub end : Table G
  pub last : Table G
  pub goes : TurnByTurn tells first course end
  pub ends : EndsSo tells asked course end result last
  pub sits : last.guests ≡ guests
  pub coming : last.coming ≡ now.coming
  pub back : last.back ≡ now.served

-- ---- one turn

-- a turn, or nothing happened, since no more come and nobody sits
abbrev pub TakesTurn : {G : Type 0} → Tells G → Table G → Option Service → Table G → Type 0
TakesTurn tells before (Some count) now = Turns tells before (counted now count)
TakesTurn tells before None now = (now ≡ before) × IfSome before.coming (λ later. (length later ≡ 0) × (length before.guests ≡ 0))

-- nothing happened, since the fleet failed; or a guest was read that named an item for which no memory was found
abbrev pub StopsTurn : {G : Type 0} → Tells G → Table G → ServiceFault → Table G → Type 0
StopsTurn tells before Fleet now = now ≡ before
StopsTurn tells before Memory now = (heard : Heard) × (count : Service) × (heard.served.fault ≡ Some NoRoom) × HearsOne tells before heard (counted now count)

-- a guest sat down, or nothing happened, since no more come
abbrev pub SeatsNext : {G : Type 0} → Tells G → Table G → Option Service → Table G → Type 0
SeatsNext tells before (Some count) now = SitsDown tells before (counted now count)
SeatsNext tells before None now = (now ≡ before) × IfSome before.coming (λ later. length later ≡ 0)

-- ---- what a service keeps to

-- how many bytes may still be read of all of these
abbrev pub rooms_of : List ReadSoFar → ℕ
rooms_of [] = 0
rooms_of (talk ∷ talks) = talk.room + rooms_of talks
