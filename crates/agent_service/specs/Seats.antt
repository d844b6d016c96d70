-- What the seats of a service keep to, so that nothing is short and no count runs over.
use Rattle.std.specs.Prelude.{◌≡◌, ℕ, ◌+◌, ◌<◌, ◌≤◌, ◌^◌, List, length}
use Rattle.switch_agent.specs.ReadStates.{ReadSoFar}
use Rattle.agent_service.specs.Services.{most_seats, rooms_of}
use Rattle.agent_service.specs.declared.service.Service.{Service}

-- The guests that sit and what is kept of them are as many, no more than there are seats; each list has the places for all, and the fleet knows of each of them.
-- There is room in the counts for one guest more, and for a command with each byte that may still be read.
pub record HasSeats {G : Type 0} (guests : List G) (talks : List ReadSoFar) (count : Service) (guest_places talk_places visiting : ℕ) : Type 0 where
  pub even : length talks ≡ length guests
  pub few : length guests ≤ most_seats
  pub guest_room : most_seats ≤ guest_places
  pub talk_room : most_seats ≤ talk_places
  pub known : length guests ≤ visiting
  pub guest_more : count.guests + 1 < 2 ^ 32
  pub refused_more : count.refused + 1 < 2 ^ 32
  pub commands_more : count.commands + rooms_of talks < 2 ^ 64
