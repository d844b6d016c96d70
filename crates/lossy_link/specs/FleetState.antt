-- What a fleet in memory is seen as.
use Rattle.std.specs.Prelude.{ℕ, ◌+◌, ◌-◌, ◌<◌, ◌≤◌, ◌^◌, Bool, List, [], ◌∷◌, ◌++◌, Option, Some, None}
use Rattle.lossy_link.specs.PortPlaces.{Places}
use Rattle.lossy_link.specs.Guests.{Visit}
use Rattle.lossy_link.specs.Names.{NameRows}

-- the guests still to be given and those given back, in order, and how many were given and not given back
pub record Visits : Type 0 where
  pub coming : List Visit
  pub served : List Visit
  pub visiting : ℕ

-- the guest that comes first, where one comes
abbrev pub first_guest : List Visit → Option Visit
first_guest [] = None
first_guest (guest ∷ later) = Some guest

-- what these become once the first of those to come was given
abbrev pub given_first : Visits → List Visit → Visits
given_first guests [] = guests
given_first guests (guest ∷ later) = record { coming = later; served = guests.served; visiting = guests.visiting + 1 }

-- after a guest was given, where one comes
abbrev pub after_guest : Visits → Visits
after_guest guests = given_first guests guests.coming

-- after this guest was given back
abbrev pub after_visit : Visits → Visit → Visits
after_visit guests guest = record { coming = guests.coming; served = guests.served ++ guest ∷ []; visiting = guests.visiting - 1 }

-- there is a place for each guest that may be given back, beside those that were
pub record HasPlaces (guests served capacity : ℕ) : Type 0 where
  pub room : served + guests ≤ capacity
  pub counted : guests < 2 ^ 64

-- the places of the switches and their names, the guests, whether to give one fails, and how often a call has failed
pub record FleetState (P : Type 0) : Type 0 where
  pub places : Places P
  pub names : NameRows
  pub guests : Visits
  pub guests_fail : Bool
  pub faults : ℕ
