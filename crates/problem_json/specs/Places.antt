-- The places of an input.
use Rattle.std.specs.Prelude.{ℕ}
use Rattle.problem_json.specs.declared.place.Place.{Place}
use Rattle.problem_json.specs.declared.place.Part.{Part}

-- a part that no number leads to
abbrev pub place_of : Part → Place
place_of what = record { part = what; a = 0; b = 0; c = 0 }

-- a part of the a-th switch, link, flow, stage or event
abbrev pub place_at : Part → ℕ → Place
place_at what m = record { part = what; a = m; b = 0; c = 0 }

-- a part of the a-th flow's b-th tunnel, or the b-th element of the a-th stage's list
abbrev pub place_in : Part → ℕ → ℕ → Place
place_in what m n = record { part = what; a = m; b = n; c = 0 }

-- the c-th name on the path of the a-th flow's b-th tunnel
abbrev pub place_along : Part → ℕ → ℕ → ℕ → Place
place_along what m n h = record { part = what; a = m; b = n; c = h }
