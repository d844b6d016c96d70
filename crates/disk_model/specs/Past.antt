-- Since the last moment of a timeline there is the medium as it stands alone.
use Rattle.std.specs.Prelude.{ℕ, List, [], ◌∷◌, length, drop}
use mathlib.Core.Logic.{inl, inr}
use Rattle.disk_model.specs.Memory.{LeftSince, Medium, MayHaveLeft, MayLeave, Timeline}

none_later : (past : List Medium) (c : List ℕ) → MayHaveLeft (drop (length past) past) c → ⊥
none_later [] c left = left
none_later (was ∷ past) c left = none_later past c left

pub only_now : (timeline : Timeline) (c : List ℕ) → LeftSince timeline (length timeline.past) c → MayLeave timeline.medium c
only_now timeline c (inl now) = now
only_now timeline c (inr earlier) = absurd (none_later timeline.past c earlier)
