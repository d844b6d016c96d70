-- Why a takeover doesn't begin, where the switches didn't tell what they hold.
use Rattle.std.specs.Prelude.{ℕ}
use Rattle.held_service.specs.declared.not_told.NotTold.{NotTold}
use Rattle.held_service.specs.declared.not_told.NotTold.TheVariants as cause
use Rattle.fence_takeover.specs.declared.end.FenceEnd.{FenceEnd}
use Rattle.fence_takeover.specs.declared.end.FenceEnd.TheVariants as fence

abbrev pub end_of : ℕ → NotTold → FenceEnd
end_of rounds (cause.Spent item) = fence.Spent rounds item
end_of rounds (cause.NoPort switch) = fence.NoPort switch
end_of rounds (cause.Port switch) = fence.Port switch
end_of rounds (cause.NotAsked switch item) = fence.NotMine switch item
end_of rounds (cause.NoAnswer switch byte) = fence.NoAnswer switch byte
end_of rounds cause.Memory = fence.Memory
