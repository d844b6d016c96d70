-- The byte that a fault of frames speaks of.
use Rattle.std.specs.Prelude.{ℕ}
use Rattle.wire_frames.specs.declared.fault.FrameFault.{FrameFault}
use Rattle.wire_frames.specs.declared.fault.FrameFault.TheVariants.{Count, Kind}

-- the byte that can't stand where it stands
abbrev pub byte_of : FrameFault → ℕ
byte_of (Kind byte) = byte
byte_of (Count byte) = byte
