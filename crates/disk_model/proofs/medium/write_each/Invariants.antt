use Rattle.std.proofs.Common.{◌≡◌, drop}
use Rattle.disk_model.specs.Logs.{applied}
use Rattle.disk_model.proofs.medium.write_each.Given as goal

-- the writes that are left make of the bytes what all would have made
abbrev pub invariant-loop-write : goal.invariant-loop-write
invariant-loop-write l = applied l.bytes.items (drop l.write-index l.writes) ≡ applied l.fn.bytes.items l.fn.writes
