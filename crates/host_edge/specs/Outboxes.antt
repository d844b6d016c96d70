-- What offers send over one connection.
use Rattle.std.specs.Prelude.{◌≡◌, ◌⊎◌, ℕ, ◌+◌, List, [], ◌++◌, true, false}
use Rattle.std.specs.Bool.{OnTrue}
use Rattle.host_edge.specs.Histories.{AddsFront}
use Rattle.host_edge.specs.declared.outbox.Outbox.{Outbox}

-- of a new connection
abbrev pub nothing_sent : Outbox
nothing_sent = record { is_whole = true; sent = []; late = 0 }

-- all the bytes were sent, or none of them, which is counted as late
abbrev pub SendsAllOrNone : List ℕ → Outbox → Outbox → Type 0
SendsAllOrNone bytes before now = ((now.sent ≡ before.sent ++ bytes) × (now.late ≡ before.late)) ⊎ ((now.sent ≡ before.sent) × (now.late ≡ before.late + 1))

-- The first of the bytes were sent: all or none of them where more can be sent after them. Where nothing is sent any more, nothing was.
pub record Offers (bytes : List ℕ) (before now : Outbox) : Type 0 where
  pub front : AddsFront before.sent bytes now.sent
  pub whole : OnTrue now.is_whole (SendsAllOrNone bytes before now)
  pub over : before.is_whole ≡ false → now ≡ before
