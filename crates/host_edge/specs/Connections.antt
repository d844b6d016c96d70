-- What a port makes of its connections, one after the other.
use Rattle.std.specs.Prelude.{◌≡◌, ◌⊎◌, ℕ, List, [], ◌++◌, Option, Some, None, IfSome}
use Rattle.std.specs.Option.{option_map}
use Rattle.host_edge.specs.Inboxes.{GivesOn, Held, nothing_in}
use Rattle.host_edge.specs.Outboxes.{Offers, nothing_sent}
use Rattle.host_edge.specs.declared.connection.Connection.{Connection}
use Rattle.host_edge.specs.declared.outbox.Outbox.{Outbox}

-- what came over the connection that there is, and wasn't given on
abbrev pub inbox_of : {S : Type 0} → Option (Connection S) → Held
inbox_of None = nothing_in
inbox_of (Some connection) = connection.inbox

-- all that came over it
abbrev pub came_over : {S : Type 0} → Option (Connection S) → List ℕ
came_over None = []
came_over (Some connection) = connection.came

-- what was sent over it
abbrev pub outbox_of : {S : Type 0} → Option (Connection S) → Outbox
outbox_of None = nothing_sent
outbox_of (Some connection) = connection.outbox

-- the stream of the connection that there is, with what came over it and what was sent
abbrev pub way_of : {S : Type 0} → Option (Connection S) → Option (S × Held × List ℕ × Outbox)
way_of connection = option_map (λ c. (c.stream, c.inbox, c.came, c.outbox)) connection

-- nothing came over the connection, and nothing was sent, or there is none
pub record IsFresh {S : Type 0} (connection : Option (Connection S)) : Type 0 where
  pub inbox : inbox_of connection ≡ nothing_in
  pub came : came_over connection ≡ []
  pub outbox : outbox_of connection ≡ nothing_sent

-- the connection is the same one, or one over which nothing went, or there is none
abbrev pub StaysOrIsNew : {S : Type 0} → Option (Connection S) → Option (Connection S) → Type 0
StaysOrIsNew before now = (way_of now ≡ way_of before) ⊎ IsFresh now

-- Bytes of whole answers were given on: those that were ready, and what became whole with a piece that came now, over the same connection
-- or over one of which nothing was read.
pub record HearsOver {S : Type 0} (before : Option (Connection S)) (given : List ℕ) (now : Option (Connection S)) : Type 0 where
  pub start : Held
  pub earlier : List ℕ
  pub from : ((start ≡ inbox_of before) × (earlier ≡ came_over before)) ⊎ ((start ≡ nothing_in) × (earlier ≡ []))
  pub piece : List ℕ
  pub came : came_over now ≡ earlier ++ piece
  pub given_on : GivesOn start piece given (inbox_of now)

-- The bytes were offered over the connection that there is, which is the same one, or one to which nothing was written. Where there is none they
-- are lost.
pub record OffersOver {S : Type 0} (before : Option (Connection S)) (bytes : List ℕ) (now : Option (Connection S)) : Type 0 where
  pub start : Outbox
  pub from : (start ≡ outbox_of before) ⊎ (start ≡ nothing_sent)
  pub offered : IfSome now (λ connection. Offers bytes start connection.outbox)
