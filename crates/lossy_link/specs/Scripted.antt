-- What a scripted port is seen as, and what it keeps.
use Rattle.std.specs.Prelude.{◌≡◌, ℕ, Bool, false, List, [], length, min}
use Rattle.wan_edge.specs.Frames.{CommandFrame}
use Rattle.wan_edge.specs.Ports.{AnswersHeld}
use Rattle.switch_agent.specs.Items.{holding}
use Rattle.lossy_link.specs.Counting.{Counts, no_counts}
use Rattle.lossy_link.specs.Incoming.{IsTaken, Stream}
use Rattle.lossy_link.specs.Traffic.{LineState, Traffic, after_sendings, after_turn, no_traffic, traffic_of}
use Rattle.lossy_link.specs.WayBack.{after_hearing}
use Rattle.lossy_link.specs.declared.fate.Fate.{Fate}

-- the bytes offered, the line by which commands and answers go, whether memory ran out, and the counts
pub record Scripted : Type 0 where
  pub offered : List ℕ
  pub line : LineState
  pub down : Bool
  pub counts : Counts

-- nothing was offered yet
pub record IsFresh (fates : List Fate) (port : Scripted) : Type 0 where
  pub offered : port.offered ≡ []
  pub traffic : traffic_of port.line ≡ no_traffic fates
  pub up : port.down ≡ false
  pub counts : port.counts ≡ no_counts

-- these commands were sent, one after the other
abbrev pub AreSent : Traffic → Traffic → List CommandFrame → Type 0
AreSent traffic traffic_now commands = traffic_now ≡ after_sendings traffic commands

-- a hear, for which there was so much room, gave so many of the bytes that were there once it had begun: all, or as many as there was room for
pub record HearsNext (room count : ℕ) (traffic traffic_now : Traffic) : Type 0 where
  pub most : count ≡ min room (length (after_turn traffic).back.due)
  pub heard : traffic_now ≡ record (after_turn traffic) { back = after_hearing (after_turn traffic).back count }

-- All bytes offered were taken, as long as there is memory. No answer heard says more than is held.
pub record IsScripted (stream : Stream) (line : LineState) (down : Bool) : Type 0 where
  pub taken : IsTaken stream down
  pub honest : AnswersHeld line.back.heard (holding line.items)
