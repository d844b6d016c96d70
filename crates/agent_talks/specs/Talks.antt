-- What is kept between two reads of a guest whose commands may name a term.
use Rattle.std.specs.Prelude.{ℕ, ◌<◌, ◌≤◌, IsTrue}
use Rattle.wan_edge.specs.Frames.{IsCut}
use Rattle.switch_agent.specs.ReadStates.{most}
use Rattle.fenced_agent.specs.Frames.{IsTermedCommand, termed_bytes}
use Rattle.fenced_wire.specs.Reading.{Termed, all_kept}

-- what holds of it in the code: there was no fault, the command isn't whole, and some more may be read
pub record IsTalk (reader : Termed) (room : ℕ) : Type 0 where
  pub live : IsTrue reader.live
  pub cut : IsCut termed_bytes IsTermedCommand (all_kept reader)
  pub some : 0 < room
  pub few : room ≤ most
