-- What a round comes to between the ports of a worker.
use Rattle.std.specs.Prelude.{ℕ, List, Option}
use Rattle.wan_edge.specs.Frames.{Answer, Command}
use Rattle.wan_edge.specs.Ports.{PortTrace}
use Rattle.port_session.specs.Sessions.{SessionView}
use Rattle.shared_book.specs.declared.note.Cause.{Cause}
use Rattle.switch_ports.specs.Rows.{HearsEach, IsCauseOfHear, IsCauseOfOffer, ListensEach, OffersAllEach, OffersEach}

-- The commands go out, and what comes is told. Ports are apart, so this says nothing of the order between an offer at one and a hear at another.
pub record Exchanges {P : Type 0} (tell : P → PortTrace) (migration : ℕ) (homes : List (Option ℕ)) (before : List (SessionView P)) (commands : List Command) (told : List Answer) (now : List (SessionView P)) : Type 0 where
  pub offered : List (SessionView P)
  pub offers : OffersAllEach tell migration homes commands before offered
  pub hears : HearsEach tell migration homes offered now told

-- It ends early: a cause stopped it while it offered, or while it heard.
pub record StopsInOffer {P : Type 0} (tell : P → PortTrace) (migration : ℕ) (homes : List (Option ℕ)) (why : Cause) (before : List (SessionView P)) (commands : List Command) (now : List (SessionView P)) : Type 0 where
  pub offers : OffersEach tell migration homes commands before now
  pub cause : IsCauseOfOffer tell why before now

pub record StopsInHear {P : Type 0} (tell : P → PortTrace) (migration : ℕ) (homes : List (Option ℕ)) (why : Cause) (before : List (SessionView P)) (commands : List Command) (now : List (SessionView P)) : Type 0 where
  pub offered : List (SessionView P)
  pub offers : OffersAllEach tell migration homes commands before offered
  pub listens : ListensEach tell offered now
  pub cause : IsCauseOfHear tell migration homes why offered now
