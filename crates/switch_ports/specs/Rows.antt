-- What a round makes of the ports in a row.
use Rattle.std.specs.Prelude.{◌≡◌, ◌⊎◌, ℕ, List, [], ◌∷◌, ◌++◌, Option}
use Rattle.std.specs.List.{AllZip}
use Rattle.wan_edge.specs.Frames.{Answer, Command}
use Rattle.wan_edge.specs.Ports.{PortTrace}
use Rattle.shared_book.specs.declared.note.Cause.{Cause}
use Rattle.shared_book.specs.declared.note.Cause.TheVariants as cause
use Rattle.port_session.specs.Sessions.{SessionView}
use Rattle.switch_ports.specs.Views.{view}
use Rattle.switch_ports.specs.Outboxes.{own}
use Rattle.switch_ports.specs.Offering.{IsOfferCause, Offers, OffersAll}
use Rattle.switch_ports.specs.Hearing.{HearsOut, IsHearCause, Listens}

-- a relation holds at one place of two rows
abbrev pub AtOne : {A : Type 0} → (A → A → Type 0) → List A → List A → Type 0
AtOne R [] [] = ⊥
AtOne R [] (b ∷ bs) = ⊥
AtOne R (a ∷ ps) [] = ⊥
AtOne R (a ∷ ps) (b ∷ bs) = R a b ⊎ AtOne R ps bs

-- Memory may run out before the first port and at any, and every other cause holds of one port.
abbrev pub AtOneOrMemory : {A : Type 0} → (A → A → Type 0) → Cause → List A → List A → Type 0
AtOneOrMemory R (cause.Spent rounds item number) ps bs = AtOne R ps bs
AtOneOrMemory R (cause.Port switch) ps bs = AtOne R ps bs
AtOneOrMemory R (cause.Above item held begun) ps bs = AtOne R ps bs
AtOneOrMemory R (cause.NotMine switch item) ps bs = AtOne R ps bs
AtOneOrMemory R (cause.NoAnswer switch byte) ps bs = AtOne R ps bs
AtOneOrMemory R cause.Disk ps bs = AtOne R ps bs
AtOneOrMemory R cause.Memory ps bs = Unit {0}

-- Each port was heard, one after the other, and what they told follows in this order.
abbrev pub HearsEach : {P : Type 0} → (P → PortTrace) → ℕ → List (Option ℕ) → List (SessionView P) → List (SessionView P) → List Answer → Type 0
HearsEach tell migration homes [] [] told = told ≡ []
HearsEach tell migration homes [] (b ∷ bs) told = ⊥
HearsEach tell migration homes (a ∷ rest) [] told = ⊥
HearsEach tell migration homes (a ∷ rest) (b ∷ bs) told =
    (mine : List Answer) × (later : List Answer) × HearsOut migration homes (view tell a) mine (view tell b) × (told ≡ mine ++ later) × HearsEach tell migration homes rest bs later

-- the commands of a round went out, each to the port whose switch is its item's home, or a front of them
abbrev pub OffersEach : {P : Type 0} → (P → PortTrace) → ℕ → List (Option ℕ) → List Command → List (SessionView P) → List (SessionView P) → Type 0
OffersEach tell migration homes commands = AllZip (λ before now. Offers migration (own homes before.switch commands) (view tell before) (view tell now))

-- all of them did
abbrev pub OffersAllEach : {P : Type 0} → (P → PortTrace) → ℕ → List (Option ℕ) → List Command → List (SessionView P) → List (SessionView P) → Type 0
OffersAllEach tell migration homes commands = AllZip (λ before now. OffersAll migration (own homes before.switch commands) (view tell before) (view tell now))

-- from each port something may have come
abbrev pub ListensEach : {P : Type 0} → (P → PortTrace) → List (SessionView P) → List (SessionView P) → Type 0
ListensEach tell = AllZip (λ before now. Listens (view tell before) (view tell now))

-- why a round stops a worker
abbrev pub IsCauseOfOffer : {P : Type 0} → (P → PortTrace) → Cause → List (SessionView P) → List (SessionView P) → Type 0
IsCauseOfOffer tell why = AtOneOrMemory (λ before now. IsOfferCause why (view tell before) (view tell now)) why

abbrev pub IsCauseOfHear : {P : Type 0} → (P → PortTrace) → ℕ → List (Option ℕ) → Cause → List (SessionView P) → List (SessionView P) → Type 0
IsCauseOfHear tell migration homes why = AtOneOrMemory (λ before now. IsHearCause migration homes why (view tell before) (view tell now)) why

-- the port of the last talk was taken out
pub record IsLast {P : Type 0} (switch : ℕ) (port : P) (before now : List (SessionView P)) : Type 0 where
  pub talk : SessionView P
  pub parts : before ≡ now ++ talk ∷ []
  pub switch_is : talk.switch ≡ switch
  pub port_is : talk.port ≡ port
