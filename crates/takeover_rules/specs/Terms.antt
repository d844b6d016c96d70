-- What a switch does with the commands of several controllers. Each controller names a term, a number that is higher for each
-- one that takes over; a command that names none has term 0. (The epochs of OpenFlow's master role.)
use Rattle.std.specs.Prelude.{ℕ, List, [], ◌∷◌, nat_lt, if◌then◌else◌}
use Rattle.rollout_rules.specs.Agent.{Holding, held_after}
use Rattle.rollout_rules.specs.declared.held.Held.{Held}

-- what the switch of an item holds of it, and the floor: the highest term that the switch has heard, 0 at first
pub record Guarded : Type 0 where
  pub floor : ℕ
  pub holding : Holding

-- what is held where no term was heard
abbrev pub unguarded : Holding → Guarded
unguarded holding = record { floor = 0; holding = holding }

-- the floor once a command of this term came
abbrev pub floor_after : ℕ → ℕ → ℕ
floor_after floor term = if nat_lt term floor then floor else term

-- A command of a term below the floor changes nothing. Any other raises the floor to its term, and is carried out by the agent
-- rule. The answer is the pair held after it, and the floor where the command named a term.
abbrev pub guarded_after : Guarded → ℕ → Held → List ℕ → Guarded
guarded_after g term asked content = if nat_lt term g.floor then g else record { floor = term; holding = held_after g.holding asked content }

-- a command for an item: the pair that it asks for, and the content that it brings
pub record Asked : Type 0 where
  pub pair : Held
  pub content : List ℕ

-- after commands in a row, by the agent rule alone
abbrev pub held_after_all : Holding → List Asked → Holding
held_after_all holding [] = holding
held_after_all holding (c ∷ cs) = held_after_all (held_after holding c.pair c.content) cs

-- after commands in a row, all of this term
abbrev pub guarded_after_all : Guarded → ℕ → List Asked → Guarded
guarded_after_all g term [] = g
guarded_after_all g term (c ∷ cs) = guarded_after_all (guarded_after g term c.pair c.content) term cs
