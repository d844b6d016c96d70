-- The text of what switches hold: a line an item that was asked about, and one on all of them.
use Rattle.std.specs.Prelude.{◌≡◌, ℕ, zero, suc, is_some, List, [], ◌++◌, codes, decimal, length, nat_lt, Option, None, Some, Result, Ok, Err, if◌then◌else◌}
use Rattle.std.specs.List.{flat_map}
use Rattle.rollout_rules.specs.Items.{item_at}
use Rattle.rollout_rules.specs.Operations.{operations}
use Rattle.rollout_rules.specs.Sums.{count_below, list_below}
use Rattle.rollout_rules.specs.Wan.{Plan, Problem}
use Rattle.rollout_rules.specs.declared.held.Held.{Held}
use Rattle.wan_edge.specs.Ports.{PortTrace}
use Rattle.wan_text.specs.Names.{switch_text}
use Rattle.switch_ports.specs.Berths.{FleetPorts}
use Rattle.switch_ports.specs.Outboxes.{home_at}
use Rattle.held_service.specs.Noting.{Notes, noted_at}
use Rattle.held_service.specs.Questions.{asked_homes}
use Rattle.held_service.specs.Visits.{Fails, TellsAll}
use Rattle.held_service.specs.declared.not_told.NotTold.{NotTold}

-- ---- a line

abbrev pub number_text : ℕ → List ℕ
number_text n = codes "item " ++ decimal n ++ codes " "

abbrev pub pair_text : ℕ → ℕ → ℕ → List ℕ
pair_text migration number count = codes ": migration " ++ decimal migration ++ codes ", number " ++ decimal number ++ codes " of " ++ decimal count ++ codes "\n"

-- an item with so many operations, the switch that is its home, and the pair that this one holds of it
abbrev pub line_of : Problem → ℕ → ℕ → Held → ℕ → List ℕ
line_of p n switch held count = number_text n ++ switch_text p switch ++ pair_text held.migration held.number count

-- none of an item that wasn't asked about or told
abbrev pub line_by : Problem → ℕ → ℕ → Option Held → ℕ → List ℕ
line_by p n switch None count = []
line_by p n switch (Some held) count = line_of p n switch held count

abbrev pub line_if : Problem → ℕ → Option ℕ → Option Held → ℕ → List ℕ
line_if p n None held count = []
line_if p n (Some switch) held count = line_by p n switch held count

abbrev pub operations_of : Problem → Plan → ℕ → ℕ
operations_of p plan n = operations p plan (item_at p n)

abbrev pub line_at : Problem → Plan → Notes → ℕ → List ℕ
line_at p plan notes n = line_if p n (home_at (asked_homes p plan) n) (noted_at notes n) (operations_of p plan n)

-- ---- the last line

-- of how many items something is noted
abbrev pub told_count : Notes → ℕ
told_count notes = count_below (length notes) (λ n. is_some (noted_at notes n))

-- the greatest migration among what is noted, 0 of nothing
abbrev pub migration_of : Option Held → ℕ
migration_of None = 0
migration_of (Some held) = held.migration

abbrev pub larger : ℕ → ℕ → ℕ
larger a b = if nat_lt a b then b else a

abbrev pub greatest_of : Notes → ℕ → ℕ
greatest_of notes zero = 0
greatest_of notes (suc n) = larger (greatest_of notes n) (migration_of (noted_at notes n))

abbrev pub last_line : ℕ → ℕ → List ℕ
last_line count migration = codes "held: items " ++ decimal count ++ codes ", greatest migration " ++ decimal migration ++ codes "\n"

-- ---- all of it

abbrev pub lines_below : Problem → Plan → Notes → ℕ → List ℕ
lines_below p plan notes count = flat_map (line_at p plan notes) (list_below count (λ n. n))

unfoldable pub held_text : Problem → Plan → Notes → List ℕ
held_text p plan notes = lines_below p plan notes (length notes) ++ last_line (told_count notes) (greatest_of notes (length notes))

-- ---- what comes of asking

-- All told, asked by questions of migration 0, and the text is that of what is noted.
pub record TellsText {P : Type 0} (tell : P → PortTrace) (p : Problem) (plan : Plan) (limit : ℕ) (text : List ℕ) (before now : FleetPorts P) : Type 0 where
  pub notes : Notes
  pub tells : TellsAll tell p plan 0 limit before now notes
  pub text_is : text ≡ held_text p plan notes

abbrev pub AsksAll : {P : Type 0} → Result (List ℕ) NotTold → (P → PortTrace) → Problem → Plan → ℕ → FleetPorts P → FleetPorts P → Type 0
AsksAll (Ok text) tell p plan limit before now = TellsText tell p plan limit text before now
AsksAll (Err why) tell p plan limit before now = Fails tell p plan 0 limit why before now
