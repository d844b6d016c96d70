-- When a history is safe: whichever of the operations in flight have been applied, links and tables hold, and no tunnel
-- with traffic lacks an entry.
use Rattle.std.specs.Prelude.{◌≡◌, ℕ, ◌+◌, ◌*◌, ◌<◌, ◌≤◌, ◌⊎◌, Bool, true, length, if◌then◌else◌}
use Rattle.rollout_rules.specs.Wan.{Problem, Plan, tunnel_at, link_at, switch_at, hops, rate_at, mark_at}
use Rattle.rollout_rules.specs.Items.{load, entries_at}
use Rattle.rollout_rules.specs.Operations.{stand_after}
use Rattle.rollout_rules.specs.History.{Places}
use Rattle.rollout_rules.specs.declared.item.Item.{Item}
use Rattle.rollout_rules.specs.declared.item.Item.TheVariants as item

-- the stage whose content an item holds once its operation in flight, if there is one, is applied
abbrev pub stand_next : Problem → Plan → Places → Item → ℕ
stand_next p plan at i = stand_after p plan i (if at.flies i then at.settled i + 1 else at.settled i)

-- a tunnel's rate as settled, and as it is once the operation in flight of its flow is applied
abbrev pub settled_rate : Problem → Plan → Places → ℕ → ℕ
settled_rate p plan at t = rate_at plan (stand_after p plan (item.Flow (tunnel_at p t).flow) (at.settled (item.Flow (tunnel_at p t).flow))) t

abbrev pub next_rate : Problem → Plan → Places → ℕ → ℕ
next_rate p plan at t = rate_at plan (stand_next p plan at (item.Flow (tunnel_at p t).flow)) t

-- whether an entry is there as settled, and once its operation in flight is applied
abbrev pub settled_mark : Problem → Plan → Places → ℕ → ℕ → Bool
settled_mark p plan at t h = mark_at plan (stand_after p plan (item.Entry t h) (at.settled (item.Entry t h))) t

abbrev pub next_mark : Problem → Plan → Places → ℕ → ℕ → Bool
next_mark p plan at t h = mark_at plan (stand_next p plan at (item.Entry t h)) t

-- each tunnel carries its settled or its next rate
abbrev pub IsRateChoice : Problem → Plan → Places → (ℕ → ℕ) → Type 0
IsRateChoice p plan at rate = (t : ℕ) → t < length p.tunnels → (rate t ≡ settled_rate p plan at t) ⊎ (rate t ≡ next_rate p plan at t)

-- each entry is there as settled or as next
abbrev pub IsMarkChoice : Problem → Plan → Places → (ℕ → ℕ → Bool) → Type 0
IsMarkChoice p plan at there = (t h : ℕ) → t < length p.tunnels → h < hops p t → (there t h ≡ settled_mark p plan at t h) ⊎ (there t h ≡ next_mark p plan at t h)

-- no link carries more than its capacity
abbrev pub LinksHold : Problem → Plan → (ℕ → ℕ) → Type 0
LinksHold p plan rate = (l : ℕ) → l < length p.links → load p rate l ≤ (link_at p l).capacity * plan.scale

-- no table holds more entries than its size
abbrev pub TablesHold : Problem → (ℕ → ℕ → Bool) → Type 0
TablesHold p there = (w : ℕ) → w < length p.switches → entries_at p there w ≤ (switch_at p w).table

-- a tunnel that carries traffic, settled or next, has each of its entries in both of that entry's possible values
abbrev pub EntriesStand : Problem → Plan → Places → Type 0
EntriesStand p plan at = (t h : ℕ) → t < length p.tunnels → h < hops p t
    → (0 < settled_rate p plan at t) ⊎ (0 < next_rate p plan at t)
    → (settled_mark p plan at t h ≡ true) × (next_mark p plan at t h ≡ true)

pub record IsSafe (p : Problem) (plan : Plan) (at : Places) : Type 0 where
  pub links : (rate : ℕ → ℕ) → IsRateChoice p plan at rate → LinksHold p plan rate
  pub tables : (there : ℕ → ℕ → Bool) → IsMarkChoice p plan at there → TablesHold p there
  pub entries : EntriesStand p plan at
