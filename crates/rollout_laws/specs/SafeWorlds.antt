-- What is known of every world that a schedule leads to.
use Rattle.std.specs.Prelude.{◌≡◌, ℕ, ◌+◌, ◌<◌, ◌≤◌, ◌⊎◌, Bool, true, List, ◌∷◌, [], ◌++◌, length, map, slice_index, slice_index_or, IsTrue, All, Contains, ◌*◌, is_some}
use Rattle.rollout_rules.specs.Sums.{list_below}
use Rattle.rollout_rules.specs.Wan.{Problem, Plan, tunnel_at, hops, new_rate, rate_at, mark_at, last_stage}
use Rattle.rollout_rules.specs.Items.{item_count, item_at, number_of, content}
use Rattle.rollout_rules.specs.Operations.{operations, stand_after, content_after}
use Rattle.rollout_rules.specs.History.{History, with_entries, begun, settled, places_of}
use Rattle.rollout_rules.specs.Legal.{is_legal}
use Rattle.rollout_rules.specs.Safe.{IsRateChoice, IsMarkChoice, LinksHold, TablesHold, IsSafe}
use Rattle.rollout_rules.specs.Agent.{pair_of, first_pair, is_at_most}
use Rattle.rollout_rules.specs.World.{World, pair_at, held_of, now, after_events}
use Rattle.rollout_rules.specs.declared.held.Held.{Held}
use Rattle.rollout_rules.specs.declared.item.Item.{Item}
use Rattle.rollout_rules.specs.declared.item.Item.TheVariants as item
use Rattle.rollout_rules.specs.declared.op.Op.{Op}
use Rattle.rollout_rules.specs.declared.op.Entry.{Entry}
use Rattle.rollout_rules.specs.declared.op.Entry.TheVariants.{Begin, Done}
use Rattle.rollout_rules.specs.declared.event.Event.{Event}
use Rattle.rollout_laws.specs.Kept.{HasAnswer}

-- the stage whose content the switch of an item holds
abbrev pub held_stage : Problem → Plan → World → Item → ℕ
held_stage p plan w i = stand_after p plan i (now w (number_of p i))

-- the rate of a tunnel, by what the switch of its flow holds
abbrev pub held_rate : Problem → Plan → World → ℕ → ℕ
held_rate p plan w t = rate_at plan (held_stage p plan w (item.Flow (tunnel_at p t).flow)) t

-- whether an entry is there, by what its switch holds
abbrev pub held_mark : Problem → Plan → World → ℕ → ℕ → Bool
held_mark p plan w t h = mark_at plan (held_stage p plan w (item.Entry t h)) t

-- Pairs that items may be held with at first: each is the start's number of this migration, or of an earlier one.
abbrev pub MayBeHeldAtFirst : Problem → List ℕ → ℕ → List Held → Type 0
MayBeHeldAtFirst p start migration first =
    (n : ℕ) → n < item_count p
    → (slice_index_or first n first_pair ≡ pair_of migration (slice_index start n)) ⊎ ((slice_index_or first n first_pair).migration < migration)

-- Item n is still held as an earlier migration left it, and nothing of this one was applied or settled.
pub record IsHeldAsAtFirst (w : World) (n : ℕ) : Type 0 where
  pub pair : (held_of w n).held ≡ pair_at w.first n
  pub earlier : (held_of w n).held.migration < w.migration
  pub applied : now w n ≡ slice_index w.durable.start n
  pub settled : settled w.durable n ≡ slice_index w.durable.start n

-- What was applied of item n is between what is settled and what is begun, and the content held is that of its number.
-- The pair held is that number of this migration, or still the first one; it is never lower than the first one.
pub record IsHeldBetween (p : Problem) (plan : Plan) (w : World) (n : ℕ) : Type 0 where
  pub settled : settled w.durable n ≤ now w n
  pub begun : now w n ≤ begun w.durable n
  pub content : (held_of w n).content ≡ content_after p plan (item_at p n) (now w n)
  pub pair : ((held_of w n).held ≡ pair_of w.migration (now w n)) ⊎ IsHeldAsAtFirst w n
  pub least : IsTrue (is_at_most (pair_at w.first n) (held_of w n).held)

-- The network as its switches hold it: each rate and each entry is one of the two values that the durable history
-- allows; so no link carries too much, no table is too full, and each tunnel with traffic has its entries.
pub record NetworkHolds (p : Problem) (plan : Plan) (w : World) : Type 0 where
  pub rates : IsRateChoice p plan (places_of p w.durable) (held_rate p plan w)
  pub marks : IsMarkChoice p plan (places_of p w.durable) (held_mark p plan w)
  pub links : LinksHold p plan (held_rate p plan w)
  pub tables : TablesHold p (held_mark p plan w)
  pub entries : (t h : ℕ) → t < length p.tunnels → h < hops p t → 0 < held_rate p plan w t → held_mark p plan w t h ≡ true

-- The durable history is legal and safe, and legal with the batch that is being written. Each command sent is of a
-- Begin in it. Each answer is of an item and at most the pair that its switch holds, and what was handed over was given.
pub record IsSafeWorld (p : Problem) (plan : Plan) (w : World) : Type 0 where
  pub durable : IsTrue (is_legal p plan w.durable)
  pub writing : IsTrue (is_legal p plan (with_entries w.durable w.writing))
  pub safe : IsSafe p plan (places_of p w.durable)
  pub sent : All (λ op. Contains w.durable.entries (Begin op)) w.sent
  pub items : length w.held ≡ item_count p
  pub held : (n : ℕ) → n < item_count p → IsHeldBetween p plan w n
  pub network : NetworkHolds p plan w
  pub given : All (λ a. IsTrue (is_at_most a.held (held_of w a.item).held)) w.given
  pub answering : All (λ a. a.item < item_count p) w.given
  pub handed : All (Contains w.given) w.handed
  -- a Done that is being written is of an operation that its switch has applied, as an answer of this migration told,
  -- and whose Begin is durable
  pub answered : (op : Op) → Contains w.writing (Done op) → HasAnswer w.migration w.handed op
  pub applied : (op : Op) → Contains w.writing (Done op) → op.number ≤ now w op.item
  pub begun : (op : Op) → Contains w.writing (Done op) → Contains w.durable.entries (Begin op)

-- every world on the way through a schedule is safe
abbrev pub EveryWorldIsSafe : Problem → Plan → World → List Event → Type 0
EveryWorldIsSafe p plan w es = (front rest : List Event) → front ++ rest ≡ es → IsSafeWorld p plan (after_events p plan w front)

-- a history goes on from another: from its start, with its entries first
pub record IsBeginningOf (h whole : History) : Type 0 where
  pub start : whole.start ≡ h.start
  pub entries : (rest : List Entry) × (h.entries ++ rest ≡ whole.entries)

-- a world goes on from another: with its migration, its start and its first pairs
pub record HasFrom (from w : World) : Type 0 where
  pub migration : w.migration ≡ from.migration
  pub first : w.first ≡ from.first
  pub start : w.durable.start ≡ from.durable.start

-- the world once the switch of item n has answered what it holds
abbrev pub with_answer : World → ℕ → World
with_answer w n = record w { given = w.given ++ record { item = n; held = (held_of w n).held } ∷ [] }

-- The command of an operation came to its switch as the next one: the switch holds its pair and content, and answers with
-- that pair. Of every other item what is held stays.
pub record IsApplied (p : Problem) (plan : Plan) (w : World) (op : Op) (after : World) : Type 0 where
  pub next : op.number ≡ now w op.item + 1
  pub held : (held_of after op.item).held ≡ pair_of w.migration op.number
  pub content : (held_of after op.item).content ≡ content_after p plan (item_at p op.item) op.number
  pub others : (n : ℕ) → (op.item ≡ n → ⊥) → held_of after n ≡ held_of w n
  pub given : after.given ≡ w.given ++ record { item = op.item; held = pair_of w.migration op.number } ∷ []

-- what all switches hold, as a start and as pairs
abbrev pub applied : Problem → World → List ℕ
applied p w = list_below (item_count p) (now w)

abbrev pub pairs_held : World → List Held
pairs_held w = map (λ v. v.held) w.held

-- Item n had no operation after the start, and is held as it was at first.
pub record IsLeftAsAtFirst (p : Problem) (plan : Plan) (first w : World) (n : ℕ) : Type 0 where
  pub start : slice_index first.durable.start n ≡ operations p plan (item_at p n)
  pub held : held_of w n ≡ held_of first n

-- Item n is held with all its operations applied, and with its content at the last stage: as this migration left it, or
-- as it was held at first, where the start has all its operations.
pub record IsHeldAtTarget (p : Problem) (plan : Plan) (first w : World) (n : ℕ) : Type 0 where
  pub number : now w n ≡ operations p plan (item_at p n)
  pub content : (held_of w n).content ≡ content p plan (item_at p n) (last_stage plan)
  pub pair : ((held_of w n).held ≡ pair_of first.migration (operations p plan (item_at p n))) ⊎ IsLeftAsAtFirst p plan first w n

-- the network as its switches hold it is the new split: each tunnel has its new rate, and its entries where it has one
pub record NetworkAtTarget (p : Problem) (plan : Plan) (w : World) : Type 0 where
  pub rates : (t : ℕ) → t < length p.tunnels → held_rate p plan w t ≡ plan.scale * new_rate (tunnel_at p t)
  pub marks : (t h : ℕ) → t < length p.tunnels → h < hops p t → held_mark p plan w t h ≡ is_some (tunnel_at p t).new
