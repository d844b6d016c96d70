-- Which operations a round begins, for any policy.
use Rattle.std.specs.Prelude.{ℕ, zero, suc, ◌+◌, ◌-◌, max, Bool, not, ◌&&◌, ◌||◌, List, [], ◌∷◌, ◌++◌, map, ◌==◌, nat_le, nat_lt, if◌then◌else◌}
use Rattle.std.specs.List.{filter, list_any}
use Rattle.rollout_rules.specs.Sums.{list_below}
use Rattle.rollout_rules.specs.Wan.{Problem, Plan, flow_at, tunnel_at, tunnel_of, hops, rate_at, mark_at, last_stage}
use Rattle.rollout_rules.specs.Items.{item_count, item_at}
use Rattle.rollout_rules.specs.Operations.{operations, changes_behind}
use Rattle.rollout_rules.specs.History.{History, with_entries, begun, settled, flies, places_of, stand}
use Rattle.rollout_rules.specs.Needs.{installed_since, idle_since}
use Rattle.rollout_rules.specs.Legal.{may_begin}
use Rattle.rollout_rules.specs.declared.item.Item.{Item}
use Rattle.rollout_rules.specs.declared.item.Item.TheVariants as item
use Rattle.rollout_rules.specs.declared.op.Op.{Op}
use Rattle.rollout_rules.specs.declared.op.OpView.{OpView}
use Rattle.rollout_rules.specs.declared.op.Entry.{Entry}
use Rattle.rollout_rules.specs.declared.op.Entry.TheVariants.{Begin, Done}

-- the greatest of f 0 .. f (n - 1), or 0
abbrev pub most_below : ℕ → (ℕ → ℕ) → ℕ
most_below zero f = 0
most_below (suc n) f = max (most_below n f) (f n)

-- whether the removal of tunnel t's entries from stage u needs that its flow has come to stage s + 1 just now
abbrev pub needs_departure : Plan → ℕ → ℕ → ℕ → Bool
needs_departure plan t s u = not (mark_at plan (u + 1) t) && (idle_since plan t u == s + 1)

-- the length of the longest chain of operations from the one that takes the item from stage s to s + 1, each next one
-- the same item's next or one that needs the one before; `turns` bounds how many follow
abbrev pub chain_within : ℕ → Problem → Plan → Item → ℕ → ℕ
chain_within zero p plan i s = 1
chain_within (suc turns) p plan (item.Flow f) s =
    1 + max
    (most_below (last_stage plan) (λ u. if nat_lt s u && changes_behind p plan (item.Flow f) u then chain_within turns p plan (item.Flow f) u else 0))
    (most_below (flow_at p f).tunnels (λ j. most_below (hops p (tunnel_of p f j)) (λ h. most_below (last_stage plan) (λ u.
    if changes_behind p plan (item.Entry (tunnel_of p f j) h) u && needs_departure plan (tunnel_of p f j) s u
    then chain_within turns p plan (item.Entry (tunnel_of p f j) h) u else 0))))
chain_within (suc turns) p plan (item.Entry t h) s =
    1 + max
    (most_below (last_stage plan) (λ u. if nat_lt s u && changes_behind p plan (item.Entry t h) u then chain_within turns p plan (item.Entry t h) u else 0))
    (most_below (last_stage plan) (λ u.
    if mark_at plan (s + 1) t && changes_behind p plan (item.Flow (tunnel_at p t).flow) u
    && nat_lt 0 (rate_at plan (u + 1) t) && (installed_since plan t (u + 1) == s + 1)
    then chain_within turns p plan (item.Flow (tunnel_at p t).flow) u else 0))

-- A chain goes through ever later stages, so there are enough turns.
abbrev pub chain : Problem → Plan → Item → ℕ → ℕ
chain p plan i s = chain_within (last_stage plan) p plan i s

-- the next operation of an item, and what a policy sees of it
abbrev pub next_op : History → ℕ → Op
next_op h n = record { item = n; number = settled h n + 1 }

abbrev pub view_of : Problem → Plan → History → ℕ → OpView
view_of p plan h n = record {
  item = n;
  number = settled h n + 1;
  stage = stand p plan (places_of p h) (item_at p n);
  left = operations p plan (item_at p n) - begun h n;
  chain = chain p plan (item_at p n) (stand p plan (places_of p h) (item_at p n));
}

-- the items that have an operation left and none in flight, in order
abbrev pub waiting : Problem → Plan → History → List ℕ
waiting p plan h = filter (λ n. not (flies h n) && nat_lt (settled h n) (operations p plan (item_at p n))) (list_below (item_count p) (λ n. n))

-- in order of the rank, lower first, and then of the item
abbrev pub insert_by : (ℕ → ℕ) → ℕ → List ℕ → List ℕ
insert_by rank n [] = n ∷ []
insert_by rank n (m ∷ ms) = if nat_lt (rank n) (rank m) || ((rank n == rank m) && nat_lt n m) then n ∷ m ∷ ms else m ∷ insert_by rank n ms

abbrev pub in_order_of : (ℕ → ℕ) → List ℕ → List ℕ
in_order_of rank [] = []
in_order_of rank (n ∷ ns) = insert_by rank n (in_order_of rank ns)

-- the entries got by going once through items and beginning each next operation that may begin
abbrev pub begin_each : Problem → Plan → History → List ℕ → List Entry
begin_each p plan h [] = []
begin_each p plan h (n ∷ ns) =
    if may_begin p plan h (next_op h n)
    then Begin (next_op h n) ∷ begin_each p plan (with_entries h (Begin (next_op h n) ∷ [])) ns
    else begin_each p plan h ns

-- A policy answers a rank for what it sees of an operation, or this number to hold the operation back.
abbrev pub held_back : ℕ
held_back = 4294967296

abbrev pub is_held_back : (OpView → ℕ) → OpView → Bool
is_held_back policy view = policy view == held_back

-- the waiting items whose next operation the policy doesn't hold back
abbrev pub released : Problem → Plan → (OpView → ℕ) → History → List ℕ
released p plan policy h = filter (λ n. not (is_held_back policy (view_of p plan h n))) (waiting p plan h)

-- The release after a history: the next operation of each waiting item that isn't held back, in order of rank, begun
-- where its needs are met and the history stays legal with those begun before it.
abbrev pub release : Problem → Plan → (OpView → ℕ) → History → List Entry
release p plan policy h = begin_each p plan h (in_order_of (λ n. policy (view_of p plan h n)) (released p plan policy h))

-- whether an answer covers the operation in flight of an item
abbrev pub is_covered : History → List Op → ℕ → Bool
is_covered h answers n = flies h n && list_any (λ a. (a.item == n) && nat_le (begun h n) a.number) answers

-- a Done for each operation in flight that an answer covers, by item
abbrev pub dones : Problem → History → List Op → List Entry
dones p h answers = map (λ n. Done (next_op h n)) (filter (is_covered h answers) (list_below (item_count p) (λ n. n)))

-- the batch of a round: these, and then the release of the history so far
abbrev pub batch : Problem → Plan → (OpView → ℕ) → History → List Op → List Entry
batch p plan policy h answers = dones p h answers ++ release p plan policy (with_entries h (dones p h answers))
