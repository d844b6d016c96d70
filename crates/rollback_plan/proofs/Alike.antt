-- A network with its splits exchanged has the same items, which take the same and have the same contents.
use Rattle.std.proofs.Common.{◌≡◌, ℕ, zero, suc, ◌+◌, ◌-◌, ◌&&◌, ◌==◌, if◌then◌else◌, Bool, List, [], ◌∷◌, length, map, get_or, refl, ap, ◌∙◌, nat_lt}
use Rattle.std.proofs.lemmas.List.{length-map}
use Rattle.std.specs.List.{list_any}
use Rattle.rollout_rules.specs.Sums.{sum_below}
use Rattle.rollout_rules.specs.Wan.{Problem, Plan, Tunnel, no_tunnel, tunnel_at, flow_at, tunnel_of, hops}
use Rattle.rollout_rules.specs.Items.{Resource, the_link, the_table, item_count, entry_from, item_at, sum_items, takes, content}
use Rattle.rollout_rules.specs.declared.item.Item.{Item}
use Rattle.rollout_rules.specs.declared.item.Item.TheVariants as item
use Rattle.rollout_rules.proofs.Below.{sum_below-same}
use Rattle.rollback_plan.specs.Turning.{turned, back_problem}

-- a row of a mapped list, also past the end
pub map-at : {X Y : Type 0} (f : X → Y) (xs : List X) (k : ℕ) (d : X) → get_or (map f xs) k (f d) ≡ f (get_or xs k d)
map-at f [] k d = refl
map-at f (x ∷ xs) zero d = refl
map-at f (x ∷ xs) (suc k) d = map-at f xs k d

entry_from-turned : (rows : List Tunnel) (t n : ℕ) → entry_from (map turned rows) t n ≡ entry_from rows t n
entry_from-turned [] t n = refl
entry_from-turned (row ∷ rows) t n = ap (λ i. if nat_lt n (length row.path) then item.Entry t n else i) (entry_from-turned rows (t + 1) (n - length row.path))

module _ (p : Problem) where
  abbrev q : Problem
  q = back_problem p

  pub tunnel-turned : (t : ℕ) → tunnel_at q t ≡ turned (tunnel_at p t)
  tunnel-turned t = map-at turned p.tunnels t no_tunnel

  pub tunnels-turned : length q.tunnels ≡ length p.tunnels
  tunnels-turned = length-map p.tunnels turned

  pub hops-turned : (t : ℕ) → hops q t ≡ hops p t
  hops-turned t = ap (λ (u : Tunnel). length u.path) (tunnel-turned t)

  pub count-turned : item_count q ≡ item_count p
  count-turned = ap (λ n. length p.flows + n) (ap (λ n. sum_below n (hops q)) tunnels-turned ∙ sum_below-same (length p.tunnels) (hops q) (hops p) (λ t lt. hops-turned t))

  pub item_at-turned : (n : ℕ) → item_at q n ≡ item_at p n
  item_at-turned n = ap (λ i. if nat_lt n (length p.flows) then item.Flow n else i) (entry_from-turned p.tunnels 0 (n - length p.flows))

  pub sum_items-turned : (f : Item → ℕ) → sum_items q f ≡ sum_items p f
  sum_items-turned f =
      ap (λ n. sum_below (length p.flows) (λ k. f (item.Flow k)) + n)
      (ap (λ n. sum_below n (λ t. sum_below (hops q t) (λ h. f (item.Entry t h)))) tunnels-turned
      ∙ sum_below-same (length p.tunnels) (λ t. sum_below (hops q t) (λ h. f (item.Entry t h))) (λ t. sum_below (hops p t) (λ h. f (item.Entry t h)))
      (λ t lt. ap (λ n. sum_below n (λ h. f (item.Entry t h))) (hops-turned t)))

  pub takes-turned : (rate : ℕ → ℕ) (there : ℕ → ℕ → Bool) (i : Item) (r : Resource) → takes q rate there i r ≡ takes p rate there i r
  takes-turned rate there (item.Flow f) (the_link l) =
      sum_below-same (flow_at p f).tunnels _ _ (λ j lt.
      ap (λ (u : Tunnel). if list_any (λ k. k == l) u.links then rate (tunnel_of p f j) else 0) (tunnel-turned (tunnel_of p f j)))
  takes-turned rate there (item.Flow f) (the_table w) = refl
  takes-turned rate there (item.Entry t h) (the_link l) = refl
  takes-turned rate there (item.Entry t h) (the_table w) =
      ap (λ (u : Tunnel). if (get_or u.path h 0 == w) && there t h then u.width else 0) (tunnel-turned t)

  pub content-turned : (plan : Plan) (i : Item) (s : ℕ) → content q plan i s ≡ content p plan i s
  content-turned plan (item.Flow f) s = refl
  content-turned plan (item.Entry t h) s = refl
