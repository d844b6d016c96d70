-- Items by number: how many there are, and which entry a number is.
use Rattle.std.proofs.Common.{◌≡◌, ℕ, suc, ◌+◌, ◌-◌, ◌^◌, ◌<◌, ◌≤◌, true, List, length, drop, get_or, lt-ltb, ltb-true, refl, sym, ◌∙◌, subst, arith}
use Rattle.std.proofs.lemmas.Bool.{le-ltb}
use Rattle.std.proofs.lemmas.List.{at_drop_more, at_drop_all}
use Rattle.rollout_rules.specs.Wan.{Problem, Tunnel, no_tunnel, hops}
use Rattle.rollout_rules.specs.Network.{IsNetwork}
use Rattle.rollout_rules.specs.Items.{is_item, item_count, item_at, number_of, entry_from}
use Rattle.rollout_rules.specs.declared.item.Item.TheVariants as item
use Rattle.rollout_rules.proofs.Below.{sum_below-most, sum_below-up}
use Rattle.rollout_rules.proofs.Numbers.{is_item-item_at}
use Rattle.rollout_rules.proofs.OverItems.{IsEntry, entry-is_item}

-- the number of a tunnel's first entry is small
pub first-few : (p : Problem) (t : ℕ) → IsNetwork p → t ≤ length p.tunnels → number_of p (item.Entry t 0) < 2 ^ 20
first-few p t net le =
    omega (arith, sum_below-up t (length p.tunnels) (hops p) le, net.flows.count, net.few, sum_below-most (length p.tunnels) 17 (hops p) (λ t lt. (net.tunnels t lt).path.most))

-- past the last entry of a tunnel comes the first of the next
pub first-next : (p : Problem) (t : ℕ) → number_of p (item.Entry t 0) + hops p t ≡ number_of p (item.Entry (t + 1) 0)
first-next p t = let e : t + 1 ≡ suc t = omega arith in subst (λ u. number_of p (item.Entry t 0) + hops p t ≡ number_of p (item.Entry u 0)) (sym e) (omega arith)

-- the entry with a number, from a tunnel on
pub entry-within : (rows : List Tunnel) (t left : ℕ) → t < length rows → left < length (get_or rows t no_tunnel).path → entry_from (drop t rows) t left ≡ item.Entry t left
entry-within rows t left lt within = at_drop_more (λ rs. entry_from rs t left) rows t no_tunnel lt ∙ rw (lt-ltb left (length (get_or rows t no_tunnel).path) within) refl

pub entry-past : (rows : List Tunnel) (t left : ℕ) → t < length rows → length (get_or rows t no_tunnel).path ≤ left → entry_from (drop (t + 1) rows) (t + 1) (left - length (get_or rows t no_tunnel).path) ≡ entry_from (drop t rows) t left
entry-past rows t left lt past = sym (at_drop_more (λ rs. entry_from rs t left) rows t no_tunnel lt ∙ rw (le-ltb left (length (get_or rows t no_tunnel).path) past) refl)

pub entry-behind : (rows : List Tunnel) (t left : ℕ) → length rows ≤ t → entry_from (drop t rows) t left ≡ item.Entry t left
entry-behind rows t left le = at_drop_all (λ rs. entry_from rs t left) rows t le

-- the item with a number exists
pub flow-exists : (p : Problem) (n f : ℕ) → n < item_count p → item.Flow f ≡ item_at p n → f < length p.flows
flow-exists p n f lt is = ltb-true f (length p.flows) (subst (λ i. is_item p i ≡ true) (sym is) (is_item-item_at p n lt))

pub entry-exists : (p : Problem) (n t h : ℕ) → n < item_count p → item.Entry t h ≡ item_at p n → IsEntry p t h
entry-exists p n t h lt is = entry-is_item p t h (subst (λ i. is_item p i ≡ true) (sym is) (is_item-item_at p n lt))
