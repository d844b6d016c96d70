-- The entries by their numbers.
use Rattle.std.proofs.Common.{◌≡◌, ℕ, ◌<◌, true, length, sym, ap, ◌∙◌, subst}
use Rattle.std.proofs.lemmas.Bool.{ltb-true}
use Rattle.rollout_rules.specs.Wan.{Problem, hops}
use Rattle.rollout_rules.specs.Items.{is_item, item_at, item_count, number_of}
use Rattle.rollout_rules.specs.declared.item.Item.TheVariants as item
use Rattle.rollout_rules.proofs.Numbers.{item_at-number_of, is_item-item_at, number_of-item_at}
use Rattle.rollout_rules.proofs.OverItems.{is_item-entry, entry-is_item}

-- the entry with a number
pub record IsNumbered (p : Problem) (n t h : ℕ) : Type 0 where
  pub row : t < length p.tunnels
  pub hop : h < hops p t
  pub number : n ≡ number_of p (item.Entry t h)

pub numbered : (p : Problem) (n t h : ℕ) → n < item_count p → item.Entry t h ≡ item_at p n → IsNumbered p n t h
numbered p n t h lt e =
    let there : is_item p (item.Entry t h) ≡ true = subst (λ i. is_item p i ≡ true) (sym e) (is_item-item_at p n lt) in
    let place = entry-is_item p t h there in
    record { row = place.row; hop = place.hop; number = sym (ap (number_of p) e ∙ number_of-item_at p n lt) }

-- entries with the same number are the same
pub same_entry : (p : Problem) (u m t n : ℕ) → u < length p.tunnels → m < hops p u → t < length p.tunnels → n < hops p t → number_of p (item.Entry u m) ≡ number_of p (item.Entry t n) → item.Entry u m ≡ item.Entry t n
same_entry p u m t n low small row hop e = sym (item_at-number_of p (item.Entry u m) (is_item-entry p u m low small)) ∙ ap (item_at p) e ∙ item_at-number_of p (item.Entry t n) (is_item-entry p t n row hop)

-- a flow's number is no entry's
pub flow_apart : (p : Problem) (f n u m : ℕ) → n < item_count p → item.Flow f ≡ item_at p n → u < length p.tunnels → m < hops p u → n ≡ number_of p (item.Entry u m) → ⊥
flow_apart p f n u m lt is low small e = differ (is ∙ ap (item_at p) e ∙ item_at-number_of p (item.Entry u m) (is_item-entry p u m low small))
  where
    differ : item.Flow f ≡ item.Entry u m → ⊥
    differ q = cc

-- the flow with a number
pub flow_number : (p : Problem) (f n : ℕ) → n < item_count p → item.Flow f ≡ item_at p n → f ≡ n
flow_number p f n lt is = ap (number_of p) is ∙ number_of-item_at p n lt

pub flow_there : (p : Problem) (f n : ℕ) → n < item_count p → item.Flow f ≡ item_at p n → f < length p.flows
flow_there p f n lt is =
    let there : is_item p (item.Flow f) ≡ true = subst (λ i. is_item p i ≡ true) (sym is) (is_item-item_at p n lt) in
    ltb-true f (length p.flows) there
