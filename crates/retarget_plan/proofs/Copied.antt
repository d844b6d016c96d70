-- What the copy of a network with other capacities rests on.
use Rattle.std.proofs.Common.{◌≡◌, ℕ, ◌+◌, ◌<◌, List, length, Option, sym, ap, ◌∙◌, arith}
use Rattle.rollout_rules.specs.Wan.{Problem, Link, link_at}
use Rattle.rollout_rules.specs.Network.{IsNetwork, IsFormat}
use Rattle.rollout_rules.specs.Building.{no_problem, MayAddLink, with_link}
use Rattle.wan_model.specs.Fronts.{switched, linked}
use Rattle.wan_model.specs.Rates.{AreRates}
use Rattle.wan_model.proofs.Copied.{link-may, link-next}
use Rattle.retarget_plan.specs.Copies.{AreCapacities}
use Rattle.retarget_plan.specs.Left.{sized, with_capacities}
use Rattle.retarget_plan.proofs.Sizes.{sized-at, sized-count, sized-is_network}

-- a network without rows, in each format
pub empty-plain : (p : Problem) (made : Problem) → made ≡ no_problem → p.format ≡ 1 → made ≡ switched p 0
empty-plain p made is plain = is ∙ ap (λ (f : ℕ). record no_problem { format = f }) (sym plain)

pub empty-wide : (p : Problem) (made : Problem) → made ≡ record no_problem { format = 2 } → IsFormat p.format → (p.format ≡ 1 → ⊥) → made ≡ switched p 0
empty-wide p made is format other =
    let wide : 2 ≡ p.format = omega (arith, format.low, format.high, other) in
    is ∙ ap (λ (f : ℕ). record no_problem { format = f }) wide

module _ (p : Problem) (capacities : List ℕ) (net : IsNetwork p) (are : AreCapacities p capacities) where
  abbrev q : Problem
  q = with_capacities p capacities

  pub sized-network : IsNetwork q
  sized-network = sized-is_network p capacities net are.within

  -- rates of the network are those of the copy, too
  pub sized-rates : (rates : List (Option ℕ)) → AreRates p rates → AreRates q rates
  sized-rates rates is = record { count = is.count; within = is.within }

  module _ (l : ℕ) (lt : l < length p.links) where
    inside : l < length q.links
    inside = omega (arith, lt, sized-count p capacities)

    row : link_at q l ≡ sized p capacities l
    row = sized-at p capacities l lt

    pub sized-link-may : (copy : Problem) (from to capacity : ℕ) → copy ≡ linked q l → from ≡ (link_at p l).from → to ≡ (link_at p l).to → capacity ≡ (sized p capacities l).capacity → MayAddLink copy from to capacity
    sized-link-may copy from to capacity front begins ends holds =
        link-may q sized-network copy l from to capacity inside front
        (begins ∙ sym (ap (λ (k : Link). k.from) row)) (ends ∙ sym (ap (λ (k : Link). k.to) row)) (holds ∙ sym (ap (λ (k : Link). k.capacity) row))

    pub sized-link-next : (copy next : Problem) (from to capacity : ℕ) → copy ≡ linked q l → from ≡ (link_at p l).from → to ≡ (link_at p l).to → capacity ≡ (sized p capacities l).capacity → next ≡ with_link copy from to capacity
        → next ≡ linked q (l + 1)
    sized-link-next copy next from to capacity front begins ends holds is =
        link-next q sized-network copy next l from to capacity inside front
        (begins ∙ sym (ap (λ (k : Link). k.from) row)) (ends ∙ sym (ap (λ (k : Link). k.to) row)) (holds ∙ sym (ap (λ (k : Link). k.capacity) row)) is

-- all links of the network are all links of the copy
pub copied-all : (p : Problem) (capacities : List ℕ) (copy : Problem) → copy ≡ linked (with_capacities p capacities) (length p.links) → copy ≡ linked (with_capacities p capacities) (length (with_capacities p capacities).links)
copied-all p capacities copy is = is ∙ ap (linked (with_capacities p capacities)) (sym (sized-count p capacities))
