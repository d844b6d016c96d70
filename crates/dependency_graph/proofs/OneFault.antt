-- A start breaks one thing first.
use Rattle.std.proofs.Common.{◌≡◌, ℕ, ◌-◌, true, refl, sym, ap, ◌∙◌, subst, arith}
use Rattle.lists.proofs.Conditions.{not_both}
use Rattle.rollout_rules.specs.Wan.{Problem, Plan, last_stage}
use Rattle.rollout_rules.specs.Items.{item_count, item_at, all_items, capacity_of}
use Rattle.rollout_rules.specs.Operations.{operations}
use Rattle.rollout_rules.specs.History.{Places}
use Rattle.rollout_rules.specs.Room.{room}
use Rattle.rollout_rules.specs.Legal as legal
use Rattle.rollout_rules.specs.declared.item.Spot.{Spot}
use Rattle.dependency_graph.specs.Cells.{resource_count, resource_at}
use Rattle.dependency_graph.specs.FirstFault.{FailsFirst, had_needs_behind, has_room_at, has_room_for, spot_at, IsAbove, LacksNeeds, LacksRoom, IsFirstFault}
use Rattle.dependency_graph.specs.declared.start_fault.StartFault.{StartFault}
use Rattle.dependency_graph.specs.declared.start_fault.StartFault.TheVariants as fault
use Rattle.dependency_graph.proofs.FirstFaults.{fails-all, fails-once}

module _ (p : Problem) (plan : Plan) (at : Places) where
  same-above : (n held count m held' count' : ℕ) → IsAbove p plan at n held count → IsAbove p plan at m held' count' → fault.Above n held count ≡ fault.Above m held' count'
  same-above n held count m held' count' a b =
      let same = fails-once (item_count p) n m (λ k. legal.has_settled p plan at (item_at p k)) a.item b.item in
      let settled : held ≡ held' = a.settled ∙ ap (λ k. at.settled (item_at p k)) same ∙ sym b.settled in
      let has : count ≡ count' = a.has ∙ ap (λ k. operations p plan (item_at p k)) same ∙ sym b.has in
      ap (λ k. fault.Above k held count) same ∙ ap (λ k. fault.Above m k count) settled ∙ ap (fault.Above m held') has

  same-need : (n j m i : ℕ) → LacksNeeds p plan at n j → LacksNeeds p plan at m i → fault.Need n j ≡ fault.Need m i
  same-need n j m i a b =
      let same = fails-once (item_count p) n m (λ k. legal.had_its_needs p plan at (item_at p k)) a.item b.item in
      let there = subst (λ k. FailsFirst (at.settled (item_at p k)) (had_needs_behind p plan at k) (j - 1)) same a.operation in
      let behind = fails-once (at.settled (item_at p m)) (j - 1) (i - 1) (had_needs_behind p plan at m) there b.operation in
      let number : j ≡ i = omega (arith, behind, a.number, b.number) in
      ap (λ k. fault.Need k j) same ∙ ap (fault.Need m) number

  same-room : (s found wanted u found' wanted' : ℕ) (here here' : Spot) → LacksRoom p plan at s here found wanted → LacksRoom p plan at u here' found' wanted' → fault.Room s here found wanted ≡ fault.Room u here' found' wanted'
  same-room s found wanted u found' wanted' here here' a b =
      let same = fails-once (last_stage plan) s u (has_room_at p plan at) a.stage b.stage in
      let there = subst (λ k. FailsFirst (resource_count p) (has_room_for p plan at k) a.number) same a.resource in
      let number = fails-once (resource_count p) a.number b.number (has_room_for p plan at u) there b.resource in
      let spots : here ≡ here' = a.spot ∙ ap (spot_at p) number ∙ sym b.spot in
      let taken : found ≡ found' = a.taken ∙ ap (λ k. room p plan at k (resource_at p a.number)) same ∙ ap (λ q. room p plan at u (resource_at p q)) number ∙ sym b.taken in
      let there_is : wanted ≡ wanted' = a.there ∙ ap (λ q. capacity_of p plan (resource_at p q)) number ∙ sym b.there in
      ap (λ k. fault.Room k here found wanted) same ∙ ap (λ k. fault.Room u k found wanted) spots ∙ ap (λ k. fault.Room u here' k wanted) taken ∙ ap (fault.Room u here' found') there_is

  -- where something is told of what is settled, all of it exists; and of a room, it had its needs
  above-none : (n held count : ℕ) → IsAbove p plan at n held count → all_items p (legal.has_settled p plan at) ≡ true → ⊥
  above-none n held count a exists = not_both _ exists (fails-all (item_count p) n (λ k. legal.has_settled p plan at (item_at p k)) a.item)

  need-none : (n j : ℕ) → LacksNeeds p plan at n j → all_items p (legal.had_its_needs p plan at) ≡ true → ⊥
  need-none n j a had = not_both _ had (fails-all (item_count p) n (λ k. legal.had_its_needs p plan at (item_at p k)) a.item)

  pub one-fault : (f g : StartFault) → (f ≡ fault.Memory → ⊥) → (g ≡ fault.Memory → ⊥) → IsFirstFault p plan at f → IsFirstFault p plan at g → f ≡ g
  one-fault (fault.Above n h c) (fault.Above m h' c') some some' a b = same-above n h c m h' c' a b
  one-fault (fault.Above n h c) (fault.Need m i) some some' a b = absurd (above-none n h c a b.exists)
  one-fault (fault.Above n h c) (fault.Room u here' x' y') some some' a b = absurd (above-none n h c a b.exists)
  one-fault (fault.Above n h c) fault.Memory some some' a b = absurd (some' refl)
  one-fault (fault.Need n j) (fault.Above m h' c') some some' a b = absurd (above-none m h' c' b a.exists)
  one-fault (fault.Need n j) (fault.Need m i) some some' a b = same-need n j m i a b
  one-fault (fault.Need n j) (fault.Room u here' x' y') some some' a b = absurd (need-none n j a b.needs)
  one-fault (fault.Need n j) fault.Memory some some' a b = absurd (some' refl)
  one-fault (fault.Room s here x y) (fault.Above m h' c') some some' a b = absurd (above-none m h' c' b a.exists)
  one-fault (fault.Room s here x y) (fault.Need m i) some some' a b = absurd (need-none m i b a.needs)
  one-fault (fault.Room s here x y) (fault.Room u here' x' y') some some' a b = same-room s x y u x' y' here here' a b
  one-fault (fault.Room s here x y) fault.Memory some some' a b = absurd (some' refl)
  one-fault fault.Memory g some some' a b = absurd (some refl)
