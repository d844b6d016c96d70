-- Whatever of the operations in flight has been applied, an item takes at most its share of the least stage's room.
use Rattle.std.proofs.Common.{◌≡◌, ℕ, ◌+◌, ◌<◌, ◌≤◌, ◌⊎◌, Bool, true, false, if◌then◌else◌, length, inl, inr, sym, refl, ap, ◌∙◌, subst, arith, le_refl, le_trans, le_of_eq, leb-true, ltb-true, nat_le}
use Rattle.std.proofs.lemmas.Bool.{cases_lt}
use Rattle.rollout_rules.specs.Wan.{Problem, Plan, flow_at, tunnel_of, rate_at, mark_at, last_stage, next_stage}
use Rattle.rollout_rules.specs.Network.{IsNetwork}
use Rattle.rollout_rules.specs.Items.{Resource, is_item, is_resource, capacity_of, sum_items, takes, content, use_at, greater_rate, either_mark, step_maximum}
use Rattle.rollout_rules.specs.Operations.{operations, stand_after}
use Rattle.rollout_rules.specs.History.{Places, stand}
use Rattle.rollout_rules.specs.Room.{least_stage, share, room}
use Rattle.rollout_rules.specs.Valid.{step_total}
use Rattle.rollout_rules.specs.Safe.{IsRateChoice, IsMarkChoice}
use Rattle.rollout_rules.specs.declared.item.Item.{Item}
use Rattle.rollout_rules.specs.declared.item.Item.TheVariants as item
use Rattle.rollout_rules.proofs.OverItems.{sum_items-mono, entry-is_item}
use Rattle.rollout_rules.proofs.Tunnels.{tunnel_of-below, flow-tunnel_of}
use Rattle.rollout_laws.specs.Good.{begun_at, IsGood}
use Rattle.rollout_laws.proofs.Standing.{stand-most, stand-left, stand-moves, content-past}
use Rattle.rollout_laws.proofs.Contents.{IsWithin, takes-mono, content-rate, content-mark, greater_rate-begins, greater_rate-ends, either_mark-begins, either_mark-ends}
use Rattle.rollout_laws.proofs.Shares.{next_stage-before, share-here}
use Rattle.rollout_laws.proofs.Rooms.{least_stage-at, least_stage-most}
use Rattle.rollout_laws.proofs.Validity.{IsValid}

module _ (p : Problem) (plan : Plan) where
  -- the next content of an item is the settled one, or that of the stage behind
  next-content : (i : Item) (j : ℕ) (fl : Bool) → (if fl then j + 1 else j) ≤ operations p plan i → (content p plan i (stand_after p plan i (if fl then j + 1 else j)) ≡ content p plan i (stand_after p plan i j)) ⊎ (content p plan i (stand_after p plan i (if fl then j + 1 else j)) ≡ content p plan i (next_stage plan (stand_after p plan i j)))
  next-content i j false exist = inl refl
  next-content i j true exist =
      let x = stand_after p plan i j in
      let left : j < operations p plan i = omega (arith, exist) in
      inr (sym (content-past p plan i j (x + 1) (omega arith) (stand-moves p plan i j left)) ∙ ap (content p plan i) (sym (next_stage-before plan x (stand-left p plan i j left))))

  -- where each flow stands, a tunnel's rates are the flow's
  module _ (net : IsNetwork p) (at : Places) (rate : ℕ → ℕ) (there : ℕ → ℕ → Bool) (rates : IsRateChoice p plan at rate) (marks : IsMarkChoice p plan at there) where
    rate-choice : (f j : ℕ) → f < length p.flows → j < (flow_at p f).tunnels → (rate (tunnel_of p f j) ≡ rate_at plan (stand p plan at (item.Flow f)) (tunnel_of p f j)) ⊎ (rate (tunnel_of p f j) ≡ rate_at plan (stand_after p plan (item.Flow f) (begun_at at (item.Flow f))) (tunnel_of p f j))
    rate-choice f j lt few =
        let t = tunnel_of p f j in
        subst (λ g. (rate t ≡ rate_at plan (stand p plan at (item.Flow g)) t) ⊎ (rate t ≡ rate_at plan (stand_after p plan (item.Flow g) (begun_at at (item.Flow g))) t))
        (flow-tunnel_of p f j net lt few) (rates t (tunnel_of-below p f j net lt few))

    flow-within : (f j x y : ℕ) → j < (flow_at p f).tunnels → (rate (tunnel_of p f j) ≡ rate_at plan x (tunnel_of p f j)) ⊎ (rate (tunnel_of p f j) ≡ rate_at plan y (tunnel_of p f j)) → (content p plan (item.Flow f) y ≡ content p plan (item.Flow f) x) ⊎ (content p plan (item.Flow f) y ≡ content p plan (item.Flow f) (next_stage plan x)) → rate (tunnel_of p f j) ≤ greater_rate plan x (tunnel_of p f j)
    flow-within f j x y few (inl e) c = le_trans (le_of_eq e) (greater_rate-begins plan x (tunnel_of p f j))
    flow-within f j x y few (inr e) (inl c) = le_trans (le_of_eq (e ∙ content-rate p plan f y x c j few)) (greater_rate-begins plan x (tunnel_of p f j))
    flow-within f j x y few (inr e) (inr c) = le_trans (le_of_eq (e ∙ content-rate p plan f y (next_stage plan x) c j few)) (greater_rate-ends plan x (tunnel_of p f j))

    entry-within : (t h x y : ℕ) → there t h ≡ true → (there t h ≡ mark_at plan x t) ⊎ (there t h ≡ mark_at plan y t) → (content p plan (item.Entry t h) y ≡ content p plan (item.Entry t h) x) ⊎ (content p plan (item.Entry t h) y ≡ content p plan (item.Entry t h) (next_stage plan x)) → either_mark plan x t ≡ true
    entry-within t h x y stands (inl e) c = either_mark-begins plan x t (sym e ∙ stands)
    entry-within t h x y stands (inr e) (inl c) = either_mark-begins plan x t (sym (content-mark p plan t h y x c) ∙ sym e ∙ stands)
    entry-within t h x y stands (inr e) (inr c) = either_mark-ends plan x t (sym (content-mark p plan t h y (next_stage plan x) c) ∙ sym e ∙ stands)

    -- each choice is within the maximum of the step that the item may be in
    choice-step : (i : Item) → is_item p i ≡ true → begun_at at i ≤ operations p plan i → IsWithin p rate there (greater_rate plan (stand p plan at i)) (λ t h. either_mark plan (stand p plan at i) t) i
    choice-step (item.Flow f) here exist = λ j few.
        flow-within f j (stand p plan at (item.Flow f)) (stand_after p plan (item.Flow f) (begun_at at (item.Flow f))) few
        (rate-choice f j (ltb-true f (length p.flows) here) few) (next-content (item.Flow f) (at.settled (item.Flow f)) (at.flies (item.Flow f)) exist)
    choice-step (item.Entry t h) here exist =
        let place = entry-is_item p t h here in
        λ stands. entry-within t h (stand p plan at (item.Entry t h)) (stand_after p plan (item.Entry t h) (begun_at at (item.Entry t h))) stands
        (marks t h place.row place.hop) (next-content (item.Entry t h) (at.settled (item.Entry t h)) (at.flies (item.Entry t h)) exist)

    -- and within the settled content where nothing flies
    choice-still : (i : Item) → is_item p i ≡ true → at.flies i ≡ false → IsWithin p rate there (rate_at plan (stand p plan at i)) (λ t h. mark_at plan (stand p plan at i) t) i
    choice-still (item.Flow f) here still = λ j few. within j (rate-choice f j (ltb-true f (length p.flows) here) few)
      where
        same : stand_after p plan (item.Flow f) (begun_at at (item.Flow f)) ≡ stand p plan at (item.Flow f)
        same = ap (λ fl. stand_after p plan (item.Flow f) (if fl then at.settled (item.Flow f) + 1 else at.settled (item.Flow f))) still

        within : (j : ℕ) → (rate (tunnel_of p f j) ≡ rate_at plan (stand p plan at (item.Flow f)) (tunnel_of p f j)) ⊎ (rate (tunnel_of p f j) ≡ rate_at plan (stand_after p plan (item.Flow f) (begun_at at (item.Flow f))) (tunnel_of p f j)) → rate (tunnel_of p f j) ≤ rate_at plan (stand p plan at (item.Flow f)) (tunnel_of p f j)
        within j (inl e) = le_of_eq e
        within j (inr e) = le_of_eq (e ∙ ap (λ s. rate_at plan s (tunnel_of p f j)) same)
    choice-still (item.Entry t h) here still =
        let entry = entry-is_item p t h here in
        λ stands. within stands (marks t h entry.row entry.hop)
      where
        same : stand_after p plan (item.Entry t h) (begun_at at (item.Entry t h)) ≡ stand p plan at (item.Entry t h)
        same = ap (λ fl. stand_after p plan (item.Entry t h) (if fl then at.settled (item.Entry t h) + 1 else at.settled (item.Entry t h))) still

        within : there t h ≡ true → (there t h ≡ mark_at plan (stand p plan at (item.Entry t h)) t) ⊎ (there t h ≡ mark_at plan (stand_after p plan (item.Entry t h) (begun_at at (item.Entry t h))) t) → mark_at plan (stand p plan at (item.Entry t h)) t ≡ true
        within stands (inl e) = sym e ∙ stands
        within stands (inr e) = ap (λ s. mark_at plan s t) (sym same) ∙ sym e ∙ stands

    choice-share : (i : Item) (r : Resource) → is_item p i ≡ true → begun_at at i ≤ operations p plan i → takes p rate there i r ≤ share p plan at (least_stage p plan at) r i
    choice-share i r here exist = bound (nat_le (stand p plan at i) (least_stage p plan at)) refl (at.flies i) refl
      where
        step : takes p rate there i r ≤ step_maximum p plan (stand p plan at i) i r
        step = takes-mono p rate (greater_rate plan (stand p plan at i)) there (λ t h. either_mark plan (stand p plan at i) t) i r (choice-step i here exist)

        bound : (near : Bool) → nat_le (stand p plan at i) (least_stage p plan at) ≡ near → (fl : Bool) → at.flies i ≡ fl → takes p rate there i r ≤ (if near then step_maximum p plan (least_stage p plan at) i r else (if fl then step_maximum p plan (stand p plan at i) i r else use_at p plan (stand p plan at i) i r))
        bound true near fl e =
            let least : stand p plan at i ≡ least_stage p plan at = omega (arith, least_stage-at p plan at i here, leb-true (stand p plan at i) (least_stage p plan at) near) in
            subst (λ s. takes p rate there i r ≤ step_maximum p plan s i r) least step
        bound false near true e = step
        bound false near false e = takes-mono p rate (rate_at plan (stand p plan at i)) there (λ t h. mark_at plan (stand p plan at i) t) i r (choice-still i here e)

    -- so all items together take at most the room of the least stage
    pub choice-room : IsGood p plan at → (r : Resource) → sum_items p (λ i. takes p rate there i r) ≤ room p plan at (least_stage p plan at) r
    choice-room good r = sum_items-mono p (λ i. takes p rate there i r) (share p plan at (least_stage p plan at) r) (λ i here. choice-share i r here (good.exist i here))

  -- at the last stage no item takes more than its step's maximum there
  room-last : (at : Places) (r : Resource) → room p plan at (last_stage plan) r ≤ step_total p plan (last_stage plan) r
  room-last at r = sum_items-mono p (share p plan at (last_stage plan) r) (λ i. step_maximum p plan (last_stage plan) i r) (λ i here. le_of_eq (share-here p plan i r at (last_stage plan) (stand-most p plan i (at.settled i))))

  -- the room of the least stage fits, also where all have come to the last
  pub least-room : IsValid p plan → (at : Places) → IsGood p plan at → (r : Resource) → is_resource p r ≡ true → room p plan at (least_stage p plan at) r ≤ capacity_of p plan r
  least-room valid at good r here = elim (cases_lt (least_stage p plan at) (last_stage plan)) as (λ c. room p plan at (least_stage p plan at) r ≤ capacity_of p plan r) [
    | inl before ↦ good.room (least_stage p plan at) (le_refl (least_stage p plan at)) before r here
    | inr last ↦
        let e : last_stage plan ≡ least_stage p plan at = omega (arith, least_stage-most p plan at, last) in
        subst (λ s. room p plan at s r ≤ capacity_of p plan r) e (le_trans (room-last at r) (valid.step (last_stage plan) (le_refl (last_stage plan)) r here))
  ]
