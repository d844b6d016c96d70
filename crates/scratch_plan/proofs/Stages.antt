-- A plan is valid where its stages are alone and in pairs as they should be. Only this module opens the clauses P0 to P5.
use Rattle.std.proofs.Common.{◌≡◌, ℕ, zero, suc, pred, ◌+◌, ◌-◌, ◌*◌, ◌<◌, ◌≤◌, min, max, Bool, true, false, ◌&&◌, ◌||◌, List, [], ◌∷◌, length, get_or, slice_index, slice_index_or, is_some, nat_le, ◌==◌, refl, sym, ap, subst, ◌∙◌, inl, inr, arith, le-leb, ltb-true, eq-eqb}
use Rattle.std.proofs.lemmas.Bool.{and_from, or_left, or_right, cases_lt}
use Rattle.rollout_rules.specs.declared.limits.TheConstants.{MOST_STAGES, LARGEST_SCALE}
use Rattle.rollout_rules.specs.Sums.{all_below}
use Rattle.rollout_rules.specs.Wan.{Problem, Plan, Stage, no_stage, tunnel_at, link_at, switch_at, old_rate, new_rate, stage_at, rate_at, mark_at, last_stage, next_stage}
use Rattle.rollout_rules.specs.Network.{IsNetwork}
use Rattle.rollout_rules.specs.Items.{Resource, the_link, the_table, load, entries_at, capacity_of, is_resource, all_resources}
use Rattle.rollout_rules.specs.Valid.{same_mark, has_shape, begins_at_old, ends_at_new, step_total, fits_each_step, is_carried_at, carries_what_flows, keeps_totals, keeps_total_at, is_valid_plan}
use Rattle.rollout_rules.proofs.Below.{all_below-from}
use Rattle.rollout_rules.proofs.OverItems.{all_resources-from}
use Rattle.rollout_rules.proofs.Totals.{step_total-load, step_total-entries_at}
use Rattle.rollout_rules.proofs.Alike.{same_mark-from}
use Rattle.scratch_plan.specs.Steps.{last_of, Follows, keeps_total}

-- ---- lists of which each follows the one before
pub follows-at : {A : Type 0} (R : A → A → Type 0) (a : A) (xs : List A) (d : A) (s n : ℕ) → Follows R a xs → s ≤ length xs → n ≡ min (s + 1) (length xs) → R (get_or (a ∷ xs) s d) (get_or (a ∷ xs) n d)
follows-at R a [] d s n follows le e =
    let first : s ≡ 0 = omega arith in
    let next : n ≡ 0 = omega arith in
    rw (first, next) follows
follows-at R a (b ∷ rest) d zero n follows le e =
    let next : n ≡ 1 = omega arith in
    rw next follows.0
follows-at R a (b ∷ rest) d (suc s) n follows le e =
    let next : n ≡ suc (pred n) = omega arith in
    rw next (follows-at R b rest d s (pred n) follows.1 (omega arith) (omega arith))

pub last-at : {A : Type 0} (a : A) (xs : List A) (d : A) → get_or (a ∷ xs) (length xs) d ≡ last_of a xs
last-at a [] d = refl
last-at a (b ∷ rest) d = last-at b rest d

-- ---- stages in pairs
abbrev pub mark : Stage → ℕ → Bool
mark x t = slice_index_or x.installed t false

pub record IsStageStep (p : Problem) (scale : ℕ) (x y : Stage) : Type 0 where
  pub rates : length x.rates ≡ length p.tunnels
  pub marks : length x.installed ≡ length p.tunnels
  pub totals : (f : ℕ) → f < length p.flows → keeps_total p scale (slice_index x.rates) f ≡ true
  pub links : (l : ℕ) → l < length p.links → load p (λ t. max (slice_index x.rates t) (slice_index y.rates t)) l ≤ (link_at p l).capacity * scale
  pub tables : (w : ℕ) → w < length p.switches → entries_at p (λ t h. mark x t || mark y t) w ≤ (switch_at p w).table
  pub here : (t : ℕ) → t < length p.tunnels → 0 < slice_index x.rates t → mark x t ≡ true
  pub ahead : (t : ℕ) → t < length p.tunnels → 0 < slice_index x.rates t → mark y t ≡ true
  pub behind : (t : ℕ) → t < length p.tunnels → 0 < slice_index y.rates t → mark x t ≡ true

pub record AreStages (p : Problem) (scale : ℕ) (first : Stage) (rest : List Stage) : Type 0 where
  pub low : 1 ≤ scale
  pub high : scale ≤ LARGEST_SCALE
  pub few : length rest + 1 ≤ MOST_STAGES
  pub old_rates : (t : ℕ) → t < length p.tunnels → slice_index first.rates t ≡ scale * old_rate (tunnel_at p t)
  pub old_marks : (t : ℕ) → t < length p.tunnels → mark first t ≡ is_some (tunnel_at p t).old
  pub new_rates : (t : ℕ) → t < length p.tunnels → slice_index (last_of first rest).rates t ≡ scale * new_rate (tunnel_at p t)
  pub new_marks : (t : ℕ) → t < length p.tunnels → mark (last_of first rest) t ≡ is_some (tunnel_at p t).new
  pub steps : Follows (IsStageStep p scale) first rest

module _ (p : Problem) (scale : ℕ) (first : Stage) (rest : List Stage) (are : AreStages p scale first rest) where
  abbrev plan : Plan
  plan = record { scale = scale; stages = first ∷ rest }

  step-at : (s : ℕ) → s < length (first ∷ rest) → IsStageStep p scale (stage_at plan s) (stage_at plan (next_stage plan s))
  step-at s lt = follows-at (IsStageStep p scale) first rest no_stage s (next_stage plan s) are.steps (omega arith) (omega arith)

  last-is : stage_at plan (last_stage plan) ≡ last_of first rest
  last-is =
      let e : length (first ∷ rest) - 1 ≡ length rest = omega arith in
      ap (λ s. get_or (first ∷ rest) s no_stage) e ∙ last-at first rest no_stage

  shape : has_shape p plan ≡ true
  shape =
      and_from _ _ (and_from _ _ (and_from _ _ (and_from _ _
      (le-leb 1 scale are.low)
      (le-leb scale LARGEST_SCALE are.high))
      (le-leb 1 (length (first ∷ rest)) (omega arith)))
      (le-leb (length (first ∷ rest)) MOST_STAGES (omega (arith, are.few))))
      (all_below-from (length (first ∷ rest)) (λ s. (length (stage_at plan s).rates == length p.tunnels) && (length (stage_at plan s).installed == length p.tunnels))
      (λ s lt. and_from _ _ (eq-eqb (length (stage_at plan s).rates) (length p.tunnels) (step-at s lt).rates) (eq-eqb (length (stage_at plan s).installed) (length p.tunnels) (step-at s lt).marks)))

  begins : begins_at_old p plan ≡ true
  begins = all_below-from (length p.tunnels)
      (λ t. (rate_at plan 0 t == plan.scale * old_rate (tunnel_at p t)) && same_mark (mark_at plan 0 t) (is_some (tunnel_at p t).old))
      (λ t lt. and_from _ _ (eq-eqb (rate_at plan 0 t) (scale * old_rate (tunnel_at p t)) (are.old_rates t lt)) (same_mark-from (mark_at plan 0 t) (is_some (tunnel_at p t).old) (are.old_marks t lt)))

  ends : ends_at_new p plan ≡ true
  ends = all_below-from (length p.tunnels)
      (λ t. (rate_at plan (last_stage plan) t == plan.scale * new_rate (tunnel_at p t)) && same_mark (mark_at plan (last_stage plan) t) (is_some (tunnel_at p t).new))
      (λ t lt. and_from _ _
      (eq-eqb (rate_at plan (last_stage plan) t) (scale * new_rate (tunnel_at p t)) (ap (λ x. slice_index x.rates t) last-is ∙ are.new_rates t lt))
      (same_mark-from (mark_at plan (last_stage plan) t) (is_some (tunnel_at p t).new) (ap (λ x. mark x t) last-is ∙ are.new_marks t lt)))

  module _ (net : IsNetwork p) where
    fits-at : (s : ℕ) → s < length (first ∷ rest) → (r : Resource) → is_resource p r ≡ true → nat_le (step_total p plan s r) (capacity_of p plan r) ≡ true
    fits-at s lt (the_link l) inside =
        let total = step_total-load p plan s l net in
        let few = (step-at s lt).links l (ltb-true l (length p.links) inside) in
        le-leb (step_total p plan s (the_link l)) ((link_at p l).capacity * scale) (subst (λ n. n ≤ (link_at p l).capacity * scale) (sym total) few)
    fits-at s lt (the_table w) inside =
        let total = step_total-entries_at p plan s w in
        let few = (step-at s lt).tables w (ltb-true w (length p.switches) inside) in
        le-leb (step_total p plan s (the_table w)) (switch_at p w).table (subst (λ n. n ≤ (switch_at p w).table) (sym total) few)

    fits : fits_each_step p plan ≡ true
    fits = all_below-from (length (first ∷ rest)) (λ s. all_resources p (λ r. nat_le (step_total p plan s r) (capacity_of p plan r)))
        (λ s lt. all_resources-from p (λ r. nat_le (step_total p plan s r) (capacity_of p plan r)) (fits-at s lt))

  -- the stage before has a tunnel's entries, too
  before : (s t : ℕ) → s < length (first ∷ rest) → t < length p.tunnels → 0 < rate_at plan s t → mark_at plan (s - 1) t ≡ true
  before zero t lt inside flows = (step-at 0 lt).here t inside flows
  before (suc s) t lt inside flows =
      let back : suc s - 1 ≡ s = omega arith in
      let next : next_stage plan s ≡ suc s = omega arith in
      ap (λ n. mark_at plan n t) back ∙ (step-at s (omega arith)).behind t inside (subst (λ n. 0 < rate_at plan n t) (sym next) flows)

  carried : (s t : ℕ) → s < length (first ∷ rest) → t < length p.tunnels → is_carried_at plan s t ≡ true
  carried s t lt inside = elim (cases_lt 0 (rate_at plan s t)) as (λ c. is_carried_at plan s t ≡ true) [
    | inl flows ↦
        or_right (rate_at plan s t == 0) _
        (and_from _ _ (and_from _ _ (before s t lt inside flows) ((step-at s lt).here t inside flows)) ((step-at s lt).ahead t inside flows))
    | inr none ↦ or_left (rate_at plan s t == 0) _ (eq-eqb (rate_at plan s t) 0 (omega arith))
  ]

  carries : carries_what_flows p plan ≡ true
  carries = all_below-from (length (first ∷ rest)) (λ s. all_below (length p.tunnels) (is_carried_at plan s))
      (λ s lt. all_below-from (length p.tunnels) (is_carried_at plan s) (λ t inside. carried s t lt inside))

  keeps : keeps_totals p plan ≡ true
  keeps = all_below-from (length (first ∷ rest)) (λ s. all_below (length p.flows) (keeps_total_at p plan s))
      (λ s lt. all_below-from (length p.flows) (keeps_total_at p plan s) (λ f inside. (step-at s lt).totals f inside))

  pub valid-from : IsNetwork p → is_valid_plan p plan ≡ true
  valid-from net = and_from _ _ (and_from _ _ (and_from _ _ (and_from _ _ (and_from _ _ shape begins) ends) (fits net)) carries) keeps
