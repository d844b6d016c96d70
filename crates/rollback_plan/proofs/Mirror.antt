-- Stage s of the way back is stage Q - s of the way there, Q being the last one: its content, and the operations up to it.
use Rattle.std.proofs.Common.{◌≡◌, ℕ, zero, suc, ◌+◌, ◌-◌, ◌<◌, ◌≤◌, ◌==◌, Bool, false, not, ◌&&◌, if◌then◌else◌, List, [], ◌∷◌, length, slice_index, slice_index_or, inl, inr, refl, sym, ap, ap₂, ◌∙◌, arith}
use Rattle.std.proofs.lemmas.Bool.{cases_eq, eq-eqb, ne_eqb}
use Rattle.std.proofs.lemmas.List.{length-reverse, get_or-reverse}
use Rattle.rollout_rules.specs.Sums.{same_numbers, list_below}
use Rattle.rollout_rules.specs.Wan.{Problem, Plan, Stage, no_stage, flow_at, tunnel_of, stage_at, rate_at, mark_at, last_stage}
use Rattle.rollout_rules.specs.Items.{content}
use Rattle.rollout_rules.specs.Operations.{changes_behind, changes_to, operations}
use Rattle.rollout_rules.specs.declared.item.Item.{Item}
use Rattle.rollout_rules.specs.declared.item.Item.TheVariants as item
use Rattle.rollback_plan.specs.Turning.{back_problem, back_plan}

eqb-sym : (a b : ℕ) → (a == b) ≡ (b == a)
eqb-sym a b = elim (cases_eq a b) as (λ c. (a == b) ≡ (b == a)) [
  | inl e ↦ eq-eqb a b e ∙ sym (eq-eqb b a (sym e))
  | inr other ↦ ne_eqb a b other ∙ sym (ne_eqb b a (λ e. other (sym e)))
]

same_numbers-sym : (xs ys : List ℕ) → same_numbers xs ys ≡ same_numbers ys xs
same_numbers-sym [] [] = refl
same_numbers-sym [] (y ∷ ys) = refl
same_numbers-sym (x ∷ xs) [] = refl
same_numbers-sym (x ∷ xs) (y ∷ ys) = ap₂ (λ a b. a && b) (eqb-sym x y) (same_numbers-sym xs ys)

module _ (plan : Plan) where
  abbrev last : ℕ
  last = last_stage plan

  pub last-turned : last_stage (back_plan plan) ≡ last
  last-turned = ap (λ n. n - 1) (length-reverse plan.stages)

  pub stage-turned : (s : ℕ) → s < length plan.stages → stage_at (back_plan plan) s ≡ stage_at plan (last - s)
  stage-turned s lt = get_or-reverse plan.stages s no_stage lt

  pub rate-turned : (s t : ℕ) → s < length plan.stages → rate_at (back_plan plan) s t ≡ rate_at plan (last - s) t
  rate-turned s t lt = ap (λ (g : Stage). slice_index g.rates t) (stage-turned s lt)

  pub mark-turned : (s t : ℕ) → s < length plan.stages → mark_at (back_plan plan) s t ≡ mark_at plan (last - s) t
  mark-turned s t lt = ap (λ (g : Stage). slice_index_or g.installed t false) (stage-turned s lt)

  module _ (p : Problem) (some : last + 1 ≡ length plan.stages) (i : Item) where
    pub content-mirrored : (s : ℕ) → s ≤ last → content (back_problem p) (back_plan plan) i s ≡ content p plan i (last - s)
    content-mirrored s le = by_item i
      where
        inside : s < length plan.stages
        inside = omega (arith, some, le)

        by_item : (i : Item) → content (back_problem p) (back_plan plan) i s ≡ content p plan i (last - s)
        by_item (item.Flow f) = ap (λ (g : Stage). list_below (flow_at p f).tunnels (λ j. slice_index g.rates (tunnel_of p f j))) (stage-turned s inside)
        by_item (item.Entry t h) = ap (λ (g : Stage). (if slice_index_or g.installed t false then 1 else 0) ∷ []) (stage-turned s inside)

    change-mirrored : (s : ℕ) → suc s ≤ last → changes_behind (back_problem p) (back_plan plan) i s ≡ changes_behind p plan i (last - suc s)
    change-mirrored s le =
        let u = last - suc s in
        let here : last - s ≡ u + 1 = omega (arith, le) in
        let there : last - (s + 1) ≡ u = omega (arith, le) in
        ap₂ (λ x y. not (same_numbers x y))
        (content-mirrored s (omega (arith, le)) ∙ ap (content p plan i) here)
        (content-mirrored (s + 1) (omega (arith, le)) ∙ ap (content p plan i) there)
        ∙ ap not (same_numbers-sym (content p plan i (u + 1)) (content p plan i u))

    -- an item has as many operations up to both as it has in all
    pub changes-mirrored : (s : ℕ) → s ≤ last → changes_to (back_problem p) (back_plan plan) i s + changes_to p plan i (last - s) ≡ operations p plan i
    changes-mirrored zero le =
        let all : last - 0 ≡ last = omega arith in
        omega (arith, ap (changes_to p plan i) all)
    changes-mirrored (suc s) le =
        let u = last - suc s in
        let more : last - s ≡ suc u = omega (arith, le) in
        let before = changes-mirrored s (omega (arith, le)) in
        let steps : changes_to p plan i (last - s) ≡ changes_to p plan i (suc u) = ap (changes_to p plan i) more in
        let change = ap {B = ℕ} (λ (b : Bool). if b then 1 else 0) (change-mirrored s le) in
        omega (arith, before, steps, change)

    -- so the way back has as many as the way there
    pub operations-mirrored : operations (back_problem p) (back_plan plan) i ≡ operations p plan i
    operations-mirrored =
        let none : last - last ≡ 0 = omega arith in
        let steps : changes_to p plan i (last - last) ≡ changes_to p plan i 0 = ap (changes_to p plan i) none in
        let all : operations (back_problem p) (back_plan plan) i ≡ changes_to (back_problem p) (back_plan plan) i last =
        ap (changes_to (back_problem p) (back_plan plan) i) last-turned in
        omega (arith, changes-mirrored last (omega arith), steps, all)
