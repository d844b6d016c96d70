-- What each item has where the way back begins: what it has once so much is settled on the way there. And what that comes to at the ceiling.
use Rattle.std.proofs.Common.{◌≡◌, ℕ, suc, ◌+◌, ◌-◌, ◌<◌, ◌≤◌, true, nat_le, inl, inr, sym, ap, ◌∙◌, subst, arith, le-leb, le_of_eq}
use Rattle.std.proofs.lemmas.Bool.{and_from, both_ways, cases_lt}
use Rattle.rollout_rules.specs.Wan.{Problem, Plan, last_stage}
use Rattle.rollout_rules.specs.Items.{item_count, item_at, content}
use Rattle.rollout_rules.specs.Operations.{changes_to, content_after, operations, stand_after}
use Rattle.rollout_rules.specs.History.{History, begun, settled}
use Rattle.rollout_rules.specs.Valid.{is_valid_plan}
use Rattle.rollout_rules.specs.Legal.{is_legal, is_sound}
use Rattle.rollout_rules.specs.declared.item.Item.{Item}
use Rattle.rollout_rules.proofs.Below.{all_below-from}
use Rattle.rollout_rules.proofs.Rows.{list_below-at, list_below-same}
use Rattle.rollout_laws.proofs.Histories.{is_counted}
use Rattle.rollout_laws.proofs.Standing.{changes-step, changes-up, content-kept, stand-most, stand-passes, stand-past}
use Rattle.rollout_laws.proofs.Validity.{plan-is_valid}
use Rattle.rollback_plan.specs.Turning.{back_problem, back_plan}
use Rattle.rollback_plan.specs.Levels.{ceiling, is_levelled, is_levelled_at}
use Rattle.rollback_plan.specs.Turns.{BeginsBack, BegunSoFar, HasComeSoFar, TurnsFirstAt, comes_to, may_turn}
use Rattle.rollback_plan.proofs.Ceilings.{begun-up_to_ceiling}
use Rattle.rollback_plan.proofs.Mirror.{changes-mirrored, content-mirrored, last-turned}

-- ---- an item with so many operations settled, of those that it has

module _ (p : Problem) (plan : Plan) (i : Item) (k : ℕ) (exist : k ≤ operations p plan i) where
  abbrev at : ℕ
  at = stand_after p plan i k

  -- where fewer lead up to where it stands it would stand before the last stage
  stands-before : changes_to p plan i at < k → at < last_stage plan
  stands-before fewer = elim (cases_lt at (last_stage plan)) as (λ c. at < last_stage plan) [
    | inl before ↦ before
    | inr past ↦ absurd (omega (arith, fewer, exist, changes-up p plan i (last_stage plan) at past))
  ]

  never-fewer : changes_to p plan i at < k → ⊥
  never-fewer fewer =
      let e : suc at ≡ at + 1 = omega arith in
      let next : changes_to p plan i (at + 1) ≤ k = subst (λ s. changes_to p plan i s ≤ k) e (omega (arith, changes-step p plan i at, fewer)) in
      let further : at + 1 ≤ at = stand-past p plan i k (at + 1) (omega (arith, stands-before fewer)) next in
      omega (arith, further)

  -- so exactly these lead up to there
  stands-exactly : changes_to p plan i at ≡ k
  stands-exactly = elim (cases_lt (changes_to p plan i at) k) as (λ c. changes_to p plan i at ≡ k) [
    | inl fewer ↦ absurd (never-fewer fewer)
    | inr enough ↦ omega (arith, enough, stand-passes p plan i k)
  ]

  -- and the way back has its content once those that are left are settled there
  pub content-back : is_valid_plan p plan ≡ true → content_after (back_problem p) (back_plan plan) i (operations p plan i - k) ≡ content_after p plan i k
  content-back valid =
      let q = back_problem p in
      let there = back_plan plan in
      let left = last_stage plan - at in
      let high = stand-most p plan i k in
      let here : last_stage plan - left ≡ at = omega (arith, high) in
      let some = (plan-is_valid p plan valid).stages in
      let mirrored : changes_to q there i left + changes_to p plan i (last_stage plan - left) ≡ operations p plan i = changes-mirrored plan p some i left (omega arith) in
      let up : changes_to p plan i (last_stage plan - left) ≡ k = ap (changes_to p plan i) here ∙ stands-exactly in
      let made : changes_to q there i left ≡ operations p plan i - k = omega (arith, mirrored, up) in
      let within : left ≤ last_stage there = omega (arith, last-turned plan) in
      sym (content-kept q there i (operations p plan i - k) left (le_of_eq (sym made)) (stand-past q there i (operations p plan i - k) left within (le_of_eq made)))
      ∙ content-mirrored plan p some i left (omega arith)
      ∙ ap (content p plan i) here

-- ---- where a history may turn

module _ (p : Problem) (plan : Plan) (h : History) (s : ℕ) (legal : is_legal p plan h ≡ true) (most : s ≤ last_stage plan) (valid : is_valid_plan p plan ≡ true) where
  comes-exist : (n : ℕ) → n < item_count p → comes_to p plan h s n ≤ operations p plan (item_at p n)
  comes-exist n lt = omega (arith, (is_counted p plan h legal n).exist lt, changes-up p plan (item_at p n) s (last_stage plan) most)

  pub begins-back : may_turn p plan h s ≡ true → BeginsBack p plan h s
  begins-back sound = record {
    sound = sound;
    contents = λ n lt.
        ap (content_after (back_problem p) (back_plan plan) (item_at p n)) (list_below-at (item_count p) (λ m. operations p plan (item_at p m) - comes_to p plan h s m) n 0 lt)
        ∙ content-back p plan (item_at p n) (comes_to p plan h s n) (comes-exist n lt) valid;
  }

-- ---- at the ceiling, what has come so far is level

module _ (p : Problem) (plan : Plan) (found : History) (legal : is_legal p plan found ≡ true) where
  pub comes-to_ceiling : (n : ℕ) → n < item_count p → comes_to p plan found (ceiling p plan found) n ≡ changes_to p plan (item_at p n) (ceiling p plan found)
  comes-to_ceiling n lt = omega (arith, begun-up_to_ceiling p plan found legal n lt)

  pub so_far-levelled : (h : History) → HasComeSoFar p plan found (ceiling p plan found) h → is_levelled p plan h (ceiling p plan found) ≡ true
  so_far-levelled h come = all_below-from (item_count p) (is_levelled_at p plan h (ceiling p plan found)) (λ n lt.
      let up : settled h n ≡ changes_to p plan (item_at p n) (ceiling p plan found) = come.settled_so n lt ∙ comes-to_ceiling n lt in
      let same : begun h n ≡ settled h n = come.still n lt in
      let most = changes_to p plan (item_at p n) (ceiling p plan found) in
      and_from (nat_le most (settled h n)) (nat_le (begun h n) most) (le-leb most (settled h n) (le_of_eq (sym up))) (le-leb (begun h n) most (le_of_eq (same ∙ up))))

-- ---- a turn that is given again

module _ (p : Problem) (plan : Plan) (found h : History) (s t : ℕ) (more : (n : ℕ) → n < item_count p → begun found n ≤ begun h n) (so : BegunSoFar p plan found s h)
    (turned : may_turn p plan found s ≡ true) (again : TurnsFirstAt p plan h t) where
  same-so_far : (n : ℕ) → n < item_count p → comes_to p plan h s n ≡ comes_to p plan found s n
  same-so_far n lt = omega (arith, more n lt, so n lt)

  -- at that stage it might turn still, so it turns there or before
  no-later : t ≤ s
  no-later = elim (cases_lt s t) as (λ c. t ≤ s) [
    | inl before ↦
        let starts = list_below-same (item_count p) (λ n. operations p plan (item_at p n) - comes_to p plan h s n) (λ n. operations p plan (item_at p n) - comes_to p plan found s n)
        (λ n lt. ap (λ (k : ℕ). operations p plan (item_at p n) - k) (same-so_far n lt)) in
        let still : may_turn p plan h s ≡ true = ap (is_sound (back_problem p) (back_plan plan)) starts ∙ turned in
        absurd (both_ways (may_turn p plan h s) (again.first s before) still)
    | inr from ↦ from
  ]

  pub no-further : (n : ℕ) → n < item_count p → comes_to p plan h t n ≤ comes_to p plan found s n
  no-further n lt = omega (arith, so n lt, changes-up p plan (item_at p n) t s no-later)
