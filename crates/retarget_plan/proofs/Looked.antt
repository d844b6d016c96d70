-- What the looks at a graph rest on: where its items stand, by a plan that is its own.
use Rattle.std.proofs.Common.{◌≡◌, ℕ, suc, ◌+◌, ◌<◌, ◌≤◌, Bool, true, ◌&&◌, ◌==◌, nat_le, length, sym, ap, ap₂, ◌∙◌, subst, arith, leb-true}
use Rattle.std.proofs.lemmas.Bool.{and_parts, and_from}
use Rattle.rollout_rules.specs.declared.limits.TheConstants.{LARGEST_SCALE, MOST_STAGES}
use Rattle.rollout_rules.specs.Sums.{all_below}
use Rattle.rollout_rules.specs.Wan.{Problem, Plan, Rollout, tunnel_at, hops, rate_at, mark_at, last_stage, stage_at}
use Rattle.rollout_rules.specs.Items.{item_at, item_count, number_of}
use Rattle.rollout_rules.specs.History.{History, Places, places_of, stand}
use Rattle.rollout_rules.specs.Safe.{settled_rate, settled_mark}
use Rattle.rollout_rules.specs.Valid.{is_valid_plan, same_mark}
use Rattle.rollout_rules.specs.declared.item.Item.{Item}
use Rattle.rollout_rules.specs.declared.item.Item.TheVariants as item
use Rattle.rollout_rules.proofs.Numbers.{number_of-below, item_at-number_of}
use Rattle.rollout_rules.proofs.OverItems.{is_item-flow, is_item-entry}
use Rattle.rollout_laws.proofs.Standing.{stand-most}
use Rattle.dependency_graph.proofs.RoomCells.{valid-shape}

-- ---- the scale of a valid plan

-- it is between 1 and its limit
pub record IsScale (scale : ℕ) : Type 0 where
  pub some : 0 < scale
  pub most : scale ≤ LARGEST_SCALE

pub scale-is : (p : Problem) (plan : Plan) → is_valid_plan p plan ≡ true → IsScale plan.scale
scale-is p plan valid =
    let scale = nat_le 1 plan.scale && nat_le plan.scale LARGEST_SCALE in
    let rows = all_below (length plan.stages) (λ s. (length (stage_at plan s).rates == length p.tunnels) && (length (stage_at plan s).installed == length p.tunnels)) in
    let a = and_parts (scale && nat_le 1 (length plan.stages) && nat_le (length plan.stages) MOST_STAGES) rows (valid-shape p plan valid) in
    let b = and_parts (scale && nat_le 1 (length plan.stages)) (nat_le (length plan.stages) MOST_STAGES) a.0 in
    let c = and_parts scale (nat_le 1 (length plan.stages)) b.0 in
    let d = and_parts (nat_le 1 plan.scale) (nat_le plan.scale LARGEST_SCALE) c.0 in
    let some = leb-true 1 plan.scale d.0 in
    record { some = omega (arith, some); most = leb-true plan.scale LARGEST_SCALE d.1 }

-- ---- where an item stands

pub stood : (r g : Rollout) (h : History) (n stage : ℕ) → r ≡ g → stage ≡ stand g.problem g.plan (places_of g.problem h) (item_at g.problem n) → stage ≡ stand r.problem r.plan (places_of r.problem h) (item_at r.problem n)
stood r g h n stage same is = subst (λ (x : Rollout). stage ≡ stand x.problem x.plan (places_of x.problem h) (item_at x.problem n)) (sym same) is

pub stood-most : (r : Rollout) (h : History) (n stage : ℕ) → stage ≡ stand r.problem r.plan (places_of r.problem h) (item_at r.problem n) → stage ≤ last_stage r.plan
stood-most r h n stage is = omega (arith, is, stand-most r.problem r.plan (item_at r.problem n) ((places_of r.problem h).settled (item_at r.problem n)))

pub counted : (r g : Rollout) (n : ℕ) → r ≡ g → n < item_count r.problem → n < item_count g.problem
counted r g n same lt = subst (λ (x : Rollout). n < item_count x.problem) same lt

pub flow-counted : (p : Problem) (f : ℕ) → f < length p.flows → f < item_count p
flow-counted p f lt = number_of-below p (item.Flow f) (is_item-flow p f lt)

pub rate-settled : (r : Rollout) (h : History) (t f stage n : ℕ) → f < length r.problem.flows → f ≡ (tunnel_at r.problem t).flow → stage ≡ stand r.problem r.plan (places_of r.problem h) (item_at r.problem f) → n ≡ rate_at r.plan stage t
    → n ≡ settled_rate r.problem r.plan (places_of r.problem h) t
rate-settled r h t f stage n lt flow at is =
    let own : item_at r.problem f ≡ item.Flow (tunnel_at r.problem t).flow = item_at-number_of r.problem (item.Flow f) (is_item-flow r.problem f lt) ∙ ap item.Flow flow in
    is ∙ ap (λ (s : ℕ). rate_at r.plan s t) (at ∙ ap (λ (i : Item). stand r.problem r.plan (places_of r.problem h) i) own)

pub mark-stood : (r : Rollout) (h : History) (n t stage : ℕ) (b : Bool) → stage ≡ stand r.problem r.plan (places_of r.problem h) (item_at r.problem n) → b ≡ mark_at r.plan stage t
    → b ≡ mark_at r.plan (stand r.problem r.plan (places_of r.problem h) (item_at r.problem n)) t
mark-stood r h n t stage b at is = is ∙ ap (λ (s : ℕ). mark_at r.plan s t) at

-- ---- the entries of a tunnel

-- whether the entry at a hop is as the first one
abbrev pub as_first : Problem → Plan → Places → ℕ → ℕ → Bool
as_first p plan at t h = same_mark (settled_mark p plan at t h) (settled_mark p plan at t 0)

module _ (p : Problem) (t first : ℕ) (lt : t < length p.tunnels) (is : first ≡ number_of p (item.Entry t 0)) where
  pub entry-counted : (h : ℕ) → h < hops p t → first + h < item_count p
  entry-counted h hop = omega (arith, is, number_of-below p (item.Entry t h) (is_item-entry p t h lt hop))

  pub first-counted : 0 < hops p t → first < item_count p
  first-counted some = omega (arith, entry-counted 0 some)

  pub entry-at : (h : ℕ) → h < hops p t → item_at p (first + h) ≡ item.Entry t h
  entry-at h hop =
      let number : first + h ≡ number_of p (item.Entry t h) = omega (arith, is) in
      ap (item_at p) number ∙ item_at-number_of p (item.Entry t h) (is_item-entry p t h lt hop)

  pub first-at : 0 < hops p t → item_at p first ≡ item.Entry t 0
  first-at some =
      let same : first ≡ first + 0 = omega arith in
      ap (item_at p) same ∙ entry-at 0 some

  module _ (plan : Plan) (at : Places) where
    pub first-mark : (b : Bool) → 0 < hops p t → b ≡ mark_at plan (stand p plan at (item_at p first)) t → b ≡ settled_mark p plan at t 0
    first-mark b some is_there = is_there ∙ ap (λ (i : Item). mark_at plan (stand p plan at i) t) (first-at some)

    pub entry-mark : (h : ℕ) (b : Bool) → h < hops p t → b ≡ mark_at plan (stand p plan at (item_at p (first + h))) t → b ≡ settled_mark p plan at t h
    entry-mark h b hop is_there = is_there ∙ ap (λ (i : Item). mark_at plan (stand p plan at i) t) (entry-at h hop)

    pub entry-same : (h : ℕ) (same here there : Bool) → h < hops p t → same ≡ same_mark here there → here ≡ mark_at plan (stand p plan at (item_at p (first + h))) t → there ≡ mark_at plan (stand p plan at (item_at p first)) t
        → same ≡ as_first p plan at t h
    entry-same h same here there hop is_same is_here is_there =
        is_same ∙ ap₂ same_mark (entry-mark h here hop is_here) (first-mark there (omega (arith, hop)) is_there)

-- ---- one number more, and all

pub all-next : (test : ℕ → Bool) (n : ℕ) (b : Bool) → all_below n test ≡ true → b ≡ test n → b ≡ true → all_below (n + 1) test ≡ true
all-next test n b before is yes' =
    let more : suc n ≡ n + 1 = omega arith in
    subst (λ (m : ℕ). all_below m test ≡ true) more (and_from (all_below n test) (test n) before (sym is ∙ yes'))

pub all-met : (test : ℕ → Bool) (n m : ℕ) → n ≡ m → all_below n test ≡ true → true ≡ all_below m test
all-met test n m all before = sym (subst (λ (k : ℕ). all_below k test ≡ true) all before)
