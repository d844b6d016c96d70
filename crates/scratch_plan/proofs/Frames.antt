-- The frame over rates that may follow one another is a valid plan where the tables have room.
use Rattle.std.proofs.Common.{◌≡◌, ℕ, ◌+◌, ◌*◌, ◌<◌, ◌≤◌, max, Bool, true, false, ◌&&◌, ◌||◌, List, [], ◌∷◌, ◌++◌, map, length, get_or, slice_index, nat_le, if◌then◌else◌, refl, sym, ap, subst, ◌∙◌, inl, inr, arith, leb-true}
use Rattle.std.proofs.lemmas.Bool.{and_parts, cases_Bool, or_cases}
use Rattle.std.proofs.lemmas.List.{append-nil, length-map, length-append}
use Rattle.std.specs.List.{list_any}
use Rattle.lists.proofs.Conditions.{if_mono}
use Rattle.rollout_rules.specs.declared.limits.TheConstants.{MOST_STAGES}
use Rattle.rollout_rules.specs.Wan.{Problem, Stage, Tunnel, tunnel_at, switch_at, old_rate, new_rate, crosses}
use Rattle.rollout_rules.specs.Network.{IsNetwork}
use Rattle.rollout_rules.specs.Items.{load, entries_at}
use Rattle.rollout_rules.specs.Valid.{is_valid_plan}
use Rattle.rollout_rules.specs.Slack.{was_installed, is_wanted_or_carrying, has_table_room}
use Rattle.rollout_rules.proofs.Below.{sum_below-mono, all_below-at}
use Rattle.scratch_plan.specs.Marks.{was_there, is_wanted, is_used, is_kept, is_idle, is_fresh, is_left}
use Rattle.scratch_plan.specs.Frame.{stage_of, where_any, old_row, new_row, plan_over}
use Rattle.scratch_plan.specs.Steps.{last_of, Follows, IsRateStep, AreRateSteps}
use Rattle.scratch_plan.proofs.Stages.{mark, IsStageStep, AreStages, valid-from}
use Rattle.scratch_plan.proofs.Installed.{mark-stage_of, rate-row, kept-used, kept-there, wanted-used, old-kept, new-wanted, same_stage, without_idle, without_fresh, without_left, entries-mono}

-- a load where each tunnel has at least as much is at least as large
pub load-mono : (p : Problem) (f g : ℕ → ℕ) (l : ℕ) → ((t : ℕ) → t < length p.tunnels → f t ≤ g t) → load p f l ≤ load p g l
load-mono p f g l le = sum_below-mono (length p.tunnels) (λ t. if crosses p t l then f t else 0) (λ t. if crosses p t l then g t else 0) (λ t inside. if_mono (crosses p t l) (f t) (g t) (le t inside))

-- entries of a set of tunnels fit in each table
abbrev Fit : Problem → (Tunnel → Bool) → Type 0
Fit p u = (w : ℕ) → w < length p.switches → entries_at p (λ t h. u (tunnel_at p t)) w ≤ (switch_at p w).table

-- a step between two stages whose tunnels are among those of a set that fits
module _ (p : Problem) (scale : ℕ) (a b : List ℕ) (m n u : Tunnel → Bool) where
  step-from : Fit p u → IsRateStep p scale a b → ((t : Tunnel) → m t ≡ true → u t ≡ true) → ((t : Tunnel) → n t ≡ true → u t ≡ true)
      → ((t : ℕ) → t < length p.tunnels → 0 < get_or a t 0 → m (tunnel_at p t) ≡ true) → ((t : ℕ) → t < length p.tunnels → 0 < get_or a t 0 → n (tunnel_at p t) ≡ true) → ((t : ℕ) → t < length p.tunnels → 0 < get_or b t 0 → m (tunnel_at p t) ≡ true)
      → IsStageStep p scale (stage_of p a m) (stage_of p b n)
  step-from fit step m_u n_u a_m a_n b_m = record {
    rates = step.before.count;
    marks = length-map p.tunnels m;
    totals = step.before.totals;
    links = step.fits;
    tables = λ w inside.
        let less = entries-mono p (λ t h. mark (stage_of p a m) t || mark (stage_of p b n) t) (λ t h. u (tunnel_at p t)) w (λ t h low there.
        elim (or_cases (mark (stage_of p a m) t) (mark (stage_of p b n) t) there) as (λ c. u (tunnel_at p t) ≡ true) [
          | inl left ↦ m_u (tunnel_at p t) (sym (mark-stage_of p a m t low) ∙ left)
          | inr right ↦ n_u (tunnel_at p t) (sym (mark-stage_of p b n t low) ∙ right)
        ]) in
        omega (arith, less, fit w inside);
    here = λ t inside flows. mark-stage_of p a m t inside ∙ a_m t inside flows;
    ahead = λ t inside flows. mark-stage_of p b n t inside ∙ a_n t inside flows;
    behind = λ t inside flows. mark-stage_of p a m t inside ∙ b_m t inside flows;
  }

-- a stage that may be left out
module _ (p : Problem) (test : Tunnel → Bool) (x y : Stage) (rest : List Stage) (same : list_any test p.tunnels ≡ false → x ≡ y) where
  follows-where : (R : Stage → Stage → Type 0) → R x y → Follows R y rest → Follows R x (where_any test p y ++ rest)
  follows-where R step follows = elim (cases_Bool (list_any test p.tunnels)) as (λ c. Follows R x (where_any test p y ++ rest)) [
    | inl any ↦ rw any (step, follows)
    | inr none ↦ rw none (subst (λ z. Follows R z rest) (sym (same none)) follows)
  ]

  last-where : last_of x (where_any test p y ++ rest) ≡ last_of y rest
  last-where = elim (cases_Bool (list_any test p.tunnels)) as (λ c. last_of x (where_any test p y ++ rest) ≡ last_of y rest) [
    | inl any ↦ rw any refl
    | inr none ↦ rw none (ap (λ z. last_of z rest) (same none))
  ]

length-where : (p : Problem) (test : Tunnel → Bool) (y : Stage) → length (where_any test p y) ≤ 1
length-where p test y = elim (cases_Bool (list_any test p.tunnels)) as (λ c. length (where_any test p y) ≤ 1) [
  | inl any ↦ rw any (omega arith)
  | inr none ↦ rw none (omega arith)
]

last-rows : {A B : Type 0} (f : A → B) (a : A) (rows : List A) (rest : List B) → last_of (f a) (map f rows ++ rest) ≡ last_of (f (last_of a rows)) rest
last-rows f a [] rest = refl
last-rows f a (b ∷ rows) rest = last-rows f b rows rest

-- the first rates by themselves
first-step : (p : Problem) (scale : ℕ) (a : List ℕ) (rows : List (List ℕ)) → Follows (IsRateStep p scale) a rows → IsRateStep p scale a a
first-step p scale a [] steps = steps
first-step p scale a (b ∷ rows) steps = record {
  before = steps.0.before;
  after = steps.0.before;
  fits = λ l inside.
      let less = load-mono p (λ t. max (slice_index a t) (slice_index a t)) (λ t. max (slice_index a t) (slice_index b t)) l (λ t low. omega arith) in
      omega (arith, less, steps.0.fits l inside);
}

-- and the last
pub last-step : (p : Problem) (scale : ℕ) (a b : List ℕ) → IsRateStep p scale a b → IsRateStep p scale b b
last-step p scale a b step = record {
  before = step.after;
  after = step.after;
  fits = λ l inside.
      let less = load-mono p (λ t. max (slice_index b t) (slice_index b t)) (λ t. max (slice_index a t) (slice_index b t)) l (λ t low. omega arith) in
      omega (arith, less, step.fits l inside);
}

module _ (p : Problem) (scale : ℕ) (rows : List (List ℕ)) (room : has_table_room p ≡ true) (are : AreRateSteps p scale rows) where
  abbrev R : Stage → Stage → Type 0
  R = IsStageStep p scale

  abbrev old : List ℕ
  old = old_row p scale

  abbrev new : List ℕ
  new = new_row p scale

  abbrev moving : List ℕ → Stage
  moving row = stage_of p row is_used

  abbrev ended : Stage
  ended = stage_of p new is_wanted

  there-fits : Fit p was_there
  there-fits w inside = leb-true (entries_at p (was_installed p) w) (switch_at p w).table (and_parts _ _ (all_below-at (length p.switches) (λ v. nat_le (entries_at p (was_installed p) v) (switch_at p v).table && nat_le (entries_at p (is_wanted_or_carrying p) v) (switch_at p v).table) room w inside)).0

  used-fits : Fit p is_used
  used-fits w inside = leb-true (entries_at p (is_wanted_or_carrying p) w) (switch_at p w).table (and_parts _ _ (all_below-at (length p.switches) (λ v. nat_le (entries_at p (was_installed p) v) (switch_at p v).table && nat_le (entries_at p (is_wanted_or_carrying p) v) (switch_at p v).table) room w inside)).1

  -- after the rates have moved
  to-end : IsRateStep p scale new new → Follows R (moving new) (where_any is_left p ended)
  to-end step =
      let carried : (t : ℕ) → t < length p.tunnels → 0 < get_or new t 0 → is_wanted (tunnel_at p t) ≡ true = λ t inside flows. new-wanted p scale t inside flows in
      let used : (t : ℕ) → t < length p.tunnels → 0 < get_or new t 0 → is_used (tunnel_at p t) ≡ true = λ t inside flows. wanted-used (tunnel_at p t) (carried t inside flows) in
      subst (Follows R (moving new)) (append-nil (where_any is_left p ended))
      (follows-where p is_left (moving new) ended [] (same_stage p new is_left is_used is_wanted without_left) R
      (step-from p scale new new is_used is_wanted is_used used-fits step (λ t e. e) wanted-used used carried used)
      (step-from p scale new new is_wanted is_wanted is_used used-fits step wanted-used wanted-used carried carried carried))

  -- while the rates move
  through : (a : List ℕ) (rest : List (List ℕ)) → Follows (IsRateStep p scale) a rest → last_of a rest ≡ new → Follows R (moving a) (map moving rest ++ where_any is_left p ended)
  through a [] steps e = subst (λ row. Follows R (moving row) (where_any is_left p ended)) (sym e) (to-end (subst (λ row. IsRateStep p scale row row) e steps))
  through a (b ∷ rest) steps e =
      let step = steps.0 in
      (step-from p scale a b is_used is_used is_used used-fits step (λ t q. q) (λ t q. q) step.before.used step.before.used step.after.used, through b rest steps.1 e)

  start : IsRateStep p scale old old
  start = first-step p scale old rows are.steps

  kept : (t : ℕ) → t < length p.tunnels → 0 < get_or old t 0 → is_kept (tunnel_at p t) ≡ true
  kept t inside flows = old-kept p scale t inside flows

  there : (t : ℕ) → t < length p.tunnels → 0 < get_or old t 0 → was_there (tunnel_at p t) ≡ true
  there t inside flows = kept-there (tunnel_at p t) (kept t inside flows)

  abbrev stage0 : Stage
  stage0 = stage_of p old was_there

  abbrev emptied : Stage
  emptied = stage_of p old is_kept

  abbrev behind_fresh : List Stage
  behind_fresh = map moving rows ++ where_any is_left p ended

  abbrev behind_idle : List Stage
  behind_idle = where_any is_fresh p (moving old) ++ behind_fresh

  follow : Follows R stage0 (where_any is_idle p emptied ++ behind_idle)
  follow =
      follows-where p is_idle stage0 emptied behind_idle (same_stage p old is_idle was_there is_kept without_idle) R
      (step-from p scale old old was_there is_kept was_there there-fits start (λ t e. e) kept-there there kept there)
      (follows-where p is_fresh emptied (moving old) behind_fresh (same_stage p old is_fresh is_kept is_used without_fresh) R
      (step-from p scale old old is_kept is_used is_used used-fits start kept-used (λ t e. e) kept (λ t inside flows. kept-used (tunnel_at p t) (kept t inside flows)) kept)
      (through old rows are.steps are.last))

  last-is : last_of stage0 (where_any is_idle p emptied ++ behind_idle) ≡ ended
  last-is =
      last-where p is_idle stage0 emptied behind_idle (same_stage p old is_idle was_there is_kept without_idle)
      ∙ last-where p is_fresh emptied (moving old) behind_fresh (same_stage p old is_fresh is_kept is_used without_fresh)
      ∙ last-rows moving old rows (where_any is_left p ended)
      ∙ ap (λ row. last_of (moving row) (where_any is_left p ended)) are.last
      ∙ ap (last_of (moving new)) (sym (append-nil (where_any is_left p ended)))
      ∙ last-where p is_left (moving new) ended [] (same_stage p new is_left is_used is_wanted without_left)

  count : length (where_any is_idle p emptied ++ behind_idle) + 1 ≤ MOST_STAGES
  count =
      omega (
        arith,
        length-append (where_any is_idle p emptied) behind_idle,
        length-where p is_idle emptied,
        length-append (where_any is_fresh p (moving old)) behind_fresh,
        length-where p is_fresh (moving old),
        length-append (map moving rows) (where_any is_left p ended),
        length-where p is_left ended,
        length-map rows moving,
        are.few,
      )

  pub frame-stages : AreStages p scale stage0 (where_any is_idle p emptied ++ behind_idle)
  frame-stages = record {
    low = are.low;
    high = are.high;
    few = count;
    old_rates = λ t inside. rate-row p (λ u. scale * old_rate u) t inside;
    old_marks = λ t inside. mark-stage_of p old was_there t inside;
    new_rates = λ t inside. ap (λ x. slice_index x.rates t) last-is ∙ rate-row p (λ u. scale * new_rate u) t inside;
    new_marks = λ t inside. ap (λ x. mark x t) last-is ∙ mark-stage_of p new is_wanted t inside;
    steps = follow;
  }

  pub frame-valid : IsNetwork p → is_valid_plan p (plan_over p scale rows) ≡ true
  frame-valid net = valid-from p scale stage0 (where_any is_idle p emptied ++ behind_idle) frame-stages net
