-- What the switches hold, by the pairs alone.
use Rattle.std.proofs.Common.{◌≡◌, ℕ, ◌+◌, ◌<◌, Bool, true, cond, List, [], ◌∷◌, ◌++◌, length, length-set, slice_index, get_or, set, refl, sym, ap, ◌∙◌, subst, inl, inr, arith, eq-eqb}
use Rattle.std.proofs.Math.ListN.{replicate}
use Rattle.std.proofs.lemmas.Bool.{cases_Bool, cases_eq}
use Rattle.std.proofs.lemmas.List.{get_or_default, get_or-set_same, get_or-set_other, ext_get_or, get_or-replicate, length-replicate}
use Rattle.rollout_rules.specs.Sums.{list_below}
use Rattle.rollout_rules.specs.Wan.{Problem, Plan, Rollout}
use Rattle.rollout_rules.specs.Items.{item_count, item_at}
use Rattle.rollout_rules.specs.Operations.{content_after}
use Rattle.rollout_rules.specs.History.{started}
use Rattle.rollout_rules.specs.Agent.{Holding, nothing_held, pair_of, first_pair, is_next_command, held_after}
use Rattle.rollout_rules.specs.World.{World, holding_of, pair_at, first_world, received, delivered, comes_late}
use Rattle.rollout_rules.specs.declared.held.Held.{Held}
use Rattle.rollout_rules.specs.declared.held.Given.{Given}
use Rattle.rollout_rules.specs.declared.op.Op.{Op}
use Rattle.rollout_rules.specs.declared.op.Entry.{Entry}
use Rattle.rollout_rules.proofs.Rows.{list_below-at, list_below-length}
use Rattle.rollout_core.specs.Worlds.{Recorded, Standing, holdings, standing_of, with_held}

-- ---- a list by its places
module _ {X : Type 0} where
  pub list_below-same : (n : ℕ) (x d : X) → list_below n (λ k. x) ≡ replicate n x
  list_below-same n x d =
      ext_get_or d (list_below n (λ k. x)) (replicate n x) (list_below-length n (λ k. x) ∙ sym (length-replicate n x))
      (λ k lt. let below = subst (λ m. k < m) (list_below-length n (λ k. x)) lt in list_below-at n (λ k. x) k d below ∙ sym (get_or-replicate n k x d below))

-- ---- what is held, place by place
module _ (p : Problem) (plan : Plan) (start : List ℕ) (migration : ℕ) where
  abbrev held_as : ℕ → Held → Holding
  held_as = holding_of p plan start migration

  pub holdings-length : (pairs : List Held) → length (holdings p plan start migration pairs) ≡ length pairs
  holdings-length pairs = list_below-length (length pairs) (λ n. held_as n (pair_at pairs n))

  pub holdings-at : (pairs : List Held) (i : ℕ) → i < length pairs → get_or (holdings p plan start migration pairs) i nothing_held ≡ held_as i (pair_at pairs i)
  holdings-at pairs i inside = list_below-at (length pairs) (λ n. held_as n (pair_at pairs n)) i nothing_held inside

  -- another pair at one item
  pub holdings-set : (pairs : List Held) (i : ℕ) (x : Held) → i < length pairs → holdings p plan start migration (set pairs i x) ≡ set (holdings p plan start migration pairs) i (held_as i x)
  holdings-set pairs i x inside =
      ext_get_or nothing_held (holdings p plan start migration (set pairs i x)) (set (holdings p plan start migration pairs) i (held_as i x))
      (holdings-length (set pairs i x) ∙ length-set pairs i x ∙ sym (holdings-length pairs) ∙ sym (length-set (holdings p plan start migration pairs) i (held_as i x)))
      (λ k lt. at k (subst (λ n. k < n) (holdings-length (set pairs i x)) lt))
    where
      at : (k : ℕ) → k < length (set pairs i x) → get_or (holdings p plan start migration (set pairs i x)) k nothing_held ≡ get_or (set (holdings p plan start migration pairs) i (held_as i x)) k nothing_held
      at k lt = holdings-at (set pairs i x) k lt ∙ elim (cases_eq i k) as (λ _. held_as k (pair_at (set pairs i x) k) ≡ get_or (set (holdings p plan start migration pairs) i (held_as i x)) k nothing_held) [
        | inl same ↦ subst (λ m. held_as m (pair_at (set pairs i x) m) ≡ get_or (set (holdings p plan start migration pairs) i (held_as i x)) m nothing_held) same
            (ap (held_as i) (get_or-set_same pairs i x first_pair inside)
            ∙ sym (get_or-set_same (holdings p plan start migration pairs) i (held_as i x) nothing_held (subst (λ n. i < n) (sym (holdings-length pairs)) inside)))
        | inr other ↦
            ap (held_as k) (get_or-set_other pairs i k x first_pair (λ q. other (sym q)))
            ∙ sym (get_or-set_other (holdings p plan start migration pairs) i k (held_as i x) nothing_held (λ q. other (sym q))
            ∙ holdings-at pairs k (subst (λ n. k < n) (length-set pairs i x) lt))
      ]

  -- the switch of item n holds what the agent rule says, with the content for which the pair stands
  pub holding-after : (n : ℕ) (x asked : Held) → held_after (held_as n x) asked (held_as n asked).content ≡ held_as n (cond (is_next_command x asked) asked x)
  holding-after n x asked = elim (cases_Bool (is_next_command x asked)) as (λ _. held_after (held_as n x) asked (held_as n asked).content ≡ held_as n (cond (is_next_command x asked) asked x)) [
    | inl next ↦ ap (λ b. cond b (held_as n asked) (held_as n x)) next ∙ sym (ap (λ b. held_as n (cond b asked x)) next)
    | inr kept ↦ ap (λ b. cond b (held_as n asked) (held_as n x)) kept ∙ sym (ap (λ b. held_as n (cond b asked x)) kept)
  ]

-- ---- worlds by their parts
module _ (r : Recorded) (migration : ℕ) (first : List Held) (up : Bool) (b : List Entry) (s : List Op) (t : List Given) where
  abbrev p : Problem
  p = r.rollout.problem

  abbrev plan : Plan
  plan = r.rollout.plan

  abbrev held_by : List Held → List Holding
  held_by = holdings p plan r.history.start migration

  parts : List Given → List Holding → Standing
  parts given held = record { rollout = r.rollout; world = record { migration = migration; first = first; durable = r.history; up = up; writing = b; sent = s; given = given; handed = t; held = held } }

  -- the pair that a switch holds
  pub held-at : (pairs : List Held) (i : ℕ) (x : Held) → i < length pairs → x ≡ get_or pairs i x → x ≡ (get_or (held_by pairs) i nothing_held).held
  held-at pairs i x inside is = is ∙ get_or_default pairs i x first_pair inside ∙ sym (ap (λ h. h.held) (holdings-at p plan r.history.start migration pairs i inside))

  -- a pair put at one item
  pub held-set : (g : List Given) (pairs : List Held) (i : ℕ) (x : Held) → i < length pairs
      → standing_of r migration first up b s g t (set pairs i x) ≡ record { rollout = r.rollout; world = with_held p plan (standing_of r migration first up b s g t pairs).world i x }
  unfolding parts
  held-set g pairs i x inside = ap (parts g) (holdings-set p plan r.history.start migration pairs i x inside)

  -- a command received: the item's switch holds a pair by the agent rule, which is its answer
  pub received-pairs : (g g' : List Given) (pairs : List Held) (i : ℕ) (asked x held : Held)
      → i < length pairs → x ≡ get_or pairs i x → held ≡ cond (is_next_command x asked) asked x → g' ≡ g ++ record { item = i; held = held } ∷ []
      → standing_of r migration first up b s g' t (set pairs i held) ≡ record { rollout = r.rollout; world = comes_late p plan (standing_of r migration first up b s g t pairs).world i asked }
  unfolding parts
  received-pairs g g' pairs i asked x held inside is applied answers =
      ap (λ l. parts l (held_by (set pairs i held))) answers
      ∙ ap (parts (g ++ record { item = i; held = held } ∷ [])) (holdings-set p plan r.history.start migration pairs i held inside)
      ∙ ap (λ v. parts (g ++ record { item = i; held = v.held } ∷ []) (set (held_by pairs) i v)) (sym now)
    where
      there : get_or (held_by pairs) i nothing_held ≡ holding_of p plan r.history.start migration i x
      there = holdings-at p plan r.history.start migration pairs i inside ∙ ap (holding_of p plan r.history.start migration i) (sym (is ∙ get_or_default pairs i x first_pair inside))

      now : held_after (get_or (held_by pairs) i nothing_held) asked (holding_of p plan r.history.start migration i asked).content ≡ holding_of p plan r.history.start migration i held
      now =
          ap (λ h. held_after h asked (holding_of p plan r.history.start migration i asked).content) there
          ∙ holding-after p plan r.history.start migration i x asked
          ∙ ap (holding_of p plan r.history.start migration i) (sym applied)

-- the first world by its parts in code
pub first_standing : (r : Recorded) (rollout : Rollout) (start : List ℕ) (migration : ℕ) (first ks pairs : List Held) (b : List Entry) (s : List Op) (g t : List Given)
    → r ≡ record { rollout = rollout; history = started start } → ks ≡ first → pairs ≡ first → b ≡ [] → s ≡ [] → g ≡ [] → t ≡ [] → length first ≡ item_count rollout.problem
    → standing_of r migration ks true b s g t pairs ≡ record { rollout = rollout; world = first_world rollout.problem rollout.plan start migration first }
first_standing r rollout start migration first ks pairs b s g t er ek ep eb es eg et all =
    (λ k. standing_of (er k) migration (ek k) true (eb k) (es k) (eg k) (et k) (ep k))
    ∙ ap (λ n. begins (list_below n (λ i. holding_of rollout.problem rollout.plan start migration i (pair_at first i)))) all
  where
    begins : List Holding → Standing
    begins held = record { rollout = rollout; world = record { migration = migration; first = first; durable = started start; up = true; writing = []; sent = []; given = []; handed = []; held = held } }

-- a command of this migration brings the content of its number
pub delivered-comes : (p : Problem) (plan : Plan) (w : World) (op : Op) → comes_late p plan w op.item (pair_of w.migration op.number) ≡ delivered p plan w op
delivered-comes p plan w op =
    ap (λ b. received w op.item (pair_of w.migration op.number) (content_after p plan (item_at p op.item) (cond b op.number (slice_index w.durable.start op.item))))
    (eq-eqb w.migration w.migration refl)
