-- One event of a takeover in code: what it does to the older world, and what both worlds hold then.
use Rattle.std.proofs.Common.{◌≡◌, ℕ, ◌<◌, Bool, true, false, ◌&&◌, nat_lt, List, length, Option, Some, None, is_some, unwrap_or, slice_index_or, slice_set, refl, sym, ap, ◌∙◌, subst, ⊎_elim, ltb-true}
use Rattle.std.proofs.lemmas.Bool.{and_parts, cond-true, cond-false, cases_Bool, false≢true}
use Rattle.rollout_rules.specs.Wan.{Problem, Plan, Rollout}
use Rattle.rollout_rules.specs.Network.{IsNetwork}
use Rattle.rollout_rules.specs.Items.{item_count}
use Rattle.rollout_rules.specs.Agent.{pair_of, is_at_most, Holding}
use Rattle.rollout_rules.specs.World.{World, no_op, pair_at, first_world, held_of, allows, happens, after_event}
use Rattle.rollout_rules.specs.declared.held.Held.{Held}
use Rattle.rollout_rules.specs.declared.event.Event.{Event}
use Rattle.rollout_rules.specs.declared.event.Event.TheVariants as event
use Rattle.rollout_laws.specs.Kept.{IsKept}
use Rattle.rollout_laws.specs.SafeWorlds as laws
use Rattle.rollout_laws.proofs.Durable.{goes_on_from}
use Rattle.rollout_core.specs.Worlds.{AreOfItems, Standing, with_answer}
use Rattle.takeover_rules.specs.Takeovers.{takeover_of, is_fenced, comes_to, behind_fence, after_older, newer_world, holding_as, after_newer, after_step}
use Rattle.takeover_rules.specs.declared.event.TwoEvent.TheVariants as two
use Rattle.takeover_laws.specs.InHand.{IsTaken, IsHanded}
use Rattle.takeover_laws.proofs.Ends.{rollout-kept}
use Rattle.takeover_laws.proofs.Taking.{same_holding, step-in_hand}
use Rattle.takeover_core.specs.Standings.{Taking, world_of, IsOwn, IsTaking, taking_of, behind, held_from, world_holding, newer_with_pairs, older_with_pairs, newer_after}
use Rattle.takeover_core.proofs.Sharings.{all_put, put-own, put-older}

-- the item of a command that is allowed to come is one
pub sent_inside : (p : Problem) (plan : Plan) (w : World) (n : ℕ) → AreOfItems p w.sent → allows p plan w (event.Deliver n) ≡ true → (slice_index_or w.sent n no_op).item < item_count p
sent_inside p plan w n sent allowed = sent n no_op (ltb-true n (length w.sent) allowed)

pub late_inside : (p : Problem) (plan : Plan) (w : World) (n m j : ℕ) → allows p plan w (event.Old n m j) ≡ true → n < item_count p
late_inside p plan w n m j allowed =
    let parts = and_parts (nat_lt n (item_count p) && nat_lt m w.migration) (is_at_most (pair_of m j) (pair_at w.first n)) allowed in
    ltb-true n (item_count p) (and_parts (nat_lt n (item_count p)) (nat_lt m w.migration) parts.0).0

-- a command after a fence, and any other event
some_clash : (n : ℕ) → None ≡ Some n → ⊥
some_clash n e = false≢true (ap (λ (o : Option ℕ). is_some o) e)

answered_behind : (p : Problem) (fenced : List Bool) (w done : World) (at : Option ℕ) (n : ℕ) → behind p fenced at ≡ Some n → behind_fence p fenced w at done ≡ laws.with_answer w n
answered_behind p fenced w done None n is = absurd (some_clash n is)
answered_behind p fenced w done (Some m) n is =
    ⊎_elim
    (λ (marked : is_fenced p fenced m ≡ true).
    cond-true (is_fenced p fenced m) (laws.with_answer w m) done marked
    ∙ ap (laws.with_answer w) (ap (λ (o : Option ℕ). unwrap_or o 0) (sym (cond-true (is_fenced p fenced m) (Some m) None marked) ∙ is)))
    (λ (free : is_fenced p fenced m ≡ false). absurd (some_clash n (sym (cond-false (is_fenced p fenced m) (Some m) None free) ∙ is)))
    (cases_Bool (is_fenced p fenced m))

free_behind : (p : Problem) (fenced : List Bool) (w done : World) (at : Option ℕ) → behind p fenced at ≡ None → behind_fence p fenced w at done ≡ done
free_behind p fenced w done None is = refl
free_behind p fenced w done (Some m) is =
    ⊎_elim
    (λ (marked : is_fenced p fenced m ≡ true). absurd (some_clash m (sym is ∙ cond-true (is_fenced p fenced m) (Some m) None marked)))
    (λ (free : is_fenced p fenced m ≡ false). cond-false (is_fenced p fenced m) (laws.with_answer w m) done free)
    (cases_Bool (is_fenced p fenced m))

module _ (fenced : List Bool) (s : Standing) (e : Event) where
  abbrev p : Problem
  p = s.rollout.problem

  abbrev plan : Plan
  plan = s.rollout.plan

  abbrev done_now : World
  done_now = behind_fence p fenced s.world (comes_to s.world e) (happens p plan s.world e)

  at_world : World → Standing
  at_world w = record { rollout = s.rollout; world = w }

  pub older_passes : allows p plan s.world e ≡ false → s ≡ record s { world = after_older p plan fenced s.world e }
  unfolding at_world
  older_passes other = ap at_world (sym (cond-false (allows p plan s.world e) done_now s.world other))

  pub older_answers : (n : ℕ) (x : Held) (after : Standing) → allows p plan s.world e ≡ true → behind p fenced (comes_to s.world e) ≡ Some n → x ≡ (held_of s.world n).held → after ≡ record s { world = with_answer s.world n x }
      → after ≡ record s { world = after_older p plan fenced s.world e }
  unfolding at_world
  older_answers n x after allowed is held so =
      so
      ∙ ap (λ (h : Held). at_world (with_answer s.world n h)) held
      ∙ ap at_world (sym (cond-true (allows p plan s.world e) done_now s.world allowed ∙ answered_behind p fenced s.world (happens p plan s.world e) (comes_to s.world e) n is))

  pub older_happens : (after : Standing) → allows p plan s.world e ≡ true → behind p fenced (comes_to s.world e) ≡ None → after ≡ record s { world = happens p plan s.world e }
      → after ≡ record s { world = after_older p plan fenced s.world e }
  unfolding at_world
  older_happens after allowed is so =
      so ∙ ap at_world (sym (cond-true (allows p plan s.world e) done_now s.world allowed ∙ free_behind p fenced s.world (happens p plan s.world e) (comes_to s.world e) is))

-- ---- both worlds hold the same once the pairs are shared
module _ (p : Problem) (plan : Plan) (migration : ℕ) (fenced : List Bool) (older w : World) (taken : IsTaken p plan migration fenced older w) where
  kept-newer : IsKept p plan w
  kept-newer = rollout-kept p plan migration w taken.rollout

  of_rollout : w.migration ≡ migration
  of_rollout =
      ap (λ (v : World). v.migration) taken.rollout.world
      ∙ (goes_on_from p plan (first_world p plan taken.rollout.start migration taken.rollout.first) taken.rollout.events).migration

  -- after an event of the older one that changes nothing held
  pub newer-shared : (then_older : World) → then_older.held ≡ older.held → held_from p plan w then_older.held (item_count p) ≡ then_older.held
  newer-shared then_older same =
      subst (λ (hs : List Holding). held_from p plan w hs (item_count p) ≡ hs) (sym (same ∙ taken.shared))
      (all_put p plan w w.held (item_count p) kept-newer.items kept-newer.items (put-own p plan w kept-newer))

-- ---- an event of the older controller
module _ (r : Rollout) (fenced : List Bool) (older then_older : Standing) (newer : Option Standing) (was : IsTaking r fenced older newer) (e : Event)
    (so : then_older ≡ record older { world = after_older older.rollout.problem older.rollout.plan fenced older.world e }) where
  world_so : then_older.world ≡ after_older r.problem r.plan fenced older.world e
  world_so =
      ap (λ (s : Standing). s.world) so
      ∙ ap (λ (q : Rollout). after_older q.problem q.plan fenced older.world e) was.own

  shared_newer : (m : ℕ) (v : Option Standing) → IsOwn r v → IsHanded r.problem r.plan m fenced older.world (world_of v) → world_of (newer_with_pairs then_older v) ≡ holding_as (after_older r.problem r.plan fenced older.world e) (world_of v)
  shared_newer m None own hand = refl
  shared_newer m (Some s) own hand =
      let same = same_holding r.problem r.plan was.network m fenced older.world s.world hand e in
      ap (λ (q : Rollout). Some (world_holding s.world (held_from q.problem q.plan s.world then_older.world.held (item_count q.problem)))) own
      ∙ ap (λ (hs : List Holding). Some (world_holding s.world hs)) (newer-shared r.problem r.plan m fenced older.world s.world hand then_older.world (ap (λ (x : World). x.held) world_so ∙ same))
      ∙ ap (λ (x : World). Some (world_holding s.world x.held)) world_so

  own_shared : (v : Option Standing) → IsOwn r v → IsOwn r (newer_with_pairs then_older v)
  own_shared None own = own
  own_shared (Some s) own = own

  pub taking_old : taking_of r fenced then_older (newer_with_pairs then_older newer) ≡ record { rollout = r; takeover = after_step r.problem r.plan fenced older.world (world_of newer) (two.Old e) }
  taking_old =
      ap (λ (x : World). made x (world_of (newer_with_pairs then_older newer))) world_so
      ∙ ap (λ (v : Option World). made (after_older r.problem r.plan fenced older.world e) v) (shared_newer was.migration newer was.own_newer was.hand)
    where
      made : World → Option World → Taking
      made x v = record { rollout = r; takeover = takeover_of fenced x v }

  pub taken_old : IsTaking r fenced then_older (newer_with_pairs then_older newer)
  taken_old = record {
    network = was.network;
    own = ap (λ (s : Standing). s.rollout) so ∙ was.own;
    own_newer = own_shared newer was.own_newer;
    migration = was.migration;
    hand = subst (λ (t : Taking). IsHanded r.problem r.plan was.migration fenced t.takeover.older t.takeover.newer) (sym taking_old)
        (step-in_hand r.problem r.plan was.network was.migration fenced older.world (world_of newer) was.hand (two.Old e));
  }

-- ---- a fence more
-- a newer world that stands, and none
pub newer_stands : (r : Rollout) (marks : List Bool) (older : World) (v : Option Standing) → is_some v ≡ true → world_of v ≡ newer_world r.problem r.plan marks older (world_of v)
newer_stands r marks older None some = absurd (false≢true some)
newer_stands r marks older (Some s) some = refl

pub newer_none : (v : Option Standing) → is_some v ≡ false → world_of v ≡ None
newer_none None none = refl
newer_none (Some s) none = absurd (false≢true (sym none))

kept_parts : (r : Rollout) (m : ℕ) (fenced : List Bool) (older : World) (v : Option Standing) → IsHanded r.problem r.plan m fenced older (world_of v) → is_some v ≡ false → IsKept r.problem r.plan older
kept_parts r m fenced older None hand none = hand.kept
kept_parts r m fenced older (Some s) hand none = absurd (false≢true (sym none))

pub kept_open : (r : Rollout) (fenced : List Bool) (older : Standing) (newer : Option Standing) → IsTaking r fenced older newer → is_some newer ≡ false → IsKept older.rollout.problem older.rollout.plan older.world
kept_open r fenced older newer was none =
    subst (λ (q : Rollout). IsKept q.problem q.plan older.world) (sym was.own) (kept_parts r was.migration fenced older.world newer was.hand none)

module _ (r : Rollout) (fenced marks : List Bool) (older : Standing) (newer : Option Standing) (was : IsTaking r fenced older newer) (s : ℕ) (so : marks ≡ slice_set fenced s true)
    (next : Option Standing) (own : IsOwn r next) (is : world_of next ≡ newer_world r.problem r.plan marks older.world (world_of newer)) where
  pub taking_fence : taking_of r marks older next ≡ record { rollout = r; takeover = after_step r.problem r.plan fenced older.world (world_of newer) (two.Fence s) }
  taking_fence =
      ap (λ (v : Option World). made marks v) is
      ∙ ap (λ (ms : List Bool). made ms (newer_world r.problem r.plan ms older.world (world_of newer))) so
    where
      made : List Bool → Option World → Taking
      made ms v = record { rollout = r; takeover = takeover_of ms older.world v }

  pub taken_fence : IsTaking r marks older next
  taken_fence = record {
    network = was.network;
    own = was.own;
    own_newer = own;
    migration = was.migration;
    hand = subst (λ (t : Taking). IsHanded r.problem r.plan was.migration t.takeover.fenced t.takeover.older t.takeover.newer) (sym taking_fence)
        (step-in_hand r.problem r.plan was.network was.migration fenced older.world (world_of newer) was.hand (two.Fence s));
  }

-- ---- an event of the newer controller
module _ (r : Rollout) (fenced : List Bool) (older : Standing) (net : IsNetwork r.problem) (own : older.rollout ≡ r) (e : Event) where
  taking_newer : (m : ℕ) (newer : Option Standing) → IsOwn r newer → IsHanded r.problem r.plan m fenced older.world (world_of newer)
      → taking_of r fenced (older_with_pairs (newer_after newer e) older) (newer_after newer e) ≡ record { rollout = r; takeover = after_newer r.problem r.plan fenced older.world (world_of newer) e }
  taking_newer m None owned hand = refl
  taking_newer m (Some s) owned hand =
      ap (λ (q : Rollout). made (held_from older.rollout.problem older.rollout.plan older.world (after_event q.problem q.plan s.world e).held (item_count older.rollout.problem)) (after_event q.problem q.plan s.world e)) owned
      ∙ ap (λ (q : Rollout). made (held_from q.problem q.plan older.world then_newer.held (item_count q.problem)) then_newer) own
      ∙ ap (λ (hs : List Holding). made hs then_newer) shared_then
    where
      then_newer : World
      then_newer = after_event r.problem r.plan s.world e

      made : List Holding → World → Taking
      made hs v = record { rollout = r; takeover = takeover_of fenced (world_holding older.world hs) (Some v) }

      hand_then : IsTaken r.problem r.plan m fenced (world_holding older.world then_newer.held) then_newer
      hand_then = step-in_hand r.problem r.plan net m fenced older.world (Some s.world) hand (two.New e)

      kept_then : IsKept r.problem r.plan then_newer
      kept_then = rollout-kept r.problem r.plan m then_newer hand_then.rollout

      shared_then : held_from r.problem r.plan older.world then_newer.held (item_count r.problem) ≡ then_newer.held
      shared_then =
          all_put r.problem r.plan older.world then_newer.held (item_count r.problem)
          (ap (λ (hs : List Holding). length hs) hand.shared ∙ (rollout-kept r.problem r.plan m s.world hand.rollout).items)
          kept_then.items
          (λ n lt. put-older r.problem r.plan m older.world then_newer kept_then
          (of_rollout r.problem r.plan m fenced (world_holding older.world then_newer.held) then_newer hand_then)
          hand_then.named hand_then.starts n lt)

  own_older : (v : Option Standing) → (older_with_pairs v older).rollout ≡ r
  own_older None = own
  own_older (Some s) = own

  own_after : (v : Option Standing) → IsOwn r v → IsOwn r (newer_after v e)
  own_after None owned = owned
  own_after (Some s) owned = owned

module _ (r : Rollout) (fenced : List Bool) (older : Standing) (newer : Option Standing) (was : IsTaking r fenced older newer) (e : Event) where
  pub taking_new : taking_of r fenced (older_with_pairs (newer_after newer e) older) (newer_after newer e) ≡ record { rollout = r; takeover = after_step r.problem r.plan fenced older.world (world_of newer) (two.New e) }
  taking_new = taking_newer r fenced older was.network was.own e was.migration newer was.own_newer was.hand

  pub taken_new : IsTaking r fenced (older_with_pairs (newer_after newer e) older) (newer_after newer e)
  taken_new = record {
    network = was.network;
    own = own_older r fenced older was.network was.own e (newer_after newer e);
    own_newer = own_after r fenced older was.network was.own e newer was.own_newer;
    migration = was.migration;
    hand = subst (λ (t : Taking). IsHanded r.problem r.plan was.migration t.takeover.fenced t.takeover.older t.takeover.newer) (sym taking_new)
        (step-in_hand r.problem r.plan was.network was.migration fenced older.world (world_of newer) was.hand (two.New e));
  }
