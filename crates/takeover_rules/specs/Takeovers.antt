-- Two controllers of one migration as a pure machine: an older one with its journal, and a newer one without it, which fences
-- the switches off from the older one and goes on with what they hold.
use Rattle.std.specs.Prelude.{ℕ, Bool, true, false, ◌||◌, List, [], ◌∷◌, length, replicate, Option, Some, None, ◌==◌, if◌then◌else◌, slice_index_or, slice_set}
use Rattle.rollout_rules.specs.Sums.{all_below}
use Rattle.rollout_rules.specs.Wan.{Problem, Plan}
use Rattle.rollout_rules.specs.Items.{item_count, item_at, home_of}
use Rattle.rollout_rules.specs.Operations.{operations}
use Rattle.rollout_rules.specs.World.{World, no_op, first_world, allows, happens, after_event}
use Rattle.rollout_rules.specs.declared.held.Held.{Held}
use Rattle.rollout_rules.specs.declared.event.Event.{Event}
use Rattle.rollout_rules.specs.declared.event.Event.TheVariants as event
use Rattle.rollout_laws.specs.SafeWorlds.{with_answer, applied, pairs_held}
use Rattle.takeover_rules.specs.declared.event.TwoEvent.{TwoEvent}
use Rattle.takeover_rules.specs.declared.event.TwoEvent.TheVariants as two

-- The parts of a takeover: a mark per switch, whether it is fenced off from the older controller; the older controller's
-- world; and the newer one's, once it has begun. What the switches hold is the same in both.
pub record Takeover : Type 0 where
  pub fenced : List Bool
  pub older : World
  pub newer : Option World

abbrev pub takeover_of : List Bool → World → Option World → Takeover
takeover_of fenced older newer = record { fenced = fenced; older = older; newer = newer }

-- whether a home is fenced
abbrev pub is_home_fenced : List Bool → Option ℕ → Bool
is_home_fenced fenced None = false
is_home_fenced fenced (Some s) = slice_index_or fenced s false

-- whether the switch of item n is
abbrev pub is_fenced : Problem → List Bool → ℕ → Bool
is_fenced p fenced n = is_home_fenced fenced (home_of p (item_at p n))

-- whether the switch of each item with an operation is
abbrev pub is_all_fenced : Problem → Plan → List Bool → Bool
is_all_fenced p plan fenced = all_below (item_count p) (λ n. (operations p plan (item_at p n) == 0) || is_fenced p fenced n)

-- the item of the command that an event brings to its switch
abbrev pub comes_to : World → Event → Option ℕ
comes_to w (event.Write b) = None
comes_to w event.EndWrite = None
comes_to w (event.Send n) = None
comes_to w (event.Deliver n) = Some (slice_index_or w.sent n no_op).item
comes_to w (event.Hand n) = None
comes_to w (event.Old n m j) = Some n
comes_to w (event.Crash n) = None
comes_to w event.Restart = None

-- A command of the older controller that comes to a fenced switch is answered with what is held, and nothing else changes.
abbrev pub behind_fence : Problem → List Bool → World → Option ℕ → World → World
behind_fence p fenced w None done = done
behind_fence p fenced w (Some n) done = if is_fenced p fenced n then with_answer w n else done

-- the older world after an event, which is passed over where it isn't allowed
abbrev pub after_older : Problem → Plan → List Bool → World → Event → World
after_older p plan fenced w e = if allows p plan w e then behind_fence p fenced w (comes_to w e) (happens p plan w e) else w

-- where the newer world begins: in the same migration, with what the switches hold as the start
abbrev pub taken_over : Problem → Plan → World → World
taken_over p plan w = first_world p plan (applied p w) w.migration (pairs_held w)

-- It begins as soon as the switch of each item with an operation is fenced.
abbrev pub newer_world : Problem → Plan → List Bool → World → Option World → Option World
newer_world p plan fenced older None = if is_all_fenced p plan fenced then Some (taken_over p plan older) else None
newer_world p plan fenced older (Some w) = Some w

-- the newer world, with what the switches of the older one hold
abbrev pub holding_as : World → Option World → Option World
holding_as older None = None
holding_as older (Some w) = Some (record w { held = older.held })

-- after an event of the newer world, which is passed over before that begins
abbrev pub after_newer : Problem → Plan → List Bool → World → Option World → Event → Takeover
after_newer p plan fenced older None e = takeover_of fenced older None
after_newer p plan fenced older (Some w) e = takeover_of fenced (record older { held = (after_event p plan w e).held }) (Some (after_event p plan w e))

-- after an event of either world, or a fence more
abbrev pub after_step : Problem → Plan → List Bool → World → Option World → TwoEvent → Takeover
after_step p plan fenced older newer (two.Old e) = takeover_of fenced (after_older p plan fenced older e) (holding_as (after_older p plan fenced older e) newer)
after_step p plan fenced older newer (two.Fence s) = takeover_of (slice_set fenced s true) older (newer_world p plan (slice_set fenced s true) older newer)
after_step p plan fenced older newer (two.New e) = after_newer p plan fenced older newer e

abbrev pub after_two_event : Problem → Plan → Takeover → TwoEvent → Takeover
after_two_event p plan t e = after_step p plan t.fenced t.older t.newer e

-- the takeover after a schedule
abbrev pub after_two_events : Problem → Plan → Takeover → List TwoEvent → Takeover
after_two_events p plan t [] = t
after_two_events p plan t (e ∷ es) = after_two_events p plan (after_two_event p plan t e) es

-- At first no switch is fenced, and the older controller begins at a start with the pairs that the switches hold. Where no
-- item has an operation there is nothing to fence.
abbrev pub no_fences : Problem → List Bool
no_fences p = replicate (length p.switches) false

abbrev pub first_takeover : Problem → Plan → List ℕ → ℕ → List Held → Takeover
first_takeover p plan start migration first =
    takeover_of (no_fences p) (first_world p plan start migration first) (newer_world p plan (no_fences p) (first_world p plan start migration first) None)
