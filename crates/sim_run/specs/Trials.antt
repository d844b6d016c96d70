-- A trial: an act is drawn for each event, and after the events a drain ends the rollout. Its worlds are those of the acts that were drawn.
use Rattle.std.specs.Prelude.{ℕ, zero, suc, ◌+◌, ◌-◌, min, Bool, List, [], ◌∷◌, ◌++◌, length, Option, Some, None, option_map, ◌==◌, nat_lt, if◌then◌else◌}
use Rattle.rand_pcg.specs.Lcg.{Lcg}
use Rattle.rollout_rules.specs.Items.{item_at, item_count}
use Rattle.rollout_rules.specs.Operations.{operations}
use Rattle.rollout_rules.specs.Sums.{sum_below}
use Rattle.rollout_rules.specs.Wan.{Plan, Problem}
use Rattle.rollout_rules.specs.World.{World, in_flight}
use Rattle.rollout_rules.specs.declared.op.OpView.{OpView}
use Rattle.rollout_rules.specs.declared.event.Act.{Act}
use Rattle.rollout_rules.specs.declared.event.Act.TheVariants as act
use Rattle.rollout_rules.specs.Legal.{unsettled}
use Rattle.case_gen.specs.Draws.{after_draws, drawn}
use Rattle.sim_run.specs.Acts.{Rehearsal, after_act, after_acts, first_rehearsal}

-- What is drawn for an event: an act, or none where there is nothing that it could be done with; and what is left to draw.
pub record Drawn : Type 0 where
  pub chosen : Option Act
  pub left : Lcg

-- one of so many, by its number, and what is left to draw; where there are none, nothing is drawn
pub record Picked : Type 0 where
  pub place : Option ℕ
  pub left : Lcg

abbrev pub one_of : Lcg → ℕ → (ℕ → ℕ) → ℕ → Picked
one_of draws among place count =
    if count == 0 then record { place = None; left = draws }
    else record { place = Some (place (drawn draws 0 among)); left = after_draws draws 1 }

-- any of the operations in flight, and one of the newest 64 commands sent or answers given, counted from the last one back
abbrev pub any_of : Lcg → ℕ → Picked
any_of draws count = one_of draws count (λ n. n) count

abbrev pub new_one_of : Lcg → ℕ → Picked
new_one_of draws count = one_of draws (min 64 count) (λ back. count - 1 - back) count

-- an act that needs nothing, and one that is done with what was picked
abbrev pub plainly : Act → Lcg → Drawn
plainly a draws = record { chosen = Some a; left = draws }

abbrev pub with_picked : (ℕ → Act) → Picked → Drawn
with_picked of picked = record { chosen = option_map of picked.place; left = picked.left }

-- the act for a number below 100
abbrev pub act_for : Problem → World → Lcg → ℕ → Drawn
act_for p w draws d =
    if nat_lt d 25 then plainly act.Round draws
    else if nat_lt d 50 then with_picked act.Send (any_of draws (length (in_flight p w.durable)))
    else if nat_lt d 72 then with_picked act.Deliver (new_one_of draws (length w.sent))
    else if nat_lt d 94 then with_picked act.Hand (new_one_of draws (length w.given))
    else if nat_lt d 96 then plainly act.CrashLost draws
    else if nat_lt d 98 then plainly act.CrashKept draws
    else plainly act.Stop draws

-- a controller that is down starts, and nothing is drawn
abbrev pub next_act : Problem → World → Lcg → Drawn
next_act p w draws = if w.up then act_for p w (after_draws draws 1) (drawn draws 0 100) else plainly act.Start draws

-- A trial so far: the acts that were drawn, the rehearsal that they lead to, how many events were skipped, and what is left to draw.
pub record Trial : Type 0 where
  pub acts : List Act
  pub rehearsal : Rehearsal
  pub skipped : ℕ
  pub draws : Lcg

abbrev pub first_trial : Problem → Plan → Lcg → Trial
first_trial p plan draws = record { acts = []; rehearsal = first_rehearsal p plan; skipped = 0; draws = draws }

abbrev pub with_act : Problem → Plan → (OpView → ℕ) → Trial → Option Act → Trial
with_act p plan policy t (Some a) = record t { acts = t.acts ++ a ∷ []; rehearsal = after_act p plan policy t.rehearsal a }
with_act p plan policy t None = record t { skipped = t.skipped + 1 }

abbrev pub with_drawn : Problem → Plan → (OpView → ℕ) → Trial → Drawn → Trial
with_drawn p plan policy t next = record (with_act p plan policy t next.chosen) { draws = next.left }

abbrev pub after_one : Problem → Plan → (OpView → ℕ) → Trial → Trial
after_one p plan policy t = with_drawn p plan policy t (next_act p t.rehearsal.world t.draws)

-- a trial after its first so many events
abbrev pub after_trial : Problem → Plan → (OpView → ℕ) → Lcg → ℕ → Trial
after_trial p plan policy draws zero = first_trial p plan draws
after_trial p plan policy draws (suc events) = after_one p plan policy (after_trial p plan policy draws events)

-- The drain: the controller starts where it is down; then turns, in each of which what is in flight is exchanged and a round is made, until
-- nothing is left unsettled. A policy that holds operations back is given up after as many turns as there are operations, and one.
abbrev pub raised : Problem → Plan → (OpView → ℕ) → Rehearsal → Rehearsal
raised p plan policy r = if r.world.up then r else after_act p plan policy r act.Start

abbrev pub after_turn : Problem → Plan → (OpView → ℕ) → Rehearsal → Rehearsal
after_turn p plan policy r = after_acts p plan policy r (act.All ∷ act.Round ∷ [])

abbrev pub is_finished : Problem → Plan → Rehearsal → Bool
is_finished p plan r = unsettled p plan r.world.durable == 0

abbrev pub all_operations : Problem → Plan → ℕ
all_operations p plan = sum_below (item_count p) (λ n. operations p plan (item_at p n))

-- how many turns are made, of at most so many, and what they lead to
abbrev pub turns : Problem → Plan → (OpView → ℕ) → ℕ → Rehearsal → ℕ
turns p plan policy zero r = 0
turns p plan policy (suc most) r = if is_finished p plan r then 0 else 1 + turns p plan policy most (after_turn p plan policy r)

abbrev pub drained : Problem → Plan → (OpView → ℕ) → ℕ → Rehearsal → Rehearsal
drained p plan policy zero r = r
drained p plan policy (suc most) r = if is_finished p plan r then r else drained p plan policy most (after_turn p plan policy r)

-- The acts of a trial: those that were drawn, a start where the controller is down, and those of the drain's turns.
abbrev pub raising : Rehearsal → List Act
raising r = if r.world.up then [] else act.Start ∷ []

abbrev pub turn_acts : ℕ → List Act
turn_acts zero = []
turn_acts (suc n) = act.All ∷ act.Round ∷ turn_acts n

abbrev pub drain_acts : Problem → Plan → (OpView → ℕ) → ℕ → Rehearsal → List Act
drain_acts p plan policy most r = raising r ++ turn_acts (turns p plan policy most (raised p plan policy r))

abbrev pub trial_script : Problem → Plan → (OpView → ℕ) → Lcg → ℕ → List Act
trial_script p plan policy draws events =
    let t = after_trial p plan policy draws events in
    t.acts ++ drain_acts p plan policy (all_operations p plan + 1) t.rehearsal

-- what a whole trial leads to
abbrev pub end_of_trial : Problem → Plan → (OpView → ℕ) → Lcg → ℕ → Rehearsal
end_of_trial p plan policy draws events = drained p plan policy (all_operations p plan + 1) (raised p plan policy (after_trial p plan policy draws events).rehearsal)
