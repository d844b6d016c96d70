-- What the acts of a script do, each as events on the world.
use Rattle.std.specs.Prelude.{ℕ, zero, suc, ◌+◌, Bool, not, ◌&&◌, List, [], ◌∷◌, ◌++◌, length, drop, nat_le, nat_lt, if◌then◌else◌}
use Rattle.rollout_rules.specs.Wan.{Problem, Plan}
use Rattle.rollout_rules.specs.Release.{batch}
use Rattle.rollout_rules.specs.World.{World, new_world, in_flight, answers_of, after_events}
use Rattle.rollout_rules.specs.declared.limits.TheConstants.{MOST_SENT}
use Rattle.rollout_rules.specs.declared.op.Op.{Op}
use Rattle.rollout_rules.specs.declared.op.OpView.{OpView}
use Rattle.rollout_rules.specs.declared.op.Entry.{Entry}
use Rattle.rollout_rules.specs.declared.event.Event.{Event}
use Rattle.rollout_rules.specs.declared.event.Event.TheVariants as event
use Rattle.rollout_rules.specs.declared.event.Act.{Act}
use Rattle.rollout_rules.specs.declared.event.Act.TheVariants as act

-- The state of a rehearsal: the world, and how many of the answers handed over were heard by an earlier round.
pub record Rehearsal : Type 0 where
  pub world : World
  pub heard : ℕ

-- A rehearsal begins at the network's first migration, where nothing was ever applied.
abbrev pub first_rehearsal : Problem → Plan → Rehearsal
first_rehearsal p plan = record { world = new_world p plan; heard = 0 }

-- whether so many more commands may be sent
abbrev pub may_send : World → ℕ → Bool
may_send w more = nat_le (length w.sent + more) MOST_SENT

-- the answers of this migration handed over since the last round
abbrev pub unheard : Rehearsal → List Op
unheard r = answers_of r.world.migration (drop r.heard r.world.handed)

-- the batch of a round now, under a policy
abbrev pub round_batch : Problem → Plan → (OpView → ℕ) → Rehearsal → List Entry
round_batch p plan policy r = batch p plan policy r.world.durable (unheard r)

-- whether an act can happen
abbrev pub can_happen : Problem → Rehearsal → Act → Bool
can_happen p r act.Round = r.world.up
can_happen p r (act.Send n) = r.world.up && nat_lt n (length (in_flight p r.world.durable)) && may_send r.world 1
can_happen p r (act.Deliver n) = nat_lt n (length r.world.sent)
can_happen p r (act.Hand n) = r.world.up && nat_lt n (length r.world.given)
can_happen p r act.All = r.world.up && may_send r.world (length (in_flight p r.world.durable))
can_happen p r act.CrashLost = r.world.up
can_happen p r act.CrashKept = r.world.up
can_happen p r act.Stop = r.world.up
can_happen p r act.Start = not r.world.up

-- a batch is written whole, where it has entries
abbrev pub write_whole : List Entry → List Event
write_whole [] = []
write_whole (e ∷ es) = event.Write (e ∷ es) ∷ event.EndWrite ∷ []

-- the controller stops while it writes a batch, of which n entries are durable; a plain stop where there is no batch
abbrev pub stop_writing : List Entry → ℕ → List Event
stop_writing [] n = event.Crash 0 ∷ []
stop_writing (e ∷ es) n = event.Write (e ∷ es) ∷ event.Crash n ∷ []

-- the first so many operations in flight: each is sent, delivered once, and its answer handed over
abbrev pub exchanges : World → ℕ → List Event
exchanges w zero = []
exchanges w (suc n) = exchanges w n ++ event.Send n ∷ event.Deliver (length w.sent + n) ∷ event.Hand (length w.given + n) ∷ []

-- an act as events
abbrev pub events_of : Problem → Plan → (OpView → ℕ) → Rehearsal → Act → List Event
events_of p plan policy r act.Round = write_whole (round_batch p plan policy r)
events_of p plan policy r (act.Send n) = event.Send n ∷ []
events_of p plan policy r (act.Deliver n) = event.Deliver n ∷ []
events_of p plan policy r (act.Hand n) = event.Hand n ∷ []
events_of p plan policy r act.All = exchanges r.world (length (in_flight p r.world.durable))
events_of p plan policy r act.CrashLost = stop_writing (round_batch p plan policy r) 0
events_of p plan policy r act.CrashKept = stop_writing (round_batch p plan policy r) (length (round_batch p plan policy r))
events_of p plan policy r act.Stop = event.Crash 0 ∷ []
events_of p plan policy r act.Start = event.Restart ∷ []

-- A round hears what was handed over; a crash and a stop forget it.
abbrev pub heard_after : Rehearsal → Act → ℕ
heard_after r act.Round = length r.world.handed
heard_after r (act.Send n) = r.heard
heard_after r (act.Deliver n) = r.heard
heard_after r (act.Hand n) = r.heard
heard_after r act.All = r.heard
heard_after r act.CrashLost = 0
heard_after r act.CrashKept = 0
heard_after r act.Stop = 0
heard_after r act.Start = r.heard

-- an act that can happen
abbrev pub acted : Problem → Plan → (OpView → ℕ) → Rehearsal → Act → Rehearsal
acted p plan policy r a = record { world = after_events p plan r.world (events_of p plan policy r a); heard = heard_after r a }

-- an act that can't happen is passed over
abbrev pub after_act : Problem → Plan → (OpView → ℕ) → Rehearsal → Act → Rehearsal
after_act p plan policy r a = if can_happen p r a then acted p plan policy r a else r

abbrev pub after_acts : Problem → Plan → (OpView → ℕ) → Rehearsal → List Act → Rehearsal
after_acts p plan policy r [] = r
after_acts p plan policy r (a ∷ rest) = after_acts p plan policy (after_act p plan policy r a) rest
