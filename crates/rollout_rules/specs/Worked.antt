-- Words of the worked examples.
use Rattle.std.specs.Prelude.{ℕ, ◌-◌, ◌++◌, Bool, List, [], ◌∷◌, nat_le, if◌then◌else◌}
use Rattle.rollout_rules.specs.Wan.{Problem, Plan}
use Rattle.rollout_rules.specs.Named.{one, one_plan}
use Rattle.rollout_rules.specs.Valid.{has_shape, begins_at_old, ends_at_new, fits_each_step, carries_what_flows, keeps_totals}
use Rattle.rollout_rules.specs.History.{History}
use Rattle.rollout_rules.specs.Agent.{pair_of}
use Rattle.rollout_rules.specs.Release.{held_back}
use Rattle.rollout_rules.specs.World.{World, first_world, new_world, after_events}
use Rattle.rollout_rules.specs.declared.held.Given.{Given}
use Rattle.rollout_rules.specs.declared.op.Op.{Op}
use Rattle.rollout_rules.specs.declared.op.OpView.{OpView}
use Rattle.rollout_rules.specs.declared.op.Entry.{Entry}
use Rattle.rollout_rules.specs.declared.op.Entry.TheVariants.{Begin, Done}
use Rattle.rollout_rules.specs.declared.event.Event.{Event}
use Rattle.rollout_rules.specs.declared.event.Event.TheVariants.{Write, EndWrite, Send, Deliver, Hand, Crash, Restart}

-- an operation, its begin and its end, by the numbers of the item and of the operation
abbrev pub op_of : ℕ → ℕ → Op
op_of item number = record { item = item; number = number }

abbrev pub begin_of : ℕ → ℕ → Entry
begin_of item number = Begin (op_of item number)

abbrev pub done_of : ℕ → ℕ → Entry
done_of item number = Done (op_of item number)

-- an answer, by the numbers of the migration, the item and the operation
abbrev pub given_of : ℕ → ℕ → ℕ → Given
given_of migration item number = record { item = item; held = pair_of migration number }

-- a history before which nothing was settled
abbrev pub fresh : List Entry → History
fresh es = record { start = []; entries = es }

-- longer chains first; items in order; items in the order turned round
abbrev pub chain_first : OpView → ℕ
chain_first view = 4294967295 - view.chain

abbrev pub item_first : OpView → ℕ
item_first view = 0

abbrev pub last_item_first : OpView → ℕ
last_item_first view = 100 - view.item

-- longer chains first, and no operation of an item that stands at this stage or above
abbrev pub below_stage : ℕ → OpView → ℕ
below_stage ceiling view = if nat_le ceiling view.stage then held_back else chain_first view

-- the numbers of the clauses that a plan breaks
abbrev pub if_broken : Bool → ℕ → List ℕ
if_broken kept clause = if kept then [] else clause ∷ []

abbrev pub broken_clauses : Problem → Plan → List ℕ
broken_clauses p plan =
    if_broken (has_shape p plan) 0 ++ if_broken (begins_at_old p plan) 1 ++ if_broken (ends_at_new p plan) 2
    ++ if_broken (fits_each_step p plan) 3 ++ if_broken (carries_what_flows p plan) 4 ++ if_broken (keeps_totals p plan) 5

-- The world of a network and its plan after events in a row.
abbrev pub world_after : Problem → Plan → List Event → World
world_after p plan events = after_events p plan (new_world p plan) events

-- The first operation of item 0: its begin is durable; its command is sent; a switch applies it; the answer is handed over.
abbrev pub begun_first : List Event
begun_first = Write (begin_of 0 1 ∷ []) ∷ EndWrite ∷ []

abbrev pub sent_first : List Event
sent_first = begun_first ++ Send 0 ∷ []

abbrev pub applied_first : List Event
applied_first = sent_first ++ Deliver 0 ∷ []

abbrev pub answered_first : List Event
answered_first = applied_first ++ Hand 0 ∷ []

-- The controller stops while it writes that begin, all of which is durable, and goes on to the end of the operation.
abbrev pub stopped_while_writing : List Event
stopped_while_writing = Write (begin_of 0 1 ∷ []) ∷ Crash 1 ∷ Restart ∷ Send 0 ∷ Deliver 0 ∷ Hand 0 ∷ Write (done_of 0 1 ∷ []) ∷ EndWrite ∷ []

-- migration 2 of the first network, whose flow's split was last set by operation 5 of migration 1
abbrev pub second_world : World
second_world = first_world one one_plan (0 ∷ 0 ∷ 0 ∷ 0 ∷ 0 ∷ 0 ∷ []) 2 (pair_of 1 5 ∷ pair_of 2 0 ∷ [])
