-- Words of the worked examples.
use Rattle.std.specs.Prelude.{ℕ, List, [], ◌∷◌, ◌++◌, map, Option, Some, None}
use Rattle.rollout_rules.specs.Wan.{Problem, Plan}
use Rattle.rollout_rules.specs.Agent.{nothing_held}
use Rattle.rollout_rules.specs.History.{no_start}
use Rattle.rollout_rules.specs.World.{World, no_pairs}
use Rattle.rollout_rules.specs.Worked.{begin_of, done_of}
use Rattle.rollout_rules.specs.declared.held.Given.{Given}
use Rattle.rollout_rules.specs.declared.op.Entry.{Entry}
use Rattle.rollout_rules.specs.declared.event.Event.{Event}
use Rattle.rollout_rules.specs.declared.event.Event.TheVariants.{Write, EndWrite, Send, Deliver, Hand}
use Rattle.takeover_rules.specs.Terms.{Guarded}
use Rattle.takeover_rules.specs.Takeovers.{Takeover, first_takeover, after_two_events}
use Rattle.takeover_rules.specs.declared.event.TwoEvent.{TwoEvent}
use Rattle.takeover_rules.specs.declared.event.TwoEvent.TheVariants as two

-- a switch that holds nothing of an item, with a floor
abbrev pub floored : ℕ → Guarded
floored floor = record { floor = floor; holding = nothing_held }

-- events of the older world, and of the newer one
abbrev pub by_older : List Event → List TwoEvent
by_older es = map (λ e. two.Old e) es

abbrev pub by_newer : List Event → List TwoEvent
by_newer es = map (λ e. two.New e) es

-- the takeover of a network's first migration after events in a row
abbrev pub takeover_after : Problem → Plan → List TwoEvent → Takeover
takeover_after p plan events = after_two_events p plan (first_takeover p plan (no_start p) 0 (no_pairs p)) events

-- an operation that is begun and sent, one that its switch applies too, and one that ends
abbrev pub sent_of : ℕ → ℕ → List Event
sent_of item number = Write (begin_of item number ∷ []) ∷ EndWrite ∷ Send 0 ∷ []

abbrev pub applied_of : ℕ → ℕ → List Event
applied_of item number = sent_of item number ++ Deliver 0 ∷ []

abbrev pub ended_of : ℕ → ℕ → List Event
ended_of item number = applied_of item number ++ Hand 0 ∷ Write (done_of item number ∷ []) ∷ EndWrite ∷ []

-- the older controller's first command, which comes after a fence; and the newer world's first operation, from there to its end
abbrev pub late_after : ℕ → List TwoEvent
late_after fenced = by_older (sent_of 0 1) ++ two.Fence fenced ∷ by_older (Deliver 0 ∷ [])

abbrev pub fenced_and_ended : List TwoEvent
fenced_and_ended = by_older (sent_of 0 1) ++ two.Fence 0 ∷ by_newer (ended_of 0 1)

-- of the newer world: its start, its durable entries, and the answers given; none before it begins
abbrev pub start_of : Option World → List ℕ
start_of None = []
start_of (Some w) = w.durable.start

abbrev pub entries_of : Option World → List Entry
entries_of None = []
entries_of (Some w) = w.durable.entries

abbrev pub given_in : Option World → List Given
given_in None = []
given_in (Some w) = w.given
