-- The protocol as a pure machine: a controller with a journal, a network that loses, repeats and reorders, and switches.
use Rattle.std.specs.Prelude.{ℕ, Bool, true, false, not, ◌&&◌, List, [], ◌∷◌, ◌++◌, map, length, take, ◌==◌, nat_le, nat_lt, if◌then◌else◌, slice_index, slice_index_or, slice_set}
use Rattle.std.specs.List.{filter, list_any}
use Rattle.rollout_rules.specs.Sums.{all_below, list_below}
use Rattle.rollout_rules.specs.Wan.{Problem, Plan}
use Rattle.rollout_rules.specs.Items.{item_count, item_at}
use Rattle.rollout_rules.specs.Operations.{content_after}
use Rattle.rollout_rules.specs.History.{History, started, with_entries, no_start, flies}
use Rattle.rollout_rules.specs.Legal.{may_follow}
use Rattle.rollout_rules.specs.Agent.{pair_of, first_pair, is_at_most, Holding, nothing_held, held_after}
use Rattle.rollout_rules.specs.Release.{next_op}
use Rattle.rollout_rules.specs.declared.held.Held.{Held}
use Rattle.rollout_rules.specs.declared.held.Given.{Given}
use Rattle.rollout_rules.specs.declared.op.Op.{Op}
use Rattle.rollout_rules.specs.declared.op.Entry.{Entry}
use Rattle.rollout_rules.specs.declared.op.Entry.TheVariants.{Begin, Done}
use Rattle.rollout_rules.specs.declared.event.Event.{Event}
use Rattle.rollout_rules.specs.declared.event.Event.TheVariants as event

-- The parts of the world: the number of the migration, and what each switch held of its item at first; the durable
-- history; whether the controller is up; the batch being written (none where it is empty); the commands sent, all of this
-- migration; the answers given, and those handed over; and what each item's switch holds.
pub record World : Type 0 where
  pub migration : ℕ
  pub first : List Held
  pub durable : History
  pub up : Bool
  pub writing : List Entry
  pub sent : List Op
  pub given : List Given
  pub handed : List Given
  pub held : List Holding

abbrev pub no_op : Op
no_op = record { item = 0; number = 0 }

abbrev pub no_answer : Given
no_answer = record { item = 0; held = first_pair }

-- A pair of this migration stands for the number of operations applied; one of another migration, for the start.
abbrev pub number_at : ℕ → ℕ → Held → ℕ
number_at migration start held = if held.migration == migration then held.number else start

-- what an item's switch holds with a pair: the content of the number for which the pair stands
abbrev pub holding_of : Problem → Plan → List ℕ → ℕ → ℕ → Held → Holding
holding_of p plan start migration n held = record {
  held = held;
  content = content_after p plan (item_at p n) (number_at migration (slice_index start n) held);
}

abbrev pub pair_at : List Held → ℕ → Held
pair_at pairs n = slice_index_or pairs n first_pair

-- the world at first, with a start, a migration, and a pair per item
abbrev pub first_world : Problem → Plan → List ℕ → ℕ → List Held → World
first_world p plan start migration first = record {
  migration = migration;
  first = first;
  durable = started start;
  up = true;
  writing = [];
  sent = [];
  given = [];
  handed = [];
  held = list_below (item_count p) (λ n. holding_of p plan start migration n (pair_at first n));
}

-- Whether an item may be held so at first: with the start's number of this migration, or with a pair of an earlier one.
abbrev pub is_first_pair : ℕ → ℕ → Held → Bool
is_first_pair migration start held = if held.migration == migration then held.number == start else nat_lt held.migration migration

abbrev pub are_first_pairs : Problem → List ℕ → ℕ → List Held → Bool
are_first_pairs p start migration first = all_below (item_count p) (λ n. is_first_pair migration (slice_index start n) (pair_at first n))

-- the world of a network's first migration, where nothing was ever applied
abbrev pub no_pairs : Problem → List Held
no_pairs p = list_below (item_count p) (λ n. first_pair)

abbrev pub new_world : Problem → Plan → World
new_world p plan = first_world p plan (no_start p) 0 (no_pairs p)

-- what the switch of an item holds of it
abbrev pub held_of : World → ℕ → Holding
held_of w n = slice_index_or w.held n nothing_held

-- how many operations of an item its switch has applied, those of the start among them
abbrev pub now : World → ℕ → ℕ
now w n = number_at w.migration (slice_index w.durable.start n) (held_of w n).held

-- the operations in flight, by item
abbrev pub in_flight : Problem → History → List Op
in_flight p h = map (next_op h) (filter (flies h) (list_below (item_count p) (λ n. n)))

abbrev pub is_writing : World → Bool
is_writing w = nat_lt 0 (length w.writing)

-- whether an answer that covers the operation, of this migration, was handed over
abbrev pub is_answered : ℕ → List Given → Entry → Bool
is_answered migration handed (Begin op) = true
is_answered migration handed (Done op) =
    list_any (λ a. (a.item == op.item) && (a.held.migration == migration) && nat_le op.number a.held.number) handed

abbrev pub all_answered : ℕ → List Given → List Entry → Bool
all_answered migration handed [] = true
all_answered migration handed (e ∷ es) = is_answered migration handed e && all_answered migration handed es

-- the answers of a migration, each an item and a number
abbrev pub answers_of : ℕ → List Given → List Op
answers_of migration given = map (λ a. record { item = a.item; number = a.held.number }) (filter (λ a. a.held.migration == migration) given)

-- Whether a command of another migration may still come: it is of an earlier one, and at most the pair that its item's
-- switch held at first.
abbrev pub may_come_late : Problem → World → ℕ → Held → Bool
may_come_late p w n late = nat_lt n (item_count p) && nat_lt late.migration w.migration && is_at_most late (pair_at w.first n)

-- which events are allowed
abbrev pub allows : Problem → Plan → World → Event → Bool
allows p plan w (event.Write b) =
    w.up && not (is_writing w) && nat_lt 0 (length b) && may_follow p plan w.durable b && all_answered w.migration w.handed b
allows p plan w event.EndWrite = is_writing w
allows p plan w (event.Send n) = w.up && not (is_writing w) && nat_lt n (length (in_flight p w.durable))
allows p plan w (event.Deliver n) = nat_lt n (length w.sent)
allows p plan w (event.Hand n) = w.up && nat_lt n (length w.given)
allows p plan w (event.Old n m j) = may_come_late p w n (pair_of m j)
allows p plan w (event.Crash n) = w.up && nat_le n (length w.writing)
allows p plan w event.Restart = not w.up

-- a switch receives an operation of an item, with its content, and answers
abbrev pub received : World → ℕ → Held → List ℕ → World
received w n asked content =
    let holding = held_after (held_of w n) asked content in
    record w { held = slice_set w.held n holding; given = w.given ++ record { item = n; held = holding.held } ∷ [] }

-- a command that was sent comes to its switch
abbrev pub delivered : Problem → Plan → World → Op → World
delivered p plan w op = received w op.item (pair_of w.migration op.number) (content_after p plan (item_at p op.item) op.number)

-- a late command of an earlier migration comes to its switch; the start's content stands for what it brings, which is of no
-- account in a rollout, where none is applied
abbrev pub comes_late : Problem → Plan → World → ℕ → Held → World
comes_late p plan w n late = received w n late (holding_of p plan w.durable.start w.migration n late).content

-- what an allowed event does
abbrev pub happens : Problem → Plan → World → Event → World
happens p plan w (event.Write b) = record w { writing = b }
happens p plan w event.EndWrite = record w { durable = with_entries w.durable w.writing; writing = [] }
happens p plan w (event.Send n) = record w { sent = w.sent ++ slice_index_or (in_flight p w.durable) n no_op ∷ [] }
happens p plan w (event.Deliver n) = delivered p plan w (slice_index_or w.sent n no_op)
happens p plan w (event.Hand n) = record w { handed = w.handed ++ slice_index_or w.given n no_answer ∷ [] }
happens p plan w (event.Old n m j) = comes_late p plan w n (pair_of m j)
happens p plan w (event.Crash n) = record w { durable = with_entries w.durable (take n w.writing); up = false; writing = []; handed = [] }
happens p plan w event.Restart = record w { up = true }

-- an event that isn't allowed is passed over
abbrev pub after_event : Problem → Plan → World → Event → World
after_event p plan w e = if allows p plan w e then happens p plan w e else w

-- the world after a schedule
abbrev pub after_events : Problem → Plan → World → List Event → World
after_events p plan w [] = w
after_events p plan w (e ∷ es) = after_events p plan (after_event p plan w e) es
