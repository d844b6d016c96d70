-- What each call is told at a shared history, before its own note.
use Rattle.std.specs.Prelude.{ℕ, Bool, false, List, [], ◌∷◌, ◌++◌, length, ◌==◌, if◌then◌else◌, Option, Some, None}
use Rattle.std.specs.List.{filter, list_any}
use Rattle.rollout_rules.specs.Wan.{Problem}
use Rattle.rollout_rules.specs.Items.{home_of, item_at}
use Rattle.rollout_rules.specs.History.{History}
use Rattle.rollout_rules.specs.Legal.{is_finished}
use Rattle.rollout_rules.specs.Release.{batch}
use Rattle.rollout_rules.specs.World.{in_flight}
use Rattle.rollout_rules.specs.declared.op.Op.{Op}
use Rattle.rollout_rules.specs.declared.op.Entry.{Entry}
use Rattle.shared_book.specs.declared.note.Cause.{Cause}
use Rattle.shared_book.specs.declared.note.What.{What}
use Rattle.shared_book.specs.declared.note.What.TheVariants as what
use Rattle.shared_book.specs.declared.note.Written.{Written}
use Rattle.shared_book.specs.declared.call_reply.Halt.{Halt}
use Rattle.shared_book.specs.declared.call_reply.ListReply.{ListReply}
use Rattle.shared_book.specs.declared.call_reply.ListReply.TheVariants as list
use Rattle.shared_book.specs.declared.call_reply.Wake.{Wake}
use Rattle.shared_book.specs.declared.call_reply.Wake.TheVariants as wake
use Rattle.shared_book.specs.Batches.{dones_ahead, behind_dones}
use Rattle.shared_book.specs.Notes.{first_stop, calls_by}
use Rattle.shared_book.specs.Histories.{Opening, history_of}
use Rattle.shared_book.specs.Legal.{begun_of, is_alien, is_still}

-- ---- round
-- what is noted of the first answer that is alien
abbrev pub first_alien : Problem → History → List Op → Option What
first_alien p h [] = None
first_alien p h (answer ∷ later) =
    if is_alien p h answer then Some (what.Alien answer.item answer.number (begun_of p h answer.item)) else first_alien p h later

-- the batch of a round, and what is noted of it
abbrev pub batch_at : Opening → History → List Op → List Entry
batch_at o h answers = batch o.rollout.problem o.rollout.plan o.policy h answers

abbrev pub turned : List Entry → What
turned es = what.Turned (length (dones_ahead es)) (length (behind_dones es))

-- what a round says, where the append goes well; and the entries that come with it
abbrev pub or_turned : Option What → List Entry → What
or_turned (Some alien) es = alien
or_turned None es = turned es

abbrev pub or_stopped : Option Halt → What → What
or_stopped (Some halt) said = what.Stopped
or_stopped None said = said

abbrev pub round_says : Opening → List Written → List Op → What
round_says o ws answers =
    or_stopped (first_stop ws) (or_turned (first_alien o.rollout.problem (history_of o ws) answers) (batch_at o (history_of o ws) answers))

-- ---- commands
-- whether a home is among these switches, and so is that of an operation's item
abbrev pub is_among : List ℕ → Option ℕ → Bool
is_among switches None = false
is_among switches (Some home) = list_any (λ w. w == home) switches

abbrev pub is_asked : Problem → List ℕ → Op → Bool
is_asked p switches op = is_among switches (home_of p (item_at p op.item))

-- the operations in flight of these switches, by item
abbrev pub asked_at : Problem → History → List ℕ → List Op
asked_at p h switches = filter (is_asked p switches) (in_flight p h)

abbrev pub list_reply : Option Halt → ListReply
list_reply (Some halt) = list.Stopped halt
list_reply None = list.Listed

abbrev pub list_says : List Written → What
list_says ws = or_stopped (first_stop ws) what.Listed

-- ---- waiting for work
-- The first operation of these switches that is in flight; else the end of the list, or that nothing is in flight before it. Where
-- others are in flight the call waits on.
abbrev pub wake_with : Bool → Bool → List Op → Option Wake
wake_with finished still (op ∷ ops) = Some (wake.Work op)
wake_with finished still [] = if finished then Some wake.Finished else if still then Some wake.Held else None

abbrev pub wake_or : Option Halt → Option Wake → Option Wake
wake_or (Some halt) woken = Some (wake.Stopped halt)
wake_or None woken = woken

abbrev pub wake_reply : Opening → List Written → List ℕ → Option Wake
wake_reply o ws switches =
    wake_or (first_stop ws)
    (wake_with (is_finished o.rollout.problem o.rollout.plan (history_of o ws)) (is_still o.rollout.problem (history_of o ws)) (asked_at o.rollout.problem (history_of o ws) switches))

-- what is noted of it; nothing where memory ran out
abbrev pub wake_says : Wake → Option What
wake_says (wake.Work op) = Some what.Work
wake_says wake.Finished = Some what.Finished
wake_says wake.Held = Some what.Held
wake_says (wake.Stopped halt) = Some what.Stopped
wake_says wake.Memory = None

-- ---- stop
-- the first stop, which is this one where there was none
abbrev pub halt_or : Option Halt → Halt → Halt
halt_or (Some first) own = first
halt_or None own = own

abbrev pub stop_reply : List Written → ℕ → Cause → Halt
stop_reply ws seat why = halt_or (first_stop ws) (record { seat = seat; call = calls_by seat ws; cause = why })
