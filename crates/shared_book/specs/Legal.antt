-- Which shared histories are legal.
use Rattle.std.specs.Prelude.{ℕ, Bool, true, false, not, ◌&&◌, List, [], ◌∷◌, ◌++◌, length, ◌==◌, nat_le, nat_lt, if◌then◌else◌}
use Rattle.rollout_rules.specs.Wan.{Problem}
use Rattle.rollout_rules.specs.Items.{item_count}
use Rattle.rollout_rules.specs.History.{History, begun}
use Rattle.rollout_rules.specs.Legal.{is_legal, is_finished}
use Rattle.rollout_rules.specs.World.{in_flight}
use Rattle.rollout_rules.specs.declared.op.Op.{Op}
use Rattle.rollout_rules.specs.declared.op.Entry.{Entry}
use Rattle.shared_book.specs.declared.note.What.{What}
use Rattle.shared_book.specs.declared.note.What.TheVariants as what
use Rattle.shared_book.specs.declared.note.Written.{Written}
use Rattle.shared_book.specs.Batches.{dones_ahead, behind_dones, is_batch}
use Rattle.shared_book.specs.Notes.{calls_by, is_stopped, has_asked}
use Rattle.shared_book.specs.Histories.{Opening, history_of}

-- how many operations of an item were begun; none of one that doesn't exist
abbrev pub begun_of : Problem → History → ℕ → ℕ
begun_of p h n = if nat_lt n (item_count p) then begun h n else 0

-- whether an answer is alien: its item doesn't exist, or its number is above what was begun
abbrev pub is_alien : Problem → History → Op → Bool
is_alien p h answer = not (nat_lt answer.item (item_count p) && nat_le answer.number (begun_of p h answer.item))

abbrev pub is_empty : List Entry → Bool
is_empty [] = true
is_empty (e ∷ es) = false

-- whether no operation is in flight
abbrev pub is_still : Problem → History → Bool
is_still p h = length (in_flight p h) == 0

-- whether entries are a batch with so many Dones, and so many entries after these
abbrev pub is_turn : Opening → History → ℕ → ℕ → List Entry → Bool
is_turn o h dones begins es =
    (length (dones_ahead es) == dones) && (length (behind_dones es) == begins) && is_batch o.rollout.problem o.rollout.plan o.policy h es

-- Whether a note of a seat may say this, with these entries, after the notes before it. Up to the first stop it may be anything
-- but Stopped: a Turned with a batch of its counts; an Alien of an answer that is one there; a Disk with the batch of which the
-- append failed; Work where something is in flight, Finished where the list is, and Held where neither is so. From then on it is
-- Stopped. A seat may ask once that all stop, at any time.
abbrev pub may_say : Opening → List Written → ℕ → List Entry → What → Bool
may_say o ws seat es (what.Turned dones begins) = not (is_stopped ws) && is_turn o (history_of o ws) dones begins es
may_say o ws seat es (what.Alien item held begun) =
    not (is_stopped ws) && is_empty es && is_alien o.rollout.problem (history_of o ws) (record { item = item; number = held })
    && (begun == begun_of o.rollout.problem (history_of o ws) item)
may_say o ws seat es what.Disk = not (is_stopped ws) && is_batch o.rollout.problem o.rollout.plan o.policy (history_of o ws) es
may_say o ws seat es what.Listed = not (is_stopped ws) && is_empty es
may_say o ws seat es what.Work = not (is_stopped ws) && is_empty es && not (is_still o.rollout.problem (history_of o ws))
may_say o ws seat es what.Finished = not (is_stopped ws) && is_empty es && is_finished o.rollout.problem o.rollout.plan (history_of o ws)
may_say o ws seat es what.Held =
    not (is_stopped ws) && is_empty es && is_still o.rollout.problem (history_of o ws)
    && not (is_finished o.rollout.problem o.rollout.plan (history_of o ws))
may_say o ws seat es what.Stopped = is_stopped ws && is_empty es
may_say o ws seat es (what.Stop why) = not (has_asked seat ws) && is_empty es

-- whether a note has its seat's next number, and may say what it says
abbrev pub may_note : Opening → List Written → Written → Bool
may_note o ws w = (w.note.call == calls_by w.note.seat ws) && may_say o ws w.note.seat w.entries w.note.what

-- whether notes may follow others one by one
abbrev pub may_go_on : Opening → List Written → List Written → Bool
may_go_on o ws [] = true
may_go_on o ws (w ∷ later) = may_note o ws w && may_go_on o (ws ++ w ∷ []) later

-- Whether a shared history is legal: the list found is, and each note may follow those before it.
abbrev pub is_legal_shared : Opening → List Written → Bool
is_legal_shared o ws = is_legal o.rollout.problem o.rollout.plan o.found && may_go_on o [] ws
