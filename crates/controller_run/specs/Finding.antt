-- What a worker finds to do: it looks for work of the switches that are due, and has their commands listed.
use Rattle.std.specs.Prelude.{◌≡◌, ◌⊎◌, ◌<◌, ℕ, Bool, true, false, List, [], Option, Some, None}
use Rattle.rollout_rules.specs.declared.op.Op.{Op}
use Rattle.wan_edge.specs.Frames.{Command}
use Rattle.shared_book.specs.declared.note.Cause.{Cause}
use Rattle.shared_book.specs.declared.note.Cause.TheVariants as cause
use Rattle.shared_book.specs.declared.note.Written.{Written}
use Rattle.shared_book.specs.declared.call_reply.Halt.{Halt}
use Rattle.shared_book.specs.declared.call_reply.ListReply.{ListReply}
use Rattle.shared_book.specs.declared.call_reply.ListReply.TheVariants as list
use Rattle.shared_book.specs.declared.call_reply.Wake.{Wake}
use Rattle.shared_book.specs.declared.call_reply.Wake.TheVariants as wake
use Rattle.shared_book.specs.Histories.{Opening}
use Rattle.shared_book.specs.Calls.{IsListCall}
use Rattle.shared_book.specs.Waking.{IsLookCall}
use Rattle.controller_run.specs.declared.finding.Found.{Found}
use Rattle.controller_run.specs.declared.finding.Found.TheVariants as found

-- who calls: the opening, the seats for which the pass stands, its own seat, the switches that are due, and whether others are late
pub record Caller : Type 0 where
  pub opening : Opening
  pub seats : List ℕ
  pub seat : ℕ
  pub switches : List ℕ
  pub late : Bool

-- a look with this answer, which was the last of its call
abbrev pub Looks : Caller → List Written → Wake → List Written → Type 0
Looks w seen woken after = IsLookCall w.opening w.seats w.seat seen w.switches (Some woken) after

-- what comes of commands that are asked for
abbrev pub Asks : Caller → List Written → List Command → ListReply → List Written → Type 0
Asks w awake commands reply after = IsListCall w.opening w.seats w.seat awake w.switches [] commands reply after

-- an operation of the switches was in flight, and then the commands were asked for, with this reply
pub record Lists (w : Caller) (op : Op) (seen : List Written) (commands : List Command) (reply : ListReply) (after : List Written) : Type 0 where
  pub awake : List Written
  pub looks : Looks w seen (wake.Work op) awake
  pub listed : Asks w awake commands reply after

-- the end of a wait that isn't work, or a stop in the place of commands
abbrev pub EndsAt : Caller → List Written → List Command → Wake → List Written → Type 0
EndsAt w seen commands (wake.Work op) after = ⊥
EndsAt w seen commands wake.Finished after = Looks w seen wake.Finished after
EndsAt w seen commands wake.Held after = Looks w seen wake.Held after
EndsAt w seen commands (wake.Stopped halt) after = Looks w seen (wake.Stopped halt) after ⊎ ((op : Op) × Lists w op seen commands (list.Stopped halt) after)
EndsAt w seen commands wake.Memory after = ⊥

-- memory ran out for the due switches, for the note of either call, or for a command
abbrev pub Wants : Caller → List Written → List Command → List Written → Type 0
Wants w seen commands after = (after ≡ seen) ⊎ (Looks w seen wake.Memory after ⊎ ((op : Op) × Lists w op seen commands list.Memory after))

-- Nothing is listed: no round is left, or a look found that only operations of other switches are in flight, which leaves no note.
abbrev pub LooksOn : Caller → ℕ → List Written → List Written → Type 0
LooksOn w left seen after = ((left ≡ 0) × (after ≡ seen)) ⊎ IsLookCall w.opening w.seats w.seat seen w.switches None after

-- a stop in the place of commands that were asked for
abbrev pub StopsListing : Caller → List Written → List Command → Wake → List Written → Type 0
StopsListing w awake commands (wake.Work op) after = ⊥
StopsListing w awake commands wake.Finished after = ⊥
StopsListing w awake commands wake.Held after = ⊥
StopsListing w awake commands (wake.Stopped halt) after = Asks w awake commands (list.Stopped halt) after
StopsListing w awake commands wake.Memory after = ⊥

-- what comes of listing, where this operation was in flight
abbrev pub IsListed : Caller → Op → List Written → List Command → Found → List Written → Type 0
IsListed w op awake commands (found.Work other) after = (other ≡ op) × Asks w awake commands list.Listed after
IsListed w op awake commands (found.Spent other) after = ⊥
IsListed w op awake commands found.Later after = ⊥
IsListed w op awake commands (found.Ended end) after = StopsListing w awake commands end after
IsListed w op awake commands found.Memory after = Asks w awake commands list.Memory after

-- What was found, where so many rounds are left. Where none is, nothing is listed; and only where no switch is late, the rounds are spent.
abbrev pub IsFound : Caller → ℕ → List Written → List Command → Found → List Written → Type 0
IsFound w left seen commands (found.Work op) after = (0 < left) × Lists w op seen commands list.Listed after
IsFound w left seen commands (found.Spent op) after = (left ≡ 0) × Looks w seen (wake.Work op) after × (w.late ≡ false)
IsFound w left seen commands found.Later after = (commands ≡ []) × (w.late ≡ true) × LooksOn w left seen after
IsFound w left seen commands (found.Ended end) after = EndsAt w seen commands end after
IsFound w left seen commands found.Memory after = Wants w seen commands after
