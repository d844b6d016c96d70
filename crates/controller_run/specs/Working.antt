-- What a worker makes of one round.
use Rattle.std.specs.Prelude.{◌≡◌, ◌⊎◌, ◌<◌, ⊤, ℕ, Bool, true, false, List, [], ◌∷◌, Option}
use Rattle.rollout_rules.specs.declared.op.Op.{Op}
use Rattle.wan_edge.specs.Frames.{Answer, Command}
use Rattle.wan_edge.specs.Ports.{PortTrace}
use Rattle.rollout_book.specs.Aliens.{told_by}
use Rattle.port_session.specs.Sessions.{SessionView}
use Rattle.shared_book.specs.declared.note.Cause.{Cause}
use Rattle.shared_book.specs.declared.note.Cause.TheVariants as cause
use Rattle.shared_book.specs.declared.note.Written.{Written}
use Rattle.shared_book.specs.declared.call_reply.ListReply.TheVariants as list
use Rattle.shared_book.specs.declared.call_reply.Wake.TheVariants as wake
use Rattle.shared_book.specs.Histories.{Opening}
use Rattle.switch_ports.specs.Due.{LeavesAlone, any_late}
use Rattle.controller_run.specs.Exchanging.{Exchanges, StopsInHear, StopsInOffer}
use Rattle.controller_run.specs.Finding.{Caller, EndsAt, Lists, Looks, LooksOn, Wants}
use Rattle.controller_run.specs.Settling.{IsSettled}
use Rattle.controller_run.specs.declared.round_end.RoundEnd.{RoundEnd}
use Rattle.controller_run.specs.declared.round_end.RoundEnd.TheVariants as outcome

abbrev pub is_some_command : List Command → Bool
is_some_command [] = false
is_some_command (c ∷ cs) = true

-- what a pass has seen, and the ports
pub record Standing (P : Type 0) : Type 0 where
  pub seen : List Written
  pub ports : List (SessionView P)

-- the ports answered, and the book was told
pub record Settles {P : Type 0} (tell : P → PortTrace) (o : Opening) (seats : List ℕ) (seat : ℕ) (migration : ℕ) (homes : List (Option ℕ)) (commands : List Command) (before : Standing P) (given : RoundEnd) (now : Standing P) : Type 0 where
  pub told : List Answer
  pub exchanges : Exchanges tell migration homes before.ports commands told now.ports
  pub settled : IsSettled o seats seat before.seen (told_by told) (is_some_command commands) given now.seen

-- some switch is late; the ports were looked at, none was offered anything, and no answer was told
pub record IsIdle {P : Type 0} (tell : P → PortTrace) (migration : ℕ) (homes : List (Option ℕ)) (commands : List Command) (before : Standing P) (offered : Bool) (now : Standing P) : Type 0 where
  pub late : any_late before.ports ≡ true
  pub none_offered : offered ≡ false
  pub none_listed : commands ≡ []
  pub same : now.seen ≡ before.seen
  pub exchanges : Exchanges tell migration homes before.ports commands [] now.ports

-- The book was told nothing: nothing was offered and none answered; or a port failed, or told what it may not, or memory ran out.
abbrev pub Untold : {P : Type 0} → (P → PortTrace) → ℕ → List (Option ℕ) → List Command → Standing P → RoundEnd → Standing P → Type 0
Untold tell migration homes commands before (outcome.Whole offered) now = IsIdle tell migration homes commands before offered now
Untold tell migration homes commands before (outcome.Ended end) now = ⊥
Untold tell migration homes commands before (outcome.Stops why) now =
    (now.seen ≡ before.seen)
    × (StopsInOffer tell migration homes why before.ports commands now.ports ⊎ StopsInHear tell migration homes why before.ports commands now.ports)

-- what holds of a whole round
abbrev pub OnWhole : RoundEnd → Type 0 → Type 0
OnWhole (outcome.Whole offered) holds = holds
OnWhole (outcome.Ended end) holds = ⊤
OnWhole (outcome.Stops why) holds = ⊤

-- what holds of a whole round in which a command was offered
abbrev pub OnOffered : RoundEnd → Type 0 → Type 0
OnOffered (outcome.Whole offered) holds = offered ≡ true → holds
OnOffered (outcome.Ended end) holds = ⊤
OnOffered (outcome.Stops why) holds = ⊤

-- Nothing went out: there was nothing to do, memory ran out, or the rounds were spent, no switch was late, and an operation was in flight.
abbrev pub RestsFor : Caller → ℕ → ℕ → List Written → Cause → List Written → Type 0
RestsFor w left rounds seen (cause.Spent given item number) after =
    (left ≡ 0) × (given ≡ rounds) × Looks w seen (wake.Work (record { item = item; number = number })) after × (w.late ≡ false)
RestsFor w left rounds seen (cause.Port switch) after = ⊥
RestsFor w left rounds seen (cause.Above item held begun) after = ⊥
RestsFor w left rounds seen (cause.NotMine switch item) after = ⊥
RestsFor w left rounds seen (cause.NoAnswer switch byte) after = ⊥
RestsFor w left rounds seen cause.Disk after = ⊥
RestsFor w left rounds seen cause.Memory after = (commands : List Command) × Wants w seen commands after

abbrev pub Rests : Caller → ℕ → ℕ → List Written → RoundEnd → List Written → Type 0
Rests w left rounds seen (outcome.Whole offered) after = ⊥
Rests w left rounds seen (outcome.Ended end) after = (commands : List Command) × EndsAt w seen commands end after
Rests w left rounds seen (outcome.Stops why) after = RestsFor w left rounds seen why after

-- a round was left, and the commands of an operation in flight and of all others of the due switches were listed
pub record ListsSome (w : Caller) (left : ℕ) (seen : List Written) (commands : List Command) (log : List Written) : Type 0 where
  pub some_left : 0 < left
  pub op : Op
  pub lists : Lists w op seen commands list.Listed log

-- some switch is late, and nothing was listed: of the due ones nothing is in flight, or no round was left
pub record ListsNone (w : Caller) (left : ℕ) (seen : List Written) (commands : List Command) (log : List Written) : Type 0 where
  pub late : w.late ≡ true
  pub none : commands ≡ []
  pub looks_on : LooksOn w left seen log

-- What was listed of the due switches went out, or began to, and the late ones were left alone. From all ports what came was heard.
pub record Works {P : Type 0} (tell : P → PortTrace) (w : Caller) (migration : ℕ) (homes : List (Option ℕ)) (left : ℕ) (before : Standing P) (given : RoundEnd) (now : Standing P) : Type 0 where
  pub commands : List Command
  pub log : List Written
  pub found : ListsSome w left before.seen commands log ⊎ ListsNone w left before.seen commands log
  pub alone : LeavesAlone homes commands before.ports
  pub exchanged : Settles tell w.opening w.seats w.seat migration homes commands (record { seen = log; ports = before.ports }) given now ⊎ Untold tell migration homes commands (record { seen = log; ports = before.ports }) given now

-- what a worker makes of a round, where so many of its rounds are left
abbrev pub IsWorked : {P : Type 0} → (P → PortTrace) → Caller → ℕ → List (Option ℕ) → ℕ → ℕ → Standing P → RoundEnd → Standing P → Type 0
IsWorked tell w migration homes left rounds before given now =
    ((now.ports ≡ before.ports) × Rests w left rounds before.seen given now.seen) ⊎ Works tell w migration homes left before given now
