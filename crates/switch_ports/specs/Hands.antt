-- Berths, dealt in turn to workers.
use Rattle.std.specs.Prelude.{◌≡◌, ℕ, ◌+◌, ◌%◌, ◌==◌, min, max, Bool, List, [], ◌∷◌, ◌++◌, map, slice_index_or, slice_set, if◌then◌else◌}
use Rattle.std.specs.List.{flat_map}
use Rattle.rollout_rules.specs.Sums.{list_below}
use Rattle.port_session.specs.Sessions.{SessionView, first_session}
use Rattle.switch_ports.specs.Rows.{IsLast}
use Rattle.switch_ports.specs.declared.ports.Berth.{Berth}

-- those of a row whose place passes the test, where places are counted from a number on
abbrev pub at_places : {A : Type 0} → (ℕ → Bool) → ℕ → List A → List A
at_places test place [] = []
at_places test place (x ∷ xs) = (if test place then x ∷ [] else []) ++ at_places test (place + 1) xs

-- The berths of one of n workers: the one at place k goes to the worker with the number k mod n.
abbrev pub hand : {P : Type 0} → ℕ → ℕ → List (Berth P) → List (Berth P)
hand n worker berths = at_places (λ place. (place % n) == worker) 0 berths

-- the talks with the switches of these berths, before the first round
abbrev pub first_sessions : {P : Type 0} → List (Berth P) → List (SessionView P)
first_sessions berths = map (λ b. first_session b.switch b.port) berths

-- the ports of each of n workers
abbrev pub hands : {P : Type 0} → ℕ → List (Berth P) → List (List (SessionView P))
hands n berths = list_below n (λ worker. first_sessions (hand n worker berths))

-- how many workers have ports, of so many that are asked for: at least one, and no more than there are berths
abbrev pub hand_count : ℕ → ℕ → ℕ
hand_count workers berths = min (max 1 workers) berths

-- the berths of talks, with their ports as they are now
abbrev pub berths_of : {P : Type 0} → List (SessionView P) → List (Berth P)
berths_of talks = map (λ t. record { switch = t.switch; port = t.port }) talks

-- those of all workers, one worker after the other
abbrev pub all_berths : {P : Type 0} → List (List (SessionView P)) → List (Berth P)
all_berths workers = flat_map berths_of workers

-- the last port of one of these workers was taken out
pub record TakesLast {P : Type 0} (workers : List (List (SessionView P))) (worker : ℕ) (berth : Berth P) (now : List (List (SessionView P))) : Type 0 where
  pub rest : List (SessionView P)
  pub last : IsLast berth.switch berth.port (slice_index_or workers worker []) rest
  pub others : now ≡ slice_set workers worker rest
