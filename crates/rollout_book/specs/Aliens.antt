-- Answers that tell of operations which weren't begun.
use Rattle.std.specs.Prelude.{◌≡◌, ⊤, ℕ, Bool, ◌&&◌, List, [], ◌∷◌, map, nat_le, nat_lt, Option, Some, None, if◌then◌else◌}
use Rattle.rollout_rules.specs.Items.{item_count}
use Rattle.rollout_rules.specs.History.{begun}
use Rattle.rollout_rules.specs.declared.op.Op.{Op}
use Rattle.dependency_graph.specs.Graph.{Followed}
use Rattle.wan_edge.specs.Frames.{Answer}
use Rattle.rollout_book.specs.declared.fault.BookFault.{BookFault}
use Rattle.rollout_book.specs.declared.fault.BookFault.TheVariants.{Alien, Disk}

-- how many operations of an item were begun; none of one that doesn't exist
abbrev pub begun_of : Followed → ℕ → ℕ
begun_of g n = if nat_lt n (item_count g.rollout.problem) then begun g.history n else 0

-- an answer may be taken where its item exists and its number is at most what was begun
abbrev pub is_known : Followed → Answer → Bool
is_known g answer = nat_lt answer.item (item_count g.rollout.problem) && nat_le answer.held (begun_of g answer.item)

-- what is said of an answer that is alien, and of the first one that is
abbrev pub fault_of : Followed → Answer → Option BookFault
fault_of g answer = if is_known g answer then None else Some (Alien answer.item answer.held (begun_of g answer.item))

abbrev pub first_alien : Followed → List Answer → Option BookFault
first_alien g [] = None
first_alien g (answer ∷ later) = if is_known g answer then first_alien g later else fault_of g answer

-- what the answers tell: of each item the number that its switch holds
abbrev pub op_of : Answer → Op
op_of answer = record { item = answer.item; number = answer.held }

abbrev pub told_by : List Answer → List Op
told_by answers = map op_of answers

-- the fault is that of the first alien answer; the disk failed where there is none
abbrev pub IsFault : BookFault → Option BookFault → Type 0
IsFault (Alien item held begun) alien = alien ≡ Some (Alien item held begun)
IsFault Disk alien = alien ≡ None

-- of a fault of the answers, and of one of the disk
abbrev pub OnAlien : BookFault → Type 0 → Type 0
OnAlien (Alien item held begun) holds = holds
OnAlien Disk holds = ⊤

abbrev pub OnDisk : BookFault → Type 0 → Type 0
OnDisk (Alien item held begun) holds = ⊤
OnDisk Disk holds = holds
