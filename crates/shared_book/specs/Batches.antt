-- The form of a round's batch: Dones by item, and then the release of the history so far.
use Rattle.std.specs.Prelude.{ℕ, ◌+◌, Bool, true, false, ◌&&◌, List, [], ◌∷◌, ◌==◌, nat_le}
use Rattle.rollout_rules.specs.Wan.{Problem, Plan}
use Rattle.rollout_rules.specs.History.{History, with_entries}
use Rattle.rollout_rules.specs.Legal.{may_follow}
use Rattle.rollout_rules.specs.Release.{release}
use Rattle.rollout_rules.specs.declared.op.Op.{Op}
use Rattle.rollout_rules.specs.declared.op.OpView.{OpView}
use Rattle.rollout_rules.specs.declared.op.Entry.{Entry}
use Rattle.rollout_rules.specs.declared.op.Entry.TheVariants.{Begin, Done}

-- whether two entries are the same, and two lists of them
abbrev pub same_op : Op → Op → Bool
same_op a b = (a.item == b.item) && (a.number == b.number)

abbrev pub same_entry : Entry → Entry → Bool
same_entry (Begin a) (Begin b) = same_op a b
same_entry (Begin a) (Done b) = false
same_entry (Done a) (Begin b) = false
same_entry (Done a) (Done b) = same_op a b

abbrev pub same_entries : List Entry → List Entry → Bool
same_entries [] [] = true
same_entries [] (f ∷ fs) = false
same_entries (e ∷ es) [] = false
same_entries (e ∷ es) (f ∷ fs) = same_entry e f && same_entries es fs

-- the operations of the Dones with which a list begins, and what comes after these
abbrev pub dones_ahead : List Entry → List Op
dones_ahead [] = []
dones_ahead (Begin op ∷ es) = []
dones_ahead (Done op ∷ es) = op ∷ dones_ahead es

abbrev pub behind_dones : List Entry → List Entry
behind_dones [] = []
behind_dones (Begin op ∷ es) = Begin op ∷ es
behind_dones (Done op ∷ es) = behind_dones es

-- these Dones again, as entries
abbrev pub ends : List Op → List Entry
ends [] = []
ends (op ∷ ops) = Done op ∷ ends ops

-- whether the items of operations rise, from this one on
abbrev pub items_rise : ℕ → List Op → Bool
items_rise from [] = true
items_rise from (op ∷ ops) = nat_le from op.item && items_rise (op.item + 1) ops

-- Whether entries may follow a history as the batch of a round: Dones by item, and then the release of the history with
-- these Dones.
abbrev pub is_batch : Problem → Plan → (OpView → ℕ) → History → List Entry → Bool
is_batch p plan policy h es =
    items_rise 0 (dones_ahead es) && may_follow p plan h es
    && same_entries (behind_dones es) (release p plan policy (with_entries h (ends (dones_ahead es))))
