-- A journal that is open for appends.
use Rattle.std.specs.Prelude.{◌≡◌, ℕ, ◌+◌, ◌-◌, ◌*◌, ◌<◌, ◌≤◌, ◌^◌, Bool, List, Option, Some, IfSome}
use Rattle.rollout_rules.specs.declared.op.Entry.{Entry}
use Rattle.disk_model.specs.Crashes.{IsDurable, Only}
use Rattle.intent_journal.specs.Entries.{entry_rows}
use Rattle.intent_journal.specs.Images.{journal_in}
use Rattle.intent_journal.specs.Parts.{size_of}
use Rattle.intent_journal.specs.States.{Home, IsAtRest, added}

-- the disk, whether no append has failed, how many entries the list has, and the most that it may have
pub record Opened (D : Type 0) : Type 0 where
  pub disk : D
  pub live : Bool
  pub entries : ℕ
  pub most : ℕ

-- The disk is at rest with this gate, its part ends here, and all is synced.
pub record IsKept (gate end : ℕ) (told : Option (List ℕ)) (left : List ℕ → Type 0) : Type 0 where
  pub rest : IfSome told (λ image. (home : Home) × IsAtRest home gate image × (end ≡ home.slot.start + size_of home.slot))
  pub durable : IsDurable told left

-- There is room for as many entries as may come, on the disk even where each is a batch of its own, and in memory at once.
pub record HasRoom (gate end entries most capacity : ℕ) : Type 0 where
  pub within : entries ≤ most
  pub few : most < 2 ^ 32
  pub on_disk : gate + 14 * (most - entries) < end
  pub small : end < 2 ^ 63
  pub in_memory : 5 + 9 * most ≤ capacity

-- these entries stand after those that were kept, and a crash leaves them
pub record HasAdded (batch : List Entry) (before : List ℕ) (told : Option (List ℕ)) (left : List ℕ → Type 0) : Type 0 where
  pub now : List ℕ
  pub is_told : told ≡ Some now
  pub durable : Only now left
  pub keeps : journal_in now ≡ added (journal_in before) (entry_rows batch)
