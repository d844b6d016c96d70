-- Which items are woken, and at which resource each other one is kept.
use Rattle.std.specs.Prelude.{◌≡◌, ℕ, ◌+◌, ◌<◌, ◌≤◌, ◌^◌, true, false, List, [], ◌∷◌, length, slice_index, ◌==◌, if◌then◌else◌}
use Rattle.std.specs.List.{AllByRecursion}
use Rattle.dependency_graph.specs.Cells.{has}

-- so many items, and some of them
pub record ItemSet : Type 0 where
  pub items : ℕ
  pub row : List ℕ

-- a list of all items, and the place in it of each
pub record AreInverse (order places : List ℕ) : Type 0 where
  pub all : length places ≡ length order
  pub there : (n : ℕ) → n < length order → slice_index places n < length order
  pub back : (n : ℕ) → n < length order → slice_index order (slice_index places n) ≡ n
  pub inside : (j : ℕ) → j < length order → slice_index order j < length order
  pub forth : (j : ℕ) → j < length order → slice_index places (slice_index order j) ≡ j

-- two places, one for the other
abbrev pub exchanged : ℕ → ℕ → ℕ → ℕ
exchanged a b j = if j == a then b else (if j == b then a else j)

pub record AreExchanged (a b : ℕ) (old later : List ℕ) : Type 0 where
  pub all : length later ≡ length old
  pub each : (n : ℕ) → n < length old → slice_index later n ≡ exchanged a b (slice_index old n)

-- the first so many are the set
pub record IsOrder (order places : List ℕ) (count : ℕ) : Type 0 where
  pub few : length order < 2 ^ 32
  pub within : count ≤ length order
  pub inverse : AreInverse order places

-- each number stands at its own place
pub record AreNumbers (n : ℕ) (row : List ℕ) : Type 0 where
  pub count : length row ≡ n
  pub each : (k : ℕ) → k < n → slice_index row k ≡ k

-- for each item the number of the resource at which it is kept and 1, or 0 where it is at none
pub record Keeping : Type 0 where
  pub resources : ℕ
  pub lacks : List ℕ

-- The row is that of a list through the items from a head on: each is told by its number and 1, and the end by 0.
abbrev pub IsChain : List ℕ → ℕ → List ℕ → Type 0
IsChain nexts head [] = head ≡ 0
IsChain nexts head (n ∷ ns) = (head ≡ n + 1) × IsChain nexts (slice_index nexts n) ns

-- no number stands twice in the row
abbrev pub IsOnce : List ℕ → Type 0
IsOnce [] = Unit {0}
IsOnce (n ∷ ns) = (has ns n ≡ false) × IsOnce ns

-- the row has those that are kept at resource q, each once, and is the list from a head on
pub record IsKeptRow (lacks nexts : List ℕ) (q head : ℕ) (row : List ℕ) : Type 0 where
  pub chain : IsChain nexts head row
  pub once : IsOnce row
  pub each : AllByRecursion (λ n. (n < length lacks) × (slice_index lacks n ≡ q + 1)) row
  pub all : (n : ℕ) → n < length lacks → slice_index lacks n ≡ q + 1 → has row n ≡ true

-- each resource has such a row
pub record AreKept (lacks heads nexts : List ℕ) : Type 0 where
  pub few : length lacks < 2 ^ 32
  pub resources : length heads < 2 ^ 32
  pub items : length nexts ≡ length lacks
  pub rows : (q : ℕ) → q < length heads → (row : List ℕ) × IsKeptRow lacks nexts q (slice_index heads q) row

-- none is kept at any resource
abbrev pub AreFree : List ℕ → Type 0
AreFree lacks = (n : ℕ) → n < length lacks → slice_index lacks n ≡ 0

-- none is kept at this one
abbrev pub AreFreeOf : ℕ → List ℕ → Type 0
AreFreeOf q lacks = (n : ℕ) → n < length lacks → slice_index lacks n ≡ q + 1 → ⊥

-- The items that are woken, and for each item the number of the resource at which it is kept and 1, or 0.
pub record Awake : Type 0 where
  pub resources : ℕ
  pub row : List ℕ
  pub lacks : List ℕ

-- what is woken isn't kept
pub record AreAwake (set : ItemSet) (kept : Keeping) : Type 0 where
  pub items : set.items ≡ length kept.lacks
  pub free : (n : ℕ) → n < length kept.lacks → has set.row n ≡ true → slice_index kept.lacks n ≡ 0

-- Some more are woken: what isn't then wasn't before, and is kept where it was.
pub record Rouses (old later : Awake) : Type 0 where
  pub resources : later.resources ≡ old.resources
  pub items : length later.lacks ≡ length old.lacks
  pub rest : (n : ℕ) → n < length old.lacks → has later.row n ≡ false → (has old.row n ≡ false) × (slice_index later.lacks n ≡ slice_index old.lacks n)

-- an item that isn't woken is kept somewhere
abbrev pub IsWokenOrKept : Awake → ℕ → Type 0
IsWokenOrKept w n = has w.row n ≡ false → 0 < slice_index w.lacks n

-- no item that isn't woken is kept at resource q
abbrev pub AreWokenFrom : ℕ → Awake → Type 0
AreWokenFrom q w = (n : ℕ) → n < length w.lacks → has w.row n ≡ false → slice_index w.lacks n ≡ q + 1 → ⊥

-- an item is woken no more, and what is told of where it is kept is this; the others are as they were
pub record IsLetGo (n kept : ℕ) (old later : Awake) : Type 0 where
  pub resources : later.resources ≡ old.resources
  pub items : length later.lacks ≡ length old.lacks
  pub own : slice_index later.lacks n ≡ kept
  pub rest : (k : ℕ) → k < length old.lacks → (k ≡ n → ⊥) → has later.row k ≡ false → (has old.row k ≡ false) × (slice_index later.lacks k ≡ slice_index old.lacks k)

-- a set of items with where the others are kept
abbrev pub joined : ItemSet → Keeping → Awake
joined set kept = record { resources = kept.resources; row = set.row; lacks = kept.lacks }
