-- How a list of nodes grows by a value, by elements and by members.
use Rattle.std.specs.Prelude.{◌≡◌, ℕ, ◌+◌, ◌<◌, ◌≤◌, List, [], ◌∷◌, ◌++◌, length}
use Rattle.serde_json.specs.Data.{Data, Items, item, Members, no_members}
use Rattle.json_data.specs.Nodes.{Entry, behind, value_at, items_at, members_at}

-- nodes that are one value, whatever follows
pub record IsValue (d : Data) (more : List Entry) : Type 0 where
  pub value : (rest : List Entry) → value_at (more ++ rest) ≡ d
  pub passed : (rest : List Entry) → behind (more ++ rest) ≡ rest
  pub some : 0 < length more

-- elements before others
abbrev pub items_before : List Data → Items → Items
items_before [] rest = rest
items_before (d ∷ ds) rest = item d (items_before ds rest)

-- nodes that are so many elements, whatever follows
pub record AreItems (ds : List Data) (count : ℕ) (more : List Entry) : Type 0 where
  pub items : (left : ℕ) (rest : List Entry) → items_at (count + left) (more ++ rest) ≡ items_before ds (items_at left rest)
  pub short : count ≤ length more

-- nodes that are so many members, whatever follows
pub record AreMembers (found : Members) (count : ℕ) (more : List Entry) : Type 0 where
  pub members : (left : ℕ) (rest : List Entry) → members_at (count + left) (more ++ rest) no_members ≡ members_at left rest found
  pub short : count ≤ length more

-- the nodes have grown by one value
abbrev pub GrowsByValue : Data → List Entry → List Entry → Type 0
GrowsByValue d old new = (more : List Entry) × (new ≡ old ++ more) × IsValue d more

-- the nodes have grown by so many elements
abbrev pub GrowsByItems : List Data → ℕ → List Entry → List Entry → Type 0
GrowsByItems ds count old new = (more : List Entry) × (new ≡ old ++ more) × AreItems ds count more

-- the nodes have grown by so many members
abbrev pub GrowsByMembers : Members → ℕ → List Entry → List Entry → Type 0
GrowsByMembers found count old new = (more : List Entry) × (new ≡ old ++ more) × AreMembers found count more
