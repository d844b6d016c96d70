-- What nodes hold, and the data that they are.
use Rattle.std.specs.Prelude.{ℕ, zero, suc, Bool, ◌+◌, ◌*◌, ◌&&◌, ◌||◌, nat_lt, nat_le, slice_index, if◌then◌else◌, List, [], ◌∷◌, map, take, drop, length}
use Rattle.serde_json.specs.Data.{Num, unsigned, Data, null, boolean, number, string, array, object, Items, no_items, item, Members, no_members, put}
use Rattle.serde_json.specs.View.{number_view}
use Rattle.json_data.specs.declared.node.Node as node
use Rattle.json_data.specs.declared.node.Node.TheVariants as a_node
use Rattle.json_data.specs.declared.spot.Spot as spot
use Rattle.json_data.specs.declared.texts.Texts as texts
use Rattle.json_data.specs.declared.spot.Spot.TheVariants as a_spot

-- what a node holds
pub data Entry : Type 0 where
  Null : Entry
  Truth : Bool → Entry
  Number : Num → Entry
  Text : List ℕ → Entry
  Array : ℕ → ℕ → Entry
  Object : ℕ → ℕ → Entry

abbrev pub entry : node.Node → Entry
entry a_node.Null = Null
entry (a_node.Bool b) = Truth b
entry (a_node.Number x) = Number (number_view x)
entry (a_node.Text s) = Text s.now
entry (a_node.Array size count) = Array size count
entry (a_node.Object size count) = Object size count

-- the node that comes first, or null
abbrev pub first : List Entry → Entry
first [] = Null
first (n ∷ ns) = n

-- the nodes after the value that comes first
abbrev pub behind : List Entry → List Entry
behind [] = []
behind (Null ∷ ns) = ns
behind (Truth b ∷ ns) = ns
behind (Number x ∷ ns) = ns
behind (Text s ∷ ns) = ns
behind (Array size count ∷ ns) = drop size ns
behind (Object size count ∷ ns) = drop size ns

-- the text of a key
abbrev pub key_of : Entry → List ℕ
key_of Null = []
key_of (Truth b) = []
key_of (Number x) = []
key_of (Text s) = s
key_of (Array size count) = []
key_of (Object size count) = []

-- so many values, each seen by a function, and null where no node is left
abbrev pub items_by : (List Entry → Data) → ℕ → List Entry → Items
items_by one zero ns = no_items
items_by one (suc count) ns = item (one ns) (items_by one count (behind ns))

-- so many keys with their values go in one after another
abbrev pub members_by : (List Entry → Data) → ℕ → List Entry → Members → Members
members_by one zero ns found = found
members_by one (suc count) [] found = found
members_by one (suc count) (key ∷ ns) found = members_by one count (behind ns) (put (key_of key) (one ns) found)

-- the value that comes first, by no more than so many steps down
abbrev pub value_within : ℕ → List Entry → Data
value_within zero ns = null
value_within (suc most) [] = null
value_within (suc most) (Null ∷ ns) = null
value_within (suc most) (Truth b ∷ ns) = boolean b
value_within (suc most) (Number x ∷ ns) = number x
value_within (suc most) (Text s ∷ ns) = string s
value_within (suc most) (Array size count ∷ ns) = array (items_by (value_within most) count ns)
value_within (suc most) (Object size count ∷ ns) = object (members_by (value_within most) count ns no_members)

-- the value that comes first
unfoldable pub value_at : List Entry → Data
value_at ns = value_within (length ns) ns

unfoldable pub items_at : ℕ → List Entry → Items
items_at count ns = items_by value_at count ns

unfoldable pub members_at : ℕ → List Entry → Members → Members
members_at count ns found = members_by value_at count ns found

-- ---- nodes by the places of their texts

-- whether a text may be cut at a place
abbrev pub is_cut : List ℕ → ℕ → Bool
is_cut text place = nat_le place (length text) && (nat_lt (slice_index text place) 128 || nat_le 192 (slice_index text place))

-- so many bytes at the front, or none where they would cut a character
abbrev pub front : ℕ → List ℕ → List ℕ
front size text = if is_cut text size then take size text else []

-- so many bytes from a place on, or none where they would cut a character
unfoldable pub piece : ℕ → ℕ → List ℕ → List ℕ
piece place size text = if is_cut text place then front size (drop place text) else []

-- the first of some nodes, or null
abbrev pub first_of : List node.Node → Entry
first_of [] = Null
first_of (n ∷ ns) = entry n

abbrev pub entry_of : List ℕ → List node.Node → spot.Spot → Entry
entry_of text kept a_spot.Null = Null
entry_of text kept (a_spot.Bool b) = Truth b
entry_of text kept (a_spot.Whole high low) = Number (unsigned (high * 4294967296 + low))
entry_of text kept (a_spot.Text place size) = Text (piece place size text)
entry_of text kept (a_spot.Array size count) = Array size count
entry_of text kept (a_spot.Object size count) = Object size count
entry_of text kept (a_spot.Kept index) = first_of (drop index kept)

-- nodes by the places of their texts, of which none is kept
abbrev pub spotted : List ℕ → List spot.Spot → List Entry
spotted text ns = map (entry_of text []) ns

abbrev pub entries : texts.Texts → List spot.Spot → List Entry
entries t ns = map (entry_of t.text.now t.kept.items) ns
