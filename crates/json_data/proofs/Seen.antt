-- What a node that comes first isn't.
use Rattle.std.proofs.Common.{◌≡◌, ℕ, Bool, false, List, None, is_some, refl}
use Rattle.serde_json.specs.Find.{get, as_null, as_bool, as_number, as_str, as_array, as_object}
use Rattle.json_data.specs.declared.node.Node.{Node}
use Rattle.json_data.specs.declared.node.Node.TheVariants as a_node
use Rattle.json_data.specs.Nodes.{Entry, entry}
use Rattle.json_data.proofs.Values.{seen}

pub no_null : (n : Node) (ns : List Entry) → (n ≡ a_node.Null → ⊥) → false ≡ is_some (as_null (seen (entry n) ns))
no_null a_node.Null ns none = absurd (none refl)
no_null (a_node.Bool b) ns none = refl
no_null (a_node.Number x) ns none = refl
no_null (a_node.Text s) ns none = refl
no_null (a_node.Array size count) ns none = refl
no_null (a_node.Object size count) ns none = refl

pub no_bool : (n : Node) (ns : List Entry) → ((b : Bool) → n ≡ a_node.Bool b → ⊥) → None ≡ as_bool (seen (entry n) ns)
no_bool a_node.Null ns none = refl
no_bool (a_node.Bool b) ns none = absurd (none b refl)
no_bool (a_node.Number x) ns none = refl
no_bool (a_node.Text s) ns none = refl
no_bool (a_node.Array size count) ns none = refl
no_bool (a_node.Object size count) ns none = refl

pub no_number : (n : Node) (ns : List Entry) → ((x : _) → n ≡ a_node.Number x → ⊥) → None ≡ as_number (seen (entry n) ns)
no_number a_node.Null ns none = refl
no_number (a_node.Bool b) ns none = refl
no_number (a_node.Number x) ns none = absurd (none x refl)
no_number (a_node.Text s) ns none = refl
no_number (a_node.Array size count) ns none = refl
no_number (a_node.Object size count) ns none = refl

pub no_text : (n : Node) (ns : List Entry) → ((s : _) → n ≡ a_node.Text s → ⊥) → None ≡ as_str (seen (entry n) ns)
no_text a_node.Null ns none = refl
no_text (a_node.Bool b) ns none = refl
no_text (a_node.Number x) ns none = refl
no_text (a_node.Text s) ns none = absurd (none s refl)
no_text (a_node.Array size count) ns none = refl
no_text (a_node.Object size count) ns none = refl

pub no_array : (n : Node) (ns : List Entry) → ((size count : ℕ) → n ≡ a_node.Array size count → ⊥) → None ≡ as_array (seen (entry n) ns)
no_array a_node.Null ns none = refl
no_array (a_node.Bool b) ns none = refl
no_array (a_node.Number x) ns none = refl
no_array (a_node.Text s) ns none = refl
no_array (a_node.Array size count) ns none = absurd (none size count refl)
no_array (a_node.Object size count) ns none = refl

pub no_object : (n : Node) (ns : List Entry) → ((size count : ℕ) → n ≡ a_node.Object size count → ⊥) → false ≡ is_some (as_object (seen (entry n) ns))
no_object a_node.Null ns none = refl
no_object (a_node.Bool b) ns none = refl
no_object (a_node.Number x) ns none = refl
no_object (a_node.Text s) ns none = refl
no_object (a_node.Array size count) ns none = refl
no_object (a_node.Object size count) ns none = absurd (none size count refl)

pub no_members_in : (n : Node) (ns : List Entry) (name : List ℕ) → ((size count : ℕ) → n ≡ a_node.Object size count → ⊥) → None ≡ get name (seen (entry n) ns)
no_members_in a_node.Null ns name none = refl
no_members_in (a_node.Bool b) ns name none = refl
no_members_in (a_node.Number x) ns name none = refl
no_members_in (a_node.Text s) ns name none = refl
no_members_in (a_node.Array size count) ns name none = refl
no_members_in (a_node.Object size count) ns name none = absurd (none size count refl)
