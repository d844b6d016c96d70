-- The value that comes first, with no bound on the steps down.
use Rattle.std.proofs.Common.{◌≡◌, ℕ, zero, suc, ◌-◌, ◌<◌, ◌≤◌, List, [], ◌∷◌, drop, length, refl, ap, ◌∙◌, arith, length-drop}
use Rattle.serde_json.specs.Data.{Data, null, boolean, number, string, array, object, no_items, item, Members, no_members, put}
use Rattle.serde_json.specs.Events.{items_len}
use Rattle.json_data.specs.Nodes.{Entry, Null, Truth, Number, Text, Array, Object, first, behind, key_of, items_by, members_by, value_within, value_at, items_at, members_at}

pub behind_short : (ns : List Entry) → length (behind ns) ≤ length ns
behind_short [] = omega arith
behind_short (Null ∷ ns) = omega arith
behind_short (Truth b ∷ ns) = omega arith
behind_short (Number x ∷ ns) = omega arith
behind_short (Text s ∷ ns) = omega arith
behind_short (Array size count ∷ ns) = omega (arith, length-drop size ns)
behind_short (Object size count ∷ ns) = omega (arith, length-drop size ns)

module _ (f g : List Entry → Data) (most : ℕ) (same : (ns : List Entry) → length ns ≤ most → f ns ≡ g ns) where
  items_same : (count : ℕ) (ns : List Entry) → length ns ≤ most → items_by f count ns ≡ items_by g count ns
  items_same zero ns le = refl
  items_same (suc count) ns le =
      ap (λ d. item d (items_by f count (behind ns))) (same ns le)
      ∙ ap (item (g ns)) (items_same count (behind ns) (omega (arith, behind_short ns)))

  members_same : (count : ℕ) (ns : List Entry) (found : Members) → length ns ≤ most → members_by f count ns found ≡ members_by g count ns found
  members_same zero ns found le = refl
  members_same (suc count) [] found le = refl
  members_same (suc count) (key ∷ ns) found le =
      ap (λ d. members_by f count (behind ns) (put (key_of key) d found)) (same ns (omega arith))
      ∙ members_same count (behind ns) (put (key_of key) (g ns) found) (omega (arith, behind_short ns))

-- more steps than nodes change nothing
enough : (most more : ℕ) (ns : List Entry) → length ns ≤ most → length ns ≤ more → value_within most ns ≡ value_within more ns
enough zero zero [] le also = refl
enough zero (suc more) [] le also = refl
enough (suc most) zero [] le also = refl
enough (suc most) (suc more) [] le also = refl
enough zero more (n ∷ ns) le also = absurd (omega arith)
enough (suc most) zero (n ∷ ns) le also = absurd (omega arith)
enough (suc most) (suc more) (Null ∷ ns) le also = refl
enough (suc most) (suc more) (Truth b ∷ ns) le also = refl
enough (suc most) (suc more) (Number x ∷ ns) le also = refl
enough (suc most) (suc more) (Text s ∷ ns) le also = refl
enough (suc most) (suc more) (Array size count ∷ ns) le also =
    ap array (items_same (value_within most) (value_within more) (length ns) (λ ms lt. enough most more ms (omega arith) (omega arith)) count ns (omega arith))
enough (suc most) (suc more) (Object size count ∷ ns) le also =
    ap object (members_same (value_within most) (value_within more) (length ns) (λ ms lt. enough most more ms (omega arith) (omega arith)) count ns no_members (omega arith))

-- a node with what is behind it
abbrev pub seen : Entry → List Entry → Data
seen Null ns = null
seen (Truth b) ns = boolean b
seen (Number x) ns = number x
seen (Text s) ns = string s
seen (Array size count) ns = array (items_at count ns)
seen (Object size count) ns = object (members_at count ns no_members)

pub value_is : (ns : List Entry) → value_at ns ≡ seen (first ns) (drop 1 ns)
unfolding value_at items_at members_at
value_is [] = refl
value_is (Null ∷ ns) = refl
value_is (Truth b ∷ ns) = refl
value_is (Number x ∷ ns) = refl
value_is (Text s ∷ ns) = refl
value_is (Array size count ∷ ns) = ap array (items_same (value_within (length ns)) value_at (length ns) (λ ms lt. enough (length ns) (length ms) ms lt (omega arith)) count ns (omega arith))
value_is (Object size count ∷ ns) = ap object (members_same (value_within (length ns)) value_at (length ns) (λ ms lt. enough (length ns) (length ms) ms lt (omega arith)) count ns no_members (omega arith))

-- how many nodes are passed after the first one
abbrev pub passed : Entry → List Entry → List Entry
passed Null ns = ns
passed (Truth b) ns = ns
passed (Number x) ns = ns
passed (Text s) ns = ns
passed (Array size count) ns = drop size ns
passed (Object size count) ns = drop size ns

pub behind_is : (ns : List Entry) → behind ns ≡ passed (first ns) (drop 1 ns)
behind_is [] = refl
behind_is (Null ∷ ns) = refl
behind_is (Truth b ∷ ns) = refl
behind_is (Number x ∷ ns) = refl
behind_is (Text s ∷ ns) = refl
behind_is (Array size count ∷ ns) = refl
behind_is (Object size count ∷ ns) = refl

-- ---- elements and members, one at a time

pub items_none : (ns : List Entry) → items_at 0 ns ≡ no_items
unfolding items_at
items_none ns = refl

pub items_ended : (count : ℕ) (ns : List Entry) → count ≡ 0 → items_at count ns ≡ no_items
items_ended count ns none = ap (λ k. items_at k ns) none ∙ items_none ns

pub items_more : (count : ℕ) (ns : List Entry) → items_at (suc count) ns ≡ item (value_at ns) (items_at count (behind ns))
unfolding items_at
items_more count ns = refl

pub items_next : (count : ℕ) (ns : List Entry) → 0 < count → items_at count ns ≡ item (value_at ns) (items_at (count - 1) (behind ns))
items_next zero ns some = absurd (omega arith)
items_next (suc count) ns some =
    let same : count ≡ suc count - 1 = omega arith in
    items_more count ns ∙ ap (λ k. item (value_at ns) (items_at k (behind ns))) same

pub items_counted : (count : ℕ) (ns : List Entry) → count ≡ items_len (items_at count ns)
unfolding items_at
items_counted zero ns = refl
items_counted (suc count) ns = ap suc (items_counted count (behind ns))

pub members_more : (count : ℕ) (key : Entry) (ns : List Entry) (found : Members) → members_at (suc count) (key ∷ ns) found ≡ members_at count (behind ns) (put (key_of key) (value_at ns) found)
unfolding members_at
members_more count key ns found = refl
