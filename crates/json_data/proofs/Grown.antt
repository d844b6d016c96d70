-- Nodes that grow by a value, by elements and by members.
use Rattle.std.proofs.Common.{◌≡◌, ℕ, suc, ◌+◌, ◌-◌, List, [], ◌∷◌, ◌++◌, length, set, refl, ap, ap₂, ◌∙◌, arith, append_assoc, length-append}
use Rattle.std.proofs.Math.Seq.{drop-append_seam, set-append_seam}
use Rattle.serde_json.specs.Data.{Data, null, boolean, number, string, array, object, item, Members, no_members, put}
use Rattle.serde_json.specs.View.{items_of}
use Rattle.json_data.specs.Nodes.{Entry, Null, Truth, Number, Text, Array, Object, behind, value_at, items_at, members_at}
use Rattle.json_data.specs.Growth.{IsValue, AreItems, AreMembers, items_before}
use Rattle.json_data.proofs.Values.{value_is, items_more, members_more, items_none}
use Rattle.json_data.proofs.Reading.{items_before-no_items, items_push}

-- ---- a value of one node

one : (n : Entry) (d : Data) → ((rest : List Entry) → value_at (n ∷ rest) ≡ d) → ((rest : List Entry) → behind (n ∷ rest) ≡ rest) → IsValue d (n ∷ [])
one n d is past = record { value = is; passed = past; some = omega arith }

pub null_is : IsValue null (Null ∷ [])
null_is = one Null null (λ rest. value_is (Null ∷ rest)) (λ rest. refl)

pub bool_is : (b : _) → IsValue (boolean b) (Truth b ∷ [])
bool_is b = one (Truth b) (boolean b) (λ rest. value_is (Truth b ∷ rest)) (λ rest. refl)

pub number_is : (x : _) → IsValue (number x) (Number x ∷ [])
number_is x = one (Number x) (number x) (λ rest. value_is (Number x ∷ rest)) (λ rest. refl)

pub text_is : (s : _) → IsValue (string s) (Text s ∷ [])
text_is s = one (Text s) (string s) (λ rest. value_is (Text s ∷ rest)) (λ rest. refl)

-- ---- elements

pub no_elements : AreItems [] 0 []
no_elements = record { items = λ left rest. (let order : 0 + left ≡ left = omega arith in ap (λ k. items_at k rest) order); short = omega arith }

-- the first of some values
first_item : (d : Data) (more rest : List Entry) (left : ℕ) → IsValue d more → items_at (suc left) (more ++ rest) ≡ item d (items_at left rest)
first_item d more rest left is =
    items_more left (more ++ rest) ∙ ap (λ e. item e (items_at left (behind (more ++ rest)))) (is.value rest)
    ∙ ap (λ ns. item d (items_at left ns)) (is.passed rest)

pub one_element_more : (ds : List Data) (count : ℕ) (old : List Entry) (d : Data) (more : List Entry) → AreItems ds count old → IsValue d more → AreItems (ds ++ d ∷ []) (count + 1) (old ++ more)
one_element_more ds count old d more are is = record {
  items = λ left rest.
      let order : count + 1 + left ≡ count + suc left = omega arith in
      ap (λ k. items_at k ((old ++ more) ++ rest)) order ∙ ap (items_at (count + suc left)) (append_assoc old more rest)
      ∙ are.items (suc left) (more ++ rest) ∙ ap (items_before ds) (first_item d more rest left is) ∙ items_push ds d (items_at left rest);
  short = omega (arith, are.short, is.some, length-append old more);
}

-- ---- members

pub no_members_yet : AreMembers no_members 0 []
no_members_yet = record { members = λ left rest. (let order : 0 + left ≡ left = omega arith in ap (λ k. members_at k rest no_members) order); short = omega arith }

pub one_member_more : (found : Members) (count : ℕ) (old : List Entry) (k : List ℕ) (d : Data) (more : List Entry) → AreMembers found count old → IsValue d more
    → AreMembers (put k d found) (count + 1) ((old ++ Text k ∷ []) ++ more)
one_member_more found count old k d more are is = record {
  members = λ left rest.
      let order : count + 1 + left ≡ count + suc left = omega arith in
      ap (λ c. members_at c (((old ++ Text k ∷ []) ++ more) ++ rest) no_members) order
      ∙ ap (λ ns. members_at (count + suc left) ns no_members) (append_assoc (old ++ Text k ∷ []) more rest ∙ append_assoc old (Text k ∷ []) (more ++ rest))
      ∙ are.members (suc left) (Text k ∷ more ++ rest)
      ∙ members_more left (Text k) (more ++ rest) found
      ∙ ap (λ e. members_at left (behind (more ++ rest)) (put k e found)) (is.value rest)
      ∙ ap (λ ns. members_at left ns (put k d found)) (is.passed rest);
  short = omega (arith, are.short, is.some, length-append (old ++ Text k ∷ []) more, length-append old (Text k ∷ []));
}

-- ---- an array or an object around them

members_none : (ns : List Entry) (found : Members) → members_at 0 ns found ≡ found
unfolding members_at
members_none ns found = refl

pub array_is : (ds : List Data) (count : ℕ) (more : List Entry) → AreItems ds count more → IsValue (array (items_of ds)) (Array (length more) count ∷ more)
array_is ds count more are = record {
  value = λ rest.
      let order : count ≡ count + 0 = omega arith in
      value_is (Array (length more) count ∷ more ++ rest)
      ∙ ap array (ap (λ k. items_at k (more ++ rest)) order ∙ are.items 0 rest ∙ ap (items_before ds) (items_none rest) ∙ items_before-no_items ds);
  passed = λ rest. drop-append_seam more rest;
  some = omega arith;
}

pub object_is : (found : Members) (count : ℕ) (more : List Entry) → AreMembers found count more → IsValue (object found) (Object (length more) count ∷ more)
object_is found count more are = record {
  value = λ rest.
      let order : count ≡ count + 0 = omega arith in
      value_is (Object (length more) count ∷ more ++ rest)
      ∙ ap object (ap (λ k. members_at k (more ++ rest) no_members) order ∙ are.members 0 rest ∙ members_none rest found);
  passed = λ rest. drop-append_seam more rest;
  some = omega arith;
}

-- ---- the node before them is written last

pub patched : (old : List Entry) (n m : Entry) (more all : List Entry) → all ≡ (old ++ n ∷ []) ++ more → set all (length old) m ≡ old ++ m ∷ more
patched old n m more all is = ap (λ ns. set ns (length old) m) (is ∙ append_assoc old (n ∷ []) more) ∙ set-append_seam old n more m

pub closed_array : (old all more : List Entry) (ds : List Data) (count start len : ℕ) → all ≡ (old ++ Null ∷ []) ++ more → AreItems ds count more → start ≡ length old → len ≡ length all
    → (x : List Entry) × (set all start (Array (len - start - 1) count) ≡ old ++ x) × IsValue (array (items_of ds)) x
closed_array old all more ds count start len is are starts ends =
    let size : len - start - 1 ≡ length more = omega (arith, starts, ends, ap length is, length-append (old ++ Null ∷ []) more, length-append old (Null ∷ [])) in
    (Array (length more) count ∷ more, ap₂ (λ at s. set all at (Array s count)) starts size ∙ patched old Null (Array (length more) count) more all is, array_is ds count more are)

pub closed_object : (old all more : List Entry) (found : Members) (count start len : ℕ) → all ≡ (old ++ Null ∷ []) ++ more → AreMembers found count more → start ≡ length old → len ≡ length all
    → (x : List Entry) × (set all start (Object (len - start - 1) count) ≡ old ++ x) × IsValue (object found) x
closed_object old all more found count start len is are starts ends =
    let size : len - start - 1 ≡ length more = omega (arith, starts, ends, ap length is, length-append (old ++ Null ∷ []) more, length-append old (Null ∷ [])) in
    (Object (length more) count ∷ more, ap₂ (λ at s. set all at (Object s count)) starts size ∙ patched old Null (Object (length more) count) more all is, object_is found count more are)
