-- Nodes by the places of their texts, as the entries that they hold.
use Rattle.std.proofs.Common.{◌≡◌, ℕ, zero, suc, ◌+◌, ◌-◌, ◌≤◌, List, [], ◌∷◌, ◌++◌, map, take, drop, get_or, set, length, refl, sym, ap, ◌∙◌, subst, arith, ◌<◌}
use Rattle.std.proofs.lemmas.List.{map_push, drop-map, length-map, length-append, take_more}
use Rattle.serde_json.specs.Data.{Data, array, object, Members}
use Rattle.serde_json.specs.View.{items_of}
use Rattle.json.specs.Token.{Token}
use Rattle.json_data.specs.declared.node.Node.{Node}
use Rattle.json_data.specs.declared.spot.Spot.{Spot}
use Rattle.json_data.specs.declared.texts.Texts.{Texts}
use Rattle.json_data.specs.Nodes.{Entry, Null, Array, Object, first, behind, value_at, entry, first_of, entry_of, entries}
use Rattle.json_data.specs.Growth.{IsValue, AreItems, AreMembers}
use Rattle.json_data.specs.Plain.{IsPlaced}
use Rattle.json_data.proofs.Values.{seen, value_is, passed, behind_is}
use Rattle.json_data.proofs.Grown.{closed_array, closed_object}

pub entries_drop : (t : Texts) (k : ℕ) (ns : List Spot) → entries t (drop k ns) ≡ drop k (entries t ns)
entries_drop t k ns = sym (drop-map (entry_of t.text.now t.kept.items) k ns)

pub entries_some : (t : Texts) (ns : List Spot) → 0 < length ns → 0 < length (entries t ns)
entries_some t ns some = omega (arith, some, length-map ns (entry_of t.text.now t.kept.items))

pub entries_none : (t : Texts) (ns : List Spot) → length ns ≡ 0 → length (entries t ns) ≡ 0
entries_none t ns none = length-map ns (entry_of t.text.now t.kept.items) ∙ none

pub value_of : (t : Texts) (ns : List Spot) → value_at (entries t ns) ≡ seen (first (entries t ns)) (entries t (drop 1 ns))
value_of t ns = value_is (entries t ns) ∙ ap (seen (first (entries t ns))) (sym (entries_drop t 1 ns))

pub value_seen : (t : Texts) (ns : List Spot) (n : Entry) → n ≡ first (entries t ns) → value_at (entries t ns) ≡ seen n (entries t (drop 1 ns))
value_seen t ns n is = value_of t ns ∙ ap (λ m. seen m (entries t (drop 1 ns))) (sym is)

pub behind_of : (t : Texts) (ns : List Spot) → behind (entries t ns) ≡ passed (first (entries t ns)) (entries t (drop 1 ns))
behind_of t ns = behind_is (entries t ns) ∙ ap (passed (first (entries t ns))) (sym (entries_drop t 1 ns))

-- so many nodes passed after the first one
pub passed_over : (t : Texts) (spots inside far : List Spot) (size : ℕ) (n : Entry) → inside ≡ drop 1 spots → far ≡ drop size inside → n ≡ first (entries t spots) → ((ns : List Entry) → drop size ns ≡ passed n ns) → entries t far ≡ behind (entries t spots)
passed_over t spots inside far size n is cut first_is over =
    ap (entries t) cut ∙ entries_drop t size inside ∙ ap (λ ns. drop size (entries t ns)) is ∙ over (entries t (drop 1 spots))
    ∙ ap (λ m. passed m (entries t (drop 1 spots))) first_is ∙ sym (behind_of t spots)

pub passed_one : (t : Texts) (spots inside : List Spot) (n : Entry) → inside ≡ drop 1 spots → n ≡ first (entries t spots) → ((ns : List Entry) → ns ≡ passed n ns) → entries t inside ≡ behind (entries t spots)
passed_one t spots inside n is first_is over =
    ap (entries t) is ∙ over (entries t (drop 1 spots)) ∙ ap (λ m. passed m (entries t (drop 1 spots))) first_is ∙ sym (behind_of t spots)

-- ---- nodes that are kept

kept_one : (ns : List Node) (i : ℕ) → i < length ns → get_or (map entry ns) i Null ≡ first_of (drop i ns)
kept_one [] i lt = absurd (omega (arith, lt))
kept_one (n ∷ ns) zero lt = refl
kept_one (n ∷ ns) (suc i) lt = kept_one ns i (omega (arith, lt))

pub kept_next : (ns : List Node) (i : ℕ) → i < length ns → take i (map entry ns) ++ first_of (drop i ns) ∷ [] ≡ take (i + 1) (map entry ns)
kept_next ns i lt =
    ap (λ n. take i (map entry ns) ++ n ∷ []) (sym (kept_one ns i lt))
    ∙ sym (take_more (map entry ns) i Null (omega (arith, lt, length-map ns entry)))

module _ {X : Type 0} (f : X → Entry) where
  pub pushed : (old new : List X) (x : X) → new ≡ old ++ x ∷ [] → map f new ≡ map f old ++ f x ∷ []
  pushed old new x is = ap (map f) is ∙ map_push f old x

  -- so many elements or members are in no more nodes
  pub count_within : (all : List X) (old more : List Entry) (count : ℕ) → map f all ≡ old ++ more → count ≤ length more → count ≤ length all
  count_within all old more count is short = omega (arith, short, ap length is, length-append old more, length-map all f)

  pub pushed_as : (old new : List X) (x : X) (n : Entry) → new ≡ old ++ x ∷ [] → f x ≡ n → map f new ≡ map f old ++ n ∷ []
  pushed_as old new x n is holds = pushed old new x is ∙ ap (λ m. map f old ++ m ∷ []) holds

  set_map : (xs : List X) (i : ℕ) (x : X) → map f (set xs i x) ≡ set (map f xs) i (f x)
  set_map [] i x = refl
  set_map (y ∷ ys) zero x = refl
  set_map (y ∷ ys) (suc i) x = ap (λ l. f y ∷ l) (set_map ys i x)

  pub array_closed : (old all : List X) (n : X) (more : List Entry) (ds : List Data) (count start len : ℕ) → map f all ≡ (map f old ++ Null ∷ []) ++ more → AreItems ds count more → start ≡ length old → len ≡ length all
      → f n ≡ Array (len - start - 1) count → (x : List Entry) × (map f (set all start n) ≡ map f old ++ x) × IsValue (array (items_of ds)) x
  array_closed old all n more ds count start len is are starts ends holds =
      let closed = closed_array (map f old) (map f all) more ds count start len is are (starts ∙ sym (length-map old f)) (ends ∙ sym (length-map all f)) in
      (closed.0, set_map all start n ∙ ap (set (map f all) start) holds ∙ closed.1, closed.2)

  pub object_closed : (old all : List X) (n : X) (more : List Entry) (found : Members) (count start len : ℕ) → map f all ≡ (map f old ++ Null ∷ []) ++ more → AreMembers found count more → start ≡ length old → len ≡ length all
      → f n ≡ Object (len - start - 1) count → (x : List Entry) × (map f (set all start n) ≡ map f old ++ x) × IsValue (object found) x
  object_closed old all n more found count start len is are starts ends holds =
      let closed = closed_object (map f old) (map f all) more found count start len is are (starts ∙ sym (length-map old f)) (ends ∙ sym (length-map all f)) in
      (closed.0, set_map all start n ∙ ap (set (map f all) start) holds ∙ closed.1, closed.2)

-- ---- what a call of the cycle is made with: after its measure, its conditions

pub measured : {Y M P : Type 0} → Y × (M × P) → M
measured x = x.1.0

pub demanded : {Y M F P : Type 0} → Y × (M × (F × P)) → P
demanded x = x.1.1.1

-- ---- the text of a string and of a key of a plain text

pub string_placed : (text : List ℕ) (t : Token) (s : List ℕ) (to : ℕ) → t ≡ Token.string s → IsPlaced text t to → IsPlaced text (Token.string s) to
string_placed text t s to is placed = subst (λ k. IsPlaced text k to) is placed

pub key_placed : (text : List ℕ) (t : Token) (s : List ℕ) (to : ℕ) → t ≡ Token.key s → IsPlaced text t to → IsPlaced text (Token.key s) to
key_placed text t s to is placed = subst (λ k. IsPlaced text k to) is placed
