-- Values, elements and members of a plain text, whatever follows them.
use Rattle.std.proofs.Common.{◌≡◌, ℕ, suc, ◌+◌, ◌-◌, ◌≤◌, Bool, true, false, List, [], ◌∷◌, ◌++◌, length, take, Some, None, is_some, option_map, refl, sym, ap, ap₂, ◌∙◌, subst, arith, append_assoc, append-nil, length-append, take_all}
use Rattle.std.proofs.lemmas.Bool.{false≢true}
use Rattle.json.specs.Token.{Token}
use Rattle.json.specs.Lex.{tokens}
use Rattle.json.specs.Json as json
use Rattle.json.specs.Json.{parse_map, after_end_array, items, members, value}
use Rattle.json.specs.Print.{token_text, separator, ends, ArePrintable}
use Rattle.json.specs.Spaced.{AreGaps, print_spaced}
use Rattle.json.proofs.Grammar.{value_is, value-begin_array, value-begin_object}
use Rattle.serde_json.specs.Data.{Data, Num, null, boolean, number, string, array, object, item, Members, no_members, put}
use Rattle.serde_json.specs.Read.{of_json, of_items, of_members, converted, number_of, read as data_in}
use Rattle.serde_json.specs.View.{items_of}
use Rattle.json_data.specs.Growth.{items_before}
use Rattle.json_data.specs.Plain.{Spaced, tokens_of, ended_by, IsGapUpTo, IsNextToken, Reaches, ReadsValue, ReadsItems, ReadsMembers, IsValueAt, AreItemsAt, AreMembersAt}
use Rattle.json_data.proofs.PlainTail.{tokens-tail}
use Rattle.json_data.proofs.Reading.{converted-array, converted-object, item_read, items_over, member_read, members_over, items_before-no_items, one_more_item, none_before, whole_read}

-- ---- tokens in a row

spaced_on : (c : Bool) (ps qs : Spaced) → print_spaced c (ps ++ qs) ≡ print_spaced c ps ++ print_spaced (ended_by c ps) qs
unfolding print_spaced
spaced_on c [] qs = refl
spaced_on c (p ∷ ps) qs =
    ap (λ xs. separator c p.1 ++ (p.0 ++ (token_text p.1 ++ xs))) (spaced_on (ends p.1) ps qs)
    ∙ ap (λ xs. separator c p.1 ++ (p.0 ++ xs)) (sym (append_assoc (token_text p.1) (print_spaced (ends p.1) ps) (print_spaced (ended_by (ends p.1) ps) qs)))
    ∙ ap (λ xs. separator c p.1 ++ xs) (sym (append_assoc p.0 (token_text p.1 ++ print_spaced (ends p.1) ps) (print_spaced (ended_by (ends p.1) ps) qs)))
    ∙ sym (append_assoc (separator c p.1) (p.0 ++ (token_text p.1 ++ print_spaced (ends p.1) ps)) (print_spaced (ended_by (ends p.1) ps) qs))

gaps_on : (ps qs : Spaced) → AreGaps ps → AreGaps qs → AreGaps (ps ++ qs)
gaps_on [] qs one other = other
gaps_on (p ∷ ps) qs one other = (one.0, gaps_on ps qs one.1 other)

printable_on : (ps qs : Spaced) → ArePrintable (tokens_of ps) → ArePrintable (tokens_of qs) → ArePrintable (tokens_of (ps ++ qs))
unfolding ArePrintable
printable_on [] qs one other = other
printable_on (p ∷ ps) qs one other = (one.0, printable_on ps qs one.1 other)

ended_on : (c : Bool) (ps qs : Spaced) → ended_by c (ps ++ qs) ≡ ended_by (ended_by c ps) qs
ended_on c [] qs = refl
ended_on c (p ∷ ps) qs = ended_on (ends p.1) ps qs

-- the tokens of two rows, before others
onto : (ps qs : Spaced) (rest : List Token) → tokens_of (ps ++ qs) ++ rest ≡ tokens_of ps ++ (tokens_of qs ++ rest)
onto [] qs rest = refl
onto (p ∷ ps) qs rest = ap (λ ts. p.1 ∷ ts) (onto ps qs rest)

counted : (p : List ℕ × Token) (ps : Spaced) → length (tokens_of (p ∷ ps)) ≡ suc (length (tokens_of ps))
counted p ps = refl

longer : (ps qs : Spaced) → length (tokens_of (ps ++ qs)) ≡ length (tokens_of ps) + length (tokens_of qs)
longer [] qs = let none : 0 + length (tokens_of qs) ≡ length (tokens_of qs) = omega arith in sym none
longer (p ∷ ps) qs = omega (arith, longer ps qs, counted p ps, counted p (ps ++ qs))

pub reaches_none : (d : List ℕ) (from : ℕ) (c : Bool) → Reaches d from c [] from c
unfolding print_spaced ArePrintable
reaches_none d from c = record { blank = tt; printable = tt; bytes = sym (append-nil (take from d)); ended = refl }

-- one token
reaches_one : (d : List ℕ) (from : ℕ) (c : Bool) (t : Token) (to : ℕ) → (next : IsNextToken d from c t to) → Reaches d from c ((next.gap, t) ∷ []) to (ends t)
unfolding print_spaced ArePrintable
reaches_one d from c t to next = record {
  blank = (next.blank, tt);
  printable = (next.printable, tt);
  bytes = next.bytes ∙ ap (λ xs. take from d ++ (separator c t ++ (next.gap ++ xs))) (sym (append-nil (token_text t)));
  ended = refl;
}

reaches_on : (d : List ℕ) (from : ℕ) (b : Bool) (ps : Spaced) (at : ℕ) (c : Bool) (qs : Spaced) (to : ℕ) (e : Bool) → Reaches d from b ps at c → Reaches d at c qs to e → Reaches d from b (ps ++ qs) to e
reaches_on d from b ps at c qs to e one other = record {
  blank = gaps_on ps qs one.blank other.blank;
  printable = printable_on ps qs one.printable other.printable;
  bytes = other.bytes ∙ ap (λ xs. xs ++ print_spaced c qs) one.bytes ∙ append_assoc (take from d) (print_spaced b ps) (print_spaced c qs)
      ∙ ap (λ k. take from d ++ (print_spaced b ps ++ print_spaced k qs)) (sym one.ended) ∙ ap (λ xs. take from d ++ xs) (sym (spaced_on b ps qs));
  ended = ended_on b ps qs ∙ ap (λ k. ended_by k qs) one.ended ∙ other.ended;
}

-- a token, and a value that begins with it
value_on : (d : List ℕ) (from : ℕ) (b : Bool) (t : Token) (at : ℕ) (depth : ℕ) (x : Data) (to : ℕ) → (next : IsNextToken d from b t at) → (is : IsValueAt d at depth t x to) → Reaches d from b ((next.gap, t) ∷ is.spaced) to true
value_on d from b t at depth x to next is = reaches_on d from b ((next.gap, t) ∷ []) at (ends t) is.spaced to true (reaches_one d from b t at next) is.reaches

-- ---- values of one token

leaf : (d : List ℕ) (from depth : ℕ) (t : Token) (x : Data) (to : ℕ) → ends t ≡ true → ((rest : List Token) → converted of_json (value depth (t ∷ rest)) ≡ Some (x, rest)) → to ≡ from → IsValueAt d from depth t x to
leaf d from depth t x to ending is same = record {
  spaced = [];
  reaches = subst (λ k. Reaches d from (ends t) [] k true) (sym same) (subst (λ c. Reaches d from (ends t) [] from c) ending (reaches_none d from (ends t)));
  read = is;
}

pub string_at : (d : List ℕ) (from depth : ℕ) (s : List ℕ) (to : ℕ) → to ≡ from → IsValueAt d from depth (Token.string s) (string s) to
string_at d from depth s to same = leaf d from depth (Token.string s) (string s) to refl (λ rest. ap (converted of_json) (value_is depth (Token.string s ∷ rest))) same

pub bool_at : (d : List ℕ) (from depth : ℕ) (b : Bool) (to : ℕ) → to ≡ from → IsValueAt d from depth (Token.boolean b) (boolean b) to
bool_at d from depth b to same = leaf d from depth (Token.boolean b) (boolean b) to refl (λ rest. ap (converted of_json) (value_is depth (Token.boolean b ∷ rest))) same

pub null_at : (d : List ℕ) (from depth to : ℕ) → to ≡ from → IsValueAt d from depth Token.null null to
null_at d from depth to same = leaf d from depth Token.null null to refl (λ rest. ap (converted of_json) (value_is depth (Token.null ∷ rest))) same

pub number_at : (d : List ℕ) (from depth : ℕ) (s : List ℕ) (x : Num) (to : ℕ) → number_of s ≡ Some x → to ≡ from → IsValueAt d from depth (Token.number s) (number x) to
number_at d from depth s x to is same =
    leaf d from depth (Token.number s) (number x) to refl
    (λ rest. ap (converted of_json) (value_is depth (Token.number s ∷ rest)) ∙ ap (λ o. option_map (λ y. (y, rest)) (option_map number o)) is) same

-- ---- elements

-- no value begins with the bracket that closes an array
not_closing : (depth : ℕ) (t : Token) (ts : List Token) (x : Data) (r : List Token) → converted of_json (value depth (t ∷ ts)) ≡ Some (x, r) → after_end_array (t ∷ ts) ≡ None
not_closing depth Token.begin_object ts x r e = refl
not_closing depth Token.end_object ts x r e = refl
not_closing depth Token.begin_array ts x r e = refl
not_closing depth Token.end_array ts x r e = absurd (false≢true (ap is_some (sym (ap (converted of_json) (value_is depth (Token.end_array ∷ ts))) ∙ e)))
not_closing depth (Token.key s) ts x r e = refl
not_closing depth (Token.string s) ts x r e = refl
not_closing depth (Token.number s) ts x r e = refl
not_closing depth (Token.boolean b) ts x r e = refl
not_closing depth Token.null ts x r e = refl
not_closing depth Token.bad ts x r e = refl

pub no_items_at : (d : List ℕ) (from depth : ℕ) → AreItemsAt d from depth [] from false
no_items_at d from depth = record {
  spaced = [];
  reaches = reaches_none d from false;
  read = λ n rest.
      let same : 0 + n ≡ n = omega arith in
      ap (λ k. converted of_items (items (value depth) k rest)) same ∙ none_before (converted of_items (items (value depth) n rest));
  few = omega arith;
}

item_reads : (depth : ℕ) (ps qs : Spaced) (ds : List Data) (g : List ℕ) (t : Token) (x : Data) → ReadsItems depth ps ds → ReadsValue depth t qs x → ReadsItems depth (ps ++ (g, t) ∷ qs) (ds ++ x ∷ [])
item_reads depth ps qs ds g t x so_far is n rest =
    let p = value depth in
    let order : length (ds ++ x ∷ []) + n ≡ length ds + suc n = omega (arith, length-append ds (x ∷ [])) in
    let less : suc n - 1 ≡ n = omega arith in
    ap₂ (λ k ts. converted of_items (items p k ts)) order (onto ps ((g, t) ∷ qs) rest)
    ∙ so_far (suc n) (t ∷ (tokens_of qs ++ rest))
    ∙ ap (parse_map (items_before ds))
    (item_read p (suc n) (t ∷ (tokens_of qs ++ rest)) rest x (omega arith) (not_closing depth t (tokens_of qs ++ rest) x rest (is rest)) (is rest)
    ∙ ap (λ k. parse_map (item x) (converted of_items (items p k rest))) less)
    ∙ one_more_item ds x (converted of_items (items p n rest))

pub item_at : (d : List ℕ) (from depth : ℕ) (ds : List Data) (at : ℕ) (ended : Bool) (t : Token) (start : ℕ) (x : Data) (to : ℕ) → AreItemsAt d from depth ds at ended → IsNextToken d at ended t start → IsValueAt d start depth t x to
    → AreItemsAt d from depth (ds ++ x ∷ []) to true
item_at d from depth ds at ended t start x to so_far next is = record {
  spaced = so_far.spaced ++ (next.gap, t) ∷ is.spaced;
  reaches = reaches_on d from false so_far.spaced at ended ((next.gap, t) ∷ is.spaced) to true so_far.reaches (value_on d at ended t start depth x to next is);
  read = item_reads depth so_far.spaced is.spaced ds next.gap t x so_far.read is.read;
  few = omega (arith, so_far.few, length-append ds (x ∷ []), longer so_far.spaced ((next.gap, t) ∷ is.spaced), counted (next.gap, t) is.spaced);
}

array_reads : (depth : ℕ) (ps : Spaced) (ds : List Data) (g : List ℕ) → ReadsItems depth ps ds → length ds ≤ length (tokens_of ps) → ReadsValue (depth + 1) Token.begin_array (ps ++ (g, Token.end_array) ∷ []) (array (items_of ds))
array_reads depth ps ds g so_far few rest =
    let ts = tokens_of ps ++ (Token.end_array ∷ rest) in
    let n = length ts - length ds in
    let size : length ts ≡ length (tokens_of ps) + length (Token.end_array ∷ rest) = length-append (tokens_of ps) (Token.end_array ∷ rest) in
    let turns : length ts ≡ length ds + (length ts - length ds) = omega (arith, size, few) in
    let enough : length (Token.end_array ∷ rest) ≤ length ts - length ds = omega (arith, size, few) in
    let down : depth + 1 - 1 ≡ depth = omega arith in
    ap (λ us. converted of_json (value (depth + 1) (Token.begin_array ∷ us))) (onto ps ((g, Token.end_array) ∷ []) rest)
    ∙ ap (converted of_json) (value-begin_array (depth + 1) ts (omega arith) ∙ ap (λ k. parse_map json.array (items (value k) (length ts) ts)) down)
    ∙ converted-array (items (value depth) (length ts) ts)
    ∙ ap (parse_map array)
    (ap (λ k. converted of_items (items (value depth) k ts)) turns ∙ so_far n (Token.end_array ∷ rest)
    ∙ ap (parse_map (items_before ds)) (items_over (value depth) n (Token.end_array ∷ rest) rest enough refl))
    ∙ ap (λ es. Some (array es, rest)) (items_before-no_items ds)

pub array_at : (d : List ℕ) (from depth : ℕ) (ds : List Data) (at : ℕ) (ended : Bool) (t : Token) (to : ℕ) → AreItemsAt d from depth ds at ended → IsNextToken d at ended t to → t ≡ Token.end_array
    → IsValueAt d from (depth + 1) Token.begin_array (array (items_of ds)) to
array_at d from depth ds at ended t to so_far next is =
    let closing : Reaches d at ended ((next.gap, t) ∷ []) to (ends t) = reaches_one d at ended t to next in
    let closes : Reaches d at ended ((next.gap, Token.end_array) ∷ []) to true = subst (λ u. Reaches d at ended ((next.gap, u) ∷ []) to (ends u)) is closing in
    record {
      spaced = so_far.spaced ++ (next.gap, Token.end_array) ∷ [];
      reaches = reaches_on d from false so_far.spaced at ended ((next.gap, Token.end_array) ∷ []) to true so_far.reaches closes;
      read = array_reads depth so_far.spaced ds next.gap so_far.read so_far.few;
    }

-- ---- members

pub no_members_at : (d : List ℕ) (from depth : ℕ) → AreMembersAt d from depth 0 no_members from false
no_members_at d from depth = record {
  spaced = [];
  reaches = reaches_none d from false;
  read = λ n rest. (let same : 0 + n ≡ n = omega arith in ap (λ k. converted (λ ms. of_members ms no_members) (members (value depth) k rest)) same);
  few = omega arith;
}

member_reads : (depth : ℕ) (ps qs : Spaced) (count : ℕ) (found : Members) (g h k : List ℕ) (t : Token) (x : Data) → ReadsMembers depth ps count found → ReadsValue depth t qs x
    → ReadsMembers depth (ps ++ (g, Token.key k) ∷ (h, t) ∷ qs) (count + 1) (put k x found)
member_reads depth ps qs count found g h k t x so_far is n rest =
    let p = value depth in
    let order : count + 1 + n ≡ count + suc n = omega arith in
    let less : suc n - 1 ≡ n = omega arith in
    ap₂ (λ c ts. converted (λ ms. of_members ms no_members) (members p c ts)) order (onto ps ((g, Token.key k) ∷ (h, t) ∷ qs) rest)
    ∙ so_far (suc n) (Token.key k ∷ t ∷ (tokens_of qs ++ rest))
    ∙ member_read p found (suc n) k (Token.key k ∷ t ∷ (tokens_of qs ++ rest)) (t ∷ (tokens_of qs ++ rest)) rest x (omega arith) refl (is rest)
    ∙ ap (λ c. converted (λ ms. of_members ms (put k x found)) (members p c rest)) less

pub member_at : (d : List ℕ) (from depth count : ℕ) (found : Members) (at : ℕ) (ended : Bool) (named : Token) (k : List ℕ) (behind : ℕ) (t : Token) (start : ℕ) (x : Data) (to : ℕ)
    → AreMembersAt d from depth count found at ended → IsNextToken d at ended named behind → named ≡ Token.key k → IsNextToken d behind false t start → IsValueAt d start depth t x to
    → AreMembersAt d from depth (count + 1) (put k x found) to true
member_at d from depth count found at ended named k behind t start x to so_far name names next is =
    let keyed : Reaches d at ended ((name.gap, Token.key k) ∷ []) behind false = subst (λ u. Reaches d at ended ((name.gap, u) ∷ []) behind (ends u)) names (reaches_one d at ended named behind name) in
    let valued : Reaches d behind false ((next.gap, t) ∷ is.spaced) to true = value_on d behind false t start depth x to next is in
    let both : Reaches d at ended ((name.gap, Token.key k) ∷ (next.gap, t) ∷ is.spaced) to true =
    reaches_on d at ended ((name.gap, Token.key k) ∷ []) behind false ((next.gap, t) ∷ is.spaced) to true keyed valued in
    record {
      spaced = so_far.spaced ++ (name.gap, Token.key k) ∷ (next.gap, t) ∷ is.spaced;
      reaches = reaches_on d from false so_far.spaced at ended ((name.gap, Token.key k) ∷ (next.gap, t) ∷ is.spaced) to true so_far.reaches both;
      read = member_reads depth so_far.spaced is.spaced count found name.gap next.gap k t x so_far.read is.read;
      few = omega (arith, so_far.few, longer so_far.spaced ((name.gap, Token.key k) ∷ (next.gap, t) ∷ is.spaced), counted (name.gap, Token.key k) ((next.gap, t) ∷ is.spaced));
    }

object_reads : (depth : ℕ) (ps : Spaced) (count : ℕ) (found : Members) (g : List ℕ) → ReadsMembers depth ps count found → count ≤ length (tokens_of ps) → ReadsValue (depth + 1) Token.begin_object (ps ++ (g, Token.end_object) ∷ []) (object found)
object_reads depth ps count found g so_far few rest =
    let ts = tokens_of ps ++ (Token.end_object ∷ rest) in
    let n = length ts - count in
    let size : length ts ≡ length (tokens_of ps) + length (Token.end_object ∷ rest) = length-append (tokens_of ps) (Token.end_object ∷ rest) in
    let turns : length ts ≡ count + (length ts - count) = omega (arith, size, few) in
    let enough : length (Token.end_object ∷ rest) ≤ length ts - count = omega (arith, size, few) in
    let down : depth + 1 - 1 ≡ depth = omega arith in
    ap (λ us. converted of_json (value (depth + 1) (Token.begin_object ∷ us))) (onto ps ((g, Token.end_object) ∷ []) rest)
    ∙ ap (converted of_json) (value-begin_object (depth + 1) ts (omega arith) ∙ ap (λ k. parse_map json.object (members (value k) (length ts) ts)) down)
    ∙ converted-object (members (value depth) (length ts) ts)
    ∙ ap (parse_map object)
    (ap (λ k. converted (λ ms. of_members ms no_members) (members (value depth) k ts)) turns ∙ so_far n (Token.end_object ∷ rest) ∙ members_over (value depth) found n (Token.end_object ∷ rest) rest enough refl)

pub object_at : (d : List ℕ) (from depth count : ℕ) (found : Members) (at : ℕ) (ended : Bool) (t : Token) (to : ℕ) → AreMembersAt d from depth count found at ended → IsNextToken d at ended t to → t ≡ Token.end_object
    → IsValueAt d from (depth + 1) Token.begin_object (object found) to
object_at d from depth count found at ended t to so_far next is =
    let closes : Reaches d at ended ((next.gap, Token.end_object) ∷ []) to true = subst (λ u. Reaches d at ended ((next.gap, u) ∷ []) to (ends u)) is (reaches_one d at ended t to next) in
    record {
      spaced = so_far.spaced ++ (next.gap, Token.end_object) ∷ [];
      reaches = reaches_on d from false so_far.spaced at ended ((next.gap, Token.end_object) ∷ []) to true so_far.reaches closes;
      read = object_reads depth so_far.spaced count found next.gap so_far.read so_far.few;
    }

-- the same value, at a depth and after a token that are these
pub value_again : (d : List ℕ) (from one depth : ℕ) (t u : Token) (x : Data) (to : ℕ) → one ≡ depth → t ≡ u → IsValueAt d from one t x to → IsValueAt d from depth u x to
value_again d from one depth t u x to deep same is = subst (λ v. IsValueAt d from depth v x to) same (subst (λ k. IsValueAt d from k t x to) deep is)

-- ---- the whole text

take_none : (d : List ℕ) → take 0 d ≡ []
take_none [] = refl
take_none (x ∷ d) = refl

-- a text that is one value, and blanks after it
pub whole_plain : (d : List ℕ) (t : Token) (at : ℕ) (x : Data) (end last : ℕ) → IsNextToken d 0 false t at → IsValueAt d at 127 t x end → IsGapUpTo d end last → last ≡ length d → data_in d ≡ Some x
whole_plain d t at x end last next is behind all =
    let ps = (next.gap, t) ∷ is.spaced in
    let reach : Reaches d 0 false ps end true = value_on d 0 false t at 127 x end next is in
    let front : take end d ≡ print_spaced false ps = reach.bytes ∙ ap (λ xs. xs ++ print_spaced false ps) (take_none d) in
    let text : d ≡ print_spaced false ps ++ behind.gap = sym (take_all last d (omega (arith, all))) ∙ behind.bytes ∙ ap (λ xs. xs ++ behind.gap) front in
    let toks : tokens d ≡ tokens_of ps = ap tokens text ∙ tokens-tail ps behind.gap reach.blank reach.printable behind.blank in
    let ended : tokens d ≡ t ∷ (tokens_of is.spaced ++ []) = toks ∙ ap (λ ts. t ∷ ts) (sym (append-nil (tokens_of is.spaced))) in
    whole_read (value 127 (tokens d)) x (ap (λ ts. converted of_json (value 127 ts)) ended ∙ is.read [])
