-- A text in which blanks alone stand before a token, and nothing in a string is escaped: what is read of it, place by place.
use Rattle.std.specs.Prelude.{◌≡◌, ℕ, ◌+◌, ◌-◌, ◌<◌, ◌≤◌, ⊤, Bool, true, false, List, [], ◌∷◌, ◌++◌, length, take, get_or, map, fold, Some}
use Rattle.json.specs.Token.{Token, begin_object, end_object, begin_array, end_array, key, string, number, boolean, null, bad}
use Rattle.json.specs.Json.{items, members, value, parse_map}
use Rattle.json.specs.Print.{token_text, escape, separator, ends, IsPrintable, ArePrintable}
use Rattle.json.specs.Run.{is_plain}
use Rattle.json.specs.Spaced.{IsGap, AreGaps, print_spaced}
use Rattle.serde_json.specs.Data.{Data, Members, no_members}
use Rattle.serde_json.specs.Read.{of_json, of_items, of_members, converted}
use Rattle.json_data.specs.Growth.{items_before}
use Rattle.json_data.specs.Nodes.{piece}

-- tokens, each with the blanks before it
abbrev pub Spaced : Type 0
Spaced = List (List ℕ × Token)

abbrev pub tokens_of : Spaced → List Token
tokens_of ps = map (λ p. p.1) ps

-- whether they leave a value just ended, as `before` says of what stood before them
abbrev pub ended_by : Bool → Spaced → Bool
ended_by before ps = fold (λ _ t. ends t) before (tokens_of ps)

-- ---- one token

-- so many bytes stand before a quote, and none of them needs an escape
abbrev pub IsPlainUpTo : List ℕ → ℕ → Type 0
IsPlainUpTo bytes size = (get_or bytes size 32 ≡ 34) × (escape (take size bytes) ≡ take size bytes) × (size ≤ length bytes)

-- so many bytes stand in a string as they are
abbrev pub ArePlain : List ℕ → ℕ → Type 0
ArePlain bytes size = ((k : ℕ) → k < size → is_plain (get_or bytes k 0) ≡ true) × (size ≤ length bytes)

-- blanks stand from one place to before another
pub record IsGapUpTo (text : List ℕ) (from to : ℕ) : Type 0 where
  pub gap : List ℕ
  pub blank : IsGap gap
  pub bytes : take to text ≡ take from text ++ gap
  pub low : from ≤ to
  pub high : to ≤ length text

-- the text of a string that ends before a place stands before its quote, that of a key before its quote and colon
abbrev pub IsPlaced : List ℕ → Token → ℕ → Type 0
IsPlaced text begin_object to = ⊤
IsPlaced text end_object to = ⊤
IsPlaced text begin_array to = ⊤
IsPlaced text end_array to = ⊤
IsPlaced text (key s) to = (length s + 2 ≤ to) × (piece (to - 2 - length s) (length s) text ≡ s)
IsPlaced text (string s) to = (length s + 1 ≤ to) × (piece (to - 1 - length s) (length s) text ≡ s)
IsPlaced text (number s) to = ⊤
IsPlaced text (boolean b) to = ⊤
IsPlaced text null to = ⊤
IsPlaced text bad to = ⊤

-- the byte is a token by itself
pub record IsMark (byte : ℕ) (t : Token) : Type 0 where
  pub text : token_text t ≡ byte ∷ []
  pub printable : IsPrintable t
  pub placed : (all : List ℕ) (to : ℕ) → IsPlaced all t to
  pub large : 32 < byte

-- the word is a number or a literal
pub record IsWordText (word : List ℕ) (t : Token) : Type 0 where
  pub text : token_text t ≡ word
  pub printable : IsPrintable t
  pub placed : (all : List ℕ) (to : ℕ) → IsPlaced all t to

-- the token's text stands from one place to before another
pub record IsLexeme (text : List ℕ) (from : ℕ) (t : Token) (to : ℕ) : Type 0 where
  pub bytes : take to text ≡ take from text ++ token_text t
  pub printable : IsPrintable t
  pub placed : IsPlaced text t to
  pub ahead : from < to
  pub high : to ≤ length text

-- the same with the comma that it needs and blanks before it
pub record IsNextToken (text : List ℕ) (from : ℕ) (ended : Bool) (t : Token) (to : ℕ) : Type 0 where
  pub gap : List ℕ
  pub blank : IsGap gap
  pub bytes : take to text ≡ take from text ++ (separator ended t ++ (gap ++ token_text t))
  pub printable : IsPrintable t
  pub placed : IsPlaced text t to
  pub ahead : from < to
  pub high : to ≤ length text

-- ---- tokens in a row

-- these tokens stand from one place to before another
pub record Reaches (text : List ℕ) (from : ℕ) (before : Bool) (ps : Spaced) (to : ℕ) (after : Bool) : Type 0 where
  pub blank : AreGaps ps
  pub printable : ArePrintable (tokens_of ps)
  pub bytes : take to text ≡ take from text ++ print_spaced before ps
  pub ended : ended_by before ps ≡ after

-- the token t and these after it are a value, whatever follows
abbrev pub ReadsValue : ℕ → Token → Spaced → Data → Type 0
ReadsValue depth t ps d = (rest : List Token) → converted of_json (value depth (t ∷ (tokens_of ps ++ rest))) ≡ Some (d, rest)

-- these tokens are so many elements, whatever follows
abbrev pub ReadsItems : ℕ → Spaced → List Data → Type 0
ReadsItems depth ps ds =
    (n : ℕ) (rest : List Token) → converted of_items (items (value depth) (length ds + n) (tokens_of ps ++ rest)) ≡ parse_map (items_before ds) (converted of_items (items (value depth) n rest))

-- these tokens are so many members, whatever follows
abbrev pub ReadsMembers : ℕ → Spaced → ℕ → Members → Type 0
ReadsMembers depth ps count found =
    (n : ℕ) (rest : List Token) → converted (λ ms. of_members ms no_members) (members (value depth) (count + n) (tokens_of ps ++ rest)) ≡ converted (λ ms. of_members ms found) (members (value depth) n rest)

-- a value that begins with the token t ends before a place; `from` is after that token
pub record IsValueAt (text : List ℕ) (from depth : ℕ) (t : Token) (d : Data) (to : ℕ) : Type 0 where
  pub spaced : Spaced
  pub reaches : Reaches text from (ends t) spaced to true
  pub read : ReadsValue depth t spaced d

-- elements stand from one place to before another
pub record AreItemsAt (text : List ℕ) (from depth : ℕ) (ds : List Data) (to : ℕ) (after : Bool) : Type 0 where
  pub spaced : Spaced
  pub reaches : Reaches text from false spaced to after
  pub read : ReadsItems depth spaced ds
  pub few : length ds ≤ length (tokens_of spaced)

-- members stand from one place to before another
pub record AreMembersAt (text : List ℕ) (from depth count : ℕ) (found : Members) (to : ℕ) (after : Bool) : Type 0 where
  pub spaced : Spaced
  pub reaches : Reaches text from false spaced to after
  pub read : ReadsMembers depth spaced count found
  pub few : count ≤ length (tokens_of spaced)
