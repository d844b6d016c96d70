-- The bytes between two places of a plain text, piece by piece.
use Rattle.std.proofs.Common.{◌≡◌, ℕ, ◌+◌, ◌-◌, ◌<◌, ◌≤◌, ◌⊎◌, inl, inr, nat_lt, Bool, true, false, ◌&&◌, cond, ◌==◌, List, [], ◌∷◌, ◌++◌, length, take, drop, get_or, refl, sym, ap, ap₂, ◌∙◌, subst, IsCharBoundary, ⊎_elim, arith, append_assoc, append-nil, take-add, length-drop, get_or-take, get_or-drop, lt_of_not-le}
use Rattle.std.proofs.lemmas.List.{drop_more, get_or_default, get_or_past, length-take-le}
use Rattle.std.proofs.lemmas.Bool.{cases_eq, cases_Bool, ltb-true, ltb-false, eqb-true}
use Rattle.std.proofs.lemmas.Slice.Eq.{bytes_eq-Decides}
use Rattle.std.specs.Str.{bytes_eq}
use Rattle.json.specs.Token.{Token}
use Rattle.json.specs.Run.{is_plain}
use Rattle.json.specs.Print.{token_text, escape, quoted, begins, IsNumber}
use Rattle.json.proofs.Printed.Plain.{escape_on_plain}
use Rattle.json.proofs.Printed.Tokens.{IsGap-append}
use Rattle.json_data.specs.Nodes.{piece}
use Rattle.json_data.proofs.Pieces.{piece_is}
use Rattle.json_data.specs.Plain.{ArePlain, IsPlainUpTo, IsGapUpTo, IsMark, IsWordText, IsLexeme, IsNextToken}

first_of : (x : ℕ) (xs : List ℕ) → take 1 (x ∷ xs) ≡ x ∷ []
first_of x [] = refl
first_of x (y ∷ ys) = refl

-- a place with a byte that is no blank lies in the text
pub inside : (d : List ℕ) (i x : ℕ) → get_or d i 32 ≡ x → (x ≡ 32 → ⊥) → i < length d
inside d i x is other = lt_of_not-le (λ past. other (sym is ∙ get_or_past d i 32 past))

pub a_byte : (d : List ℕ) (i x : ℕ) → i < length d → get_or d i 32 ≡ x → take (i + 1) d ≡ take i d ++ x ∷ []
a_byte d i x within is =
    take-add i 1 d ∙ ap (λ xs. take i d ++ take 1 xs) (drop_more d i 32 within) ∙ ap (λ xs. take i d ++ xs) (first_of (get_or d i 32) (drop (i + 1) d))
    ∙ ap (λ y. take i d ++ y ∷ []) is

-- what holds below a number and at it holds below the next
pub and_at : (P : ℕ → Type 0) (n : ℕ) → ((k : ℕ) → k < n → P k) → P n → (k : ℕ) → k < n + 1 → P k
and_at P n below here k lt = ⊎_elim (λ e. subst P (sym e) here) (λ other. below k (lt_of_not-le (λ le. other (omega arith)))) (cases_eq k n)

-- ---- a string

either_side : (k size : ℕ) → (k < size) ⊎ (size ≤ k)
either_side k size = ⊎_elim (λ lt. inl (ltb-true k size lt)) (λ le. inr (ltb-false k size le)) (cases_Bool (nat_lt k size))

-- bytes that stand in a string as they are
pub plain_front : (d : List ℕ) (size : ℕ) → ArePlain d size → escape (take size d) ≡ take size d
plain_front d size plain =
    let long : length (take size d) ≡ size = length-take-le size d plain.1 in
    escape_on_plain true (take size d)
    (λ k low high. (let lt : k < size = omega (arith, high, long) in ap is_plain (get_or-take size d k 0 lt) ∙ plain.0 k lt))

pub plain_one : (d : List ℕ) (size : ℕ) (b : Bool) → ArePlain d size → size < length d → b ≡ is_plain (get_or d size 0) → b ≡ true → ArePlain d (size + 1)
plain_one d size b plain lt is truth = (and_at (λ k. is_plain (get_or d k 0) ≡ true) size plain.0 (sym is ∙ truth), omega (arith, lt))

-- a byte of a block of 32 from a place on
pub block_byte : (d block : List ℕ) (from k : ℕ) → block ≡ take 32 (drop from d) → k < 32 → get_or d (from + k) 0 ≡ get_or block k 0
block_byte d block from k is near = sym (ap (λ xs. get_or xs k 0) is ∙ get_or-take 32 (drop from d) k 0 near ∙ get_or-drop from d k 0)

-- a block of 32 after them
pub plain_block : (d : List ℕ) (size : ℕ) → ArePlain d size → size + 32 ≤ length d → ((k : ℕ) → k < 32 → is_plain (get_or d (size + k) 0) ≡ true) → ArePlain d (size + 32)
plain_block d size plain le more = (
  λ k lt. ⊎_elim
      (λ before. plain.0 k before)
      (λ past. (let place : size + (k - size) ≡ k = omega (arith, past) in ap (λ i. is_plain (get_or d i 0)) (sym place) ∙ more (k - size) (omega (arith, lt, past))))
      (either_side k size),
  le,
)

pub string_is : (d inner s : List ℕ) (at size : ℕ) → get_or d at 32 ≡ 34 → inner ≡ drop (at + 1) d → IsPlainUpTo inner size → s ≡ take size inner → IsCharBoundary d (at + 1) → IsCharBoundary inner size
    → IsLexeme d at (Token.string s) (at + 1 + size + 1)
string_is d inner s at size opening is plain cut opens closes =
    let here : at < length d = inside d at 34 opening (λ e. omega (arith, e)) in
    let closing : get_or d (at + 1 + size) 32 ≡ 34 = sym (get_or-drop (at + 1) d size 32) ∙ ap (λ xs. get_or xs size 32) (sym is) ∙ plain.0 in
    let within : at + 1 + size < length d = inside d (at + 1 + size) 34 closing (λ e. omega (arith, e)) in
    let opened : take (at + 1) d ≡ take at d ++ 34 ∷ [] = a_byte d at 34 here opening in
    let filled : take (at + 1 + size) d ≡ take (at + 1) d ++ s = take-add (at + 1) size d ∙ ap (λ xs. take (at + 1) d ++ xs) (ap (take size) (sym is) ∙ sym cut) in
    let closed : take (at + 1 + size + 1) d ≡ take (at + 1 + size) d ++ 34 ∷ [] = a_byte d (at + 1 + size) 34 within closing in
    let same : escape s ≡ s = ap escape cut ∙ plain.1 ∙ sym cut in
    let long : length s ≡ size = ap length cut ∙ length-take-le size inner plain.2 in
    let start : at + 1 + size + 1 - 1 - length s ≡ at + 1 = omega (arith, long) in
    let found : piece (at + 1) size d ≡ s = piece_is d inner (at + 1) size is opens closes ∙ sym cut in
    record {
      bytes = closed ∙ ap (λ xs. xs ++ 34 ∷ []) (filled ∙ ap (λ xs. xs ++ s) opened ∙ append_assoc (take at d) (34 ∷ []) s) ∙ append_assoc (take at d) (34 ∷ s) (34 ∷ [])
          ∙ ap (λ xs. take at d ++ (34 ∷ (xs ++ 34 ∷ []))) (sym same);
      printable = tt;
      placed = (omega (arith, long), ap₂ (λ place many. piece place many d) start long ∙ found);
      ahead = omega arith;
      high = omega (arith, within);
    }

pub key_is : (d s : List ℕ) (at end : ℕ) → IsLexeme d at (Token.string s) end → get_or d end 32 ≡ 58 → IsLexeme d at (Token.key s) (end + 1)
key_is d s at end text colon =
    let within : end < length d = inside d end 58 colon (λ e. omega (arith, e)) in
    let start : end + 1 - 2 - length s ≡ end - 1 - length s = omega (arith, text.placed.0) in
    record {
      bytes = a_byte d end 58 within colon ∙ ap (λ xs. xs ++ 58 ∷ []) text.bytes ∙ append_assoc (take at d) (quoted s) (58 ∷ []);
      printable = tt;
      placed = (omega (arith, text.placed.0), ap (λ place. piece place (length s) d) start ∙ text.placed.1);
      ahead = omega (arith, text.ahead);
      high = omega (arith, within);
    }

-- ---- a mark, a word

pub mark_is : (d : List ℕ) (at byte : ℕ) (t : Token) → byte ≡ get_or d at 32 → IsMark byte t → IsLexeme d at t (at + 1)
mark_is d at byte t is mark =
    let within : at < length d = inside d at byte (sym is) (λ e. omega (arith, e, mark.large)) in
    record { bytes = a_byte d at byte within (sym is) ∙ ap (λ xs. take at d ++ xs) (sym mark.text); printable = mark.printable; placed = mark.placed d (at + 1); ahead = omega arith; high = omega (arith, within) }

pub word_is : (d back word : List ℕ) (at size : ℕ) (t : Token) → back ≡ drop at d → word ≡ take size back → size ≤ length back → 0 < size → IsWordText word t → IsLexeme d at t (at + size)
word_is d back word at size t is cut few some text =
    record {
      bytes = take-add at size d ∙ ap (λ xs. take at d ++ xs) (ap (take size) (sym is) ∙ sym cut ∙ sym text.text);
      printable = text.printable;
      placed = text.placed d (at + size);
      ahead = omega (arith, some);
      high = omega (arith, few, some, ap length is, length-drop at d);
    }

pub number_word : (word : List ℕ) → IsNumber word → IsWordText word (Token.number word)
number_word word is = record { text = refl; printable = is; placed = λ all to. tt }

pub true_word : (word : List ℕ) → bytes_eq word (116 ∷ 114 ∷ 117 ∷ 101 ∷ []) ≡ true → IsWordText word (Token.boolean true)
true_word word is = record { text = sym ((bytes_eq-Decides word (116 ∷ 114 ∷ 117 ∷ 101 ∷ [])).0 is); printable = tt; placed = λ all to. tt }

pub false_word : (word : List ℕ) → bytes_eq word (102 ∷ 97 ∷ 108 ∷ 115 ∷ 101 ∷ []) ≡ true → IsWordText word (Token.boolean false)
false_word word is = record { text = sym ((bytes_eq-Decides word (102 ∷ 97 ∷ 108 ∷ 115 ∷ 101 ∷ [])).0 is); printable = tt; placed = λ all to. tt }

pub null_word : (word : List ℕ) → bytes_eq word (110 ∷ 117 ∷ 108 ∷ 108 ∷ []) ≡ true → IsWordText word Token.null
null_word word is = record { text = sym ((bytes_eq-Decides word (110 ∷ 117 ∷ 108 ∷ 108 ∷ [])).0 is); printable = tt; placed = λ all to. tt }

-- ---- what stands before a token

pub no_gap : (d : List ℕ) (from : ℕ) → from ≤ length d → IsGapUpTo d from from
no_gap d from le = record { gap = []; blank = tt; bytes = sym (append-nil (take from d)); low = omega arith; high = le }

pub gap_on : (d : List ℕ) (from to x : ℕ) → IsGapUpTo d from to → to < length d → get_or d to 0 ≡ x → (x ≡ 32) ⊎ (x ≡ 10) → IsGapUpTo d from (to + 1)
gap_on d from to x so_far within is blank =
    let here : get_or d to 32 ≡ x = get_or_default d to 32 0 within ∙ is in
    record {
      gap = so_far.gap ++ x ∷ [];
      blank = IsGap-append so_far.gap (x ∷ []) so_far.blank (blank, tt);
      bytes = a_byte d to x within here ∙ ap (λ xs. xs ++ x ∷ []) so_far.bytes ∙ append_assoc (take from d) so_far.gap (x ∷ []);
      low = omega (arith, so_far.low);
      high = omega (arith, within);
    }

pub behind_gap : (d : List ℕ) (from place : ℕ) (t : Token) (to : ℕ) → IsGapUpTo d from place → IsLexeme d place t to → IsNextToken d from false t to
behind_gap d from place t to before is = record {
  gap = before.gap;
  blank = before.blank;
  bytes = is.bytes ∙ ap (λ xs. xs ++ token_text t) before.bytes ∙ append_assoc (take from d) before.gap (token_text t);
  printable = is.printable;
  placed = is.placed;
  ahead = omega (arith, before.low, is.ahead);
  high = is.high;
}

-- no comma, where none has to stand
without_comma : (d : List ℕ) (from : ℕ) (ended : Bool) (t : Token) (to : ℕ) → (ended && begins t) ≡ false → IsNextToken d from false t to → IsNextToken d from ended t to
without_comma d from ended t to none next = record {
  gap = next.gap;
  blank = next.blank;
  bytes = next.bytes ∙ ap (λ b. take from d ++ (cond b (44 ∷ []) [] ++ (next.gap ++ token_text t))) (sym none);
  printable = next.printable;
  placed = next.placed;
  ahead = next.ahead;
  high = next.high;
}

-- a comma, where one has to stand
behind_comma : (d : List ℕ) (from : ℕ) (ended : Bool) (t : Token) (to : ℕ) → get_or d from 32 ≡ 44 → (ended && begins t) ≡ true → IsNextToken d (from + 1) false t to → IsNextToken d from ended t to
behind_comma d from ended t to comma some next =
    let within : from < length d = inside d from 44 comma (λ e. omega (arith, e)) in
    record {
      gap = next.gap;
      blank = next.blank;
      bytes = next.bytes ∙ ap (λ xs. xs ++ (next.gap ++ token_text t)) (a_byte d from 44 within comma) ∙ append_assoc (take from d) (44 ∷ []) (next.gap ++ token_text t)
          ∙ ap (λ b. take from d ++ (cond b (44 ∷ []) [] ++ (next.gap ++ token_text t))) (sym some);
      printable = next.printable;
      placed = next.placed;
      ahead = omega (arith, next.ahead);
      high = next.high;
    }

-- a comma exactly where one has to stand
pub either_comma : (d : List ℕ) (from : ℕ) (ended comma : Bool) (t : Token) (to start : ℕ) → comma ≡ (get_or d from 32 == 44) → start ≡ cond comma (from + 1) from → (ended && begins t) ≡ comma → IsNextToken d start false t to
    → IsNextToken d from ended t to
either_comma d from ended true t to start is at need next =
    behind_comma d from ended t to (eqb-true (get_or d from 32) 44 (sym is)) need (subst (λ k. IsNextToken d k false t to) at next)
either_comma d from ended false t to start is at need next = without_comma d from ended t to need (subst (λ k. IsNextToken d k false t to) at next)
