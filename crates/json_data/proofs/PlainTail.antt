-- Blanks after the last token of a plain text change none of its tokens.
use Rattle.std.proofs.Common.{◌≡◌, ℕ, Bool, true, false, cond, ◌&&◌, List, [], ◌∷◌, ◌++◌, refl, sym, ap, ap₂, ◌∙◌, append_assoc, append-nil, inl, inr}
use Rattle.json.specs.Token.{Token, begin_object, end_object, begin_array, end_array, key, string, number, boolean, null, bad}
use Rattle.json.specs.Word.{ends_word, word}
use Rattle.json.specs.Lex.{Lexeme, token, comma, colon, string_token, lex, between, fresh, punctuate, tokens}
use Rattle.json.specs.Print.{escape, quoted, token_text, begins, ends, separator, IsPrintable, ArePrintable}
use Rattle.json.specs.Spaced.{IsGap, AreGaps, print_spaced}
use Rattle.json.proofs.Printed.Strings.{content-escape, lex-escape}
use Rattle.json.proofs.Printed.Numbers.{lex-number, in_word-ended}
use Rattle.json.proofs.Printed.Tokens.{tokens-print_spaced}
use Rattle.json_data.specs.Plain.{Spaced, tokens_of}

abbrev token_lexemes : Token → List Lexeme
token_lexemes begin_object = token begin_object ∷ []
token_lexemes end_object = token end_object ∷ []
token_lexemes begin_array = token begin_array ∷ []
token_lexemes end_array = token end_array ∷ []
token_lexemes (key s) = token (string s) ∷ colon ∷ []
token_lexemes (string s) = token (string s) ∷ []
token_lexemes (number s) = token (number s) ∷ []
token_lexemes (boolean b) = token (boolean b) ∷ []
token_lexemes null = token null ∷ []
token_lexemes bad = []

lex-quoted : (s r : List ℕ) → lex between (quoted s ++ r) ≡ token (string s) ∷ lex between r
unfolding lex
lex-quoted s r =
    let e = append_assoc (escape s) (34 ∷ []) r in
    ap (λ l. lex between (34 ∷ l)) e ∙ ap₂ (λ o l. token (string_token o) ∷ l) (content-escape s r) (lex-escape s r)

lex-token_text : (t : Token) (r : List ℕ) → IsPrintable t → (ends t ≡ true → ends_word r ≡ true) → lex between (token_text t ++ r) ≡ token_lexemes t ++ lex between r
unfolding lex word
lex-token_text begin_object r h ended = refl
lex-token_text end_object r h ended = refl
lex-token_text begin_array r h ended = refl
lex-token_text end_array r h ended = refl
lex-token_text (key s) r h ended = ap (lex between) (append_assoc (quoted s) (58 ∷ []) r) ∙ lex-quoted s (58 ∷ r)
lex-token_text (string s) r h ended = lex-quoted s r
lex-token_text (number s) r h ended = lex-number s r h (ended refl)
lex-token_text (boolean true) r h ended = ap₂ (λ b l. token (cond b (boolean true) bad) ∷ l) (ended refl) (in_word-ended r (ended refl))
lex-token_text (boolean false) r h ended = ap₂ (λ b l. token (cond b (boolean false) bad) ∷ l) (ended refl) (in_word-ended r (ended refl))
lex-token_text null r h ended = ap₂ (λ b l. token (cond b null bad) ∷ l) (ended refl) (in_word-ended r (ended refl))
lex-token_text bad r h ended = absurd h

lex-separator : (b : Bool) (r : List ℕ) → lex between (cond b (44 ∷ []) [] ++ r) ≡ cond b (comma ∷ []) [] ++ lex between r
unfolding lex
lex-separator true r = refl
lex-separator false r = refl

lex-gap : (g r : List ℕ) → IsGap g → lex between (g ++ r) ≡ lex between r
unfolding lex
lex-gap [] r h = refl
lex-gap (x ∷ g) r (inl e, h) = rw e (lex-gap g r h)
lex-gap (x ∷ g) r (inr e, h) = rw e (lex-gap g r h)

-- ---- after a value a word has ended

tail_ends : (tail : List ℕ) → IsGap tail → ends_word tail ≡ true
tail_ends [] h = refl
tail_ends (x ∷ tail) (inl is, h) = rw is
tail_ends (x ∷ tail) (inr is, h) = rw is

gap_ends : (g r tail : List ℕ) → IsGap g → ends_word (r ++ tail) ≡ true → ends_word ((g ++ r) ++ tail) ≡ true
gap_ends [] r tail h e = e
gap_ends (x ∷ g) r tail (inl is, h) e = rw is
gap_ends (x ∷ g) r tail (inr is, h) e = rw is

spaced_ends : (ps : Spaced) (tail : List ℕ) → AreGaps ps → IsGap tail → ends_word (print_spaced true ps ++ tail) ≡ true
unfolding print_spaced
spaced_ends [] tail h k = tail_ends tail k
spaced_ends ((g, begin_object) ∷ ps) tail h k = refl
spaced_ends ((g, end_object) ∷ ps) tail h k = gap_ends g _ tail h.0 refl
spaced_ends ((g, begin_array) ∷ ps) tail h k = refl
spaced_ends ((g, end_array) ∷ ps) tail h k = gap_ends g _ tail h.0 refl
spaced_ends ((g, key s) ∷ ps) tail h k = refl
spaced_ends ((g, string s) ∷ ps) tail h k = refl
spaced_ends ((g, number s) ∷ ps) tail h k = refl
spaced_ends ((g, boolean b) ∷ ps) tail h k = refl
spaced_ends ((g, null) ∷ ps) tail h k = refl
spaced_ends ((g, bad) ∷ ps) tail h k = refl

-- ---- the lexemes

lex-spaced : (c : Bool) (g : List ℕ) (t : Token) (r : List ℕ) → IsGap g → IsPrintable t → (ends t ≡ true → ends_word r ≡ true)
    → lex between (separator c t ++ (g ++ (token_text t ++ r))) ≡ cond (c && begins t) (comma ∷ []) [] ++ (token_lexemes t ++ lex between r)
lex-spaced c g t r gap h ended =
    lex-separator (c && begins t) _ ∙ ap (λ l. cond (c && begins t) (comma ∷ []) [] ++ l) (lex-gap g (token_text t ++ r) gap ∙ lex-token_text t r h ended)

grouped : (a g s r tail : List ℕ) → (a ++ (g ++ (s ++ r))) ++ tail ≡ a ++ (g ++ (s ++ (r ++ tail)))
grouped a g s r tail =
    append_assoc a (g ++ (s ++ r)) tail ∙ ap (λ xs. a ++ xs) (append_assoc g (s ++ r) tail ∙ ap (λ xs. g ++ xs) (append_assoc s r tail))

lex-tail : (c : Bool) (ps : Spaced) (tail : List ℕ) → AreGaps ps → ArePrintable (tokens_of ps) → IsGap tail → lex between (print_spaced c ps ++ tail) ≡ lex between (print_spaced c ps)
unfolding print_spaced ArePrintable
lex-tail c [] tail gaps h k = ap (lex between) (sym (append-nil tail)) ∙ lex-gap tail [] k
lex-tail c ((g, t) ∷ ps) tail gaps h k =
    let r = print_spaced (ends t) ps in
    ap (lex between) (grouped (separator c t) g (token_text t) r tail)
    ∙ lex-spaced c g t (r ++ tail) gaps.0 h.0 (λ e. ap (λ b. ends_word (print_spaced b ps ++ tail)) e ∙ spaced_ends ps tail gaps.1 k)
    ∙ ap (λ l. cond (c && begins t) (comma ∷ []) [] ++ (token_lexemes t ++ l)) (lex-tail (ends t) ps tail gaps.1 h.1 k)
    ∙ sym (lex-spaced c g t r gaps.0 h.0 (λ e. ap (λ b. ends_word (print_spaced b ps)) e ∙ sym (ap ends_word (append-nil (print_spaced true ps))) ∙ spaced_ends ps [] gaps.1 tt))

pub tokens-tail : (ps : Spaced) (tail : List ℕ) → AreGaps ps → ArePrintable (tokens_of ps) → IsGap tail → tokens (print_spaced false ps ++ tail) ≡ tokens_of ps
tokens-tail ps tail gaps h k = ap (punctuate fresh) (lex-tail false ps tail gaps h k) ∙ tokens-print_spaced ps gaps h
