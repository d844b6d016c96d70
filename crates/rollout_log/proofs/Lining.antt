-- Lines one after the other, and lists that begin with others.
use Rattle.std.proofs.Common.{◌≡◌, ℕ, List, [], ◌∷◌, ◌++◌, ◌==◌, Bool, true, refl, sym, subst, ap, ◌∙◌, append_assoc}
use Rattle.std.proofs.lemmas.List.{append-nil}
use Rattle.std.proofs.lemmas.Bool.{eqb-true}
use Rattle.lists.proofs.Conditions.{and_both}
use Rattle.rollout_rules.specs.declared.op.Entry.{Entry}
use Rattle.rollout_rules.specs.declared.op.Op.{Op}
use Rattle.rollout_rules.specs.declared.op.Entry.TheVariants.{Begin, Done}
use Rattle.rollout_log.specs.Lines.{AreLines, entry_line, is_same, is_same_op, lines_at}

-- one line more is written, and one entry less is left
pub line_off : (ms : ℕ) (whole text now : List ℕ) (entry : Entry) (left later : List Entry) → left ≡ entry ∷ later → now ≡ text ++ entry_line ms entry → text ++ lines_at ms left ≡ whole → now ++ lines_at ms later ≡ whole
line_off ms whole text now entry left later is wrote so_far =
    ap (λ t. t ++ lines_at ms later) wrote ∙ append_assoc text (entry_line ms entry) (lines_at ms later) ∙ ap (λ l. text ++ lines_at ms l) (sym is) ∙ so_far

-- no entry is left
pub no_line_left : (ms : ℕ) (whole text : List ℕ) (left : List Entry) → left ≡ [] → text ++ lines_at ms left ≡ whole → text ≡ whole
no_line_left ms whole text left none so_far = sym (append-nil text) ∙ ap (λ l. text ++ lines_at ms l) (sym none) ∙ so_far

same_op : (a b : Op) → is_same_op a b ≡ true → a ≡ b
same_op a b is =
    let both = and_both (a.item == b.item) (a.number == b.number) is in
    let item : a.item ≡ b.item = eqb-true a.item b.item both.0 in
    let number : a.number ≡ b.number = eqb-true a.number b.number both.1 in
    λ i. record { item = item i; number = number i }

same_entry : (a b : Entry) → is_same a b ≡ true → a ≡ b
same_entry (Begin a) (Begin b) is = ap Begin (same_op a b is)
same_entry (Begin a) (Done b) is = absurd (cc is)
same_entry (Done a) (Begin b) is = absurd (cc is)
same_entry (Done a) (Done b) is = ap Done (same_op a b is)

-- the first entry of a list was found to be this one
pub entry_there : (list later : List Entry) (first entry : Entry) (found : Bool) → list ≡ first ∷ later → found ≡ is_same first entry → found ≡ true → list ≡ entry ∷ later
entry_there list later first entry found is told same = is ∙ ap (λ e. e ∷ later) (same_entry first entry (sym told ∙ same))

-- Whatever stands after what is left of one list, the other has it after the whole.
abbrev pub HasBehind : List Entry → List Entry → List Entry → List Entry → Type 0
HasBehind known list left rest = (more : List Entry) → rest ≡ left ++ more → list ≡ known ++ more

-- an entry is taken off both
pub entry_off : (known list left later rest behind : List Entry) (entry : Entry) → left ≡ entry ∷ later → rest ≡ entry ∷ behind → HasBehind known list left rest → HasBehind known list later behind
entry_off known list left later rest behind entry is rest_is so_far = λ more e. so_far more (rest_is ∙ ap (λ l. entry ∷ l) e ∙ ap (λ l. l ++ more) (sym is))

pub no_entry_left : (known list left rest : List Entry) → left ≡ [] → HasBehind known list left rest → list ≡ known ++ rest
no_entry_left known list left rest none so_far = so_far rest (ap (λ l. l ++ rest) (sym none))

-- lines with one time are lines
pub lines-at : (ms : ℕ) (entries : List Entry) → AreLines entries (lines_at ms entries)
lines-at ms [] = refl
lines-at ms (entry ∷ later) = record { ms = ms; rest = lines_at ms later; is = refl; more = lines-at ms later }

-- and so are lines after others
pub lines-append : (first later : List Entry) (text more : List ℕ) → AreLines first text → AreLines later more → AreLines (first ++ later) (text ++ more)
lines-append [] later text more are then = subst (λ (t : List ℕ). AreLines later (t ++ more)) (sym are) then
lines-append (entry ∷ first) later text more are then = record {
  ms = are.ms;
  rest = are.rest ++ more;
  is = ap (λ t. t ++ more) are.is ∙ append_assoc (entry_line are.ms entry) are.rest more;
  more = lines-append first later are.rest more are.more then;
}
