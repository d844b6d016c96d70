-- Numbers that are read one after the other.
use Rattle.std.proofs.Common.{◌≡◌, ℕ, suc, ◌+◌, ◌-◌, ◌<◌, ◌≤◌, List, [], ◌∷◌, ◌++◌, drop, sym, ◌∙◌, ap, arith}
use Rattle.std.proofs.lemmas.List.{append-nil, append_assoc}
use Rattle.disk_model.specs.Numbers.{number_4}
use Rattle.intent_journal.specs.Parts.{numbers}

-- the first of those that are left joins those that were read
pub numbers_next : (old new total : List ℕ) (n i : ℕ) (rest later : List ℕ) (this : ℕ) → i < n → this ≡ number_4 rest → new ≡ old ++ this ∷ [] → later ≡ drop 4 rest
    → old ++ numbers (n - i) rest ≡ total → new ++ numbers (n - (i + 1)) later ≡ total
numbers_next old new total n i rest later this more is put behind stood =
    let left : n - i ≡ suc (n - (i + 1)) = omega (arith, more) in
    ap (λ (l : List ℕ). new ++ numbers (n - (i + 1)) l) behind
    ∙ ap (λ (l : List ℕ). l ++ numbers (n - (i + 1)) (drop 4 rest)) put
    ∙ append_assoc old (this ∷ []) (numbers (n - (i + 1)) (drop 4 rest))
    ∙ ap (λ (k : ℕ). old ++ k ∷ numbers (n - (i + 1)) (drop 4 rest)) is
    ∙ sym (ap (λ (k : ℕ). old ++ numbers k rest) left)
    ∙ stood

pub numbers_end : (list total : List ℕ) (n i : ℕ) (rest : List ℕ) → i ≤ n → n ≤ i → list ++ numbers (n - i) rest ≡ total → list ≡ total
numbers_end list total n i rest within end stood =
    let none : n - i ≡ 0 = omega (arith, end) in
    sym (ap (λ (k : ℕ). list ++ numbers k rest) none ∙ append-nil list) ∙ stood
