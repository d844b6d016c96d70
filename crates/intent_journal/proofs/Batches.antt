-- The batches that stand in a row of bytes.
use Rattle.std.proofs.Common.{◌≡◌, ◌≢◌, ◌==◌, ◌&&◌, nat_lt, false, if◌then◌else◌, ℕ, zero, suc, ◌+◌, ◌-◌, ◌*◌, ◌<◌, ◌≤◌, ◌^◌, true, List, [], ◌∷◌, ◌++◌, length, take, drop, refl, sym, ◌∙◌, ap, arith, length-append, length-drop}
use Rattle.std.proofs.lemmas.Bool.{lt-ltb}
use Rattle.std.proofs.lemmas.Bool.Decides.{nat_tests}
use Rattle.std.proofs.lemmas.List.{append_assoc, drop_at, length-take, take_at}
use Rattle.std.proofs.Math.Seq.{take-append-add}
use Rattle.disk_model.specs.Numbers.{bytes_4, number_4}
use Rattle.disk_model.proofs.FourBytes.{length-bytes_4, number_4-bytes_4}
use Rattle.intent_journal.specs.Parts.{batch_body, batches, batches_of, joined, open_batch, rows}
use Rattle.intent_journal.specs.States.{AreRows}

pub length-joined : (batch : List (List ℕ)) → AreRows batch → length (joined batch) ≡ 9 * length batch
length-joined [] are = refl
length-joined (row ∷ later) are = omega (arith, length-append row (joined later), are.0, length-joined later are.1)

pub length-batch_body : (batch : List (List ℕ)) → AreRows batch → length (batch_body batch) ≡ 4 + 9 * length batch
length-batch_body batch are = omega (arith, length-append (bytes_4 (length batch)) (joined batch), length-bytes_4 (length batch), length-joined batch are)

-- rows that were joined are read
pub rows-joined : (batch : List (List ℕ)) (tail : List ℕ) → AreRows batch → rows (length batch) (joined batch ++ tail) ≡ batch
rows-joined [] tail are = refl
rows-joined (row ∷ later) tail are =
    let apart : (row ++ joined later) ++ tail ≡ row ++ (joined later ++ tail) = append_assoc row (joined later) tail in
    let first : take 9 ((row ++ joined later) ++ tail) ≡ row = ap (take 9) apart ∙ take_at row (joined later ++ tail) 9 are.0 in
    let rest : drop 9 ((row ++ joined later) ++ tail) ≡ joined later ++ tail = ap (drop 9) apart ∙ drop_at row (joined later ++ tail) 9 are.0 in
    ap (λ (r : List ℕ). r ∷ rows (length later) (drop 9 ((row ++ joined later) ++ tail))) first
    ∙ ap (λ (l : List ℕ). row ∷ rows (length later) l) rest
    ∙ ap (λ (l : List (List ℕ)). row ∷ l) (rows-joined later tail are.1)

-- more fuel than bytes changes nothing
pub batches_fuel : (f g : ℕ) (bytes : List ℕ) → length bytes ≤ f → length bytes ≤ g → batches f bytes ≡ batches g bytes
batches_fuel zero zero bytes few also = refl
batches_fuel zero (suc g) [] few also = refl
batches_fuel zero (suc g) (gate ∷ rest) few also = absurd (omega (arith, few))
batches_fuel (suc f) zero [] few also = refl
batches_fuel (suc f) zero (gate ∷ rest) few also = absurd (omega (arith, also))
batches_fuel (suc f) (suc g) [] few also = refl
batches_fuel (suc f) (suc g) (gate ∷ rest) few also =
    let n = number_4 rest in
    let behind = drop (4 + 9 * n) rest in
    ap (λ (l : List (List ℕ)). if (gate == open_batch) && nat_lt (4 + 9 * n) (length rest) then rows n (drop 4 rest) ++ l else [])
    (batches_fuel f g behind (omega (arith, few, length-drop (4 + 9 * n) rest)) (omega (arith, also, length-drop (4 + 9 * n) rest)))

-- none after a closed gate
pub batches_closed : (mark k : ℕ) (tail : List ℕ) → mark ≢ open_batch → batches_of (take k (mark ∷ tail)) ≡ []
batches_closed mark zero tail closed = refl
batches_closed mark (suc k) tail closed =
    let shut : (mark == open_batch) ≡ false = grind (arith, nat_tests, closed) in
    rw shut refl

-- a batch that is whole, with a byte after it, and then those after
pub batches_step : (rest : List ℕ) → 4 + 9 * number_4 rest < length rest
    → batches_of (open_batch ∷ rest) ≡ rows (number_4 rest) (drop 4 rest) ++ batches_of (drop (4 + 9 * number_4 rest) rest)
batches_step rest whole =
    let behind = drop (4 + 9 * number_4 rest) rest in
    let test : nat_lt (4 + 9 * number_4 rest) (length rest) ≡ true = lt-ltb _ _ whole in
    rw test (ap (λ (l : List (List ℕ)). rows (number_4 rest) (drop 4 rest) ++ l) (batches_fuel (length rest) (length behind) behind (omega (arith, length-drop (4 + 9 * number_4 rest) rest)) (omega arith)))

-- a batch that was written after an open gate counts
pub batches_open : (batch : List (List ℕ)) (tail : List ℕ) (k : ℕ) → AreRows batch → length batch < 2 ^ 32 → 0 < length tail → 1 + length (batch_body batch) < k
    → batches_of (take k (open_batch ∷ (batch_body batch ++ tail))) ≡ batch ++ batches_of (take (k - (1 + length (batch_body batch))) tail)
batches_open batch tail zero are few some room = absurd (omega (arith, room))
batches_open batch tail (suc k) are few some room =
    let n = length batch in
    let body = batch_body batch in
    let same_left : k - length body ≡ suc k - (1 + length body) = omega arith in
    let long = length-batch_body batch are in
    let left = take (k - length body) tail in
    let cut : take k (body ++ tail) ≡ body ++ left =
    let is : length body + (k - length body) ≡ k = omega (arith, room) in
    ap (λ (j : ℕ). take j (body ++ tail)) (sym is) ∙ take-append-add body tail (k - length body) in
    let apart : body ++ left ≡ bytes_4 n ++ (joined batch ++ left) = append_assoc (bytes_4 n) (joined batch) left in
    let number : number_4 (body ++ left) ≡ n = ap number_4 apart ∙ number_4-bytes_4 n (joined batch ++ left) few in
    let long_left : length (body ++ left) ≡ length body + length left = length-append body left in
    let some_left : 0 < length left = omega (arith, length-take (k - length body) tail, some, room) in
    let whole : 4 + 9 * number_4 (body ++ left) < length (body ++ left) = omega (arith, number, long, long_left, some_left) in
    let listed : rows (number_4 (body ++ left)) (drop 4 (body ++ left)) ≡ batch =
    ap (λ (m : ℕ). rows m (drop 4 (body ++ left))) number
    ∙ ap (λ (l : List ℕ). rows n (drop 4 l)) apart
    ∙ ap (rows n) (drop_at (bytes_4 n) (joined batch ++ left) 4 (length-bytes_4 n))
    ∙ rows-joined batch left are in
    let later : drop (4 + 9 * number_4 (body ++ left)) (body ++ left) ≡ left =
    drop_at body left (4 + 9 * number_4 (body ++ left)) (omega (arith, number, long)) in
    ap (λ (l : List ℕ). batches_of (open_batch ∷ l)) cut
    ∙ batches_step (body ++ left) whole
    ∙ ap (λ (l : List (List ℕ)). l ++ batches_of (drop (4 + 9 * number_4 (body ++ left)) (body ++ left))) listed
    ∙ ap (λ (l : List ℕ). batch ++ batches_of l) later
    ∙ ap (λ (j : ℕ). batch ++ batches_of (take j tail)) same_left
