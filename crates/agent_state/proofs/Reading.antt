-- The batches that stand in a row of bytes.
use Rattle.std.proofs.Common.{◌≡◌, ◌≢◌, ◌==◌, ◌&&◌, nat_lt, false, if◌then◌else◌, ℕ, zero, suc, ◌+◌, ◌<◌, ◌≤◌, ◌^◌, true, List, [], ◌∷◌, ◌++◌, length, take, drop, refl, sym, ◌∙◌, ap, arith, length-append, length-drop}
use Rattle.std.proofs.lemmas.Bool.{lt-ltb}
use Rattle.std.proofs.lemmas.Bool.Decides.{nat_tests}
use Rattle.std.proofs.lemmas.List.{append_assoc, append-nil, drop_at, take_at}
use Rattle.disk_model.proofs.FourBytes.{length-bytes_4, number_4-bytes_4}
use Rattle.agent_state.specs.Batches.{IsBody, Stands, batch_body, batches, batches_of, open_gate}
use Rattle.disk_model.specs.Numbers.{bytes_4, number_4}

pub length-batch_body : (batch : List ℕ) → length (batch_body batch) ≡ 4 + length batch
length-batch_body batch = omega (arith, length-append (bytes_4 (length batch)) batch, length-bytes_4 (length batch))

pub length-body : (batch body : List ℕ) → IsBody batch body → length body ≡ 5 + length batch
length-body batch body is = omega (arith, ap length is.is, length-append (batch_body batch) (0 ∷ []), length-batch_body batch)

-- more fuel than bytes is as good
pub batches_fuel : (f g : ℕ) (bytes : List ℕ) → length bytes ≤ f → length bytes ≤ g → batches f bytes ≡ batches g bytes
batches_fuel zero zero bytes few also = refl
batches_fuel zero (suc g) [] few also = refl
batches_fuel zero (suc g) (gate ∷ rest) few also = absurd (omega (arith, few))
batches_fuel (suc f) zero [] few also = refl
batches_fuel (suc f) zero (gate ∷ rest) few also = absurd (omega (arith, also))
batches_fuel (suc f) (suc g) [] few also = refl
batches_fuel (suc f) (suc g) (gate ∷ rest) few also =
    let n = number_4 rest in
    let behind = drop (4 + n) rest in
    ap (λ (l : List (List ℕ)). if (gate == open_gate) && nat_lt (4 + n) (length rest) then take n (drop 4 rest) ∷ l else [])
    (batches_fuel f g behind (omega (arith, few, length-drop (4 + n) rest)) (omega (arith, also, length-drop (4 + n) rest)))

-- none after a closed gate
pub batches_closed : (mark : ℕ) (tail : List ℕ) → mark ≢ open_gate → batches_of (mark ∷ tail) ≡ []
batches_closed mark tail closed =
    let shut : (mark == open_gate) ≡ false = grind (arith, nat_tests, closed) in
    rw shut refl

-- a batch that is whole, with a byte after it, and then those after
pub batches_step : (rest : List ℕ) → 4 + number_4 rest < length rest
    → batches_of (open_gate ∷ rest) ≡ take (number_4 rest) (drop 4 rest) ∷ batches_of (drop (4 + number_4 rest) rest)
batches_step rest whole =
    let behind = drop (4 + number_4 rest) rest in
    let test : nat_lt (4 + number_4 rest) (length rest) ≡ true = lt-ltb _ _ whole in
    rw test (ap (λ (l : List (List ℕ)). take (number_4 rest) (drop 4 rest) ∷ l) (batches_fuel (length rest) (length behind) behind (omega (arith, length-drop (4 + number_4 rest) rest)) (omega arith)))

-- a batch that was written after an open gate counts
pub batches_open : (batch tail : List ℕ) → length batch < 2 ^ 32 → 0 < length tail → batches_of (open_gate ∷ (batch_body batch ++ tail)) ≡ batch ∷ batches_of tail
batches_open batch tail few some =
    let n = length batch in
    let rest = batch_body batch ++ tail in
    let apart : rest ≡ bytes_4 n ++ (batch ++ tail) = append_assoc (bytes_4 n) batch tail in
    let number : number_4 rest ≡ n = ap number_4 apart ∙ number_4-bytes_4 n (batch ++ tail) few in
    let long : length rest ≡ 4 + n + length tail = omega (arith, length-append (batch_body batch) tail, length-batch_body batch) in
    let whole : 4 + number_4 rest < length rest = omega (arith, number, long, some) in
    let first : take (number_4 rest) (drop 4 rest) ≡ batch =
    ap (λ (m : ℕ). take m (drop 4 rest)) number
    ∙ ap (λ (l : List ℕ). take n (drop 4 l)) apart
    ∙ ap (take n) (drop_at (bytes_4 n) (batch ++ tail) 4 (length-bytes_4 n))
    ∙ take_at batch tail n refl in
    let later : drop (4 + number_4 rest) rest ≡ tail =
    drop_at (batch_body batch) tail (4 + number_4 rest) (omega (arith, number, length-batch_body batch)) in
    batches_step rest whole
    ∙ ap (λ (b : List ℕ). b ∷ batches_of (drop (4 + number_4 rest) rest)) first
    ∙ ap (λ (l : List ℕ). batch ∷ batches_of l) later

-- ---- fronts of a part

-- the front with an open gate and this batch
abbrev pub longer : List ℕ → List ℕ → List ℕ
longer front batch = front ++ open_gate ∷ batch_body batch

pub length-longer : (front batch : List ℕ) → length (longer front batch) ≡ length front + 5 + length batch
length-longer front batch = omega (arith, length-append front (open_gate ∷ batch_body batch), length-batch_body batch)

pub Stands-nothing : Stands [] []
Stands-nothing = record { counts = λ tail some. refl }

-- a batch after a front joins the front
pub Stands-more : (front : List ℕ) (kept : List (List ℕ)) (batch : List ℕ) → Stands front kept → length batch < 2 ^ 32 → Stands (longer front batch) (kept ++ batch ∷ [])
Stands-more front kept batch stands few = record {
  counts = λ tail some.
      ap batches_of (append_assoc front (open_gate ∷ batch_body batch) tail)
      ∙ stands.counts (open_gate ∷ (batch_body batch ++ tail)) (omega arith)
      ∙ ap (λ (l : List (List ℕ)). kept ++ l) (batches_open batch tail few some)
      ∙ sym (append_assoc kept (batch ∷ []) (batches_of tail));
}

-- what stands after the front counts with what stands in it
pub Stands-all : (front : List ℕ) (kept : List (List ℕ)) (mark : ℕ) (behind : List ℕ) → Stands front kept → mark ≢ open_gate → batches_of (front ++ (mark ∷ behind)) ≡ kept
Stands-all front kept mark behind stands closed =
    stands.counts (mark ∷ behind) (omega arith) ∙ ap (λ (l : List (List ℕ)). kept ++ l) (batches_closed mark behind closed) ∙ append-nil kept
