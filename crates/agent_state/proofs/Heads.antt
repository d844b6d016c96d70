-- The head of an agent's file under writes elsewhere, and what an image is read as by its head and its live part.
use Rattle.std.proofs.Common.{◌≡◌, ◌⊎◌, inl, inr, ⊎_elim, ◌==◌, ◌&&◌, nat_le, nat_lt, if◌then◌else◌, Bool, true, false, ℕ, ◌+◌, ◌<◌, ◌≤◌, List, [], ◌∷◌, ◌++◌, length, take, drop, replicate, Some, None, sym, ◌∙◌, ap, arith, length-append, length-drop}
use Rattle.std.proofs.lemmas.Bool.{cases_Bool, lt-ltb}
use Rattle.std.proofs.lemmas.Bool.Decides.{nat_tests}
use Rattle.std.proofs.lemmas.List.{append-nil, take-append-le}
use Rattle.std.specs.Int.{w32, from_be_bytes}
use Rattle.disk_model.specs.Places.{Outside}
use Rattle.disk_model.specs.Writes.{Torn}
use Rattle.disk_model.proofs.Agreeing.{Torn-agrees, same_range}
use Rattle.disk_model.proofs.Parting.{Torn-beyond}
use Rattle.agent_state.specs.Batches.{Stands, batches_of}
use Rattle.agent_state.specs.Images.{batches_in, first_start, is_state, live_start, made_length, number_place, start_at, state_kind}
use Rattle.disk_model.specs.Numbers.{byte_at, number_4}
use Rattle.agent_state.specs.States.{HasPart, Home, IsAtRest}
use Rattle.agent_state.proofs.Reading.{batches_closed}

-- bytes in the first four of which alone the number is
pub number_4-of : (bytes : List ℕ) → 4 ≤ length bytes → number_4 bytes ≡ from_be_bytes w32 (take 4 bytes)
unfolding number_4
number_4-of bytes long = ap (from_be_bytes w32) (take-append-le 4 bytes (replicate 4 0) long)

-- a byte, and a number, that a torn write doesn't reach
pub same_byte : (at n i : ℕ) (old new : List ℕ) → Torn at n old new → (i < at) ⊎ (at + n ≤ i) → i < length old → byte_at i new ≡ byte_at i old
same_byte at n i old new torn outside inside = (Torn-agrees at n old new torn).same i outside inside

pub same_number : (at n place : ℕ) (old new : List ℕ) → Torn at n old new → (place + 4 ≤ at) ⊎ (at + n ≤ place) → place + 4 ≤ length old → number_4 (drop place new) ≡ number_4 (drop place old)
same_number at n place old new torn apart inside =
    let among : (i : ℕ) → place ≤ i → i < place + 4 → Outside at n i =
    λ i low high. ⊎_elim (λ before. inl (omega (arith, before, high))) (λ behind. inr (omega (arith, behind, low))) apart in
    number_4-of (drop place new) (omega (arith, length-drop place new, torn.no_shorter, inside))
    ∙ ap (from_be_bytes w32) (same_range (Outside at n) old new place 4 (Torn-agrees at n old new torn) inside among)
    ∙ sym (number_4-of (drop place old) (omega (arith, length-drop place old, inside)))

-- how long an image is that has a part
pub long_image : (home : Home) (front rest image : List ℕ) → HasPart home front rest image → home.start + length front + length rest ≡ length image
long_image home front rest image has =
    omega (arith, ap length has.part, length-append front rest, length-drop home.start image, has.some)

-- where a number stands
pub place_low : (second : Bool) → number_place second + 4 ≤ 10
place_low true = omega arith
place_low false = omega arith

pub place_high : (second : Bool) → 2 ≤ number_place second
place_high true = omega arith
place_high false = omega arith

-- A torn write that reaches neither the kind, nor the byte that says which number counts, nor that number, leaves the home; and the part, if that stands still.
pub part_apart : (home : Home) (front rest rest_now image new : List ℕ) (at n : ℕ) → HasPart home front rest image → Torn at n image new → 2 ≤ at
    → (number_place home.second + 4 ≤ at) ⊎ (at + n ≤ number_place home.second) → 0 < length rest_now → drop home.start new ≡ front ++ rest_now → HasPart home front rest_now new
part_apart home front rest rest_now image new at n has torn behind apart some part =
    let long = long_image home front rest image has in
    let low = place_low home.second in
    record {
      kind = same_byte at n 0 image new torn (inl (omega (arith, behind))) (omega (arith, long, has.some)) ∙ has.kind;
      side = ap (λ (b : ℕ). b == 1) (same_byte at n 1 image new torn (inl (omega (arith, behind))) (omega (arith, long, has.low))) ∙ has.side;
      start = same_number at n (number_place home.second) image new torn apart (omega (arith, long, has.low, low)) ∙ has.start;
      low = has.low;
      some = some;
      part = part;
    }

-- a write in front of the part, after the head
pub part_before : (home : Home) (front rest image new : List ℕ) (at n : ℕ) → HasPart home front rest image → Torn at n image new → 10 ≤ at → at + n ≤ home.start → HasPart home front rest new
part_before home front rest image new at n has torn behind before =
    part_apart home front rest rest image new at n has torn (omega (arith, behind)) (inl (omega (arith, behind, place_low home.second))) has.some
    (Torn-beyond home.start at n image new before torn ∙ has.part)

-- what an image is read as that has this part
pub part_reads : (home : Home) (front rest image : List ℕ) (kept : List (List ℕ)) → HasPart home front rest image → Stands front kept
    → (length image ≤ made_length → kept ++ batches_of rest ≡ []) → batches_in image ≡ Some (kept ++ batches_of rest)
part_reads home front rest image kept has stands short =
    let long = long_image home front rest image has in
    let live : live_start image ≡ home.start = ap (λ (s : Bool). start_at s image) has.side ∙ has.start in
    let kind : (byte_at 0 image == state_kind) ≡ true = grind (arith, nat_tests, has.kind) in
    let low : nat_le first_start (live_start image) ≡ true = grind (arith, nat_tests, live, has.low) in
    let within : nat_lt (live_start image) (length image) ≡ true = lt-ltb (live_start image) (length image) (omega (arith, live, long, has.some)) in
    let state : is_state image ≡ true =
    ap (λ (b : Bool). b && (nat_le first_start (live_start image) && nat_lt (live_start image) (length image))) kind
    ∙ ap (λ (b : Bool). b && nat_lt (live_start image) (length image)) low ∙ within in
    let counts : batches_of (drop (live_start image) image) ≡ kept ++ batches_of rest =
    ap (λ (k : ℕ). batches_of (drop k image)) live ∙ ap batches_of has.part ∙ stands.counts rest has.some in
    elim (cases_Bool (nat_le (length image) made_length)) [
      | inl is ↦
          let few : length image ≤ made_length = grind (arith, nat_tests, is) in
          ap (λ (b : Bool). if b then Some [] else if is_state image then Some (batches_of (drop (live_start image) image)) else None) is
          ∙ ap Some (sym (short few))
      | inr isnt ↦
          ap (λ (b : Bool). if b then Some [] else if is_state image then Some (batches_of (drop (live_start image) image)) else None) isnt
          ∙ ap (λ (b : Bool). if b then Some (batches_of (drop (live_start image) image)) else None) state
          ∙ ap Some counts
    ]

-- what a file at rest is read as
pub rest_reads : (home : Home) (gate : ℕ) (kept : List (List ℕ)) (image : List ℕ) → IsAtRest home gate kept image → batches_in image ≡ Some kept
rest_reads home gate kept image rest =
    let none : kept ++ batches_of (rest.mark ∷ rest.behind) ≡ kept = ap (λ (l : List (List ℕ)). kept ++ l) (batches_closed rest.mark rest.behind rest.closed) ∙ append-nil kept in
    part_reads home rest.front (rest.mark ∷ rest.behind) image kept rest.has rest.stands (λ few. none ∙ rest.short few) ∙ ap Some none
