-- The spelling of a frame, taken apart and put together.
use Rattle.std.proofs.Common.{◌≡◌, ℕ, ◌+◌, ◌-◌, ◌*◌, ◌≤◌, List, [], ◌∷◌, ◌++◌, length, slice_index, take, drop, replicate, refl, sym, ap, ap₂, subst, ◌∙◌, append_assoc, arith, length-append, length-drop}
use Rattle.std.proofs.lemmas.List.{drop_at, drop-drop, drop-replicate, take_at, take_rest}
use borrow.Rule.Slice.PartMut.{put_mid, post_of}
use Rattle.std.specs.List.{flat_map}
use Rattle.std.specs.Int.{w32, w64, to_be_bytes}
use Rattle.byteorder.specs.Endian.{big_number, IsRead}
use Rattle.wan_edge.specs.Frames.{Command, CommandFrame, IsCommand, answer_bytes, answer_kind, command_bytes, command_head, command_kind}
use Rattle.wire_frames.specs.Contents.{IsFilled, content_of}
use Rattle.wire_frames.specs.Reading.{IsWhole}
use Rattle.wire_frames.proofs.Numbers.{IsBytes, IsBytes-drop, number_at, number_fits, length-numbers, numbers_fit, numbers_of}

-- 13 bytes, field by field
answer_parts : (bytes : List ℕ) → length bytes ≡ 13 → slice_index bytes 0 ∷ (take 4 (drop 1 bytes) ++ (take 4 (drop 5 bytes) ++ take 4 (drop 9 bytes))) ≡ bytes
answer_parts (a ∷ b ∷ c ∷ d ∷ e ∷ f ∷ g ∷ h ∷ i ∷ j ∷ k ∷ l ∷ m ∷ []) long = refl
answer_parts _ long = absurd (omega (arith, long))

pub answer_spelled : (bytes : List ℕ) (migration item held : ℕ) → length bytes ≡ 13 → slice_index bytes 0 ≡ answer_kind → IsBytes bytes
    → migration ≡ big_number 4 (take (length bytes - 1) (drop 1 bytes)) → item ≡ big_number 4 (take (length bytes - 5) (drop 5 bytes)) → held ≡ big_number 4 (take (length bytes - 9) (drop 9 bytes))
    → answer_bytes (migration, record { item = item; held = held }) ≡ bytes
unfolding answer_bytes
answer_spelled bytes migration item held long kind each migration_is item_is held_is =
    ap₂ (λ (xs ys : List ℕ). answer_kind ∷ (xs ++ ys)) (number_at bytes 1 migration each (omega (arith, long)) migration_is)
    (ap₂ (λ (xs ys : List ℕ). xs ++ ys) (number_at bytes 5 item each (omega (arith, long)) item_is) (number_at bytes 9 held each (omega (arith, long)) held_is))
    ∙ ap (λ (k : ℕ). k ∷ (take 4 (drop 1 bytes) ++ (take 4 (drop 5 bytes) ++ take 4 (drop 9 bytes)))) (sym kind)
    ∙ answer_parts bytes long

-- at least 18 bytes, field by field
command_parts : (bytes : List ℕ) → 18 ≤ length bytes → (slice_index bytes 0 ∷ (take 4 (drop 1 bytes) ++ (take 4 (drop 5 bytes) ++ (take 4 (drop 9 bytes) ++ take 4 (drop 13 bytes))))) ++ (slice_index bytes 17 ∷ drop 18 bytes) ≡ bytes
command_parts (a ∷ b ∷ c ∷ d ∷ e ∷ f ∷ g ∷ h ∷ i ∷ j ∷ k ∷ l ∷ m ∷ n ∷ o ∷ p ∷ q ∷ r ∷ bytes) long = refl
command_parts _ long = absurd (omega arith)

pub command_spelled : (bytes : List ℕ) (migration item number scale : ℕ) (rates : List ℕ) → IsWhole bytes → IsBytes bytes
    → migration ≡ big_number 4 (take (length bytes - 1) (drop 1 bytes)) → item ≡ big_number 4 (take (length bytes - 5) (drop 5 bytes))
    → number ≡ big_number 4 (take (length bytes - 9) (drop 9 bytes)) → scale ≡ big_number 4 (take (length bytes - 13) (drop 13 bytes))
    → length rates ≡ slice_index bytes 17 → flat_map (to_be_bytes w64) rates ≡ drop 18 bytes
    → command_bytes (migration, record { item = item; number = number; scale = scale; content = rates }) ≡ bytes
unfolding command_bytes command_head
command_spelled bytes migration item number scale rates whole each migration_is item_is number_is scale_is count_is rates_are =
    let long = whole.long in
    let head : command_kind ∷ (to_be_bytes w32 migration ++ (to_be_bytes w32 item ++ (to_be_bytes w32 number ++ to_be_bytes w32 scale))) ≡ slice_index bytes 0 ∷ (take 4 (drop 1 bytes) ++ (take 4 (drop 5 bytes) ++ (take 4 (drop 9 bytes) ++ take 4 (drop 13 bytes))))
    = ap₂ (λ (k : ℕ) (xs : List ℕ). k ∷ xs) (sym whole.kind) (ap₂ (λ (xs ys : List ℕ). xs ++ ys) (number_at bytes 1 migration each (omega (arith, long)) migration_is)
    (ap₂ (λ (xs ys : List ℕ). xs ++ ys) (number_at bytes 5 item each (omega (arith, long)) item_is)
    (ap₂ (λ (xs ys : List ℕ). xs ++ ys) (number_at bytes 9 number each (omega (arith, long)) number_is) (number_at bytes 13 scale each (omega (arith, long)) scale_is)))) in
    ap₂ (λ (xs ys : List ℕ). xs ++ ys) head (ap₂ (λ (k : ℕ) (xs : List ℕ). k ∷ xs) count_is rates_are) ∙ command_parts bytes (omega (arith, long))

-- rates that fill the front of the sixteen places
pub filled : (count : ℕ) (rates zeros : List ℕ) → 1 ≤ count → count ≤ 16 → length rates ≡ count → zeros ≡ replicate 16 0 → IsFilled count (rates ++ drop count zeros)
filled count rates zeros some few long zeros_are = record {
  some = some;
  few = few;
  places = omega (arith, length-append rates (drop count zeros), length-drop count zeros, ap length zeros_are);
  zeros = drop_at rates (drop count zeros) count long ∙ ap (drop count) zeros_are ∙ drop-replicate count 16 0;
}

abbrev fields : ℕ → ℕ → ℕ → ℕ → List ℕ → CommandFrame
fields migration item number scale content = (migration, record { item = item; number = number; scale = scale; content = content })

-- the command of which these are the fields as they were read, the rates at the front of the places
pub command_made : (bytes : List ℕ) (migration item number scale count : ℕ) (rates zeros : List ℕ) → IsWhole bytes → IsBytes bytes
    → migration ≡ big_number 4 (take (length bytes - 1) (drop 1 bytes)) → item ≡ big_number 4 (take (length bytes - 5) (drop 5 bytes))
    → number ≡ big_number 4 (take (length bytes - 9) (drop 9 bytes)) → scale ≡ big_number 4 (take (length bytes - 13) (drop 13 bytes))
    → count ≡ slice_index bytes 17 → length rates ≡ count → IsRead big_number 8 (take (length bytes - 18) (drop 18 bytes)) rates
    → (made : CommandFrame) → made ≡ fields migration item number scale (content_of (slice_index bytes 17) (rates ++ drop count zeros))
    → IsCommand made × (command_bytes made ≡ bytes)
command_made bytes migration item number scale count rates zeros whole each migration_is item_is number_is scale_is count_is long read made made_is =
    let content_is : content_of (slice_index bytes 17) (rates ++ drop count zeros) ≡ rates = take_at rates (drop count zeros) (slice_index bytes 17) (long ∙ count_is) in
    let is : made ≡ fields migration item number scale rates = made_is ∙ ap (λ (content : List ℕ). fields migration item number scale content) content_is in
    let each_behind : IsBytes (drop 18 bytes) = IsBytes-drop 18 bytes each in
    let read_behind : IsRead big_number 8 (drop 18 bytes) rates = subst (λ (src : List ℕ). IsRead big_number 8 src rates) (take_rest bytes 18) read in
    let numbers = numbers_of (drop 18 bytes) rates each_behind (omega (arith, length-drop 18 bytes, whole.long, long, count_is)) read_behind in
    let command : IsCommand (fields migration item number scale rates) = record {
      migration = number_fits bytes 1 migration each migration_is;
      item = number_fits bytes 5 item each item_is;
      number = number_fits bytes 9 number each number_is;
      scale = number_fits bytes 13 scale each scale_is;
      some = omega (arith, whole.some, long, count_is);
      few = omega (arith, whole.few, long, count_is);
      rates = numbers_fit (drop 18 bytes) rates each_behind read_behind;
    } in
    let spelled = command_spelled bytes migration item number scale rates whole each migration_is item_is number_is scale_is (long ∙ count_is) numbers in
    (subst IsCommand (sym is) command, ap command_bytes is ∙ spelled)

-- the head, the count and the rates of a command at the front of its place
pub written : (out head rates : List ℕ) (count : ℕ) → length head ≡ 18 → length rates ≡ 8 * count
    → put_mid 18 (18 + 8 * count - 18) (head ++ post_of 0 18 out) rates ≡ (head ++ rates) ++ drop (18 + 8 * count) out
written out head rates count head_long rates_long =
    let front : take 18 (head ++ drop 18 out) ≡ head = take_at head (drop 18 out) 18 head_long in
    let skipped : 18 + 8 * count - 18 ≡ 8 * count = omega arith in
    let behind : drop (18 + 8 * count - 18) (drop 18 (head ++ drop 18 out)) ≡ drop (18 + 8 * count) out
    = ap (λ (xs : List ℕ). drop (18 + 8 * count - 18) xs) (drop_at head (drop 18 out) 18 head_long) ∙ ap (λ (n : ℕ). drop n (drop 18 out)) skipped ∙ drop-drop (8 * count) 18 out in
    ap₂ (λ (xs ys : List ℕ). xs ++ (rates ++ ys)) front behind ∙ sym (append_assoc head rates (drop (18 + 8 * count) out))

-- the bytes of a command after its head and its count
pub command_is : (migration : ℕ) (command : Command) (count : ℕ) (places head rates : List ℕ) → command.content ≡ content_of count places
    → head ≡ command_head (migration, command) ++ (length command.content ∷ []) → rates ≡ flat_map (to_be_bytes w64) (content_of count places) → head ++ rates ≡ command_bytes (migration, command)
unfolding command_bytes
command_is migration command count places head rates content_is head_is rates_are =
    ap₂ (λ (xs ys : List ℕ). xs ++ ys) head_is (rates_are ∙ ap (flat_map (to_be_bytes w64)) (sym content_is))
    ∙ append_assoc (command_head (migration, command)) (length command.content ∷ []) (flat_map (to_be_bytes w64) command.content)

pub length-command_bytes : (c : CommandFrame) → length (command_bytes c) ≡ 18 + 8 * length c.1.content
unfolding command_bytes command_head
length-command_bytes c = omega (arith, length-numbers c.1.content)
