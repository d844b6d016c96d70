-- No frame begins another, and each has one spelling.
use Rattle.std.proofs.Common.{◌≡◌, ℕ, suc, ◌*◌, ◌^◌, ◌<◌, List, [], ◌∷◌, ◌++◌, length, drop, get_or, refl, sym, ap, ap₂, ◌∙◌, append_assoc, arith}
use Rattle.std.specs.List.{All, flat_map}
use Rattle.std.specs.Int.{w32, w64, to_be_bytes, from_be_bytes}
use Rattle.std.proofs.lemmas.Nat.{from_be_bytes-to_be_bytes_4, from_be_bytes-to_be_bytes_8}
use Rattle.wan_edge.specs.Frames.{Answer, AnswerFrame, Command, CommandFrame, IsAnswer, IsCommand, answer_bytes, command_bytes, command_head}
use Rattle.wire_frames.proofs.Numbers.{length-numbers}

-- two lists of the same length that begin one list are one
pub same_parts : {X : Type 0} (a b x y : List X) → length a ≡ length b → a ++ x ≡ b ++ y → (a ≡ b) × (x ≡ y)
same_parts [] [] x y long e = (refl, e)
same_parts [] (q ∷ b) x y long e = absurd (omega (arith, long))
same_parts (p ∷ a) [] x y long e = absurd (omega (arith, long))
same_parts (p ∷ a) (q ∷ b) x y long e =
    let first : p ≡ q = cc in
    let rest : a ++ x ≡ b ++ y = cc in
    let parts = same_parts a b x y (omega (arith, long)) rest in
    (ap₂ (λ d ds. d ∷ ds) first parts.0, parts.1)

pub one_number : (m n : ℕ) → m < 2 ^ 32 → n < 2 ^ 32 → to_be_bytes w32 m ≡ to_be_bytes w32 n → m ≡ n
one_number m n m_fits n_fits e = sym (from_be_bytes-to_be_bytes_4 m m_fits) ∙ ap (from_be_bytes w32) e ∙ from_be_bytes-to_be_bytes_4 n n_fits

one_rate : (m n : ℕ) → m < 2 ^ 64 → n < 2 ^ 64 → to_be_bytes w64 m ≡ to_be_bytes w64 n → m ≡ n
one_rate m n m_fits n_fits e = sym (from_be_bytes-to_be_bytes_8 m m_fits) ∙ ap (from_be_bytes w64) e ∙ from_be_bytes-to_be_bytes_8 n n_fits

pub one_answer : (a b : AnswerFrame) (x y : List ℕ) → IsAnswer a → IsAnswer b → answer_bytes a ++ x ≡ answer_bytes b ++ y → (a ≡ b) × (x ≡ y)
unfolding answer_bytes
one_answer a b x y a_fits b_fits e =
    let whole = same_parts (answer_bytes a) (answer_bytes b) x y refl e in
    let migrations = same_parts (to_be_bytes w32 a.0) (to_be_bytes w32 b.0) (to_be_bytes w32 a.1.item ++ to_be_bytes w32 a.1.held) (to_be_bytes w32 b.1.item ++ to_be_bytes w32 b.1.held) refl (ap (drop 1) whole.0) in
    let fields = same_parts (to_be_bytes w32 a.1.item) (to_be_bytes w32 b.1.item) (to_be_bytes w32 a.1.held) (to_be_bytes w32 b.1.held) refl migrations.1 in
    let migration = one_number a.0 b.0 a_fits.migration b_fits.migration migrations.0 in
    let item = one_number a.1.item b.1.item a_fits.item b_fits.item fields.0 in
    let held = one_number a.1.held b.1.held a_fits.held b_fits.held fields.1 in
    (ap₂ (λ (m : ℕ) (x : Answer). frame m x) migration (ap₂ answer item held), whole.1)
  where
    answer : ℕ → ℕ → Answer
    answer item held = record { item = item; held = held }

    frame : ℕ → Answer → AnswerFrame
    frame migration x = (migration, x)

one_content : (xs ys : List ℕ) → length xs ≡ length ys → All (λ rate. rate < 2 ^ 64) xs → All (λ rate. rate < 2 ^ 64) ys → flat_map (to_be_bytes w64) xs ≡ flat_map (to_be_bytes w64) ys → xs ≡ ys
one_content [] [] long xs_fit ys_fit e = refl
one_content [] (y ∷ ys) long xs_fit ys_fit e = absurd (omega (arith, long))
one_content (x ∷ xs) [] long xs_fit ys_fit e = absurd (omega (arith, long))
one_content (x ∷ xs) (y ∷ ys) long xs_fit ys_fit e =
    let parts = same_parts (to_be_bytes w64 x) (to_be_bytes w64 y) (flat_map (to_be_bytes w64) xs) (flat_map (to_be_bytes w64) ys) refl e in
    let first = one_rate x y (xs_fit 0 0 (omega arith)) (ys_fit 0 0 (omega arith)) parts.0 in
    let rest = one_content xs ys (omega (arith, long)) (λ k d inside. xs_fit (suc k) d (omega arith)) (λ k d inside. ys_fit (suc k) d (omega arith)) parts.1 in
    ap₂ (λ d ds. d ∷ ds) first rest

fields : ℕ → ℕ → ℕ → List ℕ → Command
fields item number scale content = record { item = item; number = number; scale = scale; content = content }

frame_of : ℕ → Command → CommandFrame
frame_of migration command = (migration, command)

-- heads that are one have the same fields
one_head : (a b : CommandFrame) → IsCommand a → IsCommand b → command_head a ≡ command_head b → a.1.content ≡ b.1.content → a ≡ b
unfolding command_head fields frame_of
one_head a b a_fits b_fits e content =
    let migrations = same_parts (to_be_bytes w32 a.0) (to_be_bytes w32 b.0) (to_be_bytes w32 a.1.item ++ (to_be_bytes w32 a.1.number ++ to_be_bytes w32 a.1.scale)) (to_be_bytes w32 b.1.item ++ (to_be_bytes w32 b.1.number ++ to_be_bytes w32 b.1.scale)) refl (ap (drop 1) e) in
    let items = same_parts (to_be_bytes w32 a.1.item) (to_be_bytes w32 b.1.item) (to_be_bytes w32 a.1.number ++ to_be_bytes w32 a.1.scale) (to_be_bytes w32 b.1.number ++ to_be_bytes w32 b.1.scale) refl migrations.1 in
    let others = same_parts (to_be_bytes w32 a.1.number) (to_be_bytes w32 b.1.number) (to_be_bytes w32 a.1.scale) (to_be_bytes w32 b.1.scale) refl items.1 in
    let migration = one_number a.0 b.0 a_fits.migration b_fits.migration migrations.0 in
    let item = one_number a.1.item b.1.item a_fits.item b_fits.item items.0 in
    let number = one_number a.1.number b.1.number a_fits.number b_fits.number others.0 in
    let scale = one_number a.1.scale b.1.scale a_fits.scale b_fits.scale others.1 in
    let command : a.1 ≡ b.1 = ap₂ (λ (i n : ℕ). fields i n a.1.scale a.1.content) item number ∙ ap₂ (λ (s : ℕ) (rates : List ℕ). fields b.1.item b.1.number s rates) scale content in
    ap₂ (λ (m : ℕ) (c : Command). frame_of m c) migration command

length-command_head : (c : CommandFrame) → length (command_head c) ≡ 17
unfolding command_head
length-command_head c = refl

pub one_command : (a b : CommandFrame) (x y : List ℕ) → IsCommand a → IsCommand b → command_bytes a ++ x ≡ command_bytes b ++ y → (a ≡ b) × (x ≡ y)
unfolding command_bytes
one_command a b x y a_fits b_fits e =
    let behind_a = length a.1.content ∷ flat_map (to_be_bytes w64) a.1.content in
    let behind_b = length b.1.content ∷ flat_map (to_be_bytes w64) b.1.content in
    let apart : command_head a ++ (behind_a ++ x) ≡ command_head b ++ (behind_b ++ y) = sym (append_assoc (command_head a) behind_a x) ∙ e ∙ append_assoc (command_head b) behind_b y in
    let heads = same_parts (command_head a) (command_head b) (behind_a ++ x) (behind_b ++ y) (length-command_head a ∙ sym (length-command_head b)) apart in
    let counts = same_parts (length a.1.content ∷ []) (length b.1.content ∷ []) (flat_map (to_be_bytes w64) a.1.content ++ x) (flat_map (to_be_bytes w64) b.1.content ++ y) refl heads.1 in
    let long : length a.1.content ≡ length b.1.content = ap (λ (ns : List ℕ). get_or ns 0 0) counts.0 in
    let rates = same_parts (flat_map (to_be_bytes w64) a.1.content) (flat_map (to_be_bytes w64) b.1.content) x y (length-numbers a.1.content ∙ ap (λ (n : ℕ). 8 * n) long ∙ sym (length-numbers b.1.content)) counts.1 in
    let content = one_content a.1.content b.1.content long a_fits.rates b_fits.rates rates.0 in
    (one_head a b a_fits b_fits heads.0 content, rates.1)
