-- A batch that was read: its rows are those that stand there, and with it a part's front goes on.
use Rattle.std.proofs.Common.{◌≡◌, ◌==◌, ◌&&◌, nat_lt, Bool, true, ℕ, zero, suc, ◌+◌, ◌-◌, ◌*◌, ◌<◌, ◌≤◌, List, [], ◌∷◌, ◌++◌, length, take, drop, Some, None, if◌then◌else◌, refl, sym, subst, ◌∙◌, ap, arith, length-append, length-drop}
use Rattle.std.proofs.lemmas.Bool.{cases_Bool, eqb-true, ltb-true}
use Rattle.std.proofs.lemmas.List.{append_assoc, drop-drop, append-nil, drop-take, drop_at, length-take, length-take-le, take-append-drop}
use Rattle.std.proofs.Math.Seq.{take-add, take-take, take-append-add}
use mathlib.Core.Logic.{⊎_elim}
use Rattle.lists.proofs.Conditions.{and_both}
use Rattle.disk_model.specs.Numbers.{byte_at, number_4}
use Rattle.disk_model.proofs.FourBytes.{number_4-front, byte_first}
use Rattle.intent_journal.specs.Entries.{entry_in}
use Rattle.intent_journal.specs.Parts.{Kept, Slot, batches_of, count_of, count_place, first_gate, is_whole, kept_in, listed_in, open_batch, part_rows, rows, size_of}
use Rattle.intent_journal.specs.Reading.{IsRead, Listed, Walks, batch_at, nothing_read, with_row, with_rows}
use Rattle.intent_journal.specs.States.{Stands, with_more}
use Rattle.intent_journal.proofs.Batches.{batches_step}
use Rattle.intent_journal.proofs.Fronts.{with_more-nothing, with_more-twice}
use Rattle.intent_journal.proofs.Heads.{Stands-found, rows-in}

pub with_rows-append : (listed : Listed) (xs ys : List (List ℕ)) → with_rows listed (xs ++ ys) ≡ with_rows (with_rows listed xs) ys
with_rows-append listed [] ys = refl
with_rows-append listed (row ∷ xs) ys = with_rows-append (with_row listed (entry_in row)) xs ys

-- the first of the rows that are left joins those that were read
pub rows_next : (old new total : Listed) (n i : ℕ) (rest later : List ℕ) → i < n → new ≡ with_row old (entry_in (take 9 rest)) → later ≡ drop 9 rest
    → with_rows old (rows (n - i) rest) ≡ total → with_rows new (rows (n - (i + 1)) later) ≡ total
rows_next old new total n i rest later more read is stood =
    let left : n - i ≡ suc (n - (i + 1)) = omega (arith, more) in
    ap (λ (l : List ℕ). with_rows new (rows (n - (i + 1)) l)) is
    ∙ ap (λ (l : Listed). with_rows l (rows (n - (i + 1)) (drop 9 rest))) read
    ∙ sym (ap (λ (k : ℕ). with_rows old (rows k rest)) left)
    ∙ stood

-- a batch that stands there, with a byte after it, counts
pub batches_raw : (body tail : List ℕ) (k n : ℕ) → number_4 body ≡ n → length body ≡ 4 + 9 * n → 0 < length tail → 1 + length body < k
    → batches_of (take k (open_batch ∷ (body ++ tail))) ≡ rows n (drop 4 body) ++ batches_of (take (k - (1 + length body)) tail)
batches_raw body tail zero n is long some room = absurd (omega (arith, room))
batches_raw body tail (suc k) n is long some room =
    let same_left : k - length body ≡ suc k - (1 + length body) = omega arith in
    let left = take (k - length body) tail in
    let cut : take k (body ++ tail) ≡ body ++ left =
    let whole : length body + (k - length body) ≡ k = omega (arith, room) in
    ap (λ (j : ℕ). take j (body ++ tail)) (sym whole) ∙ take-append-add body tail (k - length body) in
    let number : number_4 (body ++ left) ≡ n = number_4-front body left (omega (arith, long)) ∙ is in
    let long_left : length (body ++ left) ≡ length body + length left = length-append body left in
    let some_left : 0 < length left = omega (arith, length-take (k - length body) tail, some, room) in
    let whole : 4 + 9 * number_4 (body ++ left) < length (body ++ left) = omega (arith, number, long, long_left, some_left) in
    let listed : rows (number_4 (body ++ left)) (drop 4 (body ++ left)) ≡ rows n (drop 4 body) =
    ap (λ (m : ℕ). rows m (drop 4 (body ++ left))) number ∙ rows-in n 4 body left (omega (arith, long)) in
    let later : drop (4 + 9 * number_4 (body ++ left)) (body ++ left) ≡ left =
    drop_at body left (4 + 9 * number_4 (body ++ left)) (omega (arith, number, long)) in
    ap (λ (l : List ℕ). batches_of (open_batch ∷ l)) cut
    ∙ batches_step (body ++ left) whole
    ∙ ap (λ (l : List (List ℕ)). l ++ batches_of (drop (4 + 9 * number_4 (body ++ left)) (body ++ left))) listed
    ∙ ap (λ (l : List ℕ). rows n (drop 4 body) ++ batches_of l) later
    ∙ ap (λ (j : ℕ). rows n (drop 4 body) ++ batches_of (take j tail)) same_left

-- what the two tests of a batch say
batch_found : (bytes : List ℕ) (gate n : ℕ) → batch_at bytes gate ≡ Some n
    → (byte_at gate bytes ≡ open_batch) × (4 + 9 * number_4 (drop (gate + 1) bytes) < length (drop (gate + 1) bytes)) × (number_4 (drop (gate + 1) bytes) ≡ n)
batch_found bytes gate n found =
    let rest = drop (gate + 1) bytes in
    ⊎_elim
    (λ yes.
    let tests = and_both (byte_at gate bytes == open_batch) (nat_lt (4 + 9 * number_4 rest) (length rest)) yes in
    let is : Some (number_4 rest) ≡ Some n = sym (ap (λ (b : Bool). if b then Some (number_4 rest) else None) yes) ∙ found in
    (eqb-true _ _ tests.0, ltb-true _ _ tests.1, cc is))
    (λ no.
    let is : None ≡ Some n = sym (ap (λ (b : Bool). if b then Some (number_4 rest) else None) no) ∙ found in
    absurd (cc is))
    (cases_Bool ((byte_at gate bytes == open_batch) && nat_lt (4 + 9 * number_4 rest) (length rest)))

-- where there is no batch no entries follow
pub batch_none : (bytes : List ℕ) (gate : ℕ) → gate < length bytes → batch_at bytes gate ≡ None → batches_of (drop gate bytes) ≡ []
batch_none bytes gate within none =
    let rest = drop (gate + 1) bytes in
    ⊎_elim
    (λ yes.
    let is : Some (number_4 rest) ≡ None = sym (ap (λ (b : Bool). if b then Some (number_4 rest) else None) yes) ∙ none in
    absurd (cc is))
    (λ no. ap batches_of (byte_first bytes gate within) ∙ rw no refl)
    (cases_Bool ((byte_at gate bytes == open_batch) && nat_lt (4 + 9 * number_4 rest) (length rest)))

module _ (bytes : List ℕ) (gate n : ℕ) (within : gate < length bytes) (found : batch_at bytes gate ≡ Some n) where
  abbrev rest : List ℕ
  rest = drop (gate + 1) bytes

  abbrev after : ℕ
  after = gate + (5 + 9 * n)

  pub next_within : after < length bytes
  next_within =
      let is = batch_found bytes gate n found in
      omega (arith, is.1, is.2, length-drop (gate + 1) bytes)

  same_rows : rows n (drop 4 rest) ≡ rows n (drop (gate + 5) bytes)
  same_rows =
      let place : gate + 1 + 4 ≡ gate + 5 = omega arith in
      ap (rows n) (drop-drop 4 (gate + 1) bytes) ∙ ap (λ (k : ℕ). rows n (drop k bytes)) place

  -- its rows come first
  pub batch_some : batches_of (drop gate bytes) ≡ rows n (drop (gate + 5) bytes) ++ batches_of (drop after bytes)
  batch_some =
      let is = batch_found bytes gate n found in
      let behind : drop (4 + 9 * n) rest ≡ drop after bytes =
      drop-drop (4 + 9 * n) (gate + 1) bytes ∙ ap (λ (k : ℕ). drop k bytes) (omega arith) in
      ap batches_of (byte_first bytes gate within)
      ∙ ap (λ (b : ℕ). batches_of (b ∷ rest)) is.0
      ∙ batches_step rest is.1
      ∙ ap (λ (m : ℕ). rows m (drop 4 rest) ++ batches_of (drop (4 + 9 * m) rest)) is.2
      ∙ ap (λ (l : List (List ℕ)). l ++ batches_of (drop (4 + 9 * n) rest)) same_rows
      ∙ ap (λ (l : List ℕ). rows n (drop (gate + 5) bytes) ++ batches_of l) behind

  abbrev body : List ℕ
  body = take (4 + 9 * n) rest

  length-body : length body ≡ 4 + 9 * n
  length-body =
      let is = batch_found bytes gate n found in
      length-take-le (4 + 9 * n) rest (omega (arith, is.1, is.2))

  body_is : body ++ drop (4 + 9 * n) rest ≡ rest
  body_is = take-append-drop (4 + 9 * n) rest

  number_body : number_4 body ≡ n
  number_body =
      let is = batch_found bytes gate n found in
      sym (number_4-front body (drop (4 + 9 * n) rest) (omega (arith, length-body))) ∙ ap number_4 body_is ∙ is.2

  rows_body : rows n (drop 4 body) ≡ rows n (drop (gate + 5) bytes)
  rows_body =
      sym (rows-in n 4 body (drop (4 + 9 * n) rest) (omega (arith, length-body)))
      ∙ ap (λ (l : List ℕ). rows n (drop 4 l)) body_is
      ∙ same_rows

  abbrev front : List ℕ
  front = take gate bytes

  front_is : take after bytes ≡ front ++ open_batch ∷ body
  front_is =
      let is = batch_found bytes gate n found in
      let size : 5 + 9 * n ≡ suc (4 + 9 * n) = omega arith in
      take-add gate (5 + 9 * n) bytes
      ∙ ap (λ (k : ℕ). front ++ take k (drop gate bytes)) size
      ∙ ap (λ (l : List ℕ). front ++ take (suc (4 + 9 * n)) l) (byte_first bytes gate within)
      ∙ ap (λ (b : ℕ). front ++ b ∷ body) is.0

  length-front : length front ≡ gate
  length-front = length-take-le gate bytes (omega (arith, within))

  stands_raw : (slot : Slot) (kept : Kept) → length bytes ≤ size_of slot → Stands slot front kept → Stands slot (front ++ open_batch ∷ body) (with_more kept (rows n (drop (gate + 5) bytes)))
  stands_raw slot kept room stands =
      let long : length (front ++ open_batch ∷ body) ≡ after = omega (arith, length-append front (open_batch ∷ body), length-front, length-body) in
      let apart : (tail : List ℕ) → (front ++ open_batch ∷ body) ++ tail ≡ front ++ (open_batch ∷ (body ++ tail)) = λ tail. append_assoc front (open_batch ∷ body) tail in
      let fits : length (front ++ open_batch ∷ body) < size_of slot = omega (arith, long, next_within, room) in
      record {
        fits = fits;
        whole = λ tail some. ap (is_whole slot) (apart tail) ∙ stands.whole (open_batch ∷ (body ++ tail)) (omega arith);
        keeps = λ tail some.
            let left : size_of slot - length front - (1 + length body) ≡ size_of slot - length (front ++ open_batch ∷ body) = omega (arith, long, length-front, length-body) in
            ap (kept_in slot) (apart tail)
            ∙ stands.keeps (open_batch ∷ (body ++ tail)) (omega arith)
            ∙ ap (with_more kept) (batches_raw body tail (size_of slot - length front) n number_body length-body some (omega (arith, long, fits, length-front, length-body)))
            ∙ ap (λ (l : List (List ℕ)). with_more kept (l ++ batches_of (take (size_of slot - length front - (1 + length body)) tail))) rows_body
            ∙ with_more-twice kept (rows n (drop (gate + 5) bytes)) (batches_of (take (size_of slot - length front - (1 + length body)) tail))
            ∙ ap (λ (k : ℕ). with_more (with_more kept (rows n (drop (gate + 5) bytes))) (batches_of (take k tail))) left;
      }

  pub batch_stands : (slot : Slot) (kept : Kept) → length bytes ≤ size_of slot → Stands slot (take gate bytes) kept → Stands slot (take after bytes) (with_more kept (rows n (drop (gate + 5) bytes)))
  batch_stands slot kept room stands =
      subst (λ (f : List ℕ). Stands slot f (with_more kept (rows n (drop (gate + 5) bytes)))) (sym front_is) (stands_raw slot kept room stands)

-- before the first batch
pub Walks-start : (bytes : List ℕ) (from : ℕ) (listed : Listed) → from < length bytes → Walks bytes from from listed listed
Walks-start bytes from listed within = record {
  rows = [];
  within = within;
  read = refl;
  are = refl;
  stands = λ slot kept room stands. subst (Stands slot (take from bytes)) (sym (with_more-nothing kept)) stands;
}

-- one batch more
pub Walks-next : (bytes : List ℕ) (from gate n : ℕ) (old mid new : Listed) → Walks bytes from gate old mid → batch_at bytes gate ≡ Some n
    → new ≡ with_rows mid (rows n (drop (gate + 5) bytes)) → Walks bytes from (gate + (5 + 9 * n)) old new
Walks-next bytes from gate n old mid new walk found read =
    let more = rows n (drop (gate + 5) bytes) in
    record {
      rows = walk.rows ++ more;
      within = next_within bytes gate n walk.within found;
      read = read ∙ ap (λ (l : Listed). with_rows l more) walk.read ∙ sym (with_rows-append old walk.rows more);
      are =
          walk.are ∙ ap (λ (l : List (List ℕ)). walk.rows ++ l) (batch_some bytes gate n walk.within found)
          ∙ sym (append_assoc walk.rows more (batches_of (drop (gate + (5 + 9 * n)) bytes)));
      stands = λ slot kept room stands.
          subst (Stands slot (take (gate + (5 + 9 * n)) bytes)) (sym (with_more-twice kept walk.rows more))
          (batch_stands bytes gate n walk.within found slot (with_more kept walk.rows) room (walk.stands slot kept room stands));
    }

-- the list of a part, then its batches: all that it keeps
pub IsRead-walked : (slot : Slot) (part : List ℕ) (first gate : ℕ) (mid listed : Listed) → is_whole slot part ≡ true → first ≡ first_gate slot part
    → mid ≡ with_rows nothing_read (rows (count_of slot part) (drop (count_place slot part + 4) part))
    → Walks (take (size_of slot) part) first gate mid listed → batch_at (take (size_of slot) part) gate ≡ None → IsRead slot part listed gate
IsRead-walked slot part first gate mid listed whole is began walk ends =
    let size = size_of slot in
    let inside = take size part in
    let tests = and_both (nat_lt (first_gate slot part) size) (nat_lt (first_gate slot part) (length part)) whole in
    let early : first < size = omega (arith, is, ltb-true _ _ tests.0) in
    let long : length inside ≤ size = omega (arith, length-take size part) in
    let gate_in : gate < length inside = walk.within in
    let gate_part : gate < length part = omega (arith, length-take size part, gate_in) in
    let gate_size : gate < size = omega (arith, long, gate_in) in
    let same_drop : (k : ℕ) → k ≤ size → drop k inside ≡ take (size - k) (drop k part) =
    λ k small. let parts : size ≡ k + (size - k) = omega (arith, small) in ap (λ (n : ℕ). drop k (take n part)) parts ∙ drop-take k (size - k) part in
    let same_take : (k : ℕ) → k ≤ size → take k inside ≡ take k part = λ k small. take-take k size part small in
    let none : batches_of (take (size - gate) (drop gate part)) ≡ [] =
    ap batches_of (sym (same_drop gate (omega (arith, gate_size)))) ∙ batch_none inside gate gate_in ends in
    let listed_rows = rows (count_of slot part) (drop (count_place slot part + 4) part) in
    let batches_are : batches_of (take (size - first_gate slot part) (drop (first_gate slot part) part)) ≡ walk.rows =
    ap (λ (k : ℕ). batches_of (take (size - k) (drop k part))) (sym is)
    ∙ ap batches_of (sym (same_drop first (omega (arith, early))))
    ∙ walk.are
    ∙ ap (λ (l : List (List ℕ)). walk.rows ++ l) (batch_none inside gate gate_in ends)
    ∙ append-nil walk.rows in
    let all_rows : listed_rows ++ walk.rows ≡ part_rows slot part = ap (λ (l : List (List ℕ)). listed_rows ++ l) (sym batches_are) in
    let started : Stands slot (take first inside) (listed_in slot part) =
    subst (λ (f : List ℕ). Stands slot f (listed_in slot part)) (ap (λ (k : ℕ). take k part) (sym is) ∙ sym (same_take first (omega (arith, early)))) (Stands-found slot part whole) in
    let ended = walk.stands slot (listed_in slot part) long started in
    record {
      all = walk.read ∙ ap (λ (l : Listed). with_rows l walk.rows) began ∙ sym (with_rows-append nothing_read listed_rows walk.rows) ∙ ap (with_rows nothing_read) all_rows;
      within = gate_part;
      stands =
          subst (λ (f : List ℕ). Stands slot f (kept_in slot part)) (same_take gate (omega (arith, gate_size)))
          (subst (Stands slot (take gate inside)) (ap (λ (l : List (List ℕ)). record (kept_in slot part) { rows = l }) all_rows) ended);
      none = none;
    }
