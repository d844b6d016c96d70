-- A write, whole or torn, as it is seen from the start of a part of the disk.
use Rattle.std.proofs.Common.{◌<◌, ◌∷◌, get_or, length-append, take-append-drop, ◌≡◌, ℕ, ◌+◌, ◌-◌, ◌≤◌, List, ◌++◌, length, take, drop, replicate, refl, sym, ◌∙◌, ap, arith, length-drop}
use Rattle.std.proofs.lemmas.List.{drop_more, take_at, drop-append-le, drop-drop, drop-take, length-take}
use Rattle.std.proofs.Math.Seq.{drop-append-add}
use Rattle.disk_model.specs.Writes.{Torn, written}

-- what lies between two places, counted from the first
take_from : (start end : ℕ) (l : List ℕ) → start ≤ end → take (end - start) (drop start l) ≡ drop start (take end l)
take_from start end l order =
    let is : start + (end - start) ≡ end = omega arith in
    sym (drop-take start (end - start) l) ∙ ap (λ (k : ℕ). drop start (take k l)) is

-- what lies after both
drop_from : (start end : ℕ) (l : List ℕ) → start ≤ end → drop (end - start) (drop start l) ≡ drop end l
drop_from start end l order =
    let is : start + (end - start) ≡ end = omega arith in
    drop-drop (end - start) start l ∙ ap (λ (k : ℕ). drop k l) is

-- a torn write after the start of a part is a torn write of the part
pub Torn-drop : (start at n : ℕ) (old new : List ℕ) → start ≤ at → start ≤ length old → Torn at n old new → Torn (at - start) n (drop start old) (drop start new)
Torn-drop start at n old new behind inside torn =
    let long_old = length-drop start old in
    let long_new = length-drop start new in
    let order : start ≤ at + n = omega arith in
    let end : at + n - start ≡ at - start + n = omega arith in
    record {
      no_shorter = omega (arith, long_old, long_new, torn.no_shorter);
      no_longer = omega (arith, long_old, long_new, torn.no_longer);
      before = λ reaches.
          take_from start at new behind ∙ ap (drop start) (torn.before (omega (arith, long_old, reaches))) ∙ sym (take_from start at old behind);
      beyond = λ shorter.
          ap (λ (k : ℕ). take k (drop start new)) long_old ∙ take_from start (length old) new inside ∙ ap (drop start) (torn.beyond (omega (arith, long_old, shorter)));
      after = rw (← end, drop_from start (at + n) new order, drop_from start (at + n) old order) torn.after;
    }

-- and one that was done likewise
pub written-drop : (start at : ℕ) (bytes old : List ℕ) → start ≤ at → start ≤ length old → drop start (written at bytes old) ≡ written (at - start) bytes (drop start old)
written-drop start at bytes old behind inside =
    let gap : at - start - length (drop start old) ≡ at - length old = omega (arith, length-drop start old) in
    let order : start ≤ at + length bytes = omega arith in
    let end : at + length bytes - start ≡ at - start + length bytes = omega arith in
    let rest : drop (at - start + length bytes) (drop start old) ≡ drop (at + length bytes) old =
    rw (← end) (drop_from start (at + length bytes) old order) in
    drop-append-le start (take at old) (replicate (at - length old) 0 ++ (bytes ++ drop (at + length bytes) old)) (omega (arith, length-take at old))
    ∙ rw (gap, rest, take_from start at old behind) refl

-- a torn write in front of a part leaves the part as it was
pub Torn-beyond : (start at n : ℕ) (old new : List ℕ) → at + n ≤ start → Torn at n old new → drop start new ≡ drop start old
Torn-beyond start at n old new before torn = sym (drop_from (at + n) start new before) ∙ ap (drop (start - (at + n))) torn.after ∙ drop_from (at + n) start old before

-- a write after this head leaves it, and what stands after the range
pub written-behind : (head rest bytes : List ℕ) (at : ℕ) → at ≡ length head → written at bytes (head ++ rest) ≡ head ++ (bytes ++ drop (length bytes) rest)
written-behind head rest bytes at is =
    let inside : at - length (head ++ rest) ≡ 0 = omega (arith, length-append head rest) in
    let place : at + length bytes ≡ length head + length bytes = omega arith in
    let behind : drop (at + length bytes) (head ++ rest) ≡ drop (length bytes) rest = rw place (drop-append-add head rest (length bytes)) in
    let front : take at (head ++ rest) ≡ head = take_at head rest at (sym is) in
    ap (λ (l : List ℕ). l ++ (replicate (at - length (head ++ rest)) 0 ++ (bytes ++ drop (at + length bytes) (head ++ rest)))) front
    ∙ ap (λ (k : ℕ). head ++ (replicate k 0 ++ (bytes ++ drop (at + length bytes) (head ++ rest)))) inside
    ∙ ap (λ (l : List ℕ). head ++ (bytes ++ l)) behind

-- a torn write after this head leaves it
pub Torn-behind : (head rest new : List ℕ) (at n : ℕ) → at ≡ length head → Torn at n (head ++ rest) new → new ≡ head ++ drop at new
Torn-behind head rest new at n is torn =
    let front : take at new ≡ head = torn.before (omega (arith, length-append head rest)) ∙ take_at head rest at (sym is) in
    sym (take-append-drop at new) ∙ ap (λ (l : List ℕ). l ++ drop at new) front

-- a byte that is torn over stands between what stood around it
pub Torn-byte : (head rest new : List ℕ) (byte at : ℕ) → at ≡ length head → Torn at 1 (head ++ (byte ∷ rest)) new → new ≡ head ++ (get_or new at 0 ∷ rest)
Torn-byte head rest new byte at is torn =
    let long : at < length new = omega (arith, torn.no_shorter, length-append head (byte ∷ rest)) in
    let place : at + 1 ≡ length head + 1 = omega arith in
    let after : drop (at + 1) new ≡ rest = torn.after ∙ rw place (drop-append-add head (byte ∷ rest) 1) in
    Torn-behind head (byte ∷ rest) new at 1 is torn ∙ ap (λ (l : List ℕ). head ++ l) (drop_more new at 0 long ∙ ap (λ (l : List ℕ). get_or new at 0 ∷ l) after)
