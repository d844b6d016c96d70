-- Bytes and the writes since the first.
use Rattle.std.proofs.Common.{◌≡◌, ⊎_elim, ℕ, ◌+◌, ◌-◌, ◌≤◌, List, [], ◌∷◌, ◌++◌, length, map, take, drop, replicate, refl, sym, ap, ap₂, ◌∙◌, arith, length-append, append-nil}
use Rattle.std.proofs.lemmas.List.{append_assoc, take-append-le, drop-append-le, drop_all, take_all, take-replicate, length-replicate, map-append}
use Rattle.std.proofs.Math.Seq.{take-append-add}
use Rattle.std.proofs.lemmas.Bool.{cases_lt}
use Rattle.disk_model.specs.declared.medium.Write.{Write}
use Rattle.disk_model.specs.Logs.{IsLogged, applied, range_of}
use Rattle.disk_model.specs.Memory.{Medium, after_write}
use Rattle.disk_model.specs.Writes.{written}
use Rattle.disk_model.proofs.Tearing.{length-written}

-- the last write comes after the others
pub applied-last : (bytes : List ℕ) (writes : List Write) (write : Write) → applied bytes (writes ++ write ∷ []) ≡ written write.at write.bytes (applied bytes writes)
applied-last bytes [] write = refl
applied-last bytes (first ∷ later) write = applied-last (written first.at first.bytes bytes) later write

-- a medium by its parts
abbrev medium_of : List ℕ → List Write → ℕ → Medium
medium_of first writes synced = record { bytes = applied first writes; synced = applied first (take synced writes); pending = map range_of (drop synced writes) }

pub logs : (first : List ℕ) (writes writes' : List Write) (synced at : ℕ) (from : List ℕ) (write : Write) → synced ≤ length writes → write.at ≡ at → write.bytes ≡ from → writes' ≡ writes ++ write ∷ []
    → medium_of first writes' synced ≡ after_write at from (medium_of first writes synced)
logs first writes writes' synced at from write within is bytes more =
    let whole : applied first writes' ≡ written at from (applied first writes) =
    ap (applied first) more ∙ applied-last first writes write ∙ ap₂ (λ a b. written a b (applied first writes)) is bytes
    in
    let before : applied first (take synced writes') ≡ applied first (take synced writes) =
    ap (λ l. applied first (take synced l)) more ∙ ap (applied first) (take-append-le synced writes (write ∷ []) within)
    in
    let behind : map range_of (drop synced writes') ≡ map range_of (drop synced writes) ++ (at, length from) ∷ [] =
    ap (λ l. map range_of (drop synced l)) more
    ∙ ap (map range_of) (drop-append-le synced writes (write ∷ []) within)
    ∙ map-append range_of (drop synced writes) (write ∷ [])
    ∙ ap₂ (λ a b. map range_of (drop synced writes) ++ (a, length b) ∷ []) is bytes
    in
    λ i. record { bytes = whole i; synced = before i; pending = behind i }

-- the bytes are still what the writes made
pub logged : (first bytes bytes' : List ℕ) (writes writes' : List Write) (synced at : ℕ) (from : List ℕ) (write : Write) → synced ≤ length writes → bytes ≡ applied first writes → bytes' ≡ written at from bytes → write.at ≡ at
    → write.bytes ≡ from → writes' ≡ writes ++ write ∷ [] → IsLogged first bytes' writes' synced
logged first bytes bytes' writes writes' synced at from write within are new is of_bytes more = record {
  within = omega (arith, within, ap length more, length-append writes (write ∷ []));
  are = λ some. new ∙ ap (written at from) are ∙ sym (ap (applied first) more ∙ applied-last first writes write ∙ ap₂ (λ a b. written a b (applied first writes)) is of_bytes);
}

-- a write over bytes that were filled up to its end
module _ (at : ℕ) (from old : List ℕ) where
  abbrev most : ℕ
  most = at + length from

  abbrev padded : List ℕ
  padded = old ++ replicate (most - length old) 0

  long : length padded ≡ length old + (most - length old)
  long = length-append old (replicate (most - length old) 0) ∙ ap (λ n. length old + n) (length-replicate {A = ℕ} (most - length old) 0)

  front : take at padded ≡ take at old ++ replicate (at - length old) 0
  front = ⊎_elim
      (λ inside.
      let none : at - length old ≡ 0 = omega (arith, inside) in
      take-append-le at old (replicate (most - length old) 0) (omega (arith, inside)) ∙ sym (ap (λ n. take at old ++ replicate n 0) none ∙ append-nil (take at old)))
      (λ outside.
      let sum : at ≡ length old + (at - length old) = omega (arith, outside) in
      ap (λ n. take n padded) sum
      ∙ take-append-add old (replicate (most - length old) 0) (at - length old)
      ∙ ap (λ l. old ++ l) (take-replicate (at - length old) (most - length old) 0 (omega arith))
      ∙ ap (λ l. l ++ replicate (at - length old) 0) (sym (take_all at old (omega (arith, outside)))))
      (cases_lt at (length old))

  behind : drop most padded ≡ drop most old
  behind = ⊎_elim
      (λ inside.
      let none : most - length old ≡ 0 = omega (arith, inside) in
      ap (λ n. drop most (old ++ replicate n 0)) none ∙ ap (drop most) (append-nil old))
      (λ outside. drop_all most padded (omega (arith, long, outside)) ∙ sym (drop_all most old (omega (arith, outside))))
      (cases_lt most (length old))

  pub over_padded : take at padded ++ (from ++ drop most padded) ≡ written at from old
  over_padded = ap₂ (λ f b. f ++ (from ++ b)) front behind ∙ append_assoc (take at old) (replicate (at - length old) 0) (from ++ drop most old)

  -- the bytes in the place of those of the range
  pub over_filled : (end len : ℕ) (r new : List ℕ) → end ≡ at + length from → r ≡ old ++ replicate (end - length old) 0 → len ≡ length r → new ≡ take at r ++ (from ++ drop (at + length from) r)
      → take len (new ++ drop (length new) r) ≡ written at from old
  over_filled end len r new ends filled long_is put =
      let r-is : r ≡ padded = filled ∙ ap (λ n. old ++ replicate (n - length old) 0) ends in
      let is : new ≡ written at from old = put ∙ ap (λ x. take at x ++ (from ++ drop most x)) r-is ∙ over_padded in
      let same : length new ≡ length r = omega (arith, ap length is, length-written at from old, ap length r-is, long) in
      ap (λ l. take len (new ++ l)) (drop_all (length new) r (omega (arith, same))) ∙ ap (take len) (append-nil new) ∙ take_all len new (omega (arith, same, long_is)) ∙ is
