-- What a write leaves, whole or torn.
use Rattle.std.proofs.Common.{◌≡◌, ℕ, ◌+◌, ◌-◌, List, ◌++◌, length, take, drop, replicate, max, refl, sym, ◌∙◌, ap, arith, length-append, length-drop}
use Rattle.std.proofs.lemmas.List.{append_assoc, drop_at, length-replicate, length-take, length-take-le, take_all, take_at}
use Rattle.disk_model.specs.Writes.{Torn, written}

-- a write of which nothing was done
pub Torn-none : (at n : ℕ) (old : List ℕ) → Torn at n old old
Torn-none at n old = record {
  no_shorter = omega arith;
  no_longer = omega arith;
  before = λ inside. refl;
  beyond = λ outside. take_all (length old) old (omega arith);
  after = refl;
}

module _ (at : ℕ) (bytes old : List ℕ) where
  -- the old bytes up to the range, with the gap filled
  abbrev front : List ℕ
  front = take at old ++ replicate (at - length old) 0

  length-front : length front ≡ at
  length-front = omega (arith, length-append (take at old) (replicate (at - length old) 0), length-take at old, length-replicate {A = ℕ} (at - length old) 0)

  -- what was written stands between this front and what stood after the range
  pub in_parts : written at bytes old ≡ front ++ (bytes ++ drop (at + length bytes) old)
  in_parts = sym (append_assoc (take at old) (replicate (at - length old) 0) (bytes ++ drop (at + length bytes) old))

  pub take-written : take at (written at bytes old) ≡ front
  take-written = ap (take at) in_parts ∙ take_at front (bytes ++ drop (at + length bytes) old) at length-front

  -- from the range on
  pub drop-written : drop at (written at bytes old) ≡ bytes ++ drop (at + length bytes) old
  drop-written = ap (drop at) in_parts ∙ drop_at front (bytes ++ drop (at + length bytes) old) at length-front

  -- after the range
  pub behind-written : drop (at + length bytes) (written at bytes old) ≡ drop (at + length bytes) old
  behind-written =
      ap (drop (at + length bytes)) (in_parts ∙ sym (append_assoc front bytes (drop (at + length bytes) old)))
      ∙ drop_at (front ++ bytes) (drop (at + length bytes) old) (at + length bytes) (omega (arith, length-append front bytes, length-front))

  pub length-written : length (written at bytes old) ≡ max (length old) (at + length bytes)
  length-written = omega (
    arith,
    ap length in_parts,
    length-append front (bytes ++ drop (at + length bytes) old),
    length-front,
    length-append bytes (drop (at + length bytes) old),
    length-drop (at + length bytes) old,
  )

  -- a write all of which was done
  pub Torn-written : Torn at (length bytes) old (written at bytes old)
  Torn-written = record {
    no_shorter = omega (arith, length-written);
    no_longer = omega (arith, length-written);
    before = λ inside. take_at (take at old) (replicate (at - length old) 0 ++ (bytes ++ drop (at + length bytes) old)) at (length-take-le at old inside);
    beyond = λ outside.
        take_at (take at old) (replicate (at - length old) 0 ++ (bytes ++ drop (at + length bytes) old)) (length old) (ap length (take_all at old outside))
        ∙ take_all at old outside;
    after = behind-written;
  }
