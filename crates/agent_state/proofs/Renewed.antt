-- What the three writes leave by which a file is written anew, whole and torn.
use Rattle.std.proofs.Common.{◌≡◌, inl, inr, ◌⊎◌, ⊎_elim, ◌==◌, Bool, true, false, ℕ, ◌+◌, ◌-◌, ◌<◌, ◌≤◌, ◌^◌, List, [], ◌∷◌, ◌++◌, length, drop, refl, sym, subst, ◌∙◌, ap, arith, length-append, length-drop}
use Rattle.std.proofs.lemmas.List.{append_assoc}
use Rattle.disk_model.specs.Writes.{Torn, written}
use Rattle.disk_model.proofs.Parting.{Torn-beyond}
use Rattle.disk_model.proofs.Tearing.{Torn-written, drop-written}
use Rattle.disk_model.proofs.Tears.{torn_wider}
use Rattle.disk_model.proofs.FourBytes.{length-bytes_4, number_4-bytes_4, written_one}
use Rattle.agent_state.specs.Batches.{batch_body, open_gate}
use Rattle.agent_state.specs.Images.{first_start, is_second, number_place}
use Rattle.disk_model.specs.Numbers.{bytes_4, number_4}
use Rattle.agent_state.specs.Renewals.{IsLaid, IsNamed, new_gate, new_home, other_of, side_byte}
use Rattle.agent_state.specs.States.{Home, IsAtRest, IsEither}
use Rattle.agent_state.specs.Stored.{part_bytes}
use Rattle.agent_state.proofs.Committing.{torn_rest}
use Rattle.agent_state.proofs.Heads.{part_apart, part_before, place_high, place_low, rest_reads, same_byte, same_number}
use Rattle.agent_state.proofs.Reading.{Stands-more, Stands-nothing, length-batch_body}

module _ (home : Home) (gate : ℕ) (kept : List (List ℕ)) (image : List ℕ) (rest : IsAtRest home gate kept image) where
  -- a torn write aside of the live part leaves it at rest
  pub torn_aside : (to n : ℕ) (new : List ℕ) → first_start ≤ to → (to + n ≤ home.start) ⊎ (gate + 1 ≤ to) → Torn to n image new → IsAtRest home gate kept new
  torn_aside to n new low (inl before) torn = record {
    front = rest.front;
    mark = rest.mark;
    behind = rest.behind;
    has = part_before home rest.front (rest.mark ∷ rest.behind) image new to n rest.has torn (omega (arith, low)) before;
    stands = rest.stands;
    closed = rest.closed;
    at = rest.at;
    short = λ few. rest.short (omega (arith, few, torn.no_shorter));
  }
  torn_aside to n new low (inr behind) torn =
      torn_rest home gate kept image rest (to + n - (gate + 1)) new (torn_wider to n (gate + 1) (to + n - (gate + 1)) image new behind (omega (arith, behind)) torn)

  -- the new part, once it is written
  pub laid : (to : ℕ) (batch bytes : List ℕ) → first_start ≤ to → (to + length bytes ≤ home.start) ⊎ (gate + 1 ≤ to) → length batch < 2 ^ 32 → bytes ≡ part_bytes batch
      → IsLaid home gate kept to batch (written to bytes image)
  laid to batch bytes low apart few is = record {
    rest = torn_aside to (length bytes) (written to bytes image) low apart (Torn-written to bytes image);
    more = drop (to + length bytes) image;
    laid =
        drop-written to bytes image ∙ ap (λ (l : List ℕ). l ++ drop (to + length bytes) image) is
        ∙ ap (λ (l : List ℕ). open_gate ∷ l) (append_assoc (batch_body batch) (0 ∷ []) (drop (to + length bytes) image));
    few = few;
    low = low;
  }

-- the two numbers stand apart
apart_places : (second : Bool) → (number_place second + 4 ≤ number_place (other_of second)) ⊎ (number_place (other_of second) + 4 ≤ number_place second)
apart_places true = inr (omega arith)
apart_places false = inl (omega arith)

module _ (home : Home) (gate : ℕ) (kept : List (List ℕ)) (to : ℕ) (batch image : List ℕ) (is : IsLaid home gate kept to batch image) where
  abbrev other_place : ℕ
  other_place = number_place (other_of home.second)

  -- a torn write over the number that doesn't count leaves both parts
  pub torn_laid : (new : List ℕ) → Torn other_place 4 image new → IsLaid home gate kept to batch new
  torn_laid new torn =
      let rest = is.rest in
      let below : other_place + 4 ≤ 10 = place_low (other_of home.second) in
      let part : drop home.start new ≡ rest.front ++ (rest.mark ∷ rest.behind) = Torn-beyond home.start other_place 4 image new (omega (arith, below, rest.has.low)) torn ∙ rest.has.part in
      record {
        rest = record {
          front = rest.front;
          mark = rest.mark;
          behind = rest.behind;
          has = part_apart home rest.front (rest.mark ∷ rest.behind) (rest.mark ∷ rest.behind) image new other_place 4 rest.has torn
              (place_high (other_of home.second)) (apart_places home.second) (omega arith) part;
          stands = rest.stands;
          closed = rest.closed;
          at = rest.at;
          short = λ few. rest.short (omega (arith, few, torn.no_shorter));
        };
        more = is.more;
        laid = Torn-beyond to other_place 4 image new (omega (arith, below, is.low)) torn ∙ is.laid;
        few = is.few;
        low = is.low;
      }

  -- and with it the number names the new part
  pub named : to < 2 ^ 32 → IsNamed home gate kept to batch (written other_place (bytes_4 to) image)
  named small =
      let now = written other_place (bytes_4 to) image in
      let torn : Torn other_place 4 image now = subst (λ (n : ℕ). Torn other_place n image now) (length-bytes_4 to) (Torn-written other_place (bytes_4 to) image) in
      record {
        laid = torn_laid now torn;
        named = ap number_4 (drop-written other_place (bytes_4 to) image) ∙ number_4-bytes_4 to (drop (other_place + length (bytes_4 to)) image) small;
      }

-- one of two is the one or the other
two_sides : (a b : Bool) → (a ≡ b) ⊎ (a ≡ other_of b)
two_sides true true = inl refl
two_sides true false = inr refl
two_sides false true = inr refl
two_sides false false = inl refl

side_byte-is : (second : Bool) → (side_byte second == 1) ≡ other_of second
side_byte-is true = refl
side_byte-is false = refl

module _ (home : Home) (gate : ℕ) (kept : List (List ℕ)) (to : ℕ) (batch image : List ℕ) (is : IsNamed home gate kept to batch image) where
  long_named : 11 < length image
  long_named = omega (arith, ap length is.laid.laid, length-drop to image, length-append (batch_body batch) (0 ∷ is.laid.more), length-batch_body batch, is.laid.low)

  -- what is found where the byte is torn over that says which number counts: the old part, or the new one
  pub old_side : (new : List ℕ) → Torn 1 1 image new → is_second new ≡ home.second → IsAtRest home gate kept new
  old_side new torn side =
      let rest = is.laid.rest in
      let has = rest.has in
      record {
        front = rest.front;
        mark = rest.mark;
        behind = rest.behind;
        has = record {
          kind = same_byte 1 1 0 image new torn (inl (omega arith)) (omega (arith, long_named)) ∙ has.kind;
          side = side;
          start = same_number 1 1 (number_place home.second) image new torn (inr (omega (arith, place_high home.second))) (omega (arith, long_named, place_low home.second)) ∙ has.start;
          low = has.low;
          some = has.some;
          part = Torn-beyond home.start 1 1 image new (omega (arith, has.low)) torn ∙ has.part;
        };
        stands = rest.stands;
        closed = rest.closed;
        at = rest.at;
        short = λ few. rest.short (omega (arith, few, torn.no_shorter));
      }

  pub new_side : (new : List ℕ) → Torn 1 1 image new → is_second new ≡ other_of home.second → IsAtRest (new_home home to) (new_gate to batch) (batch ∷ []) new
  new_side new torn side =
      let second = other_of home.second in
      let part : drop to new ≡ (open_gate ∷ batch_body batch) ++ (0 ∷ is.laid.more) = Torn-beyond to 1 1 image new (omega (arith, is.laid.low)) torn ∙ is.laid.laid in
      record {
        front = open_gate ∷ batch_body batch;
        mark = 0;
        behind = is.laid.more;
        has = record {
          kind = same_byte 1 1 0 image new torn (inl (omega arith)) (omega (arith, long_named)) ∙ is.laid.rest.has.kind;
          side = side;
          start = same_number 1 1 (number_place second) image new torn (inr (omega (arith, place_high second))) (omega (arith, long_named, place_low second)) ∙ is.named;
          low = is.laid.low;
          some = omega arith;
          part = part;
        };
        stands = Stands-more [] [] batch Stands-nothing is.laid.few;
        closed = λ zero. absurd (omega (arith, zero));
        at = omega (arith, length-batch_body batch);
        short = λ few. absurd (omega (arith, few, long_named, torn.no_shorter));
      }

  pub switch_torn : (new : List ℕ) → Torn 1 1 image new → IsEither kept (batch ∷ []) new
  switch_torn new torn = ⊎_elim
      (λ same. inl (rest_reads home gate kept new (old_side new torn same)))
      (λ other. inr (rest_reads (new_home home to) (new_gate to batch) (batch ∷ []) new (new_side new torn other)))
      (two_sides (is_second new) home.second)

  pub switch_done : IsAtRest (new_home home to) (new_gate to batch) (batch ∷ []) (written 1 (side_byte home.second ∷ []) image)
  switch_done =
      let byte = side_byte home.second in
      let now = written 1 (byte ∷ []) image in
      new_side now (Torn-written 1 (byte ∷ []) image) (ap (λ (b : ℕ). b == 1) (written_one 1 byte image) ∙ side_byte-is home.second)

-- ---- at the place and with the bytes that a call has

pub torn_laid_at : (home : Home) (gate : ℕ) (kept : List (List ℕ)) (to : ℕ) (batch image new : List ℕ) (at n : ℕ) → at ≡ number_place (other_of home.second) → n ≡ 4
    → IsLaid home gate kept to batch image → Torn at n image new → IsEither kept (batch ∷ []) new
torn_laid_at home gate kept to batch image new at n at_is n_is laid torn =
    let there : Torn (number_place (other_of home.second)) 4 image new = subst (λ (k : ℕ). Torn (number_place (other_of home.second)) k image new) n_is (subst (λ (p : ℕ). Torn p n image new) at_is torn) in
    inl (rest_reads home gate kept new (torn_laid home gate kept to batch image laid new there).rest)

pub named_at : (home : Home) (gate : ℕ) (kept : List (List ℕ)) (to : ℕ) (batch image bytes : List ℕ) (at : ℕ) → at ≡ number_place (other_of home.second) → bytes ≡ bytes_4 to → to < 2 ^ 32
    → IsLaid home gate kept to batch image → IsNamed home gate kept to batch (written at bytes image)
named_at home gate kept to batch image bytes at at_is bytes_are small laid =
    subst (λ (b : List ℕ). IsNamed home gate kept to batch (written at b image)) (sym bytes_are)
    (subst (λ (p : ℕ). IsNamed home gate kept to batch (written p (bytes_4 to) image)) (sym at_is) (named home gate kept to batch image laid small))

pub switched_at : (home : Home) (gate : ℕ) (kept : List (List ℕ)) (to : ℕ) (batch image : List ℕ) (byte : ℕ) → byte ≡ side_byte home.second → IsNamed home gate kept to batch image
    → IsAtRest (new_home home to) (new_gate to batch) (batch ∷ []) (written 1 (byte ∷ []) image)
switched_at home gate kept to batch image byte byte_is is =
    subst (λ (b : ℕ). IsAtRest (new_home home to) (new_gate to batch) (batch ∷ []) (written 1 (b ∷ []) image)) (sym byte_is) (switch_done home gate kept to batch image is)
