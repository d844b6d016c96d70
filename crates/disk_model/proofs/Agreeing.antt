-- At which places a torn write leaves an image as it was.
use Rattle.std.proofs.Common.{◌≡◌, ⊎_elim, ℕ, ◌+◌, ◌-◌, ◌<◌, ◌≤◌, List, [], ◌∷◌, length, take, drop, get_or, refl, sym, subst, ◌∙◌, ap, arith, length-drop}
use Rattle.std.proofs.lemmas.Bool.{cases_lt}
use Rattle.std.proofs.lemmas.List.{ext_get_or, get_or-drop, get_or-take, length-take-le}
use Rattle.disk_model.specs.Memory.{Reaches}
use Rattle.disk_model.specs.Places.{AgreesOn, Outside, OutsideAll}
use Rattle.disk_model.specs.Writes.{Torn}

pub AgreesOn-same : (places : ℕ → Type 0) (bytes : List ℕ) → AgreesOn places bytes bytes
AgreesOn-same places bytes = record { no_shorter = omega arith; same = λ i at inside. refl }

pub AgreesOn-chain : (places : ℕ → Type 0) (a b c : List ℕ) → AgreesOn places a b → AgreesOn places b c → AgreesOn places a c
AgreesOn-chain places a b c first second = record {
  no_shorter = omega (arith, first.no_shorter, second.no_shorter);
  same = λ i at inside. second.same i at (omega (arith, first.no_shorter, inside)) ∙ first.same i at inside;
}

pub AgreesOn-fewer : (places fewer : ℕ → Type 0) (a b : List ℕ) → ((i : ℕ) → fewer i → places i) → AgreesOn places a b → AgreesOn fewer a b
AgreesOn-fewer places fewer a b among agrees = record {
  no_shorter = agrees.no_shorter;
  same = λ i at inside. agrees.same i (among i at) inside;
}

-- the same front, and so the same bytes in it
same_front : (n : ℕ) (old new : List ℕ) → take n new ≡ take n old → (i : ℕ) → i < n → get_or new i 0 ≡ get_or old i 0
same_front n old new same i inside = sym (get_or-take n new i 0 inside) ∙ ap (λ (l : List ℕ). get_or l i 0) same ∙ get_or-take n old i 0 inside

-- the same end, and so the same bytes in it
same_end : (n : ℕ) (old new : List ℕ) → drop n new ≡ drop n old → (i : ℕ) → n ≤ i → get_or new i 0 ≡ get_or old i 0
same_end n old new same i behind =
    let is : n + (i - n) ≡ i = omega arith in
    subst (λ (j : ℕ). get_or new j 0 ≡ get_or old j 0) is (sym (get_or-drop n new (i - n) 0) ∙ ap (λ (l : List ℕ). get_or l (i - n) 0) same ∙ get_or-drop n old (i - n) 0)

-- the whole old list in front
same_whole : (old new : List ℕ) → take (length old) new ≡ old → (i : ℕ) → i < length old → get_or new i 0 ≡ get_or old i 0
same_whole old new same i inside = sym (get_or-take (length old) new i 0 inside) ∙ ap (λ (l : List ℕ). get_or l i 0) same

pub Torn-agrees : (at n : ℕ) (old new : List ℕ) → Torn at n old new → AgreesOn (Outside at n) old new
Torn-agrees at n old new torn = record {
  no_shorter = torn.no_shorter;
  same = λ i outside inside. ⊎_elim
      (λ before. ⊎_elim
      (λ shorter. same_whole old new (torn.beyond (omega (arith, shorter))) i inside)
      (λ reaches. same_front at old new (torn.before reaches) i before)
      (cases_lt (length old) at))
      (λ behind. same_end (at + n) old new torn.after i behind)
      outside;
}

-- an image of pending writes agrees with what was synced outside of all their ranges
pub Reaches-agrees : (synced : List ℕ) (pending : List (ℕ × ℕ)) (c : List ℕ) → Reaches synced pending c → AgreesOn (OutsideAll pending) synced c
Reaches-agrees synced [] c reached = subst (AgreesOn (OutsideAll []) synced) (sym reached) (AgreesOn-same (OutsideAll []) synced)
Reaches-agrees synced (write ∷ later) c reached =
    let places = OutsideAll (write ∷ later) in
    let first = AgreesOn-fewer (Outside write.0 write.1) places synced reached.0 (λ i outside. outside.0) (Torn-agrees write.0 write.1 synced reached.0 reached.1) in
    let then_later = AgreesOn-fewer (OutsideAll later) places reached.0 c (λ i outside. outside.1) (Reaches-agrees reached.0 later c reached.2) in
    AgreesOn-chain places synced reached.0 c first then_later

-- a range of these places has the same bytes
pub same_range : (places : ℕ → Type 0) (old new : List ℕ) (at n : ℕ) → AgreesOn places old new → at + n ≤ length old → ((i : ℕ) → at ≤ i → i < at + n → places i)
    → take n (drop at new) ≡ take n (drop at old)
same_range places old new at n agrees fits among =
    let long_old : length (take n (drop at old)) ≡ n = length-take-le n (drop at old) (omega (arith, length-drop at old)) in
    let long_new : length (take n (drop at new)) ≡ n = length-take-le n (drop at new) (omega (arith, length-drop at new, agrees.no_shorter)) in
    ext_get_or 0 (take n (drop at new)) (take n (drop at old)) (long_new ∙ sym long_old) (λ i inside.
    let fewer : i < n = omega (arith, long_new, inside) in
    get_or-take n (drop at new) i 0 fewer ∙ get_or-drop at new i 0
    ∙ agrees.same (at + i) (among (at + i) (omega arith) (omega (arith, fewer))) (omega (arith, fewer))
    ∙ sym (get_or-drop at old i 0) ∙ sym (get_or-take n (drop at old) i 0 fewer))
