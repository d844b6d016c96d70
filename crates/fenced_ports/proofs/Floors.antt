-- Which bytes are handed on.
use Rattle.std.proofs.Common.{◌≡◌, ◌≢◌, ◌⊎◌, ℕ, ◌+◌, ◌*◌, ◌%◌, ◌^◌, ◌≤◌, ◌==◌, nat_lt, Bool, true, false, List, [], ◌∷◌, if◌then◌else◌, inl, inr, refl, sym, ap, subst, ◌∙◌, eqb-true, le-ltb, lt-ltb, ltb-false, arith}
use Rattle.std.proofs.lemmas.Bool.{cases_lt, cond-false, cond-true, cond_both}
use Rattle.wan_edge.specs.Frames.{answer_kind}
use Rattle.fenced_agent.specs.Frames.{fence_kind}
use Rattle.fenced_ports.specs.Parts.{first_byte, head_byte, in_answers_place, last_of_floor, lower_byte, next_at, next_floor, part_of, shifted}
use Rattle.fenced_ports.specs.Sieves.{Sifting, after_byte, after_bytes, first_sifting, moved, noted}
use Rattle.fenced_ports.specs.declared.part.Part.{Part}
use Rattle.fenced_ports.specs.declared.part.Part.TheVariants.{Alien, Low, Plain, Silent}
use Rattle.fenced_ports.proofs.Sifted.{read_on}

-- ---- in front of an answer nothing is handed on

silent-or-alien : (b : Bool) (given : ℕ) → (if b then Silent else Alien) ≡ Plain given → ⊥
silent-or-alien true given is = cc is
silent-or-alien false given is = cc is

alien-or-silent : (b : Bool) (given : ℕ) → (if b then Alien else Silent) ≡ Plain given → ⊥
alien-or-silent true given is = cc is
alien-or-silent false given is = cc is

in-head : (first last : Bool) (term floor byte given : ℕ) → (if first then first_byte byte else if last then last_of_floor term floor else Silent) ≡ Plain given → ⊥
in-head true last term floor byte given is = silent-or-alien (byte == fence_kind) given is
in-head false true term floor byte given is = alien-or-silent (nat_lt term floor) given is
in-head false false term floor byte given is = cc is

-- ---- after it

same-byte : (byte given : ℕ) → Plain byte ≡ Plain given → given ≡ byte
same-byte byte given is = cc is

in-place : (other : Bool) (byte given : ℕ) → (if other then Silent else Plain byte) ≡ Plain given → (other ≡ false) × (given ≡ byte)
in-place true byte given is = absurd (cc is)
in-place false byte given is = (refl, same-byte byte given is)

in-lower : (first last : Bool) (byte given : ℕ) → (if first then in_answers_place byte else if last then Low else Silent) ≡ Plain given → (first ≡ true) × ((byte == answer_kind) ≡ false) × (given ≡ byte)
in-lower true last byte given is = let parts = in-place (byte == answer_kind) byte given is in (refl, parts.0, parts.1)
in-lower false true byte given is = absurd (cc is)
in-lower false false byte given is = absurd (cc is)

-- not before the fifth place
record IsBehind (term at floor byte given : ℕ) : Type 0 where
  same : given ≡ byte
  place : nat_lt at 5 ≡ false
  why : (nat_lt floor term ≡ false) ⊎ (((at == 5) ≡ true) × ((byte == answer_kind) ≡ false))

plain-behind : (head lower : Bool) (term at floor byte given : ℕ) → nat_lt at 5 ≡ head → nat_lt floor term ≡ lower
    → (if head then head_byte term at floor byte else if lower then lower_byte at byte else Plain byte) ≡ Plain given → IsBehind term at floor byte given
plain-behind true lower term at floor byte given head_is lower_is is = absurd (in-head (at == 0) (at == 4) term (shifted floor byte) byte given is)
plain-behind false true term at floor byte given head_is lower_is is =
    let parts = in-lower (at == 5) (at == 17) byte given is in
    record { same = parts.2; place = head_is; why = inr (parts.0, parts.1) }
plain-behind false false term at floor byte given head_is lower_is is = record { same = same-byte byte given is; place = head_is; why = inl lower_is }

handed : (term at floor byte given : ℕ) → part_of term at floor byte ≡ Plain given → IsBehind term at floor byte given
handed term at floor byte given is = plain-behind (nat_lt at 5) (nat_lt floor term) term at floor byte given refl refl is

pub handed-behind : (term at floor byte given : ℕ) → part_of term at floor byte ≡ Plain given → (given ≡ byte) × (5 ≤ at)
handed-behind term at floor byte given is =
    let behind = handed term at floor byte given is in
    (behind.same, ltb-false at 5 behind.place)

pub handed-floor : (term at floor byte given : ℕ) → part_of term at floor byte ≡ Plain given → (term ≤ floor) ⊎ ((at ≡ 5) × (byte ≢ answer_kind))
handed-floor term at floor byte given is =
    elim (handed term at floor byte given is).why [
      | inl reached ↦ inl (ltb-false floor term reached)
      | inr other ↦ inr (eqb-true at 5 other.0, λ same. absurd (cc (sym other.1 ∙ ap (λ (b : ℕ). b == answer_kind) same)))
    ]

pub above-alien : (term floor byte : ℕ) → ((floor * 256 + byte) % 2 ^ 32 ≤ term) ⊎ (part_of term 4 floor byte ≡ Alien)
above-alien term floor byte =
    cond_both (nat_lt term (shifted floor byte)) Alien Silent (λ (p : Part). ((floor * 256 + byte) % 2 ^ 32 ≤ term) ⊎ (p ≡ Alien))
    (λ above. inr refl)
    (λ within. inl (ltb-false term (shifted floor byte) within))

pub broken-stays : (term : ℕ) (s : Sifting) (bytes : List ℕ) → s.broken ≡ true → after_bytes term s bytes ≡ s
broken-stays term s [] broken = refl
broken-stays term s (byte ∷ later) broken =
    let same : after_byte term s byte ≡ s = cond-true s.broken s (noted (moved s byte) (part_of term s.at s.floor byte)) broken in
    ap (λ (t : Sifting). after_bytes term t later) same ∙ broken-stays term s later broken

-- ---- a floor that has ended

-- it isn't above the term, where nothing came that can't stand where it stood
abbrev IsBounded : ℕ → Sifting → Type 0
IsBounded term s = s.broken ≡ false → 5 ≤ s.at → s.floor ≤ term

within-term : (above : Bool) → (if above then Alien else Silent) ≢ Alien → above ≡ false
within-term true loud = absurd (loud refl)
within-term false loud = refl

module _ (term byte : ℕ) (s : Sifting) (bounded : IsBounded term s) (whole : s.broken ≡ false) where
  -- one place on, where the byte may stand there
  moved-bounded : part_of term s.at s.floor byte ≢ Alien → 5 ≤ next_at s.at → next_floor s.at s.floor byte ≤ term
  moved-bounded loud behind =
      elim (cases_lt s.at 4) [
        | inl early ↦ let next : next_at s.at ≡ s.at + 1 = cond-true (nat_lt s.at 17) (s.at + 1) 0 (lt-ltb s.at 17 (omega (arith, early))) in absurd (omega (arith, next, early, behind))
        | inr late ↦ elim (cases_lt 4 s.at) [
          | inl later ↦
              let same : next_floor s.at s.floor byte ≡ s.floor = cond-false (nat_lt s.at 5) (shifted s.floor byte) s.floor (le-ltb s.at 5 (omega (arith, later))) in
              omega (arith, same, bounded whole (omega (arith, later)))
          | inr least ↦
              let four : s.at ≡ 4 = omega (arith, late, least) in
              let last : (if nat_lt term (shifted s.floor byte) then Alien else Silent) ≢ Alien = subst (λ (n : ℕ). part_of term n s.floor byte ≢ Alien) four loud in
              subst (λ (n : ℕ). next_floor n s.floor byte ≤ term) (sym four) (ltb-false term (shifted s.floor byte) (within-term (nat_lt term (shifted s.floor byte)) last))
        ]
      ]

  noted-bounded : (p : Part) → p ≡ part_of term s.at s.floor byte → IsBounded term (noted (moved s byte) p)
  noted-bounded Silent is = λ still behind. moved-bounded (λ alien. absurd (cc (is ∙ alien))) behind
  noted-bounded (Plain b) is = λ still behind. moved-bounded (λ alien. absurd (cc (is ∙ alien))) behind
  noted-bounded Low is = λ still behind. moved-bounded (λ alien. absurd (cc (is ∙ alien))) behind
  noted-bounded Alien is = λ still behind. absurd (cc still)

  whole-bounded : IsBounded term (after_byte term s byte)
  whole-bounded = subst (λ (t : Sifting). IsBounded term t) (sym (read_on term s byte whole)) (noted-bounded (part_of term s.at s.floor byte) refl)

one-bounded : (broken : Bool) (term byte : ℕ) (s : Sifting) → s.broken ≡ broken → IsBounded term s → IsBounded term (after_byte term s byte)
one-bounded true term byte s is bounded = subst (λ (t : Sifting). IsBounded term t) (sym (cond-true s.broken s (noted (moved s byte) (part_of term s.at s.floor byte)) is)) bounded
one-bounded false term byte s is bounded = whole-bounded term byte s bounded is

all-bounded : (term : ℕ) (s : Sifting) (bytes : List ℕ) → IsBounded term s → IsBounded term (after_bytes term s bytes)
all-bounded term s [] bounded = bounded
all-bounded term s (byte ∷ later) bounded = all-bounded term (after_byte term s byte) later (one-bounded s.broken term byte s refl bounded)

pub bounded : (term : ℕ) (bytes : List ℕ) → (after_bytes term first_sifting bytes).broken ≡ false → 5 ≤ (after_bytes term first_sifting bytes).at → (after_bytes term first_sifting bytes).floor ≤ term
bounded term bytes = all-bounded term first_sifting bytes (λ still behind. absurd (omega (arith, behind)))

pub own-floor : (term byte given : ℕ) (bytes : List ℕ) (s : Sifting) → s ≡ after_bytes term first_sifting bytes → s.broken ≡ false → part_of term s.at s.floor byte ≡ Plain given → (s.floor ≡ term) ⊎ ((s.at ≡ 5) × (byte ≢ answer_kind))
own-floor term byte given bytes s is whole plain =
    let below : IsBounded term s = subst (λ (t : Sifting). IsBounded term t) (sym is) (bounded term bytes) in
    elim (handed-floor term s.at s.floor byte given plain) [
      | inl reached ↦ inl (omega (arith, reached, below whole (handed-behind term s.at s.floor byte given plain).1))
      | inr other ↦ inr other
    ]
