-- What bytes in a row make of a sifting.
use Rattle.std.proofs.Common.{◌≡◌, ℕ, ◌+◌, ◌-◌, ◌<◌, ◌≤◌, nat_lt, Bool, true, false, List, [], ◌∷◌, ◌++◌, length, slice_index, take, Option, None, Result, Ok, Err, IsErrAnd, if◌then◌else◌, inl, inr, refl, sym, ap, subst, ◌∙◌, lt-ltb, arith}
use Rattle.std.proofs.lemmas.Bool.{cases_lt, cond-false, cond-true}
use Rattle.wan_edge.specs.Ports.{Hears, IsOneMore, PortTrace}
use Rattle.wan_edge.specs.Streams.{Appends, Rose}
use Rattle.wan_edge.specs.declared.stream.Failed.{Failed}
use Rattle.wan_edge.proofs.Chains.{Appends-chain, Appends-nothing}
use Rattle.fenced_ports.specs.Parts.{is_silent, left, next_at, part_of}
use Rattle.fenced_ports.specs.Sieves.{AfterPart, Hands, HearsByte, HearsNothing, IsHandedOn, Sifting, Sifts, after_byte, after_bytes, moved, noted}
use Rattle.fenced_ports.specs.declared.part.Part.{Part}
use Rattle.fenced_ports.specs.declared.part.Part.TheVariants.{Alien, Low, Plain, Silent}

-- after no fault a byte is noted for what it is
pub read_on : (term : ℕ) (s : Sifting) (byte : ℕ) → s.broken ≡ false → after_byte term s byte ≡ noted (moved s byte) (part_of term s.at s.floor byte)
read_on term s byte whole = cond-false s.broken s (noted (moved s byte) (part_of term s.at s.floor byte)) whole

-- ---- rows

pub after-append : (term : ℕ) (s : Sifting) (xs ys : List ℕ) → after_bytes term s (xs ++ ys) ≡ after_bytes term (after_bytes term s xs) ys
after-append term s [] ys = refl
after-append term s (x ∷ xs) ys = after-append term (after_byte term s x) xs ys

pub sifts-nothing : (term : ℕ) (heard : Option (List ℕ)) (s : Sifting) → Sifts term heard s heard s
sifts-nothing term heard s = record { came = []; heard = Appends-nothing heard; sifted = refl }

pub sifts-on : (term : ℕ) (a b c : Option (List ℕ)) (s t u : Sifting) → Sifts term a s b t → Sifts term b t c u → Sifts term a s c u
sifts-on term a b c s t u first second = record {
  came = first.came ++ second.came;
  heard = Appends-chain a b c first.came second.came first.heard second.heard;
  sifted = second.sifted ∙ ap (λ (v : Sifting). after_bytes term v second.came) first.sifted ∙ sym (after-append term s first.came second.came);
}

pub sifts-byte : (term : ℕ) (a b : Option (List ℕ)) (s t : Sifting) (byte : ℕ) → Appends a (byte ∷ []) b → t ≡ after_byte term s byte → Sifts term a s b t
sifts-byte term a b s t byte heard is = record { came = byte ∷ []; heard = heard; sifted = is }

-- where nothing was heard, and nothing has changed
pub sifts-same : (term : ℕ) (a b c : Option (List ℕ)) (s t : Sifting) → Sifts term a s b t → c ≡ b → Sifts term a s c t
sifts-same term a b c s t sifts same = subst (λ (h : Option (List ℕ)). Sifts term a s h t) (sym same) sifts

-- ---- one byte

one-byte : (n : ℕ) (into : List ℕ) → length into ≡ 1 → n ≡ 1 → take n into ≡ slice_index into 0 ∷ []
one-byte n [] long is = absurd (omega (arith, long))
one-byte n (x ∷ []) long is = ap (λ (m : ℕ). take m (x ∷ [])) is
one-byte n (x ∷ y ∷ into) long is = absurd (omega (arith, long))

pub hears-byte : (n : ℕ) (into : List ℕ) (before now : PortTrace) → Hears n into before now → length into ≡ 1 → n ≤ length into → (n ≡ 0 → ⊥) → HearsByte (slice_index into 0) before now
hears-byte n into before now given long within some =
    let one : n ≡ 1 = omega (arith, long, within, some) in
    record {
      heard = subst (λ (bytes : List ℕ). Appends before.heard bytes now.heard) (one-byte n into long one) given.heard;
      as_quiet = given.as_quiet (omega (arith, one));
      unsent = given.offered;
    }

pub hears-none : (n : ℕ) (into : List ℕ) (before now : PortTrace) → Hears n into before now → n ≡ 0 → HearsNothing before now
hears-none n into before now given none = record {
  heard = subst (λ (m : ℕ). Appends before.heard (take m into) now.heard) none given.heard ∙ sym (Appends-nothing before.heard);
  quieter = given.quieter none;
  unsent = given.offered;
}

-- ---- what it is

is-silent : (part : Part) → is_silent part ≡ true → part ≡ Silent
is-silent Silent is = refl
is-silent (Plain byte) is = absurd (cc is)
is-silent Low is = absurd (cc is)
is-silent Alien is = absurd (cc is)

neither : (lower : Bool) (byte : ℕ) → (if lower then Low else Plain byte) ≡ Silent → ⊥
neither true byte is = cc is
neither false byte is = cc is

never-last : (term floor byte : ℕ) → part_of term 17 floor byte ≡ Silent → ⊥
never-last term floor byte is = neither (nat_lt floor term) byte is

-- a silent byte is none of the last
pub silent-moves : (term at floor byte : ℕ) → at < 18 → part_of term at floor byte ≡ Silent → next_at at ≡ at + 1
silent-moves term at floor byte within is =
    elim (cases_lt at 17) [
      | inl lt ↦ cond-true (nat_lt at 17) (at + 1) 0 (lt-ltb at 17 lt)
      | inr le ↦ let last : at ≡ 17 = omega (arith, within, le) in absurd (never-last term floor byte (subst (λ (n : ℕ). part_of term n floor byte ≡ Silent) last is))
    ]

-- what a byte that is so makes of what silent ones have left
after-one : (part : Part) (s t : Sifting) (byte : ℕ) → AfterPart Silent s t → AfterPart part s (noted (moved t byte) part)
after-one Silent s t byte so_far = so_far
after-one (Plain b) s t byte so_far = (ap (λ (xs : List ℕ). xs ++ b ∷ []) so_far.0, so_far.1, so_far.2)
after-one Low s t byte so_far = (so_far.0, ap (λ (n : ℕ). n + 1) so_far.1, so_far.2)
after-one Alien s t byte so_far = (so_far.0, so_far.1, refl)

module _ (term : ℕ) (s t u : Sifting) (byte : ℕ) (earlier part : Part) (silent : is_silent earlier ≡ true) (so_far : AfterPart earlier s t) where
  pub as-silent : AfterPart Silent s t
  as-silent = subst (λ (p : Part). AfterPart p s t) (is-silent earlier silent) so_far

  pub after-on : part ≡ part_of term t.at t.floor byte → u ≡ after_byte term t byte → AfterPart part s u
  after-on is after =
      let noted_is : u ≡ noted (moved t byte) part = after ∙ read_on term t byte as-silent.2 ∙ ap (λ (p : Part). noted (moved t byte) p) (sym is) in
      subst (λ (v : Sifting). AfterPart part s v) (sym noted_is) (after-one part s t byte as-silent)

-- the place that a byte leaves
at-noted : (s : Sifting) (part : Part) → (noted s part).at ≡ s.at
at-noted s Silent = refl
at-noted s (Plain byte) = refl
at-noted s Low = refl
at-noted s Alien = refl

-- a silent byte brings the end nearer, and any other is the end
module _ (term : ℕ) (t u : Sifting) (byte : ℕ) (within : t.at < 18) (whole : t.broken ≡ false) (after : u ≡ after_byte term t byte) where
  place : u.at ≡ next_at t.at
  place = ap (λ (v : Sifting). v.at) (after ∙ read_on term t byte whole) ∙ at-noted (moved t byte) (part_of term t.at t.floor byte)

  fewer : (part : Part) → part ≡ part_of term t.at t.floor byte → left part u.at < 19 - t.at
  fewer Silent is = omega (arith, silent-moves term t.at t.floor byte within (sym is), place, within)
  fewer (Plain b) is = omega (arith, within)
  fewer Low is = omega (arith, within)
  fewer Alien is = omega (arith, within)

  pub nearer : (earlier part : Part) → is_silent earlier ≡ true → part ≡ part_of term t.at t.floor byte → left part u.at < left earlier t.at
  nearer earlier part silent is = subst (λ (p : Part). left part u.at < left p t.at) (sym (is-silent earlier silent)) (fewer part is)

-- ---- the end

module _ (before now : PortTrace) (s t : Sifting) where
  -- where nothing was there after silent bytes
  pub hands-nothing : (moment : PortTrace) → AfterPart Silent s t → moment.quiet ≡ before.quiet → HearsNothing moment now → Hands (Ok None) before s now t
  hands-nothing moment so_far quiet nothing = record {
    same = so_far.0;
    whole = so_far.2;
    why = inl (subst (λ (q : Option ℕ). IsOneMore q now.quiet) quiet nothing.quieter);
  }

  -- where the port failed after them
  pub hands-fault : (given : Result (Option ℕ) Failed) (why : Failed) (moment : PortTrace) → IsErrAnd given (λ e. e ≡ why) → AfterPart Silent s t → before.faults ≤ moment.faults → Rose moment.faults now.faults → Hands given before s now t
  hands-fault (Ok found) why moment fails so_far count cause = absurd fails
  hands-fault (Err e) why moment fails so_far count cause = record { same = so_far.0; why = inl (later cause) }
    where
      later : Rose moment.faults now.faults → Rose before.faults now.faults
      later (inl rose) = inl (omega (arith, count, rose))
      later (inr top) = inr top

  -- where the last byte wasn't silent
  pub hands-part : (part : Part) (given : Result (Option ℕ) Failed) → is_silent part ≡ false → AfterPart part s t → IsHandedOn part given → Hands given before s now t
  hands-part Silent given loud so_far is = absurd (cc loud)
  hands-part (Plain byte) given loud so_far is = subst (λ (r : Result (Option ℕ) Failed). Hands r before s now t) (sym is) (record { more = so_far.0; whole = so_far.2 })
  hands-part Low given loud so_far is = subst (λ (r : Result (Option ℕ) Failed). Hands r before s now t) (sym is) (record { same = so_far.0; whole = so_far.2; why = inr so_far.1 })
  hands-part Alien (Ok found) loud so_far is = absurd (cc is)
  hands-part Alien (Err e) loud so_far is = record { same = so_far.0; why = inr so_far.2 }
