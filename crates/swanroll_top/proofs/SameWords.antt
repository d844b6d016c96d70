-- The words that ask for a text of the input alone are the same for the whole program and for one that makes such texts alone.
use Rattle.std.proofs.Common.{◌≡◌, ℕ, Bool, true, false, List, [], ◌∷◌, map, String, Global, string_bytes, codes, bytes_eq, Option, Some, None, option_map, option_and_then, if◌then◌else◌, refl, sym, ap, ◌∙◌, subst}
use Rattle.rollout_rules.specs.declared.op.OpView.{OpView}
use Rattle.text_commands.specs.Words.{TextAsked, are_pairs, policy_in, text_asked_by, text_asked_in, text_kind_named, text_names_of, text_with_kind, text_with_pairs}
use Rattle.text_commands.specs.declared.words.TextKind.{TextKind}
use Rattle.swanroll_top.specs.Words.{Asked, a_drain, a_report, a_rollback, a_run, a_text, a_trial, an_agent, asked_by, asked_in, guests_in, held_in, limits_in, migration_in, names_of, origin_in, other_kind_named, rollback_in, shape_in, text_or_other, what_is_held, with_kind, with_pairs}
use Rattle.swanroll_top.specs.declared.words.Kind.{Kind}
use Rattle.swanroll_top.specs.declared.words.Kind.TheVariants.{Text, Report, Agent, Trial, Run, Drain, Rollback, Held}

-- a text where the test passes
map-where : (test : Bool) (found : Option TextAsked) → (if test then option_map a_text found else None) ≡ option_map a_text (if test then found else None)
map-where true found = refl
map-where false found = refl

-- the text that is mapped is the one that was there
unmapped : (found : Option TextAsked) (what : TextAsked) → option_map a_text found ≡ Some (a_text what) → found ≡ Some what
unmapped None what h = absurd (cc h)
unmapped (Some other) what h = let same : other ≡ what = cc h in ap Some same

-- ---- what asks for no text

abbrev is_text : Asked → Bool
is_text (a_text what) = true
is_text other = false

abbrev AsksNoText : Option Asked → Type 0
AsksNoText None = Unit {0}
AsksNoText (Some asked) = is_text asked ≡ false

map-other : {A : Type 0} (f : A → Asked) → ((a : A) → is_text (f a) ≡ false) → (found : Option A) → AsksNoText (option_map f found)
map-other f no_text None = tt
map-other f no_text (Some a) = no_text a

then-other : {A : Type 0} (f : A → Option Asked) → ((a : A) → AsksNoText (f a)) → (found : Option A) → AsksNoText (option_and_then f found)
then-other f no_text None = tt
then-other f no_text (Some a) = no_text a

where-other : (test : Bool) (found : Option Asked) → AsksNoText found → AsksNoText (if test then found else None)
where-other true found no_text = no_text
where-other false found no_text = tt

abbrev is_other : Kind → Bool
is_other (Text kind) = false
is_other other = true

-- a kind that was found under another word
abbrev AreOther : Option Kind → Type 0
AreOther None = Unit {0}
AreOther (Some kind) = is_other kind ≡ true

one-more : (test : Bool) (kind : Kind) (rest : Option Kind) → is_other kind ≡ true → AreOther rest → AreOther (if test then Some kind else rest)
one-more true kind rest other are = other
one-more false kind rest other are = are

others : (word : List ℕ) → AreOther (other_kind_named word)
others word =
    one-more (bytes_eq word (codes "report")) Report _ refl
    (one-more (bytes_eq word (codes "agent")) Agent _ refl
    (one-more (bytes_eq word (codes "trial")) Trial _ refl
    (one-more (bytes_eq word (codes "run")) Run _ refl
    (one-more (bytes_eq word (codes "drain")) Drain _ refl
    (one-more (bytes_eq word (codes "rollback")) Rollback _ refl
    (one-more (bytes_eq word (codes "held")) Held None refl tt))))))

module _ (policies : List (List ℕ × (OpView → ℕ))) (pairs : List (List ℕ)) where
  pairs-other : (kind : Kind) → is_other kind ≡ true → AsksNoText (with_pairs policies pairs kind)
  pairs-other (Text kind) other = absurd (cc other)
  pairs-other Report other = map-other a_report (λ migration. refl) (migration_in pairs)
  pairs-other Agent other = map-other an_agent (λ guests. refl) (guests_in pairs)
  pairs-other Trial other = then-other (λ shape. option_map (a_trial shape) (policy_in policies pairs)) (λ shape. map-other (a_trial shape) (λ policy. refl) (policy_in policies pairs)) (shape_in pairs)
  pairs-other Run other = then-other (λ limits. option_map (a_run limits) (policy_in policies pairs)) (λ limits. map-other (a_run limits) (λ policy. refl) (policy_in policies pairs)) (limits_in pairs)
  pairs-other Drain other = map-other a_drain (λ limits. refl) (limits_in pairs)
  pairs-other Rollback other = then-other (λ limits. option_map (a_rollback limits) (origin_in pairs)) (λ limits. map-other (a_rollback limits) (λ origin. refl) (origin_in pairs)) (rollback_in pairs)
  pairs-other Held other = map-other what_is_held (λ rounds. refl) (held_in pairs)

  kind-other : (kind : Kind) → is_other kind ≡ true → AsksNoText (with_kind policies pairs kind)
  kind-other kind other = where-other (are_pairs (names_of kind) pairs) (with_pairs policies pairs kind) (pairs-other kind other)

  -- the word of a text asks for that text
  text-as : (kind : TextKind) → with_kind policies pairs (Text kind) ≡ option_map a_text (text_with_kind policies pairs kind)
  text-as kind = map-where (are_pairs (text_names_of kind) pairs) (text_with_pairs policies pairs kind)

  word-alone : (named : Option TextKind) (other : Option Kind) (what : TextAsked) → option_and_then (text_with_kind policies pairs) named ≡ Some what
      → option_and_then (with_kind policies pairs) (text_or_other named other) ≡ Some (a_text what)
  word-alone None other what is = absurd (cc is)
  word-alone (Some kind) other what is = text-as kind ∙ ap (option_map a_text) is

  other-no-text : (other : Option Kind) (what : TextAsked) → AreOther other → option_and_then (with_kind policies pairs) other ≡ Some (a_text what) → ⊥
  other-no-text None what are is = cc is
  other-no-text (Some kind) what are is = let no_text : is_text (a_text what) ≡ false = subst AsksNoText is (kind-other kind are) in cc no_text

  word-whole : (named : Option TextKind) (other : Option Kind) (what : TextAsked) → AreOther other → option_and_then (with_kind policies pairs) (text_or_other named other) ≡ Some (a_text what)
      → option_and_then (text_with_kind policies pairs) named ≡ Some what
  word-whole None other what are is = absurd (other-no-text other what are is)
  word-whole (Some kind) other what are is = unmapped (text_with_kind policies pairs kind) what (sym (text-as kind) ∙ is)

-- ---- all words

module _ (policies : List (List ℕ × (OpView → ℕ))) where
  alone : (words : List (List ℕ)) (what : TextAsked) → text_asked_in policies words ≡ Some what → asked_in policies words ≡ Some (a_text what)
  alone [] what is = absurd (cc is)
  alone (word ∷ pairs) what is = word-alone policies pairs (text_kind_named word) (other_kind_named word) what is

  whole : (words : List (List ℕ)) (what : TextAsked) → asked_in policies words ≡ Some (a_text what) → text_asked_in policies words ≡ Some what
  whole [] what is = absurd (cc is)
  whole (word ∷ pairs) what is = word-whole policies pairs (text_kind_named word) (other_kind_named word) what (others word) is

  pub asked-alone : (words : List (String Global)) (what : TextAsked) → text_asked_by policies words ≡ Some what → asked_by policies words ≡ Some (a_text what)
  unfolding asked_by text_asked_by
  asked-alone words what is = alone (map string_bytes words) what is

  pub asked-whole : (words : List (String Global)) (what : TextAsked) → asked_by policies words ≡ Some (a_text what) → text_asked_by policies words ≡ Some what
  unfolding asked_by text_asked_by
  asked-whole words what is = whole (map string_bytes words) what is
