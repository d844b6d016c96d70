-- A text that is made of pieces: Some, or None once memory ran out.
use Rattle.std.specs.Prelude.{◌≡◌, ℕ, List, [], ◌++◌, Option, Some, None, IfSome, IsUtf8}
use Rattle.std.proofs.Common.{refl, ap, sym, ◌∙◌, append_assoc, append-nil}
use Rattle.std.proofs.lemmas.Str.{IsUtf8-append, IsUtf8-nil}

-- these bytes were added, or memory ran out now or before
abbrev pub Adds : Option (List ℕ) → List ℕ → Option (List ℕ) → Type 0
Adds (Some text) bytes now = IfSome now (λ longer. longer ≡ text ++ bytes)
Adds None bytes now = now ≡ None

Adds-nothing : (text : Option (List ℕ)) → Adds text [] text
Adds-nothing None = refl
Adds-nothing (Some text) = sym (append-nil text)

Adds-chain : (a b c : Option (List ℕ)) (first second : List ℕ) → Adds a first b → Adds b second c → Adds a (first ++ second) c
Adds-chain None None c first second before after = after
Adds-chain None (Some b) c first second before after = cc
Adds-chain (Some a) None None first second before after = tt
Adds-chain (Some a) None (Some c) first second before after = cc
Adds-chain (Some a) (Some b) None first second before after = tt
Adds-chain (Some a) (Some b) (Some c) first second before after =
    after ∙ ap (λ t. t ++ second) before ∙ append_assoc a first second

-- the same of bytes that are text
pub record AddsText (before : Option (List ℕ)) (bytes : List ℕ) (now : Option (List ℕ)) : Type 0 where
  pub utf8 : IsUtf8 bytes
  pub added : Adds before bytes now

pub AddsText-nothing : (text : Option (List ℕ)) → AddsText text [] text
AddsText-nothing text = record { utf8 = IsUtf8-nil; added = Adds-nothing text }

pub AddsText-chain : (a b c : Option (List ℕ)) (first second : List ℕ) → AddsText a first b → AddsText b second c → AddsText a (first ++ second) c
AddsText-chain a b c first second x y = record {
  utf8 = IsUtf8-append first second x.utf8 y.utf8;
  added = Adds-chain a b c first second x.added y.added;
}

pub AddsText-utf8 : (a b : Option (List ℕ)) (bytes : List ℕ) → AddsText a bytes b → IsUtf8 bytes
AddsText-utf8 a b bytes x = x.utf8
