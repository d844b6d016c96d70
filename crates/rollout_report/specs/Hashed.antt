-- A text of which only the digest is kept.
use Rattle.std.specs.Prelude.{ℕ, List, [], ◌++◌, IsUtf8}
use Rattle.std.proofs.Common.{sym, subst, append_assoc, append-nil}
use Rattle.std.proofs.lemmas.Str.{IsUtf8-append, IsUtf8-nil}
use Rattle.sha2.specs.Hashers.{Holds256}
use Rattle.rollout_report.specs.declared.hashed_text.HashedText.{HashedText}

-- these bytes, which are UTF-8, were hashed after those that were before
pub record Hashes (before : HashedText) (bytes : List ℕ) (after : HashedText) : Type 0 where
  pub utf8 : IsUtf8 bytes
  pub hashed : (m : List ℕ) → Holds256 before.hash m → Holds256 after.hash (m ++ bytes)

pub Hashes-nothing : (text : HashedText) → Hashes text [] text
Hashes-nothing text = record {
  utf8 = IsUtf8-nil;
  hashed = λ m holds. subst (λ all. Holds256 text.hash all) (sym (append-nil m)) holds;
}

pub Hashes-chain : (a b c : HashedText) (first second : List ℕ) → Hashes a first b → Hashes b second c → Hashes a (first ++ second) c
Hashes-chain a b c first second before after = record {
  utf8 = IsUtf8-append first second before.utf8 after.utf8;
  hashed = λ m holds. subst (λ all. Holds256 c.hash all) (append_assoc m first second) (after.hashed (m ++ first) (before.hashed m holds));
}

pub Hashes-utf8 : (a b : HashedText) (bytes : List ℕ) → Hashes a bytes b → IsUtf8 bytes
Hashes-utf8 a b bytes x = x.utf8
