-- The last member of a name is the last that going over the nodes finds.
use Rattle.std.proofs.Common.{◌≡◌, ℕ, zero, suc, ◌-◌, ◌<◌, List, [], ◌∷◌, drop, length, Bool, true, false, Option, Some, if◌then◌else◌, bytes_eq, refl, ap, sym, ◌∙◌, arith, true≢false}
use Rattle.std.proofs.lemmas.Slice.Eq.{bytes_eq-Decides}
use Rattle.serde_json.specs.Data.{Data, Members, put}
use Rattle.serde_json.specs.Find.{get_member}
use Rattle.serde_json.proofs.Views.{get_member-put, get_member-put_other}
use Rattle.json_data.specs.Nodes.{Entry, first, behind, key_of, value_at, members_at}
use Rattle.json_data.specs.Found.{found_by}

one_put : (name k : List ℕ) (d : Data) (ms : Members) (b : Bool) → bytes_eq k name ≡ b → (if b then Some d else get_member name ms) ≡ get_member name (put k d ms)
one_put name k d ms true e =
    let same : k ≡ name = (bytes_eq-Decides k name).0 e in
    sym (get_member-put k d ms) ∙ ap (λ q. get_member q (put k d ms)) same
one_put name k d ms false e =
    sym (get_member-put_other name k d ms (λ same. true≢false (sym ((bytes_eq-Decides k name).1 (sym same)) ∙ e)))

pub found_is : (name : List ℕ) (count : ℕ) (ns : List Entry) (ms : Members) → found_by name count ns (get_member name ms) ≡ get_member name (members_at count ns ms)
unfolding members_at
found_is name zero ns ms = refl
found_is name (suc count) [] ms = refl
found_is name (suc count) (key ∷ ns) ms =
    ap (found_by name count (behind ns)) (one_put name (key_of key) (value_at ns) ms (bytes_eq (key_of key) name) refl)
    ∙ found_is name count (behind ns) (put (key_of key) (value_at ns) ms)

pub found_next : (name : List ℕ) (count : ℕ) (ns : List Entry) (found : Option Data) → 0 < count → 0 < length ns
    → found_by name count ns found ≡ found_by name (count - 1) (behind (drop 1 ns)) (if bytes_eq (key_of (first ns)) name then Some (value_at (drop 1 ns)) else found)
found_next name zero ns found some more = absurd (omega arith)
found_next name (suc count) [] found some more = absurd (omega arith)
found_next name (suc count) (n ∷ ns) found some more =
    let same : count ≡ suc count - 1 = omega arith in
    ap (λ k. found_by name k (behind ns) (if bytes_eq (key_of n) name then Some (value_at ns) else found)) same

pub found_ended : (name : List ℕ) (count : ℕ) (ns : List Entry) (found : Option Data) → count ≡ 0 → found_by name count ns found ≡ found
found_ended name count ns found none = ap (λ k. found_by name k ns found) none

pub found_past : (name : List ℕ) (count : ℕ) (ns : List Entry) (found : Option Data) → length ns ≡ 0 → found_by name count ns found ≡ found
found_past name zero ns found none = refl
found_past name (suc count) [] found none = refl
found_past name (suc count) (n ∷ ns) found none = absurd (omega arith)

module _ (name : List ℕ) (count : ℕ) (ns value next : List Entry) (key : Entry) (found later : Option Data) (some : 0 < count) (more : 0 < length ns) (rest : value ≡ drop 1 ns) (is_first : key ≡ first ns) (passed : next ≡ behind value) where
  -- the same, after one key and its value
  step : (named : Bool) → named ≡ bytes_eq (key_of key) name → later ≡ (if named then Some (value_at value) else found) → found_by name (count - 1) next later ≡ found_by name count ns found
  step named is chosen =
      let at : behind value ≡ behind (drop 1 ns) = ap behind rest in
      let tested : named ≡ bytes_eq (key_of (first ns)) name = is ∙ ap (λ k. bytes_eq (key_of k) name) is_first in
      let picked : later ≡ (if bytes_eq (key_of (first ns)) name then Some (value_at (drop 1 ns)) else found) =
      chosen ∙ ap (λ vs. if named then Some (value_at vs) else found) rest ∙ ap (λ b. if b then Some (value_at (drop 1 ns)) else found) tested in
      ap (λ ms. found_by name (count - 1) ms later) (passed ∙ at) ∙ ap (found_by name (count - 1) (behind (drop 1 ns))) picked
      ∙ sym (found_next name count ns found some more)

  pub step_named : (named : Bool) → named ≡ bytes_eq (key_of key) name → named ≡ true → later ≡ Some (value_at value) → found_by name (count - 1) next later ≡ found_by name count ns found
  step_named named is so chosen = step named is (chosen ∙ ap (λ b. if b then Some (value_at value) else found) (sym so))

  pub step_other : (named : Bool) → named ≡ bytes_eq (key_of key) name → named ≡ false → later ≡ found → found_by name (count - 1) next later ≡ found_by name count ns found
  step_other named is other chosen = step named is (chosen ∙ ap (λ b. if b then Some (value_at value) else found) (sym other))
