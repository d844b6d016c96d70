-- What it is that a switch is called so.
use Rattle.std.proofs.Common.{◌≡◌, ℕ, Bool, true, false, cond, List, Option, Some, None, nat_eq, refl, sym, ap, ◌∙◌, eqb-true}
use Rattle.std.proofs.Math.Path.{fun_ext}
use Rattle.std.proofs.lemmas.Slice.Eq.{bytes_eq-Decides}
use Rattle.wan_edge.specs.Fleets.{with_one}
use Rattle.lossy_link.specs.Names.{NameRows, is_called, name_at}

-- it has this name
pub called : (own : Option (List ℕ)) (name : List ℕ) → is_called own name ≡ true → own ≡ Some name
called None name is = absurd (cc is)
called (Some own) name is = ap Some ((bytes_eq-Decides own name).0 is)

pub not_called : (own : Option (List ℕ)) (name : List ℕ) → is_called own name ≡ false → own ≡ Some name → ⊥
not_called None name isnt same = absurd (cc same)
not_called (Some own) name isnt same =
    let names : own ≡ name = cc same in
    let both : true ≡ false = sym ((bytes_eq-Decides own name).1 names) ∙ isnt in
    cc

-- where it has the name already, calling it so changes nothing
stays_at : (names : NameRows) (switch : ℕ) (name : List ℕ) → is_called (name_at names switch) name ≡ true → (k : ℕ) → name_at names k ≡ with_one (name_at names) switch name k
stays_at names switch name is k = here (nat_eq k switch) refl
  where
    here : (at : Bool) → nat_eq k switch ≡ at → name_at names k ≡ cond at (Some name) (name_at names k)
    here true at = ap (name_at names) (eqb-true k switch at) ∙ called (name_at names switch) name is
    here false apart = refl

pub stays : (names : NameRows) (switch : ℕ) (name : List ℕ) → is_called (name_at names switch) name ≡ true → name_at names ≡ with_one (name_at names) switch name
stays names switch name is = fun_ext (stays_at names switch name is)
