-- Ports that are taken over one after the other.
use Rattle.std.proofs.Common.{◌≡◌, ℕ, ◌+◌, ◌==◌, ◌||◌, false, List, [], ◌∷◌, ◌++◌, IsPermutation, length, map, length-append, refl, sym, ap, ap₂, ◌∙◌, subst}
use Rattle.std.specs.Prelude.{nat_eq}
use Rattle.std.specs.Cmp.{nat_eq_equiv}
use Rattle.std.specs.List.{AllByRecursion, IsDistinct, list_any}
use Rattle.std.proofs.lemmas.List.Elements.{All-push}
use Rattle.std.proofs.lemmas.List.Sorted.{IsPermutation-map, IsPermutation-trans}
use Rattle.std.proofs.lemmas.Map.Keys.{IsDistinct-IsPermutation, IsDistinct-head, IsDistinct-tail}
use Rattle.port_session.specs.Sessions.{SessionView, first_session}
use Rattle.switch_ports.specs.Rows.{IsLast}
use Rattle.controller_run.specs.Shifts.{AreFresh}
use Rattle.controller_run.proofs.Rows.{all_pop}
use Rattle.controller_run.proofs.Shuffles.{to_front, to_middle}

abbrev pub switches : {P : Type 0} → List (SessionView P) → List ℕ
switches talks = map (λ t. t.switch) talks

-- no two switches are equal, in any order
pub apart_in_any_order : {P : Type 0} (xs ys : List (SessionView P)) → IsPermutation xs ys → IsDistinct nat_eq (switches xs) → IsDistinct nat_eq (switches ys)
apart_in_any_order xs ys same apart = IsDistinct-IsPermutation nat_eq nat_eq_equiv.symm (switches xs) (switches ys) (IsPermutation-map (λ (t : SessionView _). t.switch) xs ys same) apart

module _ {P : Type 0} (switch : ℕ) where
  none_in : (own rest : List (SessionView P)) → AllByRecursion (λ n. nat_eq switch n ≡ false) (switches (own ++ rest)) → list_any (λ s. switch == s.switch) own ≡ false
  none_in [] rest all = refl
  none_in (t ∷ own) rest all = ap₂ (λ a b. a || b) all.0 (none_in own rest all.1)

module _ {P : Type 0} (own before rest : List (SessionView P)) (switch : ℕ) (port : P) (last : IsLast switch port before rest) (fresh : AreFresh before) where
  abbrev talk : SessionView P
  talk = first_session switch port

  fresh_parts : AreFresh rest × (last.talk ≡ first_session last.talk.switch last.talk.port)
  fresh_parts = all_pop (λ t. t ≡ first_session t.switch t.port) rest last.talk (subst AreFresh last.parts fresh)

  pub is_talk : before ≡ rest ++ talk ∷ []
  is_talk = last.parts ∙ ap (λ (t : SessionView P). rest ++ t ∷ []) (fresh_parts.1 ∙ ap₂ (λ (n : ℕ) (p : P). first_session n p) last.switch_is last.port_is)

  pub left : AreFresh rest
  left = fresh_parts.0

  pub grown : AreFresh own → AreFresh (own ++ talk ∷ [])
  grown all = All-push (λ t. t ≡ first_session t.switch t.port) own talk all refl

  pub shorter : length before ≡ length rest + 1
  shorter = ap length is_talk ∙ length-append rest (talk ∷ [])

  to_own : IsPermutation (own ++ before) ((own ++ talk ∷ []) ++ rest)
  to_own = subst (λ (l : List (SessionView P)). IsPermutation (own ++ l) ((own ++ talk ∷ []) ++ rest)) (sym is_talk) (to_front own [] rest (talk ∷ []))

  pub apart_in : IsDistinct nat_eq (switches (own ++ before)) → IsDistinct nat_eq (switches ((own ++ talk ∷ []) ++ rest))
  apart_in apart = apart_in_any_order (own ++ before) ((own ++ talk ∷ []) ++ rest) to_own apart

  ahead : IsPermutation (own ++ before) (talk ∷ (own ++ rest))
  ahead = subst (λ (l : List (SessionView P)). IsPermutation (own ++ l) (talk ∷ (own ++ rest))) (sym is_talk) (to_front [] own rest (talk ∷ []))

  apart_ahead : IsDistinct nat_eq (switches (own ++ before)) → IsDistinct nat_eq (switch ∷ switches (own ++ rest))
  apart_ahead apart = apart_in_any_order (own ++ before) (talk ∷ (own ++ rest)) ahead apart

  pub new : IsDistinct nat_eq (switches (own ++ before)) → list_any (λ s. switch == s.switch) own ≡ false
  new apart = none_in switch own rest (IsDistinct-head nat_eq switch (switches (own ++ rest)) (apart_ahead apart))

  pub apart_out : IsDistinct nat_eq (switches (own ++ before)) → IsDistinct nat_eq (switches (own ++ rest))
  apart_out apart = IsDistinct-tail nat_eq switch (switches (own ++ rest)) (apart_ahead apart)

  module _ (whole spare : List (SessionView P)) (same : IsPermutation whole (own ++ (spare ++ before))) where
    parted : IsPermutation whole (own ++ (spare ++ (rest ++ talk ∷ [])))
    parted = subst (λ (l : List (SessionView P)). IsPermutation whole (own ++ (spare ++ l))) is_talk same

    pub same_in : IsPermutation whole ((own ++ talk ∷ []) ++ (spare ++ rest))
    same_in = IsPermutation-trans whole _ _ parted (to_front own spare rest (talk ∷ []))

    pub same_out : IsPermutation whole (own ++ ((spare ++ talk ∷ []) ++ rest))
    same_out = IsPermutation-trans whole _ _ parted (to_middle own spare rest (talk ∷ []))
