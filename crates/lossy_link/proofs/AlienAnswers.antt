-- What answering one command more with a number comes to.
use Rattle.std.proofs.Common.{◌≡◌, ℕ, List, [], ◌∷◌, ◌++◌, map, sym, ap, ◌∙◌}
use Rattle.std.specs.List.{flat_map}
use Rattle.std.proofs.lemmas.Grind.{flat_map-append}
use Rattle.std.proofs.lemmas.List.{append-nil, map-append}
use Rattle.wan_edge.specs.Frames.{CommandFrame, answer_bytes}
use Rattle.lossy_link.specs.Aliens.{AreAnsweredWith, alien_answer, alien_bytes}
use Rattle.lossy_link.specs.WayBack.{Back, with_due}
use Rattle.lossy_link.proofs.Answering.{due-append}

alien_bytes-append : (number : ℕ) (xs ys : List CommandFrame) → alien_bytes number (xs ++ ys) ≡ alien_bytes number xs ++ alien_bytes number ys
alien_bytes-append number xs ys = ap (flat_map answer_bytes) (map-append (alien_answer number) xs ys) ∙ flat_map-append answer_bytes (map (alien_answer number) xs) (map (alien_answer number) ys)

pub none_answered : (number : ℕ) (b : Back) → AreAnsweredWith number b b []
none_answered number b = ap (λ (due : List ℕ). let c : Back = record { heard = b.heard; due = due } in c) (sym (append-nil b.due))

-- one command more is answered
pub answered_on : (number : ℕ) (first back back_now : Back) (c : CommandFrame) → back_now ≡ with_due back (answer_bytes (alien_answer number c)) → (cs : List CommandFrame) → AreAnsweredWith number first back cs → AreAnsweredWith number first back_now (cs ++ c ∷ [])
answered_on number first back back_now c is cs so =
    let bytes = answer_bytes (alien_answer number c) in
    is ∙ ap (λ (b : Back). with_due b bytes) so ∙ due-append first (alien_bytes number cs) bytes
    ∙ ap (with_due first) (ap (λ (xs : List ℕ). alien_bytes number cs ++ xs) (sym (append-nil bytes)) ∙ sym (alien_bytes-append number cs (c ∷ [])))
