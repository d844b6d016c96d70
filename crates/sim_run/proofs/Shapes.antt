-- The line of a trial's numbers, put together.
use Rattle.std.proofs.Common.{◌≡◌, ℕ, ◌*◌, List, ◌++◌, codes, ap, ap₂, ◌∙◌, append_assoc}
use Rattle.sim_run.specs.declared.shape.Shape.{Shape}
use Rattle.sim_run.specs.TrialText.{pair_text, shape_line}

four : (t a b c d : List ℕ) → (((t ++ a) ++ b) ++ c) ++ d ≡ t ++ (((a ++ b) ++ c) ++ d)
four t a b c d = ap (λ x. (x ++ c) ++ d) (append_assoc t a b) ∙ ap (λ x. x ++ d) (append_assoc t (a ++ b) c) ∙ append_assoc t ((a ++ b) ++ c) d

pub shape_told : (s : Shape) (t first second third last : List ℕ) (switches flows k : ℕ) → switches ≡ s.switches → flows ≡ s.flows → k ≡ s.k
    → first ≡ t ++ pair_text (codes "trial: switches ") switches (codes ", links ") (2 * switches)
    → second ≡ first ++ pair_text (codes ", flows ") flows (codes ", tunnels ") (2 * flows)
    → third ≡ second ++ pair_text (codes ", k ") k (codes ", seed ") s.seed
    → last ≡ third ++ codes "\n" → last ≡ t ++ shape_line s
shape_told s t first second third last switches flows k es ef ek e1 e2 e3 e4 =
    e4 ∙ ap (λ x. x ++ codes "\n")
    (e3 ∙ ap₂ (λ x n. x ++ pair_text (codes ", k ") n (codes ", seed ") s.seed)
    (e2 ∙ ap₂ (λ x n. x ++ pair_text (codes ", flows ") n (codes ", tunnels ") (2 * n))
    (e1 ∙ ap (λ n. t ++ pair_text (codes "trial: switches ") n (codes ", links ") (2 * n)) es) ef) ek)
    ∙ four t (pair_text (codes "trial: switches ") s.switches (codes ", links ") (2 * s.switches)) (pair_text (codes ", flows ") s.flows (codes ", tunnels ") (2 * s.flows))
    (pair_text (codes ", k ") s.k (codes ", seed ") s.seed) (codes "\n")
