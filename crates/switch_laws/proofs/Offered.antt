-- Which commands stand among the bytes that were offered.
use Rattle.std.proofs.Common.{◌≡◌, ℕ, List, [], ◌∷◌, ◌++◌, length, take, drop, refl, sym, ap, subst, ◌∙◌, append_assoc, arith, length-append, take-append-drop}
use Rattle.std.proofs.lemmas.Grind.{flat_map-append}
use Rattle.std.proofs.lemmas.List.Elements.{All-append, All-cons, All-head, All-nil, All-tail, Contains-append_right}
use Rattle.std.specs.List.{All, Contains, flat_map}
use Rattle.wan_edge.specs.Frames.{Command, CommandFrame, IsCommand, command_bytes}
use Rattle.wan_edge.specs.Ports.{IsOffered}
use Rattle.wan_edge.proofs.Sizes.{command-some}
use Rattle.wire_frames.proofs.OneSpelling.{one_command}
use Rattle.port_session.specs.Offers.{frames_of}

-- commands of a migration, as frames
abbrev pub framed : ℕ → List Command → List CommandFrame
framed migration [] = []
framed migration (c ∷ cs) = (migration, c) ∷ framed migration cs

pub frames-framed : (migration : ℕ) (commands : List Command) → frames_of migration commands ≡ flat_map command_bytes (framed migration commands)
frames-framed migration [] = refl
frames-framed migration (c ∷ cs) = ap (λ (xs : List ℕ). command_bytes (migration, c) ++ xs) (frames-framed migration cs)

pub all_framed : (P : CommandFrame → Type 0) (migration : ℕ) (commands : List Command) → All (λ c. P (migration, c)) commands → All P (framed migration commands)
all_framed P migration [] all = All-nil P
all_framed P migration (c ∷ cs) all =
    All-cons P (migration, c) (framed migration cs) (All-head (λ d. P (migration, d)) c cs all) (all_framed P migration cs (All-tail (λ d. P (migration, d)) c cs all))

none_there : (earlier : List CommandFrame) (c : CommandFrame) (behind : List ℕ) → [] ≡ flat_map command_bytes earlier ++ (command_bytes c ++ behind) → ⊥
none_there earlier c behind e =
    absurd (omega (arith, ap length e, length-append (flat_map command_bytes earlier) (command_bytes c ++ behind), length-append (command_bytes c) behind, command-some c))

-- a command that stands after others in a row of whole commands is one of these
one_of_row : (xs earlier : List CommandFrame) (c : CommandFrame) (behind : List ℕ) → All IsCommand xs → All IsCommand earlier → IsCommand c → flat_map command_bytes xs ≡ flat_map command_bytes earlier ++ (command_bytes c ++ behind) → Contains xs c
one_of_row [] earlier c behind xs_fit earlier_fit fits e = absurd (none_there earlier c behind e)
one_of_row (x ∷ xs) [] c behind xs_fit earlier_fit fits e =
    let parts = one_command x c (flat_map command_bytes xs) behind (All-head IsCommand x xs xs_fit) fits e in
    subst (λ (d : CommandFrame). Contains (x ∷ xs) d) parts.0 (0, omega arith, refl)
one_of_row (x ∷ xs) (y ∷ ys) c behind xs_fit earlier_fit fits e =
    let apart = e ∙ append_assoc (command_bytes y) (flat_map command_bytes ys) (command_bytes c ++ behind) in
    let parts = one_command x y (flat_map command_bytes xs) (flat_map command_bytes ys ++ (command_bytes c ++ behind)) (All-head IsCommand x xs xs_fit) (All-head IsCommand y ys earlier_fit) apart in
    Contains-append_right (x ∷ []) xs c (one_of_row xs ys c behind (All-tail IsCommand x xs xs_fit) (All-tail IsCommand y ys earlier_fit) fits parts.1)

-- one that was offered is among those that were there and those of which a front went out
pub one_offered : (there more : List CommandFrame) (count : ℕ) (c : CommandFrame) → All IsCommand there → All IsCommand more → IsOffered (flat_map command_bytes there ++ take count (flat_map command_bytes more)) c → Contains (there ++ more) c
one_offered there more count c there_fit more_fit is =
    let first = flat_map command_bytes there in
    let all = flat_map command_bytes more in
    let whole : flat_map command_bytes (there ++ more) ≡ (first ++ take count all) ++ drop count all
    = flat_map-append command_bytes there more ∙ ap (λ (xs : List ℕ). first ++ xs) (sym (take-append-drop count all)) ∙ sym (append_assoc first (take count all) (drop count all)) in
    let parts : (first ++ take count all) ++ drop count all ≡ flat_map command_bytes is.earlier ++ (command_bytes c ++ (is.behind ++ drop count all))
    = ap (λ (xs : List ℕ). xs ++ drop count all) is.parts ∙ append_assoc (flat_map command_bytes is.earlier) (command_bytes c ++ is.behind) (drop count all)
    ∙ ap (λ (xs : List ℕ). flat_map command_bytes is.earlier ++ xs) (append_assoc (command_bytes c) is.behind (drop count all)) in
    one_of_row (there ++ more) is.earlier c (is.behind ++ drop count all) (All-append IsCommand there more there_fit more_fit) is.earlier_fit is.fits (whole ∙ parts)
