-- The name of a switch or of a flow by its number, where there may be none with it.
use Rattle.std.proofs.Common.{◌≡◌, ◌⊎◌, inl, inr, ℕ, ◌<◌, ◌≤◌, List, [], codes, length, map, get_or, refl, sym, ap, ◌∙◌, arith}
use Rattle.std.proofs.lemmas.Bool.{cases_lt}
use Rattle.std.proofs.lemmas.List.{get_or-map, get_or_past, length-map}
use Rattle.rollout_rules.specs.Wan.{Problem, flow_at, no_flow, no_switch}
use Rattle.json.specs.Print.{escape_byte}
use Rattle.wan_text.specs.Named.{quoted_flow, quoted_name}
use Rattle.wan_text.specs.Names.{name_text, switch_text}

-- the name without letters
no_letters : codes "\"\"" ≡ name_text []
unfolding escape_byte
no_letters = refl

-- the name of a row by its number, or of one that isn't there
named : {Row : Type 0} (text : Row → List ℕ) (rows : List Row) (none : Row) (n : ℕ) → text none ≡ name_text [] → (n < length rows) ⊎ (length rows ≤ n) → get_or (map text rows) n (codes "\"\"") ≡ text (get_or rows n none)
named text rows none n empty (inl lt) = get_or-map text rows n none (codes "\"\"") lt
named text rows none n empty (inr le) =
    get_or_past (map text rows) n (codes "\"\"") (omega (arith, length-map rows text, le)) ∙ no_letters ∙ sym empty ∙ ap text (sym (get_or_past rows n none le))

pub switch-called : (names : List (List ℕ)) (p : Problem) (w : ℕ) → names ≡ map quoted_name p.switches → get_or names w (codes "\"\"") ≡ switch_text p w
switch-called names p w is =
    ap (λ ns. get_or ns w (codes "\"\"")) is ∙ named quoted_name p.switches no_switch w refl (cases_lt w (length p.switches))

pub flow-called : (names : List (List ℕ)) (p : Problem) (f : ℕ) → names ≡ map quoted_flow p.flows → get_or names f (codes "\"\"") ≡ name_text (flow_at p f).name
flow-called names p f is =
    ap (λ ns. get_or ns f (codes "\"\"")) is ∙ named quoted_flow p.flows no_flow f refl (cases_lt f (length p.flows))
