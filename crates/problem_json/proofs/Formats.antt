-- The format of a written problem, and the lists after it, are found at their keys.
use Rattle.std.proofs.Common.{◌≡◌, ℕ, zero, suc, ◌≤◌, Bool, true, false, [], ◌==◌, if◌then◌else◌, Result, Ok, codes, refl, sym, ap, arith}
use Rattle.std.proofs.lemmas.Bool.{eqb-true}
use Rattle.rollout_rules.specs.Network.{IsFormat, IsWidth}
use Rattle.rollout_rules.specs.Wan.{Problem}
use Rattle.rollout_rules.specs.declared.limits.TheConstants.{LARGEST_WIDTH}
use Rattle.serde_json.specs.Data.{Data, object, no_members, member}
use Rattle.problem_json.specs.GrammarValues.{member_in, whole_in, width_in, width_of}
use Rattle.problem_json.specs.Grammar.{empty_in, empty_of_format, empty_of}
use Rattle.problem_json.specs.GrammarResults.{◌>>=◌}
use Rattle.problem_json.specs.Writing.{number_data}
use Rattle.problem_json.specs.declared.key.Key.TheVariants as key
use Rattle.problem_json.specs.declared.place.Place.{Place}
use Rattle.problem_json.specs.declared.fault.InputFault.{InputFault}
use Rattle.problem_json.proofs.ReadValues.{width_in-number}

-- the object of a problem in a format, which it says unless it is plain
abbrev with_lists : Bool → ℕ → Data → Data → Data → Data
with_lists plain format flows links switches =
    let behind = member (codes "links") links (member (codes "switches") switches no_members) in
    object (member (codes "flows") flows (if plain then behind else member (codes "format") (number_data format) behind))

pub links_found : (owner : Place) (plain : Bool) (format : ℕ) (flows links switches : Data) → member_in owner key.Links (with_lists plain format flows links switches) ≡ Ok links
unfolding member_in
links_found owner true format flows links switches = refl
links_found owner false format flows links switches = refl

pub switches_found : (owner : Place) (plain : Bool) (format : ℕ) (flows links switches : Data) → member_in owner key.Switches (with_lists plain format flows links switches) ≡ Ok switches
unfolding member_in
switches_found owner true format flows links switches = refl
switches_found owner false format flows links switches = refl

abbrev empty_problem : ℕ → Problem
empty_problem format = record { format = format; switches = []; links = []; flows = []; tunnels = [] }

pub format_found : (format : ℕ) (flows links switches : Data) → IsFormat format → empty_of (with_lists (format == 1) format flows links switches) ≡ Ok (empty_problem format)
unfolding empty_of empty_of_format empty_in whole_in
format_found zero flows links switches is = absurd (omega (arith, is.low))
format_found (suc zero) flows links switches is = refl
format_found (suc (suc zero)) flows links switches is = refl
format_found (suc (suc (suc n))) flows links switches is = absurd (omega (arith, is.high))

-- the object of a tunnel, with its width unless the format is plain
abbrev with_rates : Bool → Data → Data → Data → ℕ → Data
with_rates plain new old path width =
    object (member (codes "new") new (member (codes "old") old (member (codes "path") path
    (if plain then no_members else member (codes "width") (number_data width) no_members))))

abbrev width_asked : Place → Place → Bool → Data → Result ℕ InputFault
width_asked owner place plain d = if plain then Ok 1 else (member_in owner key.Width d >>= width_in place)

width_found : (owner place : Place) (plain : Bool) (new old path : Data) (width : ℕ) → 1 ≤ width → width ≤ LARGEST_WIDTH → (plain ≡ true → width ≡ 1) → width_asked owner place plain (with_rates plain new old path width) ≡ Ok width
unfolding member_in
width_found owner place true new old path width some most one = ap Ok (sym (one refl))
width_found owner place false new old path width some most one = width_in-number place width some most

pub width_is_read : (owner place : Place) (p : Problem) (new old path : Data) (width : ℕ) → IsWidth p width → width_of owner place p.format (with_rates (p.format == 1) new old path width) ≡ Ok width
unfolding width_of
width_is_read owner place p new old path width is = width_found owner place (p.format == 1) new old path width is.some is.most (λ e. is.plain (eqb-true p.format 1 e))
