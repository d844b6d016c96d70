-- An event of no part, of one, of two and of more: its answer is that of what its parts turn out to be.
use Rattle.std.proofs.Common.{◌≡◌, Result, Err, ap, sym, subst}
use Rattle.serde_json.specs.Data.{Data, Items, no_items, item}
use Rattle.rollout_rules.specs.declared.event.Act.{Act}
use Rattle.problem_json.specs.GrammarResults.{Reads}
use Rattle.problem_json.specs.GrammarScripts.{plain_event, event_with, event_of_parts}
use Rattle.problem_json.specs.declared.place.Place.{Place}
use Rattle.problem_json.specs.declared.fault.InputFault.{InputFault}
use Rattle.problem_json.specs.declared.fault.InputFault.TheVariants.{BadEvent}

-- what is answered is what a grammar says that is the same
as_said : (r : Result Act InputFault) (said grammar : Result Act InputFault) → grammar ≡ said → Reads r said → Reads r grammar
as_said r said grammar is h = subst (λ (g : Result Act InputFault). Reads r g) (sym is) h

pub no_part : (event : Place) (parts : Items) → parts ≡ no_items → event_of_parts event parts ≡ Err (BadEvent event)
unfolding event_of_parts
no_part event parts is = rw is

pub some_parts : (r : Result Act InputFault) (event : Place) (parts rest : Items) (d : Data) → parts ≡ item d rest
    → Reads r (event_of_parts event (item d rest)) → Reads r (event_of_parts event parts)
some_parts r event parts rest d is h = as_said r _ _ (ap (event_of_parts event) is) h

one_part : (event : Place) (d : Data) (rest : Items) → rest ≡ no_items → event_of_parts event (item d rest) ≡ plain_event event d
unfolding event_of_parts
one_part event d rest none = rw none

pub alone : (r : Result Act InputFault) (event : Place) (d : Data) (rest : Items) → rest ≡ no_items → Reads r (plain_event event d) → Reads r (event_of_parts event (item d rest))
alone r event d rest none h = as_said r _ _ (one_part event d rest none) h

pub with_parts : (r : Result Act InputFault) (event : Place) (d second : Data) (rest more : Items) → rest ≡ item second more
    → Reads r (event_of_parts event (item d (item second more))) → Reads r (event_of_parts event (item d rest))
with_parts r event d second rest more is h = as_said r _ _ (ap (λ ds. event_of_parts event (item d ds)) is) h

two_parts : (event : Place) (d second : Data) (rest : Items) → rest ≡ no_items → event_of_parts event (item d (item second rest)) ≡ event_with event d second
unfolding event_of_parts
two_parts event d second rest none = rw none

pub two : (r : Result Act InputFault) (event : Place) (d second : Data) (rest : Items) → rest ≡ no_items
    → Reads r (event_with event d second) → Reads r (event_of_parts event (item d (item second rest)))
two r event d second rest none h = as_said r _ _ (two_parts event d second rest none) h

pub more : (event : Place) (d second third : Data) (rest left : Items) → rest ≡ item third left → event_of_parts event (item d (item second rest)) ≡ Err (BadEvent event)
unfolding event_of_parts
more event d second third rest left is = rw is
