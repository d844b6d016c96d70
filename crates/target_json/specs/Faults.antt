-- The line of a fault, without its line feed.
use Rattle.std.specs.Prelude.{ℕ, List, ◌++◌, codes, decimal}
use Rattle.target_json.specs.Keys.{key_text}
use Rattle.target_json.specs.Places.{place_text}
use Rattle.target_json.specs.declared.fault.Wrong.{Wrong}
use Rattle.target_json.specs.declared.fault.Wrong.TheVariants.{Missing, Kind, NotWhole, Above, Below, OtherFlow, UnknownSwitch, NoSuchLink, LinkTwice}
use Rattle.target_json.specs.declared.fault.TargetFault.{TargetFault}
use Rattle.target_json.specs.declared.fault.TargetFault.TheVariants.{NotJson, At, Memory}

abbrev pub wrong_text : Wrong → List ℕ
wrong_text (Missing key) = codes "missing \"" ++ key_text key ++ codes "\""
wrong_text Kind = codes "wrong kind"
wrong_text NotWhole = codes "not a whole number"
wrong_text (Above found limit) = decimal found ++ codes " above " ++ decimal limit
wrong_text (Below found limit) = decimal found ++ codes " below " ++ decimal limit
wrong_text OtherFlow = codes "not the name of this flow"
wrong_text UnknownSwitch = codes "unknown switch"
wrong_text NoSuchLink = codes "no such link"
wrong_text LinkTwice = codes "link twice"

abbrev pub fault_text : TargetFault → List ℕ
fault_text NotJson = codes "input: not JSON"
fault_text (At place wrong) = codes "input: " ++ place_text place ++ codes ": " ++ wrong_text wrong
fault_text Memory = codes "out of memory"
