-- The line of a fault, without its line feed.
use Rattle.std.specs.Prelude.{ℕ, List, ◌++◌, codes, decimal}
use Rattle.problem_json.specs.PlaceTexts.{place_text}
use Rattle.problem_json.specs.Keys.{key_text}
use Rattle.problem_json.specs.declared.place.Place.{Place}
use Rattle.problem_json.specs.declared.fault.InputFault.{InputFault}
use Rattle.problem_json.specs.declared.fault.InputFault.TheVariants.{NotJson, Missing, WrongKind, NotWhole, TooMany, TooLarge, NameTwice, UnknownSwitch, LinkTwice, NoSuchLink, SwitchTwice, EndsDiffer, ShortPath, Memory, BadEvent, BadFormat, WidthZero, BadProof}

-- what is wrong at a place
abbrev pub wrong_at : Place → List ℕ → List ℕ
wrong_at place what = codes "input: " ++ place_text place ++ codes ": " ++ what

abbrev pub above_text : ℕ → ℕ → List ℕ
above_text found limit = decimal found ++ codes " above " ++ decimal limit

abbrev pub fault_text : InputFault → List ℕ
fault_text NotJson = codes "input: not JSON"
fault_text (Missing place key) = wrong_at place (codes "missing \"" ++ key_text key ++ codes "\"")
fault_text (WrongKind place) = wrong_at place (codes "wrong kind")
fault_text (NotWhole place) = wrong_at place (codes "not a whole number")
fault_text (TooMany place found limit) = wrong_at place (above_text found limit)
fault_text (TooLarge place found limit) = wrong_at place (above_text found limit)
fault_text (NameTwice place) = wrong_at place (codes "name twice")
fault_text (UnknownSwitch place) = wrong_at place (codes "unknown switch")
fault_text (LinkTwice place) = wrong_at place (codes "link twice")
fault_text (NoSuchLink place) = wrong_at place (codes "no such link")
fault_text (SwitchTwice place) = wrong_at place (codes "switch twice")
fault_text (EndsDiffer place) = wrong_at place (codes "ends differ")
fault_text (ShortPath place count) = wrong_at place (decimal count ++ codes " below 2")
fault_text Memory = codes "out of memory"
fault_text (BadEvent place) = wrong_at place (codes "no event")
fault_text (BadFormat place format) = wrong_at place (codes "format " ++ decimal format)
fault_text (WidthZero place) = wrong_at place (codes "width 0")
fault_text (BadProof place) = wrong_at place (codes "not shown")
