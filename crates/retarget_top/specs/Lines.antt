-- The lines of `retarget` that other commands don't have.
use Rattle.std.specs.Prelude.{◌⊎◌, ℕ, List, [], ◌++◌, codes}
use Rattle.wan_edge.specs.Streams.{Appends, AppendsPart, Rose, SinkTrace}
use Rattle.target_json.specs.Faults.{fault_text}
use Rattle.target_json.specs.declared.fault.TargetFault.{TargetFault}

-- a document without such a target, and a link that its problem doesn't have
abbrev pub target_line : TargetFault → List ℕ
target_line fault = fault_text fault ++ codes "\n"

abbrev pub no_link_line : List ℕ → List ℕ
no_link_line name = codes "shed: no such link: " ++ name ++ codes "\n"

-- the notes have this text, or a part of it where they failed
abbrev pub NotesText : List ℕ → SinkTrace → SinkTrace → Type 0
NotesText text before now = Appends before.written text now.written ⊎ (AppendsPart before.written text now.written × Rose before.faults now.faults)
