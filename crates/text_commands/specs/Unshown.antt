-- The line that says why it isn't shown that fewer rate steps are impossible.
use Rattle.std.specs.Prelude.{ℕ, List, codes}
use Rattle.text_commands.specs.declared.unshown.Unshown.{Unshown}
use Rattle.text_commands.specs.declared.unshown.Unshown.TheVariants.{Fewer, Wide, Overflow, Spent}

abbrev pub unshown_line : Unshown → List ℕ
unshown_line Fewer = codes "least: fewer steps fit\n"
unshown_line Wide = codes "least: too wide\n"
unshown_line Overflow = codes "least: overflow\n"
unshown_line Spent = codes "least: pivots spent\n"
