-- The statuses and the lines of rollouts that weren't finished.
use Rattle.std.specs.Prelude.{ℕ, List, ◌++◌, codes, decimal}
use Rattle.rollout_rules.specs.Wan.{Problem}
use Rattle.wan_text.specs.Names.{switch_text}
use Rattle.text_commands.specs.declared.unfinished.Unfinished.{Unfinished}
use Rattle.text_commands.specs.declared.unfinished.Unfinished.TheVariants.{RoundsSpent, PortFault, Above, NotMine, NoAnswer, Held}

abbrev pub unfinished_status : Unfinished → ℕ
unfinished_status (RoundsSpent rounds item number) = 5
unfinished_status (PortFault r switch) = 9
unfinished_status (Above item held begun) = 11
unfinished_status (NotMine r switch item) = 11
unfinished_status (NoAnswer r switch byte) = 11
unfinished_status (Held left) = 14

-- in how many rounds commands were offered, and an operation that was still in flight
abbrev pub spent_line : ℕ → ℕ → ℕ → List ℕ
spent_line rounds item number = codes "rounds spent: rounds " ++ decimal rounds ++ codes ", item " ++ decimal item ++ codes " operation " ++ decimal number ++ codes "\n"

abbrev pub port_line : Problem → ℕ → List ℕ
port_line p switch = codes "port fault at " ++ switch_text p switch ++ codes "\n"

-- what a switch told that can't be: a number above what was begun, an item that isn't its own, a byte that begins no answer
abbrev pub above_line : ℕ → ℕ → ℕ → List ℕ
above_line item held begun = codes "alien: item " ++ decimal item ++ codes " held " ++ decimal held ++ codes " above " ++ decimal begun ++ codes "\n"

abbrev pub item_not_of : ℕ → List ℕ
item_not_of item = codes "alien: item " ++ decimal item ++ codes " not of "

abbrev pub not_mine_line : Problem → ℕ → ℕ → List ℕ
not_mine_line p switch item = item_not_of item ++ switch_text p switch ++ codes "\n"

abbrev pub byte_is_none : ℕ → List ℕ
byte_is_none byte = codes "alien: byte " ++ decimal byte ++ codes " is no answer from "

abbrev pub no_answer_line : Problem → ℕ → ℕ → List ℕ
no_answer_line p switch byte = byte_is_none byte ++ switch_text p switch ++ codes "\n"

-- how many operations are left that the policy holds back
abbrev pub held_line : ℕ → List ℕ
held_line left = codes "held: operations " ++ decimal left ++ codes "\n"

abbrev pub unfinished_line : Unfinished → List ℕ
unfinished_line (RoundsSpent rounds item number) = spent_line rounds item number
unfinished_line (PortFault r switch) = port_line r.problem switch
unfinished_line (Above item held begun) = above_line item held begun
unfinished_line (NotMine r switch item) = not_mine_line r.problem switch item
unfinished_line (NoAnswer r switch byte) = no_answer_line r.problem switch byte
unfinished_line (Held left) = held_line left
