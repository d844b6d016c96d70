-- Words of the worked examples: the opening of the first network, and notes with short names.
use Rattle.std.specs.Prelude.{ℕ, List, [], ◌∷◌}
use Rattle.rollout_rules.specs.Named.{one, one_plan, ahead, ahead_plan}
use Rattle.rollout_rules.specs.Worked.{fresh, item_first, below_stage}
use Rattle.rollout_rules.specs.History.{History}
use Rattle.rollout_rules.specs.declared.op.Entry.{Entry}
use Rattle.shared_book.specs.declared.note.Cause.{Cause}
use Rattle.shared_book.specs.declared.call_reply.Halt.{Halt}
use Rattle.shared_book.specs.declared.note.What.{What}
use Rattle.shared_book.specs.declared.note.Written.{Written}
use Rattle.shared_book.specs.Histories.{Opening}

-- the first network; and three flows, of which the policy holds back what stands at stage 1
abbrev pub of_one : Opening
of_one = record { rollout = record { problem = one; plan = one_plan }; policy = item_first; found = fresh [] }

abbrev pub of_ahead : Opening
of_ahead = record { rollout = record { problem = ahead; plan = ahead_plan }; policy = below_stage 1; found = fresh [] }

-- a note of a seat's call, without entries and with some
abbrev pub says : ℕ → ℕ → What → Written
says seat call said = record { note = record { seat = seat; call = call; what = said }; entries = [] }

abbrev pub says_with : ℕ → ℕ → What → List Entry → Written
says_with seat call said es = record { note = record { seat = seat; call = call; what = said }; entries = es }

-- the first network with a list that was found
abbrev pub found : History → Opening
found h = record of_one { found = h }

abbrev pub halt : ℕ → ℕ → Cause → Halt
halt seat call why = record { seat = seat; call = call; cause = why }
