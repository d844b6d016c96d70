-- What commands leave at a switch.
use Rattle.std.specs.List.{flat_map}
use Rattle.std.proofs.Common.{List, [], ap, arith, length, length-append, refl, true, ℕ, ◌++◌, ◌∷◌, ◌≡◌}
use Rattle.std.proofs.lemmas.List.Elements.{All-nil}
use Rattle.rollout_rules.specs.Agent.{is_at_most}
use Rattle.wan_edge.specs.Frames.{CommandFrame, command_bytes, command_head, AnswerFrame}
use Rattle.wan_edge.specs.Switches.{Holdings, after_command, after_commands, answer_to, answers_to, pair_given}
use Rattle.wan_edge.specs.Ports.{BeginsNoCommand, IsOffered, MovesByRule}
use Rattle.wan_edge.proofs.Sizes.{command-some}

pub after_commands-append : (held : Holdings) (xs ys : List CommandFrame) → after_commands held (xs ++ ys) ≡ after_commands (after_commands held xs) ys
after_commands-append held [] ys = refl
after_commands-append held (x ∷ xs) ys = after_commands-append (after_command held x) xs ys

pub answers_to-append : (held : Holdings) (xs ys : List CommandFrame) → answers_to held (xs ++ ys) ≡ answers_to held xs ++ answers_to (after_commands held xs) ys
answers_to-append held [] ys = refl
answers_to-append held (x ∷ xs) ys = ap (λ (answers : List AnswerFrame). answer_to held x ∷ answers) (answers_to-append (after_command held x) xs ys)

pub nothing_begins_no_command : BeginsNoCommand []
unfolding command_bytes command_head
nothing_begins_no_command c behind fits e = cc

pub nothing_is_offered : (c : CommandFrame) → IsOffered [] c → ⊥
nothing_is_offered c is = omega (arith, ap length is.parts, length-append (flat_map command_bytes is.earlier) (command_bytes c ++ is.behind), length-append (command_bytes c) is.behind, command-some c)

-- where no command comes nothing moves
pub none_moves : (offered : List ℕ) (held : Holdings) → MovesByRule offered held held
none_moves offered held = record { delivered = []; each_offered = All-nil (IsOffered offered); moved = refl }

-- an answer has at most the pair that is held of its item
abbrev pub IsHeld : Holdings → AnswerFrame → Type 0
IsHeld holdings a = is_at_most (pair_given a) (holdings a.1.item).held ≡ true
