-- What a fenced agent makes of commands: its floor is the highest term that it has heard, and a command below it changes nothing.
use Rattle.std.specs.Prelude.{ℕ, List, [], ◌∷◌, Option, Some, None, nat_lt, if◌then◌else◌}
use Rattle.wan_edge.specs.Frames.{AnswerFrame, CommandFrame}
use Rattle.wan_edge.specs.Switches.{Holdings, after_command, answer_of}
use Rattle.switch_agent.specs.Items.{Items, holding, with_stored}
use Rattle.takeover_rules.specs.Terms.{Guarded}
use Rattle.fenced_agent.specs.Frames.{TermedCommand, FlooredAnswer, term_of}

-- the floor, and what is held of each item
pub record FencedHoldings : Type 0 where
  pub floor : ℕ
  pub held : Holdings

-- the floor, and the items that came, each with the command of it that was carried out last
pub record FencedItems : Type 0 where
  pub floor : ℕ
  pub items : Items

abbrev pub fenced_holding : FencedItems → FencedHoldings
fenced_holding f = record { floor = f.floor; held = holding f.items }

-- after a command of this term
abbrev pub after_fenced : FencedHoldings → ℕ → CommandFrame → FencedHoldings
after_fenced f term c = if nat_lt term f.floor then f else record { floor = term; held = after_command f.held c }

-- with a command that was carried out before, whatever is held of its item
abbrev pub restored : FencedHoldings → CommandFrame → FencedHoldings
restored f c = record { floor = f.floor; held = with_stored f.held c }

-- the answer to it: its item, and the pair held after it
abbrev pub answer_fenced : FencedHoldings → ℕ → CommandFrame → AnswerFrame
answer_fenced f term c = answer_of c.1.item ((after_fenced f term c).held c.1.item).held

-- an answer tells the floor where the command named a term
abbrev pub floor_told : Option ℕ → ℕ → Option ℕ
floor_told None floor = None
floor_told (Some term) floor = Some floor

abbrev pub after_termed : FencedHoldings → TermedCommand → FencedHoldings
after_termed f c = after_fenced f (term_of c.term) c.command

abbrev pub answer_to_termed : FencedHoldings → TermedCommand → FlooredAnswer
answer_to_termed f c = record {
  floor = floor_told c.term (after_termed f c).floor;
  answer = answer_fenced f (term_of c.term) c.command;
}

-- after commands, one after the other, and the answers to them
abbrev pub after_all_termed : FencedHoldings → List TermedCommand → FencedHoldings
after_all_termed f [] = f
after_all_termed f (c ∷ cs) = after_all_termed (after_termed f c) cs

abbrev pub answers_to_termed : FencedHoldings → List TermedCommand → List FlooredAnswer
answers_to_termed f [] = []
answers_to_termed f (c ∷ cs) = answer_to_termed f c ∷ answers_to_termed (after_termed f c) cs

-- commands that name no term
abbrev pub plain : List CommandFrame → List TermedCommand
plain [] = []
plain (c ∷ cs) = record { term = None; command = c } ∷ plain cs

-- one item of it, with the floor
abbrev pub guarded_of : FencedHoldings → ℕ → Guarded
guarded_of f item = record { floor = f.floor; holding = f.held item }
