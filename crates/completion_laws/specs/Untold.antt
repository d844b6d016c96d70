-- What a switch may hold at a port that tells which bytes went out and which came back, and not what is held.
use Rattle.std.specs.Prelude.{◌≡◌, ℕ, List, [], ◌++◌, Option, IfSome}
use Rattle.rollout_rules.specs.Wan.{Rollout}
use Rattle.rollout_rules.specs.History.{History}
use Rattle.wan_edge.specs.Ports.{AnswersHeld, MovesByRule, PortTrace}
use Rattle.wan_edge.specs.Switches.{Holdings}
use Rattle.switch_ports.specs.Views.{SessionTrace}
use Rattle.switch_laws.specs.Holdings.{AreHeldAt}
use Rattle.switch_laws.specs.Runs.{AreAnswers, AreCommands}

-- What an honest switch may hold now, where it held something before. It has carried out whole commands that stand among the bytes offered: any of these, none of
-- them or one of them many times, in any order, each by the agent rule. And each whole answer that was heard gives a pair that is at most the one held.
pub record MayHold (offered heard : List ℕ) (before now : Holdings) : Type 0 where
  pub moves : MovesByRule offered before now
  pub answers : AnswersHeld heard now

-- What may be at a port's other end, untold, when a run finds it. Its switch holds of each item at home there what the history found allows. Bytes of earlier connections may
-- be on their way still: with those offered here they are whole commands, each of an operation begun, or late. What was heard here is whole answers, none of which is
-- kept half read.
pub record IsFoundWith (r : Rollout) (migration : ℕ) (homes : List (Option ℕ)) (found : History) (first : SessionTrace) (earlier : List ℕ) (before : Holdings) : Type 0 where
  pub held : AreHeldAt r migration homes first.switch found before
  pub offered : IfSome first.port.offered (λ bytes. AreCommands r migration found before (earlier ++ bytes))
  pub heard : IfSome first.port.heard AreAnswers
  pub none_kept : first.stream.kept ≡ []

-- Where a port tells now what was offered and heard, this is so of whatever its switch may hold now, whatever was at the port's other end when the run found it.
abbrev pub EachMayHold : Rollout → ℕ → List (Option ℕ) → History → SessionTrace → PortTrace → (Holdings → Type 0) → Type 0
EachMayHold r migration homes found first now IsRight =
    IfSome now.offered (λ offered. IfSome now.heard (λ heard.
    (earlier : List ℕ) (before after : Holdings) → IsFoundWith r migration homes found first earlier before → MayHold (earlier ++ offered) heard before after → IsRight after))

-- a port to this switch over which nothing has gone yet
pub record IsNewTo (switch : ℕ) (port : SessionTrace) : Type 0 where
  pub is_to : port.switch ≡ switch
  pub none_offered : IfSome port.port.offered (λ bytes. bytes ≡ [])
  pub none_heard : IfSome port.port.heard (λ bytes. bytes ≡ [])
  pub none_kept : port.stream.kept ≡ []

-- What a run leaves untold to the next one, of the bytes of all connections so far: with the rest of the last commands, which may have been cut off, these are what
-- earlier connections have on their way.
pub record IsLeftTo (r : Rollout) (migration : ℕ) (homes : List (Option ℕ)) (h : History) (next : SessionTrace) (bytes : List ℕ) (holdings : Holdings) : Type 0 where
  pub rest : List ℕ
  pub found : IsFoundWith r migration homes h next (bytes ++ rest) holdings
