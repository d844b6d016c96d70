use Rattle.std.proofs.Common.{◌≡◌, ◌-◌, ◌≤◌, ◌++◌, length, take, drop, None, Some}
use Rattle.std.specs.Prelude.{IsTrue}
use Rattle.fenced_agent.specs.Agents.{fenced_holding}
use Rattle.agent_talks.specs.Serving.{CarriesOut, IsCutTermed}
use Rattle.fenced_wire.specs.Reading.{all_kept}
use Rattle.agent_service.specs.Keeping.{Stores}
use Rattle.agent_service.proofs.gathering.gather.Given as goal

abbrev pub invariant-loop-rest : goal.invariant-loop-rest
invariant-loop-rest l = record {
  behind : l.rest ≡ drop (length l.piece - length l.rest) l.piece;
  within : length l.rest ≤ length l.piece;
  carried : CarriesOut l.fn.agent l.agent (all_kept l.fn.reader ++ take (length l.piece - length l.rest) l.piece) (record { commands = l.commands; fault = None }) (λ rest. rest ≡ all_kept l.reader) (Some l.fn.gathered.answers.items) (Some l.gathered.answers.items);
  stored : Stores (fenced_holding l.fn.agent) (fenced_holding l.agent) l.fn.gathered.batch.items l.gathered.batch.items;
  few : l.commands ≤ length l.piece - length l.rest;
  live : IsTrue l.reader.live;
  cut : IsCutTermed (all_kept l.reader);
}

abbrev pub decreases-loop-rest : goal.decreases-loop-rest
decreases-loop-rest l = length l.rest
