-- What a command uses beside the sink.
use Rattle.std.specs.Prelude.{true, false, Option, Some, None}
use Rattle.text_commands.specs.Uses.{Uses, uses_input, uses_nothing}
use Rattle.swanroll_top.specs.Words.{Asked, a_drain, a_report, a_rollback, a_run, a_text, a_trial, an_agent, what_is_held}

abbrev pub uses_of : Option Asked → Uses
uses_of None = uses_nothing
uses_of (Some (a_text what)) = uses_input
uses_of (Some (a_report migration)) = record { input = true; journal = true; ports = false; guests = false }
uses_of (Some (an_agent guests)) = record { input = false; journal = false; ports = false; guests = true }
uses_of (Some (a_trial shape policy)) = uses_nothing
uses_of (Some (a_run limits policy)) = record { input = true; journal = true; ports = true; guests = false }
uses_of (Some (a_drain limits)) = record { input = true; journal = true; ports = true; guests = false }
uses_of (Some (a_rollback limits origin)) = record { input = true; journal = true; ports = true; guests = false }
uses_of (Some (what_is_held rounds)) = record { input = true; journal = false; ports = true; guests = false }
