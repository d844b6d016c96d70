use Rattle.std.proofs.Common.{◌<◌, ◌^◌, ℕ, arith, subst}
use Rattle.std.proofs.lemmas.List.Elements.{All-take}
use Rattle.wan_edge.specs.Frames.{Command, IsCommand}
use Rattle.wire_frames.specs.Contents.{length-content_of}
use Rattle.agent_state.proofs.last.fits_frame.Goals as goal

-- what the fields of a command keep to by their types
pub returns : goal.returns
returns c =
    let count = c.command.inside.count in
    let rates = c.command.inside.rates in
    let filled = c.command.invariant in
    let long = length-content_of count rates filled in
    subst (λ (command : Command). IsCommand (c.args.migration, command)) c.command.view_is (record {
      migration = c.fit_numbers.ensures.migration;
      item = c.fit_numbers.ensures.item;
      number = c.fit_numbers.ensures.number;
      scale = c.fit_numbers.ensures.scale;
      some = omega (arith, long, filled.some);
      few = omega (arith, long, filled.few);
      rates = All-take (λ (rate : ℕ). rate < 2 ^ 64) count rates c.fit_rates.ensures;
    })
