use Rattle.step_lp.proofs.Rates.{row_more, place_more, place_most}
use Rattle.step_lp.proofs.planning.rate_row.Goals as goal

pub loop-tunnel-preserved : goal.loop-tunnel-preserved
loop-tunnel-preserved c = (
  row_more c.args.problem.now c.args.scale c.args.first c.loop-tunnel.tunnel c.loop-tunnel.place c.units_at.result c.args.point.now c.loop-tunnel.row _
      c.loop-tunnel.invariant.0 c.loop-tunnel.invariant.1 c.units_at.ensures c.in_ok-push.ensures.ok,
  place_more c.args.problem.now c.args.first c.loop-tunnel.tunnel c.loop-tunnel.place c.from-place.result c.is_used.result c.is_used.ensures c.from-place.ensures c.loop-tunnel.invariant.1,
  place_most c.args.first c.loop-tunnel.tunnel c.loop-tunnel.place c.from-place.result c.is_used.result c.from-place.ensures c.loop-tunnel.invariant.2,
)
