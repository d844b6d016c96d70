use Rattle.std.proofs.Common.{rules}
use Rattle.disk_model.proofs.Logged.{over_filled}
use Rattle.disk_model.proofs.overwriting.overwrite.Goals as goal

pub returns-clause-ok : goal.returns-clause-ok
returns-clause-ok c =
    over_filled c.args.at c.args.from.now c.args.bytes.now.items c.in_ok-end.end c.fill_up.new.bytes.len c.fill_up.new.bytes.items c.put_over.new.bytes (search rules) (search rules) (search rules) (search rules)
