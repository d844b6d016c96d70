use Rattle.std.proofs.Common.{◌≡◌, ◌∷◌, ◌++◌, [], ◌∙◌, ap, rules}
use Rattle.disk_model.specs.Logs.{applied}
use Rattle.disk_model.specs.Memory.{after_write}
use Rattle.disk_model.specs.Writes.{written}
use Rattle.disk_model.proofs.Logged.{logged, logs}
use Rattle.disk_model.proofs.medium.Medium.write.Goals as goal

pub invariant_of-self-2 : goal.invariant_of-self-2
invariant_of-self-2 c =
    let r = c.self.inside in
    let more : c.push_reserved.new.self.items ≡ r.writes.items ++ c.in_ok-write.write ∷ [] = search rules in
    let are : c.begin.new.bytes.items ≡ applied r.first r.writes.items = search rules in
    let new : c.overwrite.new.bytes.items ≡ written c.args.at c.args.from.now c.begin.new.bytes.items = search rules in
    logged r.first c.begin.new.bytes.items c.overwrite.new.bytes.items r.writes.items c.push_reserved.new.self.items r.synced c.args.at c.args.from.now c.in_ok-write.write c.self.invariant.within are new c.in_ok-write.ensures.at c.in_ok-write.ensures.bytes more

pub returns-clause-ok : goal.returns-clause-ok
returns-clause-ok c =
    let r = c.self.inside in
    let more : c.push_reserved.new.self.items ≡ r.writes.items ++ c.in_ok-write.write ∷ [] = search rules in
    logs r.first r.writes.items c.push_reserved.new.self.items r.synced c.args.at c.args.from.now c.in_ok-write.write c.self.invariant.within c.in_ok-write.ensures.at c.in_ok-write.ensures.bytes more
    ∙ ap (after_write c.args.at c.args.from.now) c.self.view_is
