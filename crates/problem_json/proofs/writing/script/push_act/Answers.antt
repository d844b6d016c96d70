use Rattle.std.proofs.Common.{sym, subst}
use Rattle.json.specs.Print.{escape_byte}
use Rattle.rollout_rules.specs.declared.event.Act.TheVariants.{Round, Send, Deliver, Hand, All, CrashLost, CrashKept, Stop, Start}
use Rattle.problem_json.specs.WritingScripts.{IsActWithin}
use Rattle.problem_json.proofs.ReadScripts.{act_pushed}
use Rattle.problem_json.proofs.writing.script.push_act.Goals as goal

pub returns-in-Round-clause-text : goal.returns-in-Round-clause-text
unfolding escape_byte
returns-in-Round-clause-text g c = act_pushed g.P.Pieces.pushes c.args.act Round c.in-Round.is c.push_str.ensures

pub returns-in-Round-clause-within : goal.returns-in-Round-clause-within
returns-in-Round-clause-within g c = subst IsActWithin (sym c.in-Round.is) tt

pub returns-in-Send-clause-text : goal.returns-in-Send-clause-text
unfolding escape_byte
returns-in-Send-clause-text g c = act_pushed g.P.Pieces.pushes c.args.act (Send c.in-Send.number) c.in-Send.is c.push_numbered.ensures.text

pub returns-in-Send-clause-within : goal.returns-in-Send-clause-within
returns-in-Send-clause-within g c = subst IsActWithin (sym c.in-Send.is) c.push_numbered.ensures.few

pub returns-in-Deliver-clause-text : goal.returns-in-Deliver-clause-text
unfolding escape_byte
returns-in-Deliver-clause-text g c = act_pushed g.P.Pieces.pushes c.args.act (Deliver c.in-Deliver.number) c.in-Deliver.is c.push_numbered-in-Deliver.ensures.text

pub returns-in-Deliver-clause-within : goal.returns-in-Deliver-clause-within
returns-in-Deliver-clause-within g c = subst IsActWithin (sym c.in-Deliver.is) c.push_numbered-in-Deliver.ensures.few

pub returns-in-Hand-clause-text : goal.returns-in-Hand-clause-text
unfolding escape_byte
returns-in-Hand-clause-text g c = act_pushed g.P.Pieces.pushes c.args.act (Hand c.in-Hand.number) c.in-Hand.is c.push_numbered-in-Hand.ensures.text

pub returns-in-Hand-clause-within : goal.returns-in-Hand-clause-within
returns-in-Hand-clause-within g c = subst IsActWithin (sym c.in-Hand.is) c.push_numbered-in-Hand.ensures.few

pub returns-in-All-clause-text : goal.returns-in-All-clause-text
unfolding escape_byte
returns-in-All-clause-text g c = act_pushed g.P.Pieces.pushes c.args.act All c.in-All.is c.push_str-in-All.ensures

pub returns-in-All-clause-within : goal.returns-in-All-clause-within
returns-in-All-clause-within g c = subst IsActWithin (sym c.in-All.is) tt

pub returns-in-CrashLost-clause-text : goal.returns-in-CrashLost-clause-text
unfolding escape_byte
returns-in-CrashLost-clause-text g c = act_pushed g.P.Pieces.pushes c.args.act CrashLost c.in-CrashLost.is c.push_str-in-CrashLost.ensures

pub returns-in-CrashLost-clause-within : goal.returns-in-CrashLost-clause-within
returns-in-CrashLost-clause-within g c = subst IsActWithin (sym c.in-CrashLost.is) tt

pub returns-in-CrashKept-clause-text : goal.returns-in-CrashKept-clause-text
unfolding escape_byte
returns-in-CrashKept-clause-text g c = act_pushed g.P.Pieces.pushes c.args.act CrashKept c.in-CrashKept.is c.push_str-in-CrashKept.ensures

pub returns-in-CrashKept-clause-within : goal.returns-in-CrashKept-clause-within
returns-in-CrashKept-clause-within g c = subst IsActWithin (sym c.in-CrashKept.is) tt

pub returns-in-Stop-clause-text : goal.returns-in-Stop-clause-text
unfolding escape_byte
returns-in-Stop-clause-text g c = act_pushed g.P.Pieces.pushes c.args.act Stop c.in-Stop.is c.push_str-in-Stop.ensures

pub returns-in-Stop-clause-within : goal.returns-in-Stop-clause-within
returns-in-Stop-clause-within g c = subst IsActWithin (sym c.in-Stop.is) tt

pub returns-in-Start-clause-text : goal.returns-in-Start-clause-text
unfolding escape_byte
returns-in-Start-clause-text g c = act_pushed g.P.Pieces.pushes c.args.act Start c.in-Start.is c.push_str-in-Start.ensures

pub returns-in-Start-clause-within : goal.returns-in-Start-clause-within
returns-in-Start-clause-within g c = subst IsActWithin (sym c.in-Start.is) tt
