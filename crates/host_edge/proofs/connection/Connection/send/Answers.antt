use Rattle.std.proofs.Common.{◌-◌, List, ℕ, ◌++◌, ◌⊎◌, ap, drop, inr, length, subst, take, ◌∙◌}
use Rattle.std.proofs.KnownBytes.{Appends-trans}
use Rattle.std.specs.Io.KnownBytes.{Appends, Keeps}
use Rattle.host_edge.proofs.Noting.{adds_more, carries_more, front_and_rest, on_ok}
use Rattle.host_edge.specs.Histories.{Carries}
use Rattle.host_edge.specs.declared.outbox.Outbox.{Outbox}
use Rattle.host_edge.proofs.connection.Connection.send.Goals as goal

pub returns-in-Ok-clause-sent : goal.returns-in-Ok-clause-sent
returns-in-Ok-clause-sent g c =
    let known = g.S.Write.contents in
    let from = c.args.from.now in
    let n = c.in-Ok.n in
    let rest : List ℕ = take (length from - n) (drop n from) in
    let before = known c.args.self.now.stream in
    let between = known c.write_noted.new.writer in
    let now = known c.send_rest.new.self.stream in
    let taken : Appends before between (take n from) = subst (λ s. Appends (known s) between (take n from)) c.wait_to_write.ensures.stream c.in-Ok.ensures.taken in
    on_ok (Appends between now rest) (Keeps before now ⊎ Appends before now from) c.send_rest.result
    (λ appended. inr (subst (Appends before now) (front_and_rest from n) (Appends-trans before between now (take n from) rest taken appended))) c.send_rest.ensures.sent

pub returns-in-Ok-clause-carried : goal.returns-in-Ok-clause-carried
returns-in-Ok-clause-carried g c =
    let known = g.S.Write.contents in
    let from = c.args.from.now in
    let n = c.in-Ok.n in
    let before = c.args.self.now in
    let between = known c.write_noted.new.writer in
    let written = c.write_noted.new.written in
    let first : Carries (known before.stream) between before.outbox.sent written = record {
      piece = take n from;
      appended = subst (λ s. Appends (known s) between (take n from)) c.wait_to_write.ensures.stream c.in-Ok.ensures.taken;
      added = c.in-Ok.ensures.noted ∙ ap (λ (o : Outbox). o.sent ++ take n from) c.wait_to_write.ensures.outbox;
    } in
    let now = c.send_rest.new.self in
    carries_more (known before.stream) between (known now.stream) before.outbox.sent written now.outbox.sent first c.send_rest.ensures.carried

pub returns-in-Ok-clause-front : goal.returns-in-Ok-clause-front
returns-in-Ok-clause-front g c =
    let from = c.args.from.now in
    let n = c.in-Ok.n in
    let noted = c.in-Ok.ensures.noted ∙ ap (λ (o : Outbox). o.sent ++ take n from) c.wait_to_write.ensures.outbox in
    adds_more c.args.self.now.outbox.sent from c.write_noted.new.written c.send_rest.new.self.outbox.sent n c.in-Ok.ensures.within noted c.send_rest.ensures.front
