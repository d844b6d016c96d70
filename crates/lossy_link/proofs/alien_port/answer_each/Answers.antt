use Rattle.std.proofs.Common.{◌≡◌, ◌∙◌, ap}
use Rattle.wan_edge.specs.Frames.{CommandFrame, answer_bytes}
use Rattle.lossy_link.specs.Aliens.{AreAnsweredWith, alien_answer}
use Rattle.lossy_link.specs.WayBack.{Back, with_due}
use Rattle.lossy_link.proofs.AlienAnswers.{answered_on}
use Rattle.lossy_link.proofs.Behind.{more_behind, one_behind, one_more, out_behind}
use Rattle.lossy_link.proofs.alien_port.answer_each.Goals as goal

pub loop-command-preserved : goal.loop-command-preserved
loop-command-preserved c =
    let i = c.loop-command.invariant in
    let command : CommandFrame = c.in-Some.command in
    let added : c.add.new.self ≡ with_due c.loop-command.back (answer_bytes (alien_answer c.args.held command))
    = c.in_ok-add.ensures.ok ∙ ap (λ (frame : CommandFrame). with_due c.loop-command.back (answer_bytes (alien_answer c.args.held frame))) c.command.view_is in
    record {
      behind = λ earlier has.
          one_behind c.loop-command.incoming c.next.new.self command c.in-Some.ensures.given earlier (AreAnsweredWith c.args.held c.args.back.now c.loop-command.back) (AreAnsweredWith c.args.held c.args.back.now c.add.new.self)
          (answered_on c.args.held c.args.back.now c.loop-command.back c.add.new.self command added) (i.behind earlier has);
      same = c.in-Some.ensures.given.same ∙ i.same;
      unheard = ap (λ (b : Back). b.heard) c.in_ok-add.ensures.ok ∙ i.unheard;
    }

pub returns-in_err-add-clause-has : goal.returns-in_err-add-clause-has
returns-in_err-add-clause-has c earlier has =
    one_more c.loop-command.incoming c.next.new.self c.in-Some.command c.in-Some.ensures.given earlier (more_behind (AreAnsweredWith c.args.held c.args.back.now c.loop-command.back) earlier c.loop-command.incoming.taken (c.loop-command.invariant.behind earlier has))

pub returns-clause-answered : goal.returns-clause-answered
returns-clause-answered c earlier has =
    out_behind (AreAnsweredWith c.args.held c.args.back.now c.loop-command.back) earlier c.loop-command.incoming c.next.new.self c.in_default.ensures.none (c.loop-command.invariant.behind earlier has)

pub returns-clause-has : goal.returns-clause-has
returns-clause-has c earlier has =
    more_behind (AreAnsweredWith c.args.held c.args.back.now c.loop-command.back) earlier c.next.new.self.taken
    (out_behind (AreAnsweredWith c.args.held c.args.back.now c.loop-command.back) earlier c.loop-command.incoming c.next.new.self c.in_default.ensures.none (c.loop-command.invariant.behind earlier has))
