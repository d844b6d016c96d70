use Rattle.std.proofs.lemmas.Result.{on_ok_weaker}
use Rattle.wan_text.specs.Names.{switch_text}
use Rattle.held_service.specs.HeldText.{number_text, pair_text}
use Rattle.held_service.proofs.Lined.{three-more}
use Rattle.held_service.proofs.held_lines.push_line.Goals as goal

pub returns : goal.returns
returns c =
    on_ok_weaker c.push_pair.result
    (λ e. three-more c.args.text.now c.push_number.new.text c.push_switch.new.text c.push_pair.new.text (number_text c.args.number) (switch_text c.args.problem.now c.args.switch) (pair_text c.args.held.migration c.args.held.number c.args.count)
    c.in_ok-push_number.ensures c.in_ok-push_switch.ensures e)
    c.push_pair.ensures
