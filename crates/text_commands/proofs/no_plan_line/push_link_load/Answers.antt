use Rattle.std.proofs.Common.{◌≡◌, ℕ, List, ◌++◌, append_assoc, ap, ◌∙◌}
use Rattle.std.proofs.lemmas.Result.{on_ok_weaker}
use Rattle.wan_text.specs.Names.{link_text}
use Rattle.text_commands.specs.NoPlanLines.{load_on}
use Rattle.text_commands.proofs.no_plan_line.push_link_load.Goals as goal

-- three texts, one after the other
behind : (text x y z : List ℕ) → ((text ++ x) ++ y) ++ z ≡ text ++ ((x ++ y) ++ z)
behind text x y z = simp append_assoc

pub returns : goal.returns
returns c =
    let link = link_text c.args.problem.now c.args.link in
    let load = load_on c.args.side c.args.load in
    let name : c.push_link.new.text ≡ (c.args.line.now ++ c.args.start.now) ++ link = c.in_ok-push_link.ensures ∙ ap (λ l. l ++ link) c.in_ok-push_str.ensures.ok in
    on_ok_weaker c.push_load.result
    (λ e. e ∙ ap (λ l. l ++ load) name ∙ behind c.args.line.now (c.args.start.now) link load)
    c.push_load.ensures
