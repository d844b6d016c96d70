use Rattle.std.proofs.Common.{◌≡◌, ◌++◌, codes, append_assoc, sym, ap, ◌∙◌, List, ℕ}
use Rattle.std.specs.Prelude.{decimal}
use Rattle.std.proofs.lemmas.Result.{on_ok_weaker}
use Rattle.sim_run.proofs.lines.push_counts.Goals as goal

-- a name with its number, and another name with its number after it
behind : (before a b c d so_far : List ℕ) → so_far ≡ before ++ (a ++ b) → so_far ++ (c ++ d) ≡ before ++ (((a ++ b) ++ c) ++ d)
behind before a b c d so_far is = ap (λ l. l ++ (c ++ d)) is ∙ append_assoc before (a ++ b) (c ++ d) ∙ ap (λ l. before ++ l) (sym (append_assoc (a ++ b) c d))

pub returns : goal.returns
returns c = on_ok_weaker c.push_count-2.result
    (λ e. e ∙ behind c.args.text.now (codes "round: dones ") (decimal c.args.dones) (codes ", begins ") (decimal c.args.begins) c.push_count.new.text c.in_ok-push_count.ensures)
    c.push_count-2.ensures
