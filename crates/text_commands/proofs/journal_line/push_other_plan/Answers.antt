use Rattle.std.proofs.Common.{◌≡◌, ℕ, List, ◌++◌, codes, append_assoc, ap, ◌∙◌}
use Rattle.std.proofs.lemmas.Result.{on_ok_weaker}
use Rattle.text_commands.specs.JournalLines.{digest_text}
use Rattle.text_commands.proofs.journal_line.push_other_plan.Goals as goal

-- five texts, one after the other
behind : (text a b c d e : List ℕ) → ((((text ++ a) ++ b) ++ c) ++ d) ++ e ≡ text ++ ((((a ++ b) ++ c) ++ d) ++ e)
behind text a b c d e = simp append_assoc

pub returns : goal.returns
returns c =
    let kept = digest_text c.args.kept.now in
    let wanted = digest_text c.args.wanted.now in
    let start : c.push_digest.new.line ≡ (c.args.line.now ++ codes "journal: other plan ") ++ kept = c.in_ok-push_digest.ensures ∙ ap (λ l. l ++ kept) c.in_ok-push_str.ensures.ok in
    let both : c.push_digest-2.new.line ≡ (((c.args.line.now ++ codes "journal: other plan ") ++ kept) ++ codes " ") ++ wanted =
    c.in_ok-push_digest-2.ensures ∙ ap (λ l. l ++ wanted) (c.in_ok-push_str-2.ensures.ok ∙ ap (λ l. l ++ codes " ") start) in
    on_ok_weaker c.push_str-3.result
    (λ e. e ∙ ap (λ l. l ++ codes "\n") both ∙ behind c.args.line.now (codes "journal: other plan ") kept (codes " ") wanted (codes "\n"))
    c.push_str-3.ensures.ok
