use Rattle.std.proofs.Common.{◌≡◌, ℕ, Bool, not, nat_eq, sym, ap, ◌∙◌}
use Rattle.lossy_link.specs.Gates.{Half, half_word}
use Rattle.lossy_link.proofs.Gates.{alone}
use Rattle.lossy_link.proofs.gate.Gate.join.Goals as goal

pub returns-then-word-other-clause-alone : goal.returns-then-word-other-clause-alone
returns-then-word-other-clause-alone c shut =
    alone c.args.self.now.seen c.args.self.now.second c.args.word c.requires (λ other. c.if-word-other.true (other ∙ ap (λ (h : Half). half_word (not h.second)) (sym c.self.view_is) ∙ sym c.half-other.ensures)) shut

pub returns-clause-alone : goal.returns-clause-alone
returns-clause-alone c shut =
    alone c.cross.new.self.seen c.cross.new.self.second c.cross.result (sym c.cross.ensures.word)
    (λ other.
    let found : c.cross.result ≡ c.half-other.result =
    other ∙ ap (λ (b : Bool). half_word (not b)) (c.cross.ensures.half.1 ∙ ap (λ (h : Half). h.second) (sym c.self.view_is)) ∙ sym c.half-other.ensures in
    absurd (cc (ap (λ (n : ℕ). nat_eq n 3) (found ∙ c.cross.ensures.other found), shut)))
    shut
