-- Texts of what is held, line by line.
use Rattle.std.proofs.Common.{◌≡◌, ℕ, ◌+◌, List, [], ◌++◌, append_assoc, append-nil, sym, ap, ◌∙◌}
use Rattle.std.specs.List.{flat_map}
use Rattle.std.proofs.lemmas.List.{flat_map_more}
use Rattle.lists.proofs.Numbers.{one_more}
use Rattle.rollout_rules.specs.Sums.{list_below}
use Rattle.held_service.specs.HeldText.{greatest_of, larger, migration_of}
use Rattle.held_service.specs.Noting.{Notes, noted_at}

-- one line more
pub line-more : (f : ℕ → List ℕ) (n : ℕ) (t before after : List ℕ) → before ≡ t ++ flat_map f (list_below n (λ k. k)) → after ≡ before ++ f n → after ≡ t ++ flat_map f (list_below (n + 1) (λ k. k))
line-more f n t before after was told =
    told ∙ ap (λ x. x ++ f n) was ∙ flat_map_more f t (list_below n (λ k. k)) n ∙ ap (λ m. t ++ flat_map f (list_below m (λ k. k))) (one_more n)

-- nothing more
pub nothing-more : (t : List ℕ) → t ≡ t ++ []
nothing-more t = sym (append-nil t)

-- three pieces, one after the other
pub three-more : (t a b c x y z : List ℕ) → a ≡ t ++ x → b ≡ a ++ y → c ≡ b ++ z → c ≡ t ++ (x ++ y ++ z)
three-more t a b c x y z first second third =
    third ∙ ap (λ bs. bs ++ z) (second ∙ ap (λ bs. bs ++ y) first) ∙ simp append_assoc

-- one item more
pub greatest-more : (notes : Notes) (n most : ℕ) → most ≡ greatest_of notes n → (now : ℕ) → now ≡ larger most (migration_of (noted_at notes n)) → now ≡ greatest_of notes (n + 1)
greatest-more notes n most so_far now is =
    is ∙ ap (λ m. larger m (migration_of (noted_at notes n))) so_far ∙ ap (greatest_of notes) (one_more n)
