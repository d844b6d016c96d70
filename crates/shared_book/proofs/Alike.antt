-- Lists of entries that pass a test of equality, and a list in its two parts.
use Rattle.std.proofs.Common.{List, [], ap, ap₂, eqb-true, false, refl, true, ◌++◌, ◌==◌, ◌∷◌, ◌≡◌}
use Rattle.std.proofs.lemmas.Bool.{and_parts, both_ways}
use Rattle.rollout_rules.specs.declared.op.Op.{Op}
use Rattle.rollout_rules.specs.declared.op.Entry.{Entry}
use Rattle.rollout_rules.specs.declared.op.Entry.TheVariants.{Begin, Done}
use Rattle.shared_book.specs.Batches.{behind_dones, dones_ahead, ends, same_entries, same_entry, same_op}

pub same_op-is : (a b : Op) → same_op a b ≡ true → a ≡ b
same_op-is a b same =
    let parts = and_parts (a.item == b.item) (a.number == b.number) same in
    λ k. record { item = eqb-true a.item b.item parts.0 k; number = eqb-true a.number b.number parts.1 k }

pub same_entry-is : (a b : Entry) → same_entry a b ≡ true → a ≡ b
same_entry-is (Begin a) (Begin b) same = ap Begin (same_op-is a b same)
same_entry-is (Begin a) (Done b) same = absurd (both_ways false refl same)
same_entry-is (Done a) (Begin b) same = absurd (both_ways false refl same)
same_entry-is (Done a) (Done b) same = ap Done (same_op-is a b same)

pub same_entries-is : (es fs : List Entry) → same_entries es fs ≡ true → es ≡ fs
same_entries-is [] [] same = refl
same_entries-is [] (f ∷ fs) same = absurd (both_ways false refl same)
same_entries-is (e ∷ es) [] same = absurd (both_ways false refl same)
same_entries-is (e ∷ es) (f ∷ fs) same =
    let parts = and_parts (same_entry e f) (same_entries es fs) same in
    ap₂ (λ (x : Entry) (xs : List Entry). x ∷ xs) (same_entry-is e f parts.0) (same_entries-is es fs parts.1)

pub dones_then_the_rest : (es : List Entry) → es ≡ ends (dones_ahead es) ++ behind_dones es
dones_then_the_rest [] = refl
dones_then_the_rest (Begin op ∷ es) = refl
dones_then_the_rest (Done op ∷ es) = ap (λ (xs : List Entry). Done op ∷ xs) (dones_then_the_rest es)
