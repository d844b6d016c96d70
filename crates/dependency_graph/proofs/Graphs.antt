-- What a Begin and a Done change of a graph.
use Rattle.std.proofs.Common.{◌≡◌, ℕ, ◌+◌, ◌<◌, ◌≤◌, ◌⊎◌, true, false, not, ◌==◌, ◌∷◌, [], nat_lt, inl, inr, sym, ap, ap₂, ◌∙◌, subst, arith, eq-eqb, ne_eqb, eqb-true}
use Rattle.std.proofs.lemmas.Bool.{cases_eq, and_parts, not-true, eqb-false}
use Rattle.rollout_rules.specs.Wan.{Problem}
use Rattle.rollout_rules.specs.Items.{is_item, item_count, item_at, number_of}
use Rattle.rollout_rules.specs.Operations.{operations}
use Rattle.rollout_rules.specs.History.{History, with_entries, begun, settled, flies}
use Rattle.rollout_rules.specs.Room.{least_stage}
use Rattle.rollout_rules.specs.Legal.{is_legal}
use Rattle.rollout_rules.specs.Release.{next_op}
use Rattle.rollout_rules.specs.declared.item.Item.{Item}
use Rattle.rollout_rules.specs.declared.op.Entry.TheVariants.{Begin, Done}
use Rattle.rollout_rules.proofs.Numbers.{item_at-number_of, number_of-item_at}
use Rattle.rollout_laws.proofs.Histories.{begun-begin, begun-begin_other, begun-done, settled-begin, settled-done, settled-done_other, ends, is_counted}
use Rattle.rollout_laws.proofs.Rooms.{least_stage-up, stand-later}
use Rattle.rollout_laws.proofs.Moves.{done-between}
use Rattle.dependency_graph.specs.Graph.{Followed, count_of, places, has_next, with_begun, with_done}
use Rattle.dependency_graph.proofs.Changed.{least_stage-kept}
use Rattle.dependency_graph.proofs.Followed.{flying-left, next-may_end}
use Rattle.dependency_graph.proofs.Steps.{Begins, Ends}

module _ (g : Followed) (n : ℕ) (inside : n < item_count g.rollout.problem) (legal : is_legal g.rollout.problem g.rollout.plan g.history ≡ true) where
  abbrev p : Problem
  p = g.rollout.problem

  abbrev h : History
  h = g.history

  abbrev this : Item
  this = item_at g.rollout.problem n

  pub begins-next : has_next g n ≡ true → Begins p (places g) (places (with_begun g n)) this
  begins-next next = record {
    differ = record {
      settled = λ i here. sym (settled-begin h (next_op h n) (number_of p i));
      flies = λ i here. flies-at i here (cases_eq n (number_of p i));
    };
    idle = ap (flies h) number ∙ idle;
    flying = ap (flies (with_entries h (Begin (next_op h n) ∷ []))) number ∙ flying;
  }
    where
      number : number_of g.rollout.problem (item_at g.rollout.problem n) ≡ n
      number = number_of-item_at g.rollout.problem n inside

      idle : flies g.history n ≡ false
      idle = not-true (flies g.history n) (and_parts (not (flies g.history n)) (nat_lt (settled g.history n) (count_of g.rollout n)) next).0

      flies-at : (i : Item) → is_item g.rollout.problem i ≡ true → (n ≡ number_of g.rollout.problem i) ⊎ (n ≡ number_of g.rollout.problem i → ⊥) → (flies g.history (number_of g.rollout.problem i) ≡ flies (with_entries g.history (Begin (next_op g.history n) ∷ [])) (number_of g.rollout.problem i)) ⊎ (item_at g.rollout.problem n ≡ i)
      flies-at i here (inl e) = inr (ap (item_at g.rollout.problem) e ∙ item_at-number_of g.rollout.problem i here)
      flies-at i here (inr other) = inl (ap₂ (λ a b. a == b + 1) (sym (begun-begin_other g.history (next_op g.history n) (number_of g.rollout.problem i) other)) (sym (settled-begin g.history (next_op g.history n) (number_of g.rollout.problem i))))

      flying : flies (with_entries g.history (Begin (next_op g.history n) ∷ [])) n ≡ true
      flying =
          let counted = is_counted g.rollout.problem g.rollout.plan g.history legal n in
          let still = eqb-false (begun g.history n) (settled g.history n + 1) idle in
          eq-eqb _ _ (omega (arith, begun-begin g.history (next_op g.history n), settled-begin g.history (next_op g.history n) n, counted.settled_begun, counted.one_flies, still))

  pub begins-least : has_next g n ≡ true → least_stage p g.rollout.plan (places (with_begun g n)) ≡ least_stage p g.rollout.plan (places g)
  begins-least next = sym (least_stage-kept p g.rollout.plan (places g) (places (with_begun g n)) this (begins-next next).differ)

  pub ends-next : flies g.history n ≡ true → Ends p g.rollout.plan (places g) (places (with_done g n)) this
  ends-next flying = record {
    others = record {
      settled = λ i here other. sym (settled-done_other h (next_op h n) (number_of p i) (apart i here other));
      flies = λ i here other. ap₂ (λ a b. a == b + 1) (sym (begun-done h (next_op h n) (number_of p i))) (sym (settled-done_other h (next_op h n) (number_of p i) (apart i here other)));
    };
    next = ap (settled (with_entries h (Done (next_op h n) ∷ []))) number ∙ settled-done h (next_op h n) ∙ ap (λ m. settled h m + 1) (sym number);
    left = subst (λ m. settled h m < operations p g.rollout.plan this) (sym number) (flying-left g n inside legal flying);
    flying = ap (flies h) number ∙ flying;
    landed = ap (flies (with_entries h (Done (next_op h n) ∷ []))) number ∙ landed;
  }
    where
      number : number_of g.rollout.problem (item_at g.rollout.problem n) ≡ n
      number = number_of-item_at g.rollout.problem n inside

      apart : (i : Item) → is_item g.rollout.problem i ≡ true → (i ≡ item_at g.rollout.problem n → ⊥) → n ≡ number_of g.rollout.problem i → ⊥
      apart i here other e = other (sym (ap (item_at g.rollout.problem) e ∙ item_at-number_of g.rollout.problem i here))

      landed : flies (with_entries g.history (Done (next_op g.history n) ∷ [])) n ≡ false
      landed =
          let flew = eqb-true (begun g.history n) (settled g.history n + 1) flying in
          let b = begun-done g.history (next_op g.history n) n in
          let d = settled-done g.history (next_op g.history n) in
          ne_eqb (begun (with_entries g.history (Done (next_op g.history n) ∷ [])) n) (settled (with_entries g.history (Done (next_op g.history n) ∷ [])) n + 1) (λ e. omega (arith, e, b, d, flew))

  pub ends-least : flies g.history n ≡ true → least_stage p g.rollout.plan (places g) ≤ least_stage p g.rollout.plan (places (with_done g n))
  ends-least flying =
      let end = ends h (next_op h n) (next-may_end g n inside flying) in
      least_stage-up p g.rollout.plan (places g) (places (with_done g n)) (stand-later p g.rollout.plan (places g) (places (with_done g n)) (done-between p h (next_op h n) end))
