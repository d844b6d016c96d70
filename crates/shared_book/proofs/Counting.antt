-- The counts of a round's batch, and its alien answers, as a shared history has them.
use Rattle.std.proofs.Common.{◌≡◌, ℕ, ◌+◌, Bool, true, false, not, ◌&&◌, if◌then◌else◌, List, [], ◌∷◌, ◌++◌, length, map, Option, Some, None, option_map, refl, sym, ap, ap₂, ◌∙◌, subst, arith}
use Rattle.std.proofs.lemmas.Bool.{cond_both}
use Rattle.rollout_rules.specs.Wan.{Problem, Plan}
use Rattle.rollout_rules.specs.History.{History, with_entries}
use Rattle.rollout_rules.specs.Legal.{may_begin}
use Rattle.rollout_rules.specs.Release.{next_op, begin_each, dones, release, batch}
use Rattle.rollout_rules.specs.declared.op.Op.{Op}
use Rattle.rollout_rules.specs.declared.op.OpView.{OpView}
use Rattle.rollout_rules.specs.declared.op.Entry.{Entry}
use Rattle.rollout_rules.specs.declared.op.Entry.TheVariants.{Begin, Done}
use Rattle.dependency_graph.specs.Graph.{Followed}
use Rattle.wan_edge.specs.Frames.{Answer}
use Rattle.update_scheduler.specs.Counts.{count_done, count_begun}
use Rattle.rollout_book.specs.declared.fault.BookFault.{BookFault}
use Rattle.rollout_book.specs.declared.fault.BookFault.TheVariants as fault
use Rattle.rollout_book.specs.Aliens as aliens
use Rattle.rollout_book.specs.Aliens.{is_known, begun_of, told_by}
use Rattle.shared_book.specs.declared.note.What.{What}
use Rattle.shared_book.specs.declared.note.What.TheVariants as what
use Rattle.shared_book.specs.Batches.{dones_ahead, behind_dones}
use Rattle.shared_book.specs.Replies.{first_alien, turned}
use Rattle.shared_book.proofs.Batched.{batch-behind}
use Rattle.shared_book.specs.Told.{fault_notes}

-- ---- counts
done-ahead : (es : List Entry) → count_done es ≡ length (dones_ahead es) + count_done (behind_dones es)
done-ahead [] = omega arith
done-ahead (Begin op ∷ es) = omega arith
done-ahead (Done op ∷ es) = omega (arith, done-ahead es)

begun-behind : (es : List Entry) → count_begun es ≡ count_begun (behind_dones es)
begun-behind [] = refl
begun-behind (Begin op ∷ es) = refl
begun-behind (Done op ∷ es) = begun-behind es

-- entries that all begin something
record AllBegin (es : List Entry) : Type 0 where
  dones : count_done es ≡ 0
  begins : count_begun es ≡ length es

module _ (p : Problem) (plan : Plan) where
  each-begins : (h : History) (ns : List ℕ) → AllBegin (begin_each p plan h ns)
  each-begins h [] = record { dones = refl; begins = refl }
  each-begins h (n ∷ ns) =
      let later = each-begins (with_entries h (Begin (next_op h n) ∷ [])) ns in
      cond_both (may_begin p plan h (next_op h n)) (Begin (next_op h n) ∷ begin_each p plan (with_entries h (Begin (next_op h n) ∷ [])) ns) (begin_each p plan h ns)
      AllBegin (λ _. record { dones = later.dones; begins = omega (arith, later.begins) }) (λ _. each-begins h ns)

  module _ (policy : OpView → ℕ) (h : History) (answers : List Op) where
    batch-begins : AllBegin (behind_dones (batch p plan policy h answers))
    batch-begins = subst AllBegin (sym (batch-behind p plan policy h answers)) (each-begins (with_entries h (dones p h answers)) _)

    pub counts-dones : count_done (batch p plan policy h answers) ≡ length (dones_ahead (batch p plan policy h answers))
    counts-dones = omega (arith, done-ahead (batch p plan policy h answers), batch-begins.dones)

    pub counts-begins : count_begun (batch p plan policy h answers) ≡ length (behind_dones (batch p plan policy h answers))
    counts-begins = begun-behind (batch p plan policy h answers) ∙ batch-begins.begins

    pub turned-is : what.Turned (count_done (batch p plan policy h answers)) (count_begun (batch p plan policy h answers)) ≡ turned (batch p plan policy h answers)
    turned-is = ap₂ what.Turned counts-dones counts-begins

-- ---- alien answers
pick : (known : Bool) (later : Option What) (later' : Option BookFault) (item held begun : ℕ) → later ≡ option_map fault_notes later'
    → (if not known then Some (what.Alien item held begun) else later) ≡ option_map fault_notes (if known then later' else (if known then None else Some (fault.Alien item held begun)))
pick true later later' item held begun same = same
pick false later later' item held begun same = refl

pub alien-same : (g : Followed) (answers : List Answer) → first_alien g.rollout.problem g.history (told_by answers) ≡ option_map fault_notes (aliens.first_alien g answers)
alien-same g [] = refl
alien-same g (a ∷ later) =
    pick (is_known g a) (first_alien g.rollout.problem g.history (told_by later)) (aliens.first_alien g later) a.item a.held (begun_of g a.item) (alien-same g later)
