-- What keeps a rollout without a book: its graph, and its list.
use Rattle.std.proofs.Common.{◌≡◌, ◌<◌, ℕ, Bool, true, List, [], ◌++◌, All, sym, ap, ap₂, ◌∙◌, subst}
use Rattle.std.proofs.lemmas.List.{length-map, get_or-map}
use Rattle.rollout_rules.specs.Wan.{Rollout}
use Rattle.rollout_rules.specs.Items.{item_count}
use Rattle.rollout_rules.specs.History.{from_nothing}
use Rattle.rollout_rules.specs.Legal.{is_legal}
use Rattle.rollout_rules.specs.Valid.{is_valid_plan}
use Rattle.rollout_rules.specs.declared.op.Entry.{Entry}
use Rattle.rollout_rules.specs.declared.op.Op.{Op}
use Rattle.rollout_rules.specs.declared.op.OpView.{OpView}
use Rattle.rollout_laws.proofs.SoundStarts.{from_nothing-legal}
use Rattle.dependency_graph.specs.Graph.{Followed}
use Rattle.wan_edge.specs.Frames.{Answer}
use Rattle.rollout_book.specs.Aliens.{op_of, told_by}
use Rattle.rollout_book.specs.JournaledRounds.{turn_of}
use Rattle.update_scheduler.specs.Counts.{count_begun, count_done}
use Rattle.update_scheduler.specs.Rounds.{Turning, after_round, first_turn, graph_of}
use Rattle.intent_journal.specs.Openings.{unbegun}
use Rattle.sim_run.specs.Keeping.{Keeping, MayTell, batch_over, graph_with}
use Rattle.sim_run.specs.Plain.{IsPlain}

-- a graph at the start at which nothing is settled has a legal history
pub first_legal : (r : Rollout) (g : Followed) → g ≡ unbegun r → is_valid_plan r.problem r.plan ≡ true → is_legal g.rollout.problem g.rollout.plan g.history ≡ true
first_legal r g is valid = subst (λ (x : Followed). is_legal x.rollout.problem x.rollout.plan x.history ≡ true) (sym is) (from_nothing-legal r.problem r.plan valid)

-- its list has no entry
pub first-plain : (r : Rollout) (rounds : Turning) (list : List Entry) → rounds ≡ first_turn (unbegun r) → list ≡ [] → IsPlain rounds list true
first-plain r rounds list is none = record {
  heard = ap (λ (t : Turning). t.heard) is;
  same = λ live. ap₂ (λ (t : Turning) (l : List Entry). from_nothing t.rollout.problem l) is none ∙ sym (ap (λ (t : Turning). t.history) is);
}

-- answers that tell what they may are of items that exist
pub items-known : (g : Followed) (answers : List Answer) → All (MayTell g) (told_by answers) → All (λ (answer : Answer). answer.item < item_count g.rollout.problem) answers
items-known g answers told k d lt =
    let there = told k (op_of d) (subst (λ n. k < n) (sym (length-map answers op_of)) lt) in
    subst (λ (op : Op). op.item < item_count g.rollout.problem) (get_or-map op_of answers k d (op_of d) lt) there.item

-- rounds that had heard nothing hear these answers, and make a round
module _ (old between new : Turning) (policy : OpView → ℕ) (answers : List Answer) (none : old.heard ≡ []) (heard : between ≡ record old { heard = old.heard ++ told_by answers }) (made : new ≡ after_round between policy) where
  all-made : new ≡ after_round (record old { heard = told_by answers }) policy
  all-made = made ∙ ap (λ (t : Turning). after_round t policy) (heard ∙ ap (λ (l : List Op). record old { heard = l ++ told_by answers }) none)

  batch-made : new.batch ≡ batch_over (graph_of old) policy answers
  batch-made = ap (λ (t : Turning). t.batch) all-made

  module _ (live : Bool) (p : Keeping) (seen : (record { graph = graph_of old; live = live }) ≡ p) where
    pub plain-made : p.live ≡ true → (record { graph = graph_of new; live = true }) ≡ record p { graph = graph_with p.graph (batch_over p.graph policy answers) }
    plain-made lives =
        ap (λ (t : Turning). record { graph = graph_of t; live = true }) all-made
        ∙ ap₂ (λ (q : Keeping) (l : Bool). record { graph = graph_with q.graph (batch_over q.graph policy answers); live = l }) seen (sym lives)

    pub turn-made : (dones begins : ℕ) → dones ≡ count_done new.batch → begins ≡ count_begun new.batch → (record { dones = dones; begins = begins }) ≡ turn_of (batch_over p.graph policy answers)
    turn-made dones begins ended begun =
        ap₂ (λ (d b : ℕ). record { dones = d; begins = b }) ended begun
        ∙ ap turn_of batch-made
        ∙ ap (λ (q : Keeping). turn_of (batch_over q.graph policy answers)) seen
