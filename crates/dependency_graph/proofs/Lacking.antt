-- What is found to be lacking is what an item lacks.
use Rattle.std.proofs.Common.{◌≡◌, ℕ, true, subst}
use Rattle.rollout_rules.specs.Wan.{Rollout}
use Rattle.rollout_rules.specs.Items.{item_at}
use Rattle.rollout_rules.specs.History.{stand}
use Rattle.rollout_rules.specs.declared.item.Item.{Item}
use Rattle.dependency_graph.specs.Cells.{Cells, AreRooms, rises}
use Rattle.dependency_graph.specs.Graph.{Followed, places, has_next}
use Rattle.dependency_graph.specs.Waiting.{Fails, Lacks}
use Rattle.dependency_graph.proofs.Looked.{AreLooked}
use Rattle.dependency_graph.proofs.Blocked.{cells-lack}

pub looked-lacks : (r : Rollout) (g : Followed) (n : ℕ) (i : Item) (low x : ℕ) → AreLooked r g n i low x → (t : Cells) → AreRooms g.rollout (places g) t → has_next g n ≡ true → (q : ℕ) → Fails r t low x (rises r i x) q → Lacks g n q
looked-lacks r g n i low x so t rooms next q fails =
    let this = item_at g.rollout.problem n in
    let standing = stand g.rollout.problem g.rollout.plan (places g) this in
    let a = subst (λ (m : Rollout). Fails m t low x (rises m i x) q) so.own fails in
    let b = subst (λ k. Fails g.rollout t low x (rises g.rollout k x) q) so.item a in
    let d = subst (λ y. Fails g.rollout t low y (rises g.rollout this y) q) so.stands b in
    let e = subst (λ l. Fails g.rollout t l standing (rises g.rollout this standing) q) so.least d in
    cells-lack g n q t rooms next e.inside e.full
