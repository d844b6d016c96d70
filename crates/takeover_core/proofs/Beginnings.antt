-- Where worlds begin: the pairs held, item by item, and the takeover at first.
use Rattle.std.proofs.Common.{◌≡◌, ℕ, ◌<◌, Bool, true, List, Option, None, refl, sym, ap, ◌∙◌, subst}
use Rattle.std.proofs.lemmas.List.{ext_get_or, length-map}
use Rattle.rollout_rules.specs.Sums.{list_below}
use Rattle.rollout_rules.specs.Wan.{Problem, Plan, Rollout}
use Rattle.rollout_rules.specs.Network.{IsNetwork}
use Rattle.rollout_rules.specs.Items.{item_count}
use Rattle.rollout_rules.specs.Legal.{is_sound}
use Rattle.rollout_rules.specs.Agent.{first_pair}
use Rattle.rollout_rules.specs.World.{World, first_world, are_first_pairs, held_of}
use Rattle.rollout_rules.specs.declared.held.Held.{Held}
use Rattle.rollout_rules.proofs.Rows.{list_below-length, list_below-at}
use Rattle.rollout_laws.specs.Kept.{IsKept}
use Rattle.rollout_laws.specs.SafeWorlds.{pairs_held}
use Rattle.rollout_laws.proofs.Keeping.{first_world_is_kept}
use Rattle.rollout_core.specs.Worlds.{Standing}
use Rattle.takeover_rules.specs.Takeovers.{takeover_of, newer_world, no_fences, first_takeover}
use Rattle.takeover_laws.specs.InHand.{IsHanded}
use Rattle.takeover_laws.proofs.Taking.{nth_pair, handed-fences}
use Rattle.takeover_core.specs.Standings.{Taking, world_of, IsOwn, IsTaking, taking_of}

pub pairs_all : (p : Problem) (plan : Plan) (w : World) → IsKept p plan w → list_below (item_count p) (λ n. (held_of w n).held) ≡ pairs_held w
pairs_all p plan w kept =
    ext_get_or first_pair (list_below (item_count p) (λ n. (held_of w n).held)) (pairs_held w)
    (list_below-length (item_count p) (λ n. (held_of w n).held) ∙ sym kept.items ∙ sym (length-map w.held (λ v. v.held)))
    (λ n few.
    let lt = subst (λ (k : ℕ). n < k) (list_below-length (item_count p) (λ k. (held_of w k).held)) few in
    list_below-at (item_count p) (λ k. (held_of w k).held) n first_pair lt ∙ sym (nth_pair p plan w kept n lt))

module _ (r : Rollout) (fenced : List Bool) (older : Standing) (newer : Option Standing) (start : List ℕ) (migration : ℕ) (first : List Held)
    (marks : fenced ≡ no_fences r.problem)
    (begun : older ≡ record { rollout = r; world = first_world r.problem r.plan start migration first })
    (next : world_of newer ≡ newer_world r.problem r.plan fenced older.world None) where
  -- it is in the older controller's hand, or at once in the newer one's
  pub first_taking : IsNetwork r.problem → is_sound r.problem r.plan start ≡ true → are_first_pairs r.problem start migration first ≡ true → IsOwn r newer → IsTaking r fenced older newer
  first_taking net sound firsts own = record {
    network = net;
    own = ap (λ (s : Standing). s.rollout) begun;
    own_newer = own;
    migration = migration;
    hand = subst (IsHanded r.problem r.plan migration fenced older.world) (sym next)
        (subst (λ (s : Standing). IsHanded r.problem r.plan migration fenced s.world (newer_world r.problem r.plan fenced s.world None)) (sym begun)
        (handed-fences r.problem r.plan net migration fenced (first_world r.problem r.plan start migration first) (first_world_is_kept r.problem r.plan start migration first sound firsts) refl));
  }

  pub first_taking_is : taking_of r fenced older newer ≡ record { rollout = r; takeover = first_takeover r.problem r.plan start migration first }
  first_taking_is =
      ap (λ (w : Option World). made fenced older.world w) next
      ∙ ap (λ (s : Standing). made fenced s.world (newer_world r.problem r.plan fenced s.world None)) begun
      ∙ ap (λ (ms : List Bool). made ms (first_world r.problem r.plan start migration first) (newer_world r.problem r.plan ms (first_world r.problem r.plan start migration first) None)) marks
    where
      made : List Bool → World → Option World → Taking
      made ms w v = record { rollout = r; takeover = takeover_of ms w v }
