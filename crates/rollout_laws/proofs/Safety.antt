-- Good places are safe.
use Rattle.std.proofs.Common.{◌≡◌, ℕ, ◌≤◌, Bool, true, length, inl, inr, subst, le_refl, le_trans, lt-ltb}
use Rattle.rollout_rules.specs.Wan.{Problem, Plan, tunnel_at}
use Rattle.rollout_rules.specs.Network.{IsNetwork}
use Rattle.rollout_rules.specs.Items.{the_link, the_table, capacity_of}
use Rattle.rollout_rules.specs.History.{Places, History, places_of}
use Rattle.rollout_rules.specs.Valid.{is_valid_plan}
use Rattle.rollout_rules.specs.Legal.{is_legal}
use Rattle.rollout_rules.specs.Safe.{settled_rate, settled_mark, IsRateChoice, IsMarkChoice, LinksHold, TablesHold, EntriesStand, IsSafe}
use Rattle.rollout_rules.specs.declared.item.Item.TheVariants as item
use Rattle.rollout_rules.proofs.Totals.{sum_items-load, sum_items-entries_at}
use Rattle.rollout_laws.specs.Good.{begun_at, IsGood}
use Rattle.rollout_laws.proofs.Goods.{settled-begun_at}
use Rattle.rollout_laws.proofs.Choices.{choice-room, least-room}
use Rattle.rollout_laws.proofs.Traffic.{entry-stands}
use Rattle.rollout_laws.proofs.Validity.{IsValid, plan-is_valid}
use Rattle.rollout_laws.proofs.Moves.{legal-good}

module _ (p : Problem) (plan : Plan) (net : IsNetwork p) (valid : IsValid p plan) (at : Places) (good : IsGood p plan at) where
  links-hold : (rate : ℕ → ℕ) → IsRateChoice p plan at rate → LinksHold p plan rate
  links-hold rate rates l lt =
      subst (λ n. n ≤ capacity_of p plan (the_link l)) (sum_items-load p rate (settled_mark p plan at) l net)
      (le_trans (choice-room p plan net at rate (settled_mark p plan at) rates (λ t h low near. inl (λ _. settled_mark p plan at t h)) good (the_link l)) (least-room p plan valid at good (the_link l) (lt-ltb l (length p.links) lt)))

  tables-hold : (there : ℕ → ℕ → Bool) → IsMarkChoice p plan at there → TablesHold p there
  tables-hold there marks w lt =
      subst (λ n. n ≤ capacity_of p plan (the_table w)) (sum_items-entries_at p (settled_rate p plan at) there w)
      (le_trans (choice-room p plan net at (settled_rate p plan at) there (λ t low. inl (λ _. settled_rate p plan at t)) marks good (the_table w)) (least-room p plan valid at good (the_table w) (lt-ltb w (length p.switches) lt)))

  entries-stand : EntriesStand p plan at
  entries-stand t h row hop (inl some) =
      let flow = item.Flow (tunnel_at p t).flow in
      let entry = item.Entry t h in
      let stands = entry-stands p plan net valid at good t h row hop (at.settled flow) (le_refl (at.settled flow)) (settled-begun_at at flow) some in
      (stands (at.settled entry) (le_refl (at.settled entry)) (settled-begun_at at entry), stands (begun_at at entry) (settled-begun_at at entry) (le_refl (begun_at at entry)))
  entries-stand t h row hop (inr some) =
      let flow = item.Flow (tunnel_at p t).flow in
      let entry = item.Entry t h in
      let stands = entry-stands p plan net valid at good t h row hop (begun_at at flow) (settled-begun_at at flow) (le_refl (begun_at at flow)) some in
      (stands (at.settled entry) (le_refl (at.settled entry)) (settled-begun_at at entry), stands (begun_at at entry) (settled-begun_at at entry) (le_refl (begun_at at entry)))

  pub good-safe : IsSafe p plan at
  good-safe = record { links = links-hold; tables = tables-hold; entries = entries-stand }

-- every legal history of a valid plan is safe
pub legal-safe : (p : Problem) (plan : Plan) (h : History) → IsNetwork p → is_valid_plan p plan ≡ true → is_legal p plan h ≡ true → IsSafe p plan (places_of p h)
legal-safe p plan h net is_valid legal =
    let valid = plan-is_valid p plan is_valid in
    good-safe p plan net valid (places_of p h) (legal-good p plan net h legal)
