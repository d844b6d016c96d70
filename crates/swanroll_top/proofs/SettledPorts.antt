-- What the switches hold where nothing is in flight: exactly the contents of what is settled. A drain and a rollback end so.
use Rattle.std.proofs.Common.{◌≡◌, ◌+◌, ◌<◌, ◌≤◌, ℕ, List, [], ◌∷◌, ◌++◌, true, Option, Some, None, IfSome, sym, ap, ◌∙◌, subst, inl, inr, arith}
use Rattle.std.specs.List.{AllByRecursion}
use Rattle.std.proofs.lemmas.Bool.{eqb-false}
use Rattle.lists.proofs.Options.{of_some}
use Rattle.rollout_rules.specs.Wan.{Rollout}
use Rattle.rollout_rules.specs.Items.{item_at, item_count}
use Rattle.rollout_rules.specs.Operations.{content_after}
use Rattle.rollout_rules.specs.History.{History, begun, settled}
use Rattle.rollout_rules.specs.Legal.{is_legal}
use Rattle.rollout_rules.specs.Agent.{Holding}
use Rattle.rollout_laws.specs.Waiting.{NothingFlies}
use Rattle.rollout_laws.proofs.Histories.{is_counted}
use Rattle.wan_edge.specs.Ports.{PortTrace}
use Rattle.wan_edge.specs.Switches.{Holdings}
use Rattle.shared_book.specs.Homes.{homes_of}
use Rattle.port_session.specs.Sessions.{first_session}
use Rattle.switch_ports.specs.Views.{SessionTrace, view}
use Rattle.switch_ports.specs.declared.ports.Berth.{Berth}
use Rattle.switch_ports.specs.Berths.{FleetPorts}
use Rattle.switch_laws.specs.Holdings.{AreHeldAt, IsHeldAt}
use Rattle.switch_laws.proofs.Stands.{if_some}
use Rattle.completion_laws.specs.Untold.{EachMayHold, IsFoundWith, MayHold}
use Rattle.swanroll_top.specs.DrainTargets.{AreHeldSettled, EndsSettled, IsHeldSettled}
use Rattle.swanroll_top.specs.Targets.{EndsWithin}

-- what follows of what is held follows where it is told, and of whatever may be held
module _ (P Q : Holdings → Type 0) (more : (holdings : Holdings) → P holdings → Q holdings) where
  pub told-more : {A B : Type 0} (o : Option A) (p : Option B) (q : Option Holdings) → IfSome o (λ _. IfSome p (λ _. IfSome q P)) → IfSome o (λ _. IfSome p (λ _. IfSome q Q))
  told-more None p q holds = tt
  told-more (Some a) None q holds = tt
  told-more (Some a) (Some b) None holds = tt
  told-more (Some a) (Some b) (Some c) holds = more c holds

  pub each-more : (r : Rollout) (migration : ℕ) (homes : List (Option ℕ)) (found : History) (first : SessionTrace) (now : PortTrace) → EachMayHold r migration homes found first now P → EachMayHold r migration homes found first now Q
  each-more r migration homes found first now each =
      if_some now.offered (λ offered. IfSome now.heard (λ heard. (earlier : List ℕ) (before after : Holdings) → IsFoundWith r migration homes found first earlier before → MayHold (earlier ++ offered) heard before after → Q after))
      (λ offered offered_is. if_some now.heard (λ heard. (earlier : List ℕ) (before after : Holdings) → IsFoundWith r migration homes found first earlier before → MayHold (earlier ++ offered) heard before after → Q after)
      (λ heard heard_is earlier before after were may.
      let here = of_some (λ heard. (earlier : List ℕ) (before after : Holdings) → IsFoundWith r migration homes found first earlier before → MayHold (earlier ++ offered) heard before after → P after) now.heard heard heard_is
      (of_some (λ offered. IfSome now.heard (λ heard. (earlier : List ℕ) (before after : Holdings) → IsFoundWith r migration homes found first earlier before → MayHold (earlier ++ offered) heard before after → P after)) now.offered offered offered_is each) in
      more after (here earlier before after were may)))

-- ---- what the switches hold

module _ (r : Rollout) (migration : ℕ) (h : History) (legal : is_legal r.problem r.plan h ≡ true) (idle : NothingFlies r.problem h) where
  none-more : (n : ℕ) → n < item_count r.problem → begun h n ≤ settled h n
  none-more n inside = omega (arith, (is_counted r.problem r.plan h legal n).one_flies, eqb-false (begun h n) (settled h n + 1) (idle n inside))

  settled-so : (n : ℕ) → n < item_count r.problem → (holding : Holding) → IsHeldAt r migration h n holding → IsHeldSettled r migration h n holding
  settled-so n inside holding (inl moved) =
      let number : holding.held.number ≡ settled h n = omega (arith, moved.least, moved.most, none-more n inside) in
      inl (record {
        pair = λ k. record { migration = moved.pair k; number = number k };
        content = λ some. moved.content (subst (λ (m : ℕ). 0 < m) (sym number) some) ∙ ap (content_after r.problem r.plan (item_at r.problem n)) number;
      })
  settled-so n inside holding (inr left) = inr left

  settled-of : (switch : ℕ) (holdings : Holdings) → AreHeldAt r migration (homes_of r.problem) switch h holdings → AreHeldSettled r migration (homes_of r.problem) switch h holdings
  settled-of switch holdings each = λ n inside home. settled-so n inside (holdings n) (each n inside home)

module _ {P : Type 0} (tell : P → PortTrace) (r : Rollout) (migration : ℕ) (found h : History) (before now : FleetPorts P)
    (legal : is_legal r.problem r.plan h ≡ true) (idle : NothingFlies r.problem h) where
  pub berths-settled : (bs : List (Berth P)) → AllByRecursion (EndsWithin tell r migration found h before now) bs → AllByRecursion (EndsSettled tell r migration found h before now) bs
  berths-settled [] all = tt
  berths-settled (b ∷ bs) all = (
    record {
      given = all.0.given;
      back = all.0.back;
      kept = all.0.kept;
      holds = λ starts. told-more (AreHeldAt r migration (homes_of r.problem) b.switch h) (AreHeldSettled r migration (homes_of r.problem) b.switch h) (settled-of r migration h legal idle b.switch)
          (tell all.0.back).offered (tell all.0.back).heard (tell all.0.back).held (all.0.holds starts);
      each = each-more (AreHeldAt r migration (homes_of r.problem) b.switch h) (AreHeldSettled r migration (homes_of r.problem) b.switch h) (settled-of r migration h legal idle b.switch)
          r migration (homes_of r.problem) found (view tell (first_session b.switch b.port)) (tell all.0.back) all.0.each;
    },
    berths-settled bs all.1,
  )
