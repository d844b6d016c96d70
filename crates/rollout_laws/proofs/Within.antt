-- A Done takes no room, and places within a legal history are as good as its own.
use Rattle.std.proofs.Common.{◌≡◌, ℕ, ◌≤◌, true, [], ◌∷◌, sym, ◌∙◌, subst, arith}
use Rattle.rollout_rules.specs.Sums.{list_below}
use Rattle.rollout_rules.specs.Wan.{Problem, Plan}
use Rattle.rollout_rules.specs.Network.{IsNetwork}
use Rattle.rollout_rules.specs.Items.{Resource, is_item, item_count, number_of}
use Rattle.rollout_rules.specs.Valid.{is_valid_plan}
use Rattle.rollout_rules.specs.History.{History, Places, started, with_entries, begun, settled, places_of}
use Rattle.rollout_rules.specs.Room.{least_stage, room}
use Rattle.rollout_rules.specs.Legal.{is_sound, may_end, is_legal}
use Rattle.rollout_rules.specs.Safe.{IsSafe}
use Rattle.rollout_rules.specs.declared.item.Item.{Item}
use Rattle.rollout_rules.specs.declared.op.Op.{Op}
use Rattle.rollout_rules.specs.declared.op.Entry.TheVariants.{Done}
use Rattle.rollout_rules.proofs.Numbers.{number_of-below}
use Rattle.rollout_rules.proofs.Rows.{list_below-at}
use Rattle.rollout_laws.specs.Good.{begun_at, IsGood, IsBetween, AreWithin, AreHeldWithin, places_held}
use Rattle.rollout_laws.proofs.Histories.{ends}
use Rattle.rollout_laws.proofs.Rooms.{least_stage-up, stand-later, room-later}
use Rattle.rollout_laws.proofs.Goods.{good-later}
use Rattle.rollout_laws.proofs.SoundStarts.{begun_at-started, good-sound}
use Rattle.rollout_laws.proofs.Moves.{done-between, begun_at-places, legal-good}
use Rattle.rollout_laws.proofs.Validity.{plan-is_valid}
use Rattle.rollout_laws.proofs.Safety.{good-safe}

pub done-room : (p : Problem) (plan : Plan) (h : History) (op : Op) → may_end h op ≡ true → (s : ℕ) (r : Resource) → room p plan (places_of p (with_entries h (Done op ∷ []))) s r ≤ room p plan (places_of p h) s r
done-room p plan h op may s r = room-later p plan (places_of p h) (places_of p (with_entries h (Done op ∷ []))) (done-between p h op (ends h op may)) s r

pub done-least : (p : Problem) (plan : Plan) (h : History) (op : Op) → may_end h op ≡ true → least_stage p plan (places_of p h) ≤ least_stage p plan (places_of p (with_entries h (Done op ∷ [])))
done-least p plan h op may =
    let later = places_of p (with_entries h (Done op ∷ [])) in
    least_stage-up p plan (places_of p h) later (stand-later p plan (places_of p h) later (done-between p h op (ends h op may)))

module _ (p : Problem) (plan : Plan) (h : History) (at : Places) where
  within-between : is_legal p plan h ≡ true → AreWithin p h at → IsBetween p (places_of p h) at
  within-between legal within = record {
    settled = within.settled;
    begun = λ i here. subst (λ n. begun_at at i ≤ n) (sym (begun_at-places p plan h legal i)) (within.begun i here);
  }

  pub within-good : IsNetwork p → is_legal p plan h ≡ true → AreWithin p h at → IsGood p plan at
  within-good net legal within = good-later p plan net (places_of p h) at (legal-good p plan net h legal) (within-between legal within)

  pub within-safe : IsNetwork p → is_valid_plan p plan ≡ true → is_legal p plan h ≡ true → AreWithin p h at → IsSafe p plan at
  within-safe net valid legal within = good-safe p plan net (plan-is_valid p plan valid) at (within-good net legal within)

  pub within-least : is_legal p plan h ≡ true → AreWithin p h at → least_stage p plan (places_of p h) ≤ least_stage p plan at
  within-least legal within = least_stage-up p plan (places_of p h) at (stand-later p plan (places_of p h) at (within-between legal within))

  pub within-room : is_legal p plan h ≡ true → AreWithin p h at → (s : ℕ) (r : Resource) → room p plan at s r ≤ room p plan (places_of p h) s r
  within-room legal within s r = room-later p plan (places_of p h) at (within-between legal within) s r

-- what switches hold is within the history
held-within : (p : Problem) (h : History) (held : ℕ → ℕ) → AreHeldWithin p h held → AreWithin p h (places_held p held)
held-within p h held within = record {
  settled = λ i here. within.settled (number_of p i) (number_of-below p i here);
  begun = λ i here. within.begun (number_of p i) (number_of-below p i here);
}

pub held-safe : (p : Problem) (plan : Plan) (h : History) (held : ℕ → ℕ) → IsNetwork p → is_valid_plan p plan ≡ true → is_legal p plan h ≡ true → AreHeldWithin p h held → IsSafe p plan (places_held p held)
held-safe p plan h held net valid legal within = within-safe p plan h (places_held p held) net valid legal (held-within p h held within)

-- the start at which so much is settled is where the switches are
started-held : (p : Problem) (h : History) (held : ℕ → ℕ) → AreHeldWithin p h held → AreWithin p h (places_of p (started (list_below (item_count p) held)))
started-held p h held within = record {
  settled = λ i here. subst (λ n. settled h (number_of p i) ≤ n) (sym (same i here)) (within.settled (number_of p i) (number_of-below p i here));
  begun = λ i here. subst (λ n. n ≤ begun h (number_of p i)) (sym (begun_at-started p (list_below (item_count p) held) i ∙ same i here)) (within.begun (number_of p i) (number_of-below p i here));
}
  where
    same : (i : Item) → is_item p i ≡ true → settled (started (list_below (item_count p) held)) (number_of p i) ≡ held (number_of p i)
    same i here = omega (arith, list_below-at (item_count p) held (number_of p i) 0 (number_of-below p i here))

pub held-sound : (p : Problem) (plan : Plan) (h : History) (held : ℕ → ℕ) → IsNetwork p → is_legal p plan h ≡ true → AreHeldWithin p h held → is_sound p plan (list_below (item_count p) held) ≡ true
held-sound p plan h held net legal within =
    let start = list_below (item_count p) held in
    good-sound p plan start (within-good p plan h (places_of p (started start)) net legal (started-held p h held within))
