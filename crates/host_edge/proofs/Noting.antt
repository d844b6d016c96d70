-- What is noted piece by piece.
use Rattle.std.proofs.Common.{◌≡◌, ℕ, ◌+◌, ◌-◌, ◌≤◌, List, ◌++◌, length, take, drop, true, false, Option, Some, Result, Ok, Err, append_assoc, ap, arith, ◌∙◌, refl, sym}
use Rattle.std.proofs.lemmas.List.{take-append-drop, take_rest}
use Rattle.std.proofs.KnownBytes.{Appends-trans}
use Rattle.std.specs.Prelude.{OnOk}
use Rattle.lists.proofs.Rows.{take_further}
use Rattle.wan_edge.specs.Ports.{IsOneMore, LooksAt}
use Rattle.host_edge.specs.Histories.{AddsFront, Carries}
use Rattle.host_edge.specs.Tellings.{told_with}

pub added_further : (first mid now piece more all : List ℕ) → mid ≡ first ++ piece → now ≡ mid ++ more → piece ++ more ≡ all → now ≡ first ++ all
added_further first mid now piece more all was is whole = is ∙ ap (λ (xs : List ℕ). xs ++ more) was ∙ append_assoc first piece more ∙ ap (λ (xs : List ℕ). first ++ xs) whole

pub carries_more : (a b c : Option (List ℕ)) (before mid now : List ℕ) → Carries a b before mid → Carries b c mid now → Carries a c before now
carries_more a b c before mid now first then = record {
  piece = first.piece ++ then.piece;
  appended = Appends-trans a b c first.piece then.piece first.appended then.appended;
  added = added_further before mid now first.piece then.piece (first.piece ++ then.piece) first.added then.added refl;
}

-- after the first bytes the first ones of the rest
pub adds_more : (before bytes mid now : List ℕ) (n : ℕ) → n ≤ length bytes → mid ≡ before ++ take n bytes → AddsFront mid (take (length bytes - n) (drop n bytes)) now → AddsFront before bytes now
adds_more before bytes mid now n within added then =
    let further = take_further bytes n then.count within then.within in
    record {
      count = n + then.count;
      within = further.0;
      added = added_further before mid now (take n bytes) (take then.count (take (length bytes - n) (drop n bytes))) (take (n + then.count) bytes) added then.added further.1;
    }

pub front_and_rest : (bytes : List ℕ) (n : ℕ) → take n bytes ++ take (length bytes - n) (drop n bytes) ≡ bytes
front_and_rest bytes n = ap (λ (xs : List ℕ). take n bytes ++ xs) (take_rest bytes n) ∙ take-append-drop n bytes

pub on_ok : {X E : Type 0} → (P Q : Type 0) (answer : Result X E) → (P → Q) → OnOk answer P → OnOk answer Q
on_ok P Q (Ok x) further p = further p
on_ok P Q (Err e) further p = tt

pub one_more : (before now : ℕ) → now ≡ before + 1 → IsOneMore (Some before) (Some now)
one_more before now more =
    let back : before ≡ now - 1 = omega (arith, more) in
    (omega (arith, more), ap Some back)

-- a look told nothing, or that it came too early
module _ (offered heard offered_now heard_now : List ℕ) (quiet waits quiet_now waits_now : ℕ) (same_offered : offered_now ≡ offered) (same_heard : heard_now ≡ heard) (same_quiet : quiet_now ≡ quiet) where
  pub looks_ready : waits_now ≡ waits → LooksAt true (told_with offered heard quiet waits) (told_with offered_now heard_now quiet_now waits_now)
  looks_ready same = λ i. told_with (same_offered i) (same_heard i) (same_quiet i) (same i)

  pub looks_early : waits_now ≡ waits + 1 → LooksAt false (told_with offered heard quiet waits) (told_with offered_now heard_now quiet_now waits_now)
  looks_early more = record {
    offered = ap Some same_offered;
    heard = ap Some same_heard;
    quiet = ap Some same_quiet;
    waits = one_more waits waits_now more;
    prompt = refl;
    step = record { count = omega arith; told = refl; honest = refl; prompt = refl; start = refl; by_rule = tt; in_order = tt };
  }
