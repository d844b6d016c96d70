-- The bytes of a new part, as they are put together, and what they keep.
use Rattle.std.proofs.Common.{◌≡◌, ℕ, ◌+◌, ◌*◌, ◌<◌, ◌≤◌, ◌^◌, List, [], ◌∷◌, ◌++◌, length, sym, subst, ◌∙◌, ap, arith, length-append}
use Rattle.std.proofs.lemmas.List.{append_assoc}
use Rattle.rollout_rules.specs.declared.op.Entry.{Entry}
use Rattle.intent_journal.specs.declared.digest.Digest.{Digest}
use Rattle.disk_model.specs.Numbers.{bytes_4}
use Rattle.intent_journal.specs.Entries.{entry_rows}
use Rattle.intent_journal.specs.Parts.{Kept, batch_body, new_front, number_bytes, size_of}
use Rattle.intent_journal.specs.Phases.{IsPlanned, Planned, kept_of, planned, slot_for}
use Rattle.intent_journal.specs.States.{AreSmall, CanBeKept}
use Rattle.intent_journal.proofs.Laying.{second_is, second_size}
use Rattle.intent_journal.proofs.NewParts.{Stands-new, length-new_front}
use Rattle.intent_journal.proofs.Rows.{entry_rows-are, length-entry_rows}
use Rattle.intent_journal.proofs.Switches.{keeps_is, not_open}

-- a row of pieces and what stands after them
pieces : (a b c d e z : List ℕ) → (a ++ (b ++ (c ++ d))) ++ (e ++ z) ≡ (a ++ (b ++ (c ++ (d ++ e)))) ++ z
pieces a b c d e z =
    append_assoc a (b ++ (c ++ d)) (e ++ z)
    ∙ ap (λ (l : List ℕ). a ++ l) (append_assoc b (c ++ d) (e ++ z) ∙ ap (λ (l : List ℕ). b ++ l) (append_assoc c d (e ++ z) ∙ ap (λ (l : List ℕ). c ++ l) (sym (append_assoc d e z))))
    ∙ sym (append_assoc a (b ++ (c ++ (d ++ e))) z
    ∙ ap (λ (l : List ℕ). a ++ l) (append_assoc b (c ++ (d ++ e)) z ∙ ap (λ (l : List ℕ). b ++ l) (append_assoc c (d ++ e) z)))

-- bytes keep what they were written for
planned_is : (kept : Kept) (size : ℕ) (bytes : List ℕ) → CanBeKept kept → bytes ≡ new_front kept ++ 0 ∷ [] → length bytes ≤ size → planned size bytes ≡ record { kept = kept; size = size }
planned_is kept size bytes can is fits =
    let room : length (new_front kept) < size_of (slot_for 0 size) = omega (arith, ap length is, length-append (new_front kept) (0 ∷ []), fits, second_size 0 size) in
    ap (λ (k : Kept). record { kept = k; size = size })
    (keeps_is (slot_for 0 size) bytes (new_front kept) [] 0 kept (Stands-new kept can (slot_for 0 size) (second_is 0 size) room) is not_open)

module _ (digest : Digest) (starts : List ℕ) (entries : List Entry) (operations : ℕ) (head list bytes : List ℕ)
    (of_head : head ≡ digest.bytes ++ (bytes_4 digest.migration ++ (bytes_4 (length starts) ++ number_bytes starts))) (of_list : list ≡ batch_body (entry_rows entries) ++ 0 ∷ [])
    (of_bytes : bytes ≡ head ++ list) (long : length digest.bytes ≡ 32) (migration : digest.migration < 2 ^ 32) (small : AreSmall starts)
    (few : 9 * length entries ≤ 28 * operations) (room : 45 + 4 * length starts + 28 * operations ≤ 1000000000) where
  abbrev kept : Kept
  kept = kept_of digest starts entries

  abbrev size : ℕ
  size = 45 + 4 * length starts + 28 * operations

  can : CanBeKept kept
  can = record {
    digest = long;
    migration = migration;
    starts = small;
    few_starts = omega (arith, room);
    are_rows = entry_rows-are entries;
    few_rows = omega (arith, few, room, length-entry_rows entries);
  }

  is : bytes ≡ new_front kept ++ 0 ∷ []
  is =
      of_bytes ∙ ap (λ (l : List ℕ). l ++ list) of_head ∙ ap (λ (l : List ℕ). (digest.bytes ++ (bytes_4 digest.migration ++ (bytes_4 (length starts) ++ number_bytes starts))) ++ l) of_list
      ∙ pieces digest.bytes (bytes_4 digest.migration) (bytes_4 (length starts)) (number_bytes starts) (batch_body (entry_rows entries)) (0 ∷ [])

  fits : length bytes ≤ size
  fits = omega (arith, ap length is, length-append (new_front kept) (0 ∷ []), length-new_front kept can, few, length-entry_rows entries)

  pub drafted : planned size bytes ≡ record { kept = kept; size = size }
  drafted = planned_is kept size bytes can is fits

  pub draft_planned : IsPlanned (planned size bytes) bytes
  draft_planned = subst (λ (p : Planned). IsPlanned p bytes) (sym drafted) (record { is = is; can_be = can; fits = fits; small = room })
