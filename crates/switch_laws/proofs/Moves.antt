-- What is held of an item after commands that may come.
use Rattle.std.proofs.Common.{◌≡◌, ◌⊎◌, ℕ, ◌<◌, ◌≤◌, ◌==◌, true, List, [], ◌∷◌, slice_index, refl, sym, ap, ◌∙◌, subst, inl, inr, arith, eqb-true}
use Rattle.std.proofs.lemmas.Bool.{cond_both}
use Rattle.std.proofs.lemmas.List.Elements.{All-head, All-tail}
use Rattle.std.specs.List.{All, Contains}
use Rattle.rollout_rules.specs.Wan.{Rollout}
use Rattle.rollout_rules.specs.Items.{item_at}
use Rattle.rollout_rules.specs.Operations.{content_after}
use Rattle.rollout_rules.specs.History.{History, begun, settled, with_entries}
use Rattle.rollout_rules.specs.Legal.{is_legal}
use Rattle.rollout_rules.specs.Agent.{Holding, held_after, is_at_most, is_next_command, pair_of}
use Rattle.rollout_rules.specs.declared.op.Op.{Op}
use Rattle.rollout_rules.specs.declared.op.Entry.{Entry}
use Rattle.rollout_rules.specs.declared.op.Entry.TheVariants.{Begin}
use Rattle.rollout_rules.proofs.Pairs.{IsNextCommand, at_most-from, at_most-refl, at_most-trans, next_command-is, next_is_more}
use Rattle.rollout_laws.proofs.Histories.{begun-with}
use Rattle.rollout_laws.proofs.Pairs.{after-late}
use Rattle.wan_edge.specs.Frames.{Command, CommandFrame}
use Rattle.wan_edge.specs.Switches.{Holdings, after_command, after_commands, pair_asked}
use Rattle.rollout_book.specs.Commands.{command_of}
use Rattle.switch_laws.specs.Holdings.{IsHeldAt, IsMovedWithin}
use Rattle.switch_laws.specs.Runs.{MayCome}
use Rattle.switch_laws.proofs.Begun.{begun_within}
use Rattle.switch_laws.proofs.Unmoved.{kept-by-question}

-- It is no lower than at first. Its pair is of the migration, with its content, or it is as at first.
pub record HasCome (r : Rollout) (migration low high n : ℕ) (before now : Holding) : Type 0 where
  pub no_lower : is_at_most before.held now.held ≡ true
  pub pair : IsMovedWithin r migration low high n now ⊎ ((now ≡ before) × (before.held.migration < migration))

module _ (r : Rollout) (migration : ℕ) (found : History) (added : List Entry) (before : Holdings) (n : ℕ) (legal : is_legal r.problem r.plan (with_entries found added) ≡ true) (first : IsHeldAt r migration found n (before n)) where
  abbrev Come : Holding → Type 0
  Come holding = HasCome r migration (settled found n) (begun (with_entries found added) n) n (before n) holding

  pub come_first : Come (before n)
  come_first = record { no_lower = at_most-refl (before n).held; pair = at first }
    where
      at : IsHeldAt r migration found n (before n) → IsMovedWithin r migration (settled found n) (begun (with_entries found added) n) n (before n) ⊎ ((before n ≡ before n) × ((before n).held.migration < migration))
      at (inl moved) = inl (record { pair = moved.pair; least = moved.least; most = omega (arith, moved.most, begun-with found added n); content = moved.content })
      at (inr left) = inr (refl, left.earlier)

  -- the command of an operation begun, where it is the next
  module _ (op : Op) (there : Contains (with_entries found added).entries (Begin op)) (mine : op.item ≡ n) (holding : Holding) (come : Come holding) (next : IsNextCommand holding.held (pair_of migration op.number)) where
    above : slice_index found.start n < op.number
    above = subst (λ (i : ℕ). slice_index found.start i < op.number) mine (begun_within r.problem r.plan (with_entries found added) legal op there).above

    within : op.number ≤ begun (with_entries found added) n
    within = subst (λ (i : ℕ). op.number ≤ begun (with_entries found added) i) mine (begun_within r.problem r.plan (with_entries found added) legal op there).within

    past_moved : IsMovedWithin r migration (settled found n) (begun (with_entries found added) n) n holding → IsNextCommand holding.held (pair_of migration op.number) → settled found n ≤ op.number
    past_moved moved (inl same) = omega (arith, moved.least, same.1)
    past_moved moved (inr later) = absurd (omega (arith, moved.pair, later.0))

    past_first : (before n).held.migration < migration → IsHeldAt r migration found n (before n) → settled found n ≤ op.number
    past_first earlier (inl moved) = absurd (omega (arith, moved.pair, earlier))
    past_first earlier (inr left) = omega (arith, left.none, above)

    past : IsMovedWithin r migration (settled found n) (begun (with_entries found added) n) n holding ⊎ ((holding ≡ before n) × ((before n).held.migration < migration)) → settled found n ≤ op.number
    past (inl moved) = past_moved moved next
    past (inr left) = past_first left.1 first

    come_next : Come (record { held = pair_of migration op.number; content = content_after r.problem r.plan (item_at r.problem op.item) op.number })
    come_next = record {
      no_lower = at_most-trans (before n).held holding.held (pair_of migration op.number) come.no_lower (at_most-from holding.held (pair_of migration op.number) (next_is_more holding.held (pair_of migration op.number) next));
      pair = inl (record { pair = refl; least = past come.pair; most = within; content = λ _. ap (λ (i : ℕ). content_after r.problem r.plan (item_at r.problem i) op.number) mine });
    }

  come_begun : (op : Op) → Contains (with_entries found added).entries (Begin op) → op.item ≡ n → (holding : Holding) → Come holding → Come (held_after holding (pair_of migration op.number) (command_of r op).content)
  come_begun op there mine holding come =
      cond_both (is_next_command holding.held (pair_of migration op.number)) (record { held = pair_of migration op.number; content = (command_of r op).content }) holding Come
      (λ next. come_next op there mine holding come (next_command-is holding.held (pair_of migration op.number) next))
      (λ _. come)

  come_one : (c : CommandFrame) → MayCome r migration (with_entries found added) before c → n ≡ c.1.item → (holding : Holding) → Come holding → Come (held_after holding (pair_asked c) c.1.content)
  come_one c (inl own) mine holding come =
      let op = own.1.op in
      let is : (migration, command_of r op) ≡ c = λ k. (sym own.0 k, sym own.1.is k) in
      let item : op.item ≡ n = ap (λ (d : Command). d.item) (sym own.1.is) ∙ sym mine in
      subst (λ (d : CommandFrame). Come (held_after holding (pair_asked d) d.1.content)) is (come_begun op own.1.there item holding come)
  come_one c (inr (inl late)) mine holding come =
      let at_first : is_at_most (pair_asked c) (before n).held ≡ true = subst (λ (i : ℕ). is_at_most (pair_asked c) (before i).held ≡ true) (sym mine) late.late in
      subst Come (sym (after-late holding (pair_asked c) c.1.content (at_most-trans (pair_asked c) (before n).held holding.held at_first come.no_lower))) come
  come_one c (inr (inr none)) mine holding come = subst Come (sym (kept-by-question holding c none)) come

  come_after : (c : CommandFrame) → MayCome r migration (with_entries found added) before c → (holdings : Holdings) → Come (holdings n) → Come (after_command holdings c n)
  come_after c may holdings come =
      cond_both (n == c.1.item) (held_after (holdings n) (pair_asked c) c.1.content) (holdings n) Come
      (λ same. come_one c may (eqb-true n c.1.item same) (holdings n) come)
      (λ _. come)

  -- after commands that may come
  pub come_behind : (cs : List CommandFrame) → All (MayCome r migration (with_entries found added) before) cs → (holdings : Holdings) → Come (holdings n) → Come (after_commands holdings cs n)
  come_behind [] each holdings come = come
  come_behind (c ∷ cs) each holdings come =
      come_behind cs (All-tail (MayCome r migration (with_entries found added) before) c cs each) (after_command holdings c)
      (come_after c (All-head (MayCome r migration (with_entries found added) before) c cs each) holdings come)
