-- Which starts are sound, and which histories are legal.
use Rattle.std.specs.Prelude.{ℕ, ◌+◌, ◌-◌, Bool, true, not, ◌&&◌, List, [], ◌∷◌, ◌==◌, nat_le, nat_lt}
use Rattle.rollout_rules.specs.Wan.{Problem, Plan}
use Rattle.rollout_rules.specs.Items.{item_count, item_at, all_items}
use Rattle.rollout_rules.specs.Sums.{all_below, sum_below}
use Rattle.rollout_rules.specs.Operations.{operations, stand_after}
use Rattle.rollout_rules.specs.History.{History, Places, started, with_entries, settled, flies, places_of}
use Rattle.rollout_rules.specs.Needs.{needs_met_at, needs_met}
use Rattle.rollout_rules.specs.Room.{fits}
use Rattle.rollout_rules.specs.declared.op.Op.{Op}
use Rattle.rollout_rules.specs.declared.op.Entry.{Entry}
use Rattle.rollout_rules.specs.declared.op.Entry.TheVariants.{Begin, Done}
use Rattle.rollout_rules.specs.declared.item.Item.{Item}

-- whether no more operations of an item are settled than it has, and whether the needs of each of these are met
abbrev pub has_settled : Problem → Plan → Places → Item → Bool
has_settled p plan at i = nat_le (at.settled i) (operations p plan i)

abbrev pub had_its_needs : Problem → Plan → Places → Item → Bool
had_its_needs p plan at i = all_below (at.settled i) (λ j. needs_met_at p plan at i (stand_after p plan i j))

-- Whether a rollout may begin at a start: what is settled there exists and has its needs met, and every room fits.
abbrev pub is_sound : Problem → Plan → List ℕ → Bool
is_sound p plan start =
    all_items p (has_settled p plan (places_of p (started start)))
    && all_items p (had_its_needs p plan (places_of p (started start)))
    && fits p plan (places_of p (started start))

-- whether the operation is its item's next, exists, and isn't in flight
abbrev pub is_next : Problem → Plan → History → Op → Bool
is_next p plan h op =
    nat_lt op.item (item_count p) && not (flies h op.item)
    && (op.number == settled h op.item + 1) && nat_le op.number (operations p plan (item_at p op.item))

-- Whether an operation may begin, or is admissible: it is next, its needs are met, and with it every room fits.
abbrev pub may_begin : Problem → Plan → History → Op → Bool
may_begin p plan h op =
    is_next p plan h op && needs_met p plan (places_of p h) (item_at p op.item)
    && fits p plan (places_of p (with_entries h (Begin op ∷ [])))

-- whether an operation may be done: it is in flight
abbrev pub may_end : History → Op → Bool
may_end h op = flies h op.item && (op.number == settled h op.item + 1)

abbrev pub may_add : Problem → Plan → History → Entry → Bool
may_add p plan h (Begin op) = may_begin p plan h op
may_add p plan h (Done op) = may_end h op

-- whether entries may follow a history one by one
abbrev pub may_follow : Problem → Plan → History → List Entry → Bool
may_follow p plan h [] = true
may_follow p plan h (e ∷ es) = may_add p plan h e && may_follow p plan (with_entries h (e ∷ [])) es

-- whether a history begins at a sound start, and each entry may follow what is ahead of it
abbrev pub is_legal : Problem → Plan → History → Bool
is_legal p plan h = is_sound p plan h.start && may_follow p plan (started h.start) h.entries

-- whether every operation of every item is settled
abbrev pub is_finished : Problem → Plan → History → Bool
is_finished p plan h = all_below (item_count p) (λ n. settled h n == operations p plan (item_at p n))

-- how many operations aren't settled
abbrev pub unsettled : Problem → Plan → History → ℕ
unsettled p plan h = sum_below (item_count p) (λ n. operations p plan (item_at p n) - settled h n)
