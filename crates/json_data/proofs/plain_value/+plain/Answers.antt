use Rattle.std.proofs.Common.{◌≡◌, ◌+◌, ◌-◌, ◌*◌, ◌<◌, ◌≤◌, [], ◌∷◌, ◌++◌, length, refl, sym, ap, ap₂, ◌∙◌, arith, append_assoc, append-nil}
use Rattle.std.proofs.lemmas.Result.{IfOk-weaker}
use Rattle.json.specs.Token.{Token}
use Rattle.json.specs.Reads.{token_of}
use Rattle.serde_json.specs.Data.{null, boolean, number, string, array, object, no_members, put}
use Rattle.serde_json.specs.View.{number_view, items_of}
use Rattle.json_data.specs.declared.spot.Spot.TheVariants as a_spot
use Rattle.json_data.specs.Nodes.{Null, Truth, Number, Text, Array, Object, entry_of}
use Rattle.json_data.proofs.Grown.{null_is, bool_is, number_is, text_is, no_elements, one_element_more, no_members_yet, one_member_more}
use Rattle.json_data.proofs.Spots.{measured, demanded, count_within, pushed, pushed_as, string_placed, key_placed, array_closed, object_closed}
use Rattle.json_data.proofs.PlainGrammar.{string_at, bool_at, null_at, number_at, no_items_at, item_at, array_at, no_members_at, member_at, object_at, value_again}
use Rattle.json_data.proofs.plain_value.+plain.Goals as goal

-- ---- a value

pub plain_value-text_leaf-requires : goal.plain_value-text_leaf-requires
plain_value-text_leaf-requires t c = (string_placed c.args.text.now (token_of c.args.token) c.in-String.content.now c.args.from (ap token_of c.in-String.is) (demanded c.requires)).0

pub plain_value-returns-in-String-clause-ok : goal.plain_value-returns-in-String-clause-ok
plain_value-returns-in-String-clause-ok t c =
    let d = c.args.text.now in
    let s = c.in-String.content in
    let placed = string_placed d (token_of c.args.token) s.now c.args.from (ap token_of c.in-String.is) (demanded c.requires) in
    IfOk-weaker c.text_leaf.result _ _
    (λ to e. (
      string s.now,
      (Text s.now ∷ [], pushed_as (entry_of d []) _ _ _ (Text s.now) e.0 (ap Text placed.1), text_is s.now),
      value_again d c.args.from c.args.depth c.args.depth (Token.string s.now) (token_of c.args.token) (string s.now) to refl (sym (ap token_of c.in-String.is))
          (string_at d c.args.from c.args.depth s.now to e.1),
    ))
    c.text_leaf.ensures

pub plain_value-returns-in-String-clause-ahead : goal.plain_value-returns-in-String-clause-ahead
plain_value-returns-in-String-clause-ahead t c = IfOk-weaker c.text_leaf.result _ _ (λ to e. (omega (arith, e.1), omega (arith, e.1))) c.text_leaf.ensures

pub plain_value-returns-in-Some-clause-ok : goal.plain_value-returns-in-Some-clause-ok
plain_value-returns-in-Some-clause-ok t c =
    let d = c.args.text.now in
    let s = c.in-Number.written in
    let x = c.in-Some.number in
    IfOk-weaker c.number_leaf.result _ _
    (λ to e. (
      number (number_view x),
      (Number (number_view x) ∷ [], pushed_as (entry_of d []) _ _ _ (Number (number_view x)) e.1 (e.2 d), number_is (number_view x)),
      value_again d c.args.from c.args.depth c.args.depth (Token.number s.now) (token_of c.args.token) (number (number_view x)) to refl (sym (ap token_of c.in-Number.is))
          (number_at d c.args.from c.args.depth s.now (number_view x) to (sym c.in-Some.ensures) e.3),
    ))
    c.number_leaf.ensures

pub plain_value-returns-in-Some-clause-ahead : goal.plain_value-returns-in-Some-clause-ahead
plain_value-returns-in-Some-clause-ahead t c = IfOk-weaker c.number_leaf.result _ _ (λ to e. (omega (arith, e.3), omega (arith, e.3))) c.number_leaf.ensures

pub plain_value-returns-in-Bool-clause-ok : goal.plain_value-returns-in-Bool-clause-ok
plain_value-returns-in-Bool-clause-ok t c =
    let d = c.args.text.now in
    let b = c.in-Bool.b in
    IfOk-weaker c.leaf.result _ _
    (λ to e. (
      boolean b,
      (Truth b ∷ [], pushed (entry_of d []) _ _ _ e.0, bool_is b),
      value_again d c.args.from c.args.depth c.args.depth (Token.boolean b) (token_of c.args.token) (boolean b) to refl (sym (ap token_of c.in-Bool.is)) (bool_at d c.args.from c.args.depth b to e.1),
    ))
    c.leaf.ensures

pub plain_value-returns-in-Bool-clause-ahead : goal.plain_value-returns-in-Bool-clause-ahead
plain_value-returns-in-Bool-clause-ahead t c = IfOk-weaker c.leaf.result _ _ (λ to e. (omega (arith, e.1), omega (arith, e.1))) c.leaf.ensures

pub plain_value-returns-in-Null-clause-ok : goal.plain_value-returns-in-Null-clause-ok
plain_value-returns-in-Null-clause-ok t c =
    let d = c.args.text.now in
    IfOk-weaker c.leaf-in-Null.result _ _
    (λ to e. (
      null,
      (Null ∷ [], pushed (entry_of d []) _ _ _ e.0, null_is),
      value_again d c.args.from c.args.depth c.args.depth Token.null (token_of c.args.token) null to refl (sym (ap token_of c.in-Null.is)) (null_at d c.args.from c.args.depth to e.1),
    ))
    c.leaf-in-Null.ensures

pub plain_value-returns-in-Null-clause-ahead : goal.plain_value-returns-in-Null-clause-ahead
plain_value-returns-in-Null-clause-ahead t c = IfOk-weaker c.leaf-in-Null.result _ _ (λ to e. (omega (arith, e.1), omega (arith, e.1))) c.leaf-in-Null.ensures

pub plain_value-returns-else-depth-eq0-clause-ok : goal.plain_value-returns-else-depth-eq0-clause-ok
plain_value-returns-else-depth-eq0-clause-ok t c =
    let d = c.args.text.now in
    let up : c.args.depth - 1 + 1 ≡ c.args.depth = omega arith in
    IfOk-weaker c.plain_items.result _ _
    (λ to w. (w.0, w.1, value_again d c.args.from (c.args.depth - 1 + 1) c.args.depth Token.begin_array (token_of c.args.token) w.0 to up (sym (ap token_of c.in-BeginArray.is)) w.2))
    c.plain_items.ensures.ok

pub plain_value-returns-else-depth-eq0-2-clause-ok : goal.plain_value-returns-else-depth-eq0-2-clause-ok
plain_value-returns-else-depth-eq0-2-clause-ok t c =
    let d = c.args.text.now in
    let up : c.args.depth - 1 + 1 ≡ c.args.depth = omega arith in
    IfOk-weaker c.plain_members.result _ _
    (λ to w. (w.0, w.1, value_again d c.args.from (c.args.depth - 1 + 1) c.args.depth Token.begin_object (token_of c.args.token) w.0 to up (sym (ap token_of c.in-BeginObject.is)) w.2))
    c.plain_members.ensures.ok

-- ---- an array

pub plain_items-items-init : goal.plain_items-items-init
plain_items-items-init t c = (
  omega arith,
  omega (arith, c.requires),
  [],
  no_items_at c.args.text.now c.args.from c.args.depth,
  ([], pushed (entry_of c.args.text.now []) _ _ _ c.in_ok-add.ensures ∙ sym (append-nil _), no_elements),
  omega (arith, c.requires),
)

pub plain_items-token_at-requires : goal.plain_items-token_at-requires
plain_items-token_at-requires t c = c.items.invariant.1

pub plain_items-plain_value-requires : goal.plain_items-plain_value-requires
plain_items-plain_value-requires t c =
    let falls : 2 * c.args.depth < t = omega (arith, measured c.requires) in
    (falls, (c.in_ok-next.ensures.ahead.1, c.in_ok-next.ensures.next.placed))

pub plain_items-overflow_add-count : goal.plain_items-overflow_add-count
plain_items-overflow_add-count t c =
    let l = c.items in
    let some : l.count ≤ length l.nodes.items = count_within (entry_of c.args.text.now []) l.nodes.items _ (l.invariant.4.0) l.count l.invariant.4.1 l.invariant.4.2.short in
    grind (arith, some)

pub plain_items-items-preserved : goal.plain_items-items-preserved
plain_items-items-preserved t c =
    let d = c.args.text.now in
    let l = c.items in
    let ds = l.invariant.2 in
    let grown = l.invariant.4 in
    let next = c.in_ok-next.next in
    let done = c.in_ok-to.ensures in
    let x = done.ok.0 in
    let more = done.ok.1 in (
      omega (arith, l.invariant.0, c.in_ok-next.ensures.ahead.0, done.ahead.0),
      done.ahead.1,
      ds ++ x ∷ [],
      item_at d c.args.from c.args.depth ds l.at l.ended (token_of next.0) next.1 x c.in_ok-to.to l.invariant.3 c.in_ok-next.ensures.next done.ok.2,
      (grown.0 ++ more.0, more.1 ∙ ap (λ ns. ns ++ more.0) grown.1 ∙ append_assoc _ grown.0 more.0, one_element_more ds l.count grown.0 x more.0 grown.2 more.2),
      done.ahead.1,
    )

pub plain_items-returns-then-closes_array-clause-ok : goal.plain_items-returns-then-closes_array-clause-ok
plain_items-returns-then-closes_array-clause-ok t c =
    let d = c.args.text.now in
    let l = c.items in
    let ds = l.invariant.2 in
    let grown = l.invariant.4 in
    let next = c.in_ok-next.next in
    let closed = array_closed (entry_of d []) c.args.nodes.now.items l.nodes.items (a_spot.Array c.in_ok-size.size c.in_ok-many.many) grown.0 ds l.count c.len-first.result c.len.result grown.1 grown.2 (grind arith) (grind arith) (ap₂ Array c.in_ok-size.ensures c.in_ok-many.ensures) in
    (array (items_of ds), closed, array_at d c.args.from c.args.depth ds l.at l.ended (token_of next.0) next.1 l.invariant.3 c.in_ok-next.ensures.next (c.closes_array.ensures c.if-closes_array.true))

pub plain_items-returns-then-closes_array-clause-ahead : goal.plain_items-returns-then-closes_array-clause-ahead
plain_items-returns-then-closes_array-clause-ahead t c = (omega (arith, c.items.invariant.0, c.in_ok-next.ensures.ahead.0), c.in_ok-next.ensures.ahead.1)

-- ---- an object

pub plain_members-members-init : goal.plain_members-members-init
plain_members-members-init t c = (
  omega arith,
  omega (arith, c.requires),
  no_members,
  no_members_at c.args.text.now c.args.from c.args.depth,
  ([], pushed (entry_of c.args.text.now []) _ _ _ c.in_ok-add.ensures ∙ sym (append-nil _), no_members_yet),
  omega (arith, c.requires),
)

pub plain_members-token_at-requires : goal.plain_members-token_at-requires
plain_members-token_at-requires t c = c.members.invariant.1

pub plain_members-add_key-requires : goal.plain_members-add_key-requires
plain_members-add_key-requires t c =
    (key_placed c.args.text.now (token_of c.in_ok-next.next.0) c.in_ok-name.name.now c.in_ok-next.next.1 c.in_ok-name.ensures c.in_ok-next.ensures.next.placed).0

pub plain_members-plain_value-requires : goal.plain_members-plain_value-requires
plain_members-plain_value-requires t c =
    let falls : 2 * c.args.depth < t = omega (arith, measured c.requires) in
    (falls, (c.in_ok-value.ensures.ahead.1, c.in_ok-value.ensures.next.placed))

pub plain_members-members-preserved : goal.plain_members-members-preserved
plain_members-members-preserved t c =
    let d = c.args.text.now in
    let l = c.members in
    let old = l.invariant.2 in
    let grown = l.invariant.4 in
    let next = c.in_ok-next.next in
    let name = c.in_ok-name.name in
    let value = c.in_ok-value.value in
    let done = c.in_ok-to.ensures in
    let x = done.ok.0 in
    let more = done.ok.1 in
    let text = Text name.now ∷ [] in
    let placed = key_placed d (token_of next.0) name.now next.1 c.in_ok-name.ensures c.in_ok-next.ensures.next.placed in
    let held = pushed_as (entry_of d []) _ _ _ (Text name.now) c.in_ok-add_key.ensures (ap Text placed.1) in (
      omega (arith, l.invariant.0, c.in_ok-next.ensures.ahead.0, c.in_ok-value.ensures.ahead.0, done.ahead.0),
      done.ahead.1,
      put name.now x old,
      member_at d c.args.from c.args.depth l.count old l.at l.ended (token_of next.0) name.now next.1 (token_of value.0) value.1 x c.in_ok-to.to
          l.invariant.3 c.in_ok-next.ensures.next c.in_ok-name.ensures c.in_ok-value.ensures.next done.ok.2,
      (
        (grown.0 ++ text) ++ more.0,
        more.1 ∙ ap (λ ns. ns ++ more.0) (held ∙ ap (λ ns. ns ++ text) grown.1 ∙ append_assoc _ grown.0 text) ∙ append_assoc _ (grown.0 ++ text) more.0,
        one_member_more old l.count grown.0 name.now x more.0 grown.2 more.2,
      ),
      done.ahead.1,
    )

pub plain_members-returns-then-closes_object-clause-ok : goal.plain_members-returns-then-closes_object-clause-ok
plain_members-returns-then-closes_object-clause-ok t c =
    let d = c.args.text.now in
    let l = c.members in
    let old = l.invariant.2 in
    let grown = l.invariant.4 in
    let next = c.in_ok-next.next in
    let closed = object_closed (entry_of d []) c.args.nodes.now.items l.nodes.items (a_spot.Object c.in_ok-size.size c.in_ok-many.many) grown.0 old l.count c.len-first.result c.len.result grown.1 grown.2 (grind arith) (grind arith) (ap₂ Object c.in_ok-size.ensures c.in_ok-many.ensures) in
    (object old, closed, object_at d c.args.from c.args.depth l.count old l.at l.ended (token_of next.0) next.1 l.invariant.3 c.in_ok-next.ensures.next (c.closes_object.ensures c.if-closes_object.true))

pub plain_members-returns-then-closes_object-clause-ahead : goal.plain_members-returns-then-closes_object-clause-ahead
plain_members-returns-then-closes_object-clause-ahead t c = (omega (arith, c.members.invariant.0, c.in_ok-next.ensures.ahead.0), c.in_ok-next.ensures.ahead.1)
