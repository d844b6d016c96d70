use Rattle.std.proofs.Common.{option_map, ap, sym, ◌∙◌, arith}
use Rattle.serde_json.specs.Data.{no_members}
use Rattle.json_data.specs.Nodes.{value_at, entry, entries}
use Rattle.json_data.proofs.Spots.{entries_drop, entries_some, entries_none}
use Rattle.json_data.proofs.Found.{found_is, found_ended, found_past, step_named, step_other}
use Rattle.json_data.proofs.element.find.Goals as goal
use Rattle.json_data.proofs.element.find.Goals.{then-is_named, else-is_named}

pub members-init : goal.members-init
members-init c = found_is c.args.name.now c.args.count (entries c.args.texts.now c.args.nodes.now) no_members

pub members-preserved : goal.members-preserved
members-preserved c =
    let l = c.members in
    let t = c.args.texts.now in
    let more = entries_some t l.members.now (grind arith) in
    let old = option_map (λ ns. value_at (entries c.args.texts.now ns.now)) l.found in
    let new = option_map (λ ns. value_at (entries c.args.texts.now ns.now)) c.if-is_named.found in
    elim c.if-is_named.branch [
      | then-is_named w ↦ step_named c.args.name.now l.left (entries t l.members.now) (entries t c.rest-value.result.now) (entries t c.behind-members.result.now) (entry c.first.result) old new
          (omega arith) more (ap (entries t) c.rest-value.ensures ∙ entries_drop t 1 l.members.now) c.first.ensures c.behind-members.ensures c.is_named.result c.is_named.ensures w.if-is_named.true (ap (option_map (λ ns. value_at (entries c.args.texts.now ns.now))) w.found-is) ∙ l.invariant
      | else-is_named w ↦ step_other c.args.name.now l.left (entries t l.members.now) (entries t c.rest-value.result.now) (entries t c.behind-members.result.now) (entry c.first.result) old new
          (omega arith) more (ap (entries t) c.rest-value.ensures ∙ entries_drop t 1 l.members.now) c.first.ensures c.behind-members.ensures c.is_named.result c.is_named.ensures w.if-is_named.false (ap (option_map (λ ns. value_at (entries c.args.texts.now ns.now))) w.found-is) ∙ l.invariant
    ]

pub returns-else-not-is_empty : goal.returns-else-not-is_empty
returns-else-not-is_empty c =
    let l = c.members in
    let t = c.args.texts.now in
    sym (found_past c.args.name.now l.left (entries t l.members.now) (option_map (λ ns. value_at (entries c.args.texts.now ns.now)) l.found) (entries_none t l.members.now (grind arith))) ∙ l.invariant

pub returns-after-members : goal.returns-after-members
returns-after-members c =
    let l = c.members in
    let t = c.args.texts.now in
    sym (found_ended c.args.name.now l.left (entries t l.members.now) (option_map (λ ns. value_at (entries c.args.texts.now ns.now)) l.found) (omega arith)) ∙ l.invariant
