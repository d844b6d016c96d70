use Rattle.std.proofs.Common.{◌≡◌, ◌<◌, true, [], ◌∷◌, length, get_or, map, sym, ap, ◌∙◌, subst}
use Rattle.std.proofs.lemmas.Result.{on_err_weaker, on_ok_weaker}
use Rattle.rollout_rules.specs.Items.{item_count}
use Rattle.rollout_rules.specs.World.{in_flight, no_op}
use Rattle.rollout_rules.specs.declared.event.Event.TheVariants as event
use Rattle.sim_run.specs.Controlling.{Controlling}
use Rattle.sim_run.specs.Passing.{Passing, given_of}
use Rattle.sim_run.specs.Rehearsing.{Keeps, Rehearsing, moved, rehearsing_of}
use Rattle.sim_run.proofs.Moving.{exchanges-front, exchanges-one, sends}
use Rattle.sim_run.proofs.Worldly.{items, keeps-either, keeps-moved}
use Rattle.sim_run.proofs.acts.Rehearsal.exchange.Goals as goal

pub send-requires : goal.send-requires
send-requires g c =
    let r = c.self.inside in
    let op = c.flying-op.result in
    let live : r.controller.live ≡ true = ap (λ (s : Rehearsing). s.live) c.self.view_is ∙ c.requires.live in
    subst (λ n. op.item < n) (sym (items r.controller r.network (c.self.invariant live))) (subst (λ (s : Rehearsing). op.item < item_count s.rollout.problem) (sym c.self.view_is) c.flying-op.ensures.item)

pub returns : goal.returns
returns g c =
    let r = c.self.inside in
    let op = c.flying-op.result in
    let live : r.controller.live ≡ true = ap (λ (s : Rehearsing). s.live) c.self.view_is ∙ c.requires.live in
    let up : r.controller.up ≡ true = ap (λ (s : Rehearsing). s.state.world.up) c.self.view_is ∙ c.requires.up in
    let lt = subst (λ (s : Rehearsing). c.args.place < length (in_flight s.rollout.problem s.state.world.durable)) (sym c.self.view_is) c.requires.flying in
    let is = c.flying-op.ensures.op ∙ ap (λ (s : Rehearsing). get_or (in_flight s.rollout.problem s.state.world.durable) c.args.place no_op) (sym c.self.view_is) in
    let inside = subst (λ n. op.item < n) (sym (items r.controller r.network (c.self.invariant live))) (subst (λ (s : Rehearsing). op.item < item_count s.rollout.problem) (sym c.self.view_is) c.flying-op.ensures.item) in
    let sent = get_or c.send.new.self.sent c.sent_count-command.result no_op in
    let back = ap (λ n. get_or c.send.new.self.sent n no_op) c.sent_count-command.ensures in
    on_ok_weaker c.hear.result
    (λ heard.
    exchanges-one r.controller c.hear.new.self r.network c.send.new.self c.deliver.new.self c.args.place op c.in_ok-answer.answer up lt is inside c.in_ok-send.ensures.ok
    sent back c.in_ok-answer.ensures.ok c.in_ok-answer.ensures.answer heard
    ∙ ap (λ (s : Rehearsing). moved s (event.Send c.args.place ∷ event.Deliver (length s.state.world.sent) ∷ event.Hand (length s.state.world.given) ∷ [])) c.self.view_is)
    c.hear.ensures.ok

-- where the answer finds no room the command was sent
pub invariant_of-self-in_err-answer : goal.invariant_of-self-in_err-answer
invariant_of-self-in_err-answer g c live =
    let r = c.self.inside in
    let op = c.flying-op.result in
    let up : r.controller.up ≡ true = ap (λ (s : Rehearsing). s.state.world.up) c.self.view_is ∙ c.requires.up in
    let lt = subst (λ (s : Rehearsing). c.args.place < length (in_flight s.rollout.problem s.state.world.durable)) (sym c.self.view_is) c.requires.flying in
    let is = c.flying-op.ensures.op ∙ ap (λ (s : Rehearsing). get_or (in_flight s.rollout.problem s.state.world.durable) c.args.place no_op) (sym c.self.view_is) in
    let before = rehearsing_of r.controller r.network in
    let sent = keeps-moved before (rehearsing_of r.controller c.send.new.self) (event.Send c.args.place ∷ []) (sends r.controller r.network c.send.new.self c.args.place op up lt is c.in_ok-send.ensures.ok) (c.self.invariant live) in
    subst (λ (w : Passing). Keeps (rehearsing_of r.controller w)) (sym c.in_err-answer.ensures.err) sent

-- and where it isn't handed over, it was delivered
pub invariant_of-self-2 : goal.invariant_of-self-2
invariant_of-self-2 g c lived =
    let r = c.self.inside in
    let op = c.flying-op.result in
    let live : r.controller.live ≡ true = ap (λ (s : Rehearsing). s.live) c.self.view_is ∙ c.requires.live in
    let up : r.controller.up ≡ true = ap (λ (s : Rehearsing). s.state.world.up) c.self.view_is ∙ c.requires.up in
    let lt = subst (λ (s : Rehearsing). c.args.place < length (in_flight s.rollout.problem s.state.world.durable)) (sym c.self.view_is) c.requires.flying in
    let is = c.flying-op.ensures.op ∙ ap (λ (s : Rehearsing). get_or (in_flight s.rollout.problem s.state.world.durable) c.args.place no_op) (sym c.self.view_is) in
    let inside = subst (λ n. op.item < n) (sym (items r.controller r.network (c.self.invariant live))) (subst (λ (s : Rehearsing). op.item < item_count s.rollout.problem) (sym c.self.view_is) c.flying-op.ensures.item) in
    let sent = get_or c.send.new.self.sent c.sent_count-command.result no_op in
    let back = ap (λ n. get_or c.send.new.self.sent n no_op) c.sent_count-command.ensures in
    let before = rehearsing_of r.controller r.network in
    let between = rehearsing_of r.controller c.deliver.new.self in
    let behind = rehearsing_of c.hear.new.self c.deliver.new.self in
    let kept = c.self.invariant live in
    keeps-either c.hear.result between behind
    (on_ok_weaker c.hear.result
    (λ heard _. keeps-moved before behind (event.Send c.args.place ∷ event.Deliver (length r.network.sent) ∷ event.Hand (length (map given_of r.network.given)) ∷ [])
    (exchanges-one r.controller c.hear.new.self r.network c.send.new.self c.deliver.new.self c.args.place op c.in_ok-answer.answer up lt is inside c.in_ok-send.ensures.ok sent back c.in_ok-answer.ensures.ok c.in_ok-answer.ensures.answer heard)
    kept)
    c.hear.ensures.ok)
    (on_err_weaker c.hear.result (ap (λ (k : Controlling). rehearsing_of k c.deliver.new.self)) c.hear.ensures.err)
    (keeps-moved before between (event.Send c.args.place ∷ event.Deliver (length r.network.sent) ∷ [])
    (exchanges-front r.controller r.network c.send.new.self c.deliver.new.self c.args.place op up lt is inside c.in_ok-send.ensures.ok sent back c.in_ok-answer.ensures.ok) kept)
