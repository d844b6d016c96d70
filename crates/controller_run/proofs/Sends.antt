-- That a graph and the rounds over it may pass between threads. The parts of a struct are looked for to a bounded depth, so the steps are stated one by one.
use denote.RattleType.{RattleType}
use denote.Param.Members.{Mut}
use denote.Param.Object.{Ghosts as Objects, table_of}
use denote.Param.Send.{AllSend, IsSend, IsSync, sendable, view_send, recorded_send, recorded_sync, struct_send, struct_sync}
use denote.Param.Sent.{Syncs}
use denote.Struct.Field.{u64-field}
use Rattle.rollout_rules.specs.declared.op.OpView.{OpView}
use Rattle.order_policy.specs.contracts.policy.Policy as policy
use denote.Struct.Declared.{shape}
use denote.Struct.Struct.{Struct}
use denote.Struct.Tuple.{TupleAt, parts, type_at}
use denote.Struct.Field.{rows}
use mathlib.Core.List.{List, [], ◌∷◌}
use mir.Syntax.{Sym}
use Rattle.rollout_book.specs.contracts.journaled_rounds.JournaledRounds.TheInside as inside
use Rattle.shared_book.proofs.note.Note.TheSendSync as note
use Rattle.shared_book.proofs.note.Cause.TheSendSync as cause
use Rattle.shared_book.proofs.note.What.TheSendSync as what
use Rattle.shared_book.proofs.call_reply.Halt.TheSendSync as halt
use Rattle.shared_book.specs.declared.marker.Marker.{Ghosts as Marks}
use Rattle.shared_book.specs.contracts.noted_book.NotedBook as kept
use Rattle.shared_book.specs.contracts.noted_book.NotedBook.TheInside as within
use Rattle.disk_model.specs.declared.disk.Disk.{Ghosts}
use Rattle.intent_journal.proofs.journal.Journal.TheSendSync as journal
use Rattle.rollout_book.specs.contracts.journaled_rounds.JournaledRounds as chronicle
use denote.Param.SendFields.{declared_send, declared_sync, variants_send, variants_sync}
use Rattle.std.proofs.Crossing as one
use Rattle.std.proofs.MapsCrossing as two
use Rattle.lists.proofs.many.Many.TheSendSync as t0
use Rattle.lists.proofs.text.Text.TheSendSync as t1
use Rattle.rollout_rules.proofs.event.Act.TheSendSync as t2
use Rattle.rollout_rules.proofs.event.Event.TheSendSync as t3
use Rattle.rollout_rules.proofs.held.Given.TheSendSync as t4
use Rattle.rollout_rules.proofs.held.Held.TheSendSync as t5
use Rattle.rollout_rules.proofs.item.Item.TheSendSync as t6
use Rattle.rollout_rules.proofs.item.Spot.TheSendSync as t7
use Rattle.rollout_rules.proofs.op.Entry.TheSendSync as t8
use Rattle.rollout_rules.proofs.op.Op.TheSendSync as t9
use Rattle.rollout_rules.proofs.op.OpView.TheSendSync as t10
use Rattle.wan_model.proofs.checked.CheckedPlan.TheSendSync as t35
use Rattle.wan_model.proofs.ends.Ends.TheSendSync as t36
use Rattle.wan_model.proofs.flow.Flow.TheSendSync as t37
use Rattle.wan_model.proofs.link.Link.TheSendSync as t38
use Rattle.wan_model.proofs.names.Names.TheSendSync as t39
use Rattle.wan_model.proofs.plan.Plan.TheSendSync as t40
use Rattle.wan_model.proofs.problem.Problem.TheSendSync as t41
use Rattle.wan_model.proofs.side.Side.TheSendSync as t42
use Rattle.wan_model.proofs.stage.Stage.TheSendSync as t43
use Rattle.wan_model.proofs.switch.Switch.TheSendSync as t44
use Rattle.wan_model.proofs.tunnel.Tunnel.TheSendSync as t45
use Rattle.dependency_graph.proofs.cells.Cells.TheSendSync as t46
use Rattle.dependency_graph.proofs.index.table_place.TablePlace.TheSendSync as t47
use Rattle.dependency_graph.proofs.item_row.ItemRow.TheSendSync as t48
use Rattle.dependency_graph.proofs.waiting_items.WaitingItems.TheSendSync as t49
use Rattle.dependency_graph.proofs.stage_counts.StageCounts.TheSendSync as t50
use Rattle.dependency_graph.proofs.stands.Stands.TheSendSync as t51
use Rattle.dependency_graph.proofs.wakes.Wakes.TheSendSync as t52
use Rattle.dependency_graph.proofs.woken.Woken.TheSendSync as t53
use Rattle.update_scheduler.proofs.in_flight.InFlight.TheSendSync as t54
use Rattle.update_scheduler.proofs.ack_set.AckSet.TheSendSync as t55
use Rattle.update_scheduler.proofs.bench.Bench.TheSendSync as t56
use Rattle.update_scheduler.proofs.candidate.Candidate.TheSendSync as t57
use Rattle.dependency_graph.specs.contracts.index.Index as index
use Rattle.dependency_graph.specs.contracts.chains.Chains as chains
use Rattle.dependency_graph.specs.contracts.course.Course as course
use Rattle.dependency_graph.specs.contracts.graph.Graph as graph
use Rattle.dependency_graph.specs.contracts.past.Past as past
use Rattle.dependency_graph.specs.contracts.progress.Progress as progress
use Rattle.dependency_graph.specs.contracts.resources.Touched as touched
use Rattle.update_scheduler.specs.contracts.past_answers.PastAnswers as heard
use Rattle.update_scheduler.specs.contracts.pending_acks.PendingAcks as told
use Rattle.update_scheduler.specs.contracts.rounds.Rounds as rounds

pub ruleset sent = (sendable, one.crosses, two.crosses, declared_send, variants_send, t0.the_send, t1.the_send, t2.the_send, t3.the_send, t4.the_send, t5.the_send, t6.the_send, t7.the_send, t8.the_send, t9.the_send, t10.the_send, t35.the_send, t36.the_send, t37.the_send, t38.the_send, t39.the_send, t40.the_send, t41.the_send, t42.the_send, t43.the_send, t44.the_send, t45.the_send, t46.the_send, t47.the_send, t48.the_send, t49.the_send, t50.the_send, t51.the_send, t52.the_send, t53.the_send, t54.the_send, t55.the_send, t56.the_send, t57.the_send)

ruleset shared = (sendable, one.crosses, two.crosses, declared_sync, variants_sync, t0.the_send, t1.the_send, t2.the_send, t3.the_send, t4.the_send, t5.the_send, t6.the_send, t7.the_send, t8.the_send, t9.the_send, t10.the_send, t35.the_send, t36.the_send, t37.the_send, t38.the_send, t39.the_send, t40.the_send, t41.the_send, t42.the_send, t43.the_send, t44.the_send, t45.the_send, t46.the_send, t47.the_send, t48.the_send, t49.the_send, t50.the_send, t51.the_send, t52.the_send, t53.the_send, t54.the_send, t55.the_send, t56.the_send, t57.the_send, t0.the_sync, t1.the_sync, t2.the_sync, t3.the_sync, t4.the_sync, t5.the_sync, t6.the_sync, t7.the_sync, t8.the_sync, t9.the_sync, t10.the_sync, t35.the_sync, t36.the_sync, t37.the_sync, t38.the_sync, t39.the_sync, t40.the_sync, t41.the_sync, t42.the_sync, t43.the_sync, t44.the_sync, t45.the_sync, t46.the_sync, t47.the_sync, t48.the_sync, t49.the_sync, t50.the_sync, t51.the_sync, t52.the_sync, t53.the_sync)

index_send : IsSend index.the_row
index_send = search sent depth 12 fits 3000

index_sync : IsSync index.the_row
index_sync = search shared depth 12 fits 3000

past_send : IsSend past.the_row
past_send = search sent depth 12 fits 3000

progress_send : IsSend progress.the_row
progress_send = search (index_send, index_sync, sent) depth 12 fits 3000

course_send : IsSend course.the_row
course_send = search (past_send, progress_send, sent) depth 12 fits 3000

touched_send : IsSend touched.the_row
touched_send = search sent depth 12 fits 3000

chains_send : IsSend chains.the_row
chains_send = search sent depth 12 fits 3000

graph_send : IsSend graph.the_row
graph_send = search (course_send, touched_send, chains_send, sent) depth 12 fits 3000

heard_send : IsSend heard.the_row
heard_send = search sent depth 12 fits 3000

told_send : IsSend told.the_row
told_send = search (heard_send, sent) depth 12 fits 3000

pub rounds_send : IsSend rounds.the_row
rounds_send = search (graph_send, told_send, sent) depth 12 fits 3000

-- a chronicle may, where its disk may
pub chronicle_send : (D : RattleType) (g : Ghosts D.Denot) → IsSend D → IsSend (chronicle.the_row D g)
chronicle_send D g send =
    view_send (inside.the_row D g) _ _ _ _
    (recorded_send (inside.the_field D g).row _ _ (inside.the_type D g).to_one
    (struct_send (shape (inside.the_type D g)) (rounds_send, (search sent depth 12 fits 3000, (journal.the_send D g send, (search sent depth 12 fits 3000, (search sent, tt)))))))

ruleset noted = (sendable, one.crosses, note.the_send, cause.the_send, what.the_send, halt.the_send)

-- a chronicle under the lock may, where its disk may
pub kept_send : (D M : RattleType) (g : Ghosts D.Denot) (h : Marks M.Denot) → IsSend D → IsSend M → IsSend (kept.the_row D M g h)
kept_send D M g h disk marker =
    view_send (within.the_row D M g h) _ _ _ _
    (recorded_send (within.the_field D M g h).row _ _ (within.the_type D M g h).to_one
    (struct_send (shape (within.the_type D M g h)) (one.Box-send (chronicle.the_row D g) (chronicle_send D g disk), (search noted depth 12 fits 3000, (search noted depth 12 fits 3000, (search noted, (search noted, tt)))))))

-- a policy may be shared, where its closures may
pub policy_sync : (T : RattleType) (g : Objects T.Denot) (asks : Mut ((x : T.Denot) × (g.1.0 x).0.Denot) (OpView × Unit {0}) (u64-field).Value) → Syncs (table_of T.Denot g) → IsSync T → IsSync (policy.the_row T g asks)
policy_sync T g asks all pointer =
    recorded_sync (policy.the_field T g asks).row _ _ (policy.the_type T g asks).to_one
    (struct_sync (shape (policy.the_type T g asks)) (one.dyn_box_sync T g all pointer, tt))

-- a tuple may, and so a closure, where its parts may
parts_send : (Ts : List RattleType) → AllSend Ts → AllSend (rows (parts Ts))
parts_send [] s = tt
parts_send (T ∷ Ts) s = (s.0, parts_send Ts s.1)

pub tuple_send : (ν : Sym) (Ts : List RattleType) → AllSend Ts → IsSend (TupleAt ν Ts)
tuple_send ν Ts s = recorded_send (Struct (shape (type_at ν Ts))) _ _ (type_at ν Ts).to_one (struct_send (shape (type_at ν Ts)) (parts_send Ts s))
