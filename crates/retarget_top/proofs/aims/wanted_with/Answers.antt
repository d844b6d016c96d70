use Rattle.std.proofs.Common.{Ok, ◌≡◌, ℕ, List, inl, refl, sym, subst}
use Rattle.text_commands.specs.Answers.{rollout_in}
use Rattle.retarget_top.proofs.Aiming.{wants-same}
use Rattle.retarget_top.proofs.aims.wanted_with.Goals as goal

pub aimed_at-requires : goal.aimed_at-requires
aimed_at-requires c = subst (λ (bytes : List ℕ). rollout_in bytes ≡ Ok c.in-Ok.plan) (sym c.requires) c.in-Ok.ensures

pub returns-in-Ok : goal.returns-in-Ok
returns-in-Ok c = wants-same c.args.shed.now c.args.input c.args.again c.aimed_at.result c.requires c.aimed_at.ensures

pub returns-in-Err : goal.returns-in-Err
returns-in-Err c = inl (record { ending = c.in-Err.ending; is = refl; gives = c.in-Err.ensures })
