use denote.Exit.{no}
use denote.Param.Send.{arg_send, arg_sync, param_send, param_sync}
use Rattle.controller_run.proofs.leading.work_in_scope.Goals as goal

-- what the scope's closure asks is what the function asks
pub scoped-requires : goal.scoped-requires
scoped-requires g c = record {
  at = λ scope. (
    c.requires.homes,
    (
      c.requires.policy,
      (
        c.requires.leader,
        (
          c.requires.team,
          (
            c.requires.home,
            (
              c.requires.migration,
              (
                c.requires.told,
                (
                  param_send 1 _ (arg_send _ no _ c.type_bounds.send-D),
                  param_send 2 _ (arg_send _ no _ c.type_bounds.send-M),
                  param_send 3 _ (arg_send _ no _ c.type_bounds.send-T),
                  param_sync 0 _ (arg_sync _ no _ c.type_bounds.sync-R),
                ),
              ),
            ),
          ),
        ),
      ),
    ),
  );
}
