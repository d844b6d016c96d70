use Rattle.case_gen.proofs.Room.{room, slack}
use Rattle.case_gen.proofs.laws.a_case_has_slack_and_table_room.Goals as goal

pub returns-clause-slack : goal.returns-clause-slack
returns-clause-slack c = slack

pub returns-clause-room : goal.returns-clause-room
returns-clause-room c = room
