use Rattle.takeover_laws.proofs.Floors.{floor-of, floor-raised, floor-least, carried, passed}
use Rattle.takeover_laws.proofs.terms.a_floor_follows_the_terms.Goals as goal

pub returns : goal.returns
returns c = record { after = floor-of; raised = floor-raised; least = floor-least; carried_out = carried; below = passed }
