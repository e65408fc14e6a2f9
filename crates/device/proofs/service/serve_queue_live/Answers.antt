-- Nothing is done with the memory of a function that may not transmit.
use Rattle.vf_unit.proofs.Told.{met_nothing}
use Rattle.device.proofs.service.serve_queue_live.Goals as goal

pub returns-then-not-may_transmit-clause-met : goal.returns-then-not-may_transmit-clause-met
returns-then-not-may_transmit-clause-met g c = met_nothing _ _ _
