-- A write of a register of the ring leaves it inside the memory.
use Rattle.vf_unit.proofs.open.OpenVf.write_receive.Goals as goal

pub invariant_of-self : goal.invariant_of-self
invariant_of-self g c = record {
  receive_0 = c.write_ring.ensures.kept _ _ c.self.invariant.receive_0;
  receive_1 = c.self.invariant.receive_1;
  transmit_0 = c.self.invariant.transmit_0;
  transmit_1 = c.self.invariant.transmit_1;
}

pub invariant_of-self-in-Q1 : goal.invariant_of-self-in-Q1
invariant_of-self-in-Q1 g c = record {
  receive_0 = c.self.invariant.receive_0;
  receive_1 = c.write_ring-in-Q1.ensures.kept _ _ c.self.invariant.receive_1;
  transmit_0 = c.self.invariant.transmit_0;
  transmit_1 = c.self.invariant.transmit_1;
}
