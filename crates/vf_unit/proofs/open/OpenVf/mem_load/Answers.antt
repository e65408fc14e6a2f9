-- What was read stands in the memory that was met.
use Rattle.std.proofs.Common.{◌≡◌, subst}
use Rattle.vf_unit.specs.Function.{State, TracedState, told}
use Rattle.vf_unit.proofs.open.OpenVf.mem_load.Goals as goal

pub returns-clause-state : goal.returns-clause-state
returns-clause-state g c =
    let was = c.self.inside in
    let read = c.load.ensures.read in
    let now : State = record {
      memory = g.D.Dma.seen c.load.new.self.memory;
      receive_0 = was.receive_0;
      receive_1 = was.receive_1;
      transmit_0 = was.transmit_0;
      transmit_1 = was.transmit_1;
      causes = was.causes;
      queue_vectors = was.queue_vectors;
      other_vector = was.other_vector;
      intervals = was.intervals;
      frames_received = was.frames_received;
      frames_sent = was.frames_sent;
      offloads = was.offloads;
      shortfalls = was.shortfalls;
      losses = was.losses;
    } in
    subst (λ (s : TracedState). now ≡ told s.accesses c.load.new.self.accesses s.state) c.self.view_is (λ i. record {
      memory = read.met_is i;
      receive_0 = was.receive_0;
      receive_1 = was.receive_1;
      transmit_0 = was.transmit_0;
      transmit_1 = was.transmit_1;
      causes = was.causes;
      queue_vectors = was.queue_vectors;
      other_vector = was.other_vector;
      intervals = was.intervals;
      frames_received = was.frames_received;
      frames_sent = was.frames_sent;
      offloads = was.offloads;
      shortfalls = was.shortfalls;
      losses = was.losses;
    })
