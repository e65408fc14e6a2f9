-- One write more is done.
use Rattle.std.proofs.Common.{rules, refl}
use Rattle.mailbox.specs.declared.writes.Write.{Write}
use Rattle.std.specs.Prelude.{slice_index_or}
use Rattle.hosted.proofs.OneTurn.{write_next}
use Rattle.hosted.proofs.doing.do_writes.Goals as goal

pub loop-write-preserved : goal.loop-write-preserved
loop-write-preserved g c =
    let ws = c.args.writes.now in
    let v : Write = slice_index_or ws c.loop-write.write-index (record { offset = 0; value = 0 }) in
    record {
      world = write_next c.args.device.now.world c.loop-write.device.world c.pf_write.new.self.world ws c.loop-write.write-index v (search rules) (search rules) c.loop-write.invariant.world (search rules);
      accesses = search rules;
    }
