-- Each event is its arm's. Most touch no memory that others write.
use Rattle.std.proofs.Common.{refl}
use Rattle.device.proofs.Written.{write_reads_none, opening_reads_none, asked_taken, untouched_taken, written_taken}
use Rattle.device.proofs.device.Device.take_live.Goals as goal

pub returns-in-End : goal.returns-in-End
returns-in-End g c =
    let t = untouched_taken g.D.Dma.shared c.args.self.now.accesses c.take_end.new.self.accesses c.in-End.is (c.take_end.ensures.takes c.args.room.now) c.take_end.ensures.accesses (λ v p. refl) in
    record { takes = t.takes; listed = t.listed }

pub returns-in-Flr : goal.returns-in-Flr
returns-in-Flr g c =
    let t = untouched_taken g.D.Dma.shared c.args.self.now.accesses c.take_flr.new.self.accesses c.in-Flr.is (c.take_flr.ensures.takes c.args.room.now) c.take_flr.ensures.accesses (λ v p. refl) in
    record { takes = t.takes; listed = t.listed }

pub returns-in-MemRead : goal.returns-in-MemRead
returns-in-MemRead g c =
    let t = asked_taken g.D.Dma.shared c.args.self.now.accesses c.take_mem_read.new.self.accesses c.in-MemRead.is c.take_mem_read.ensures.takes c.take_mem_read.ensures.listed in
    record { takes = t.takes; listed = t.listed }

pub returns-in-MemWrite : goal.returns-in-MemWrite
returns-in-MemWrite g c =
    let t = written_taken g.D.Dma.shared c.args.self.now.accesses c.take_mem_write.new.self.accesses c.in-MemWrite.is (c.take_mem_write.ensures.takes c.args.room.now) c.take_mem_write.ensures.listed c.take_mem_write.ensures.met (write_reads_none c.args.self.now.world _ _ _) in
    record { takes = t.takes; listed = t.listed }

pub returns-in-Open : goal.returns-in-Open
returns-in-Open g c =
    let t = written_taken g.D.Dma.shared c.args.self.now.accesses c.take_open.new.self.accesses c.in-Open.is (c.take_open.ensures.takes c.args.room.now) c.take_open.ensures.listed c.take_open.ensures.met (opening_reads_none c.args.self.now.world _) in
    record { takes = t.takes; listed = t.listed }

pub returns-in-PfRead : goal.returns-in-PfRead
returns-in-PfRead g c =
    let t = untouched_taken g.D.Dma.shared c.args.self.now.accesses c.args.self.now.accesses c.in-PfRead.is (c.take_pf_read.ensures c.args.room.now) refl (λ v p. refl) in
    record { takes = t.takes; listed = t.listed }

pub returns-in-PfReset : goal.returns-in-PfReset
returns-in-PfReset g c =
    let t = untouched_taken g.D.Dma.shared c.args.self.now.accesses c.take_pf_reset.new.self.accesses c.in-PfReset.is (c.take_pf_reset.ensures.takes c.args.room.now) c.take_pf_reset.ensures.accesses (λ v p. refl) in
    record { takes = t.takes; listed = t.listed }

pub returns-in-PfWrite : goal.returns-in-PfWrite
returns-in-PfWrite g c =
    let t = untouched_taken g.D.Dma.shared c.args.self.now.accesses c.take_pf_write.new.self.accesses c.in-PfWrite.is (c.take_pf_write.ensures.takes c.args.room.now) c.take_pf_write.ensures.accesses (λ v p. refl) in
    record { takes = t.takes; listed = t.listed }

pub returns-in-VfRead : goal.returns-in-VfRead
returns-in-VfRead g c =
    let t = untouched_taken g.D.Dma.shared c.args.self.now.accesses c.take_vf_read.new.self.accesses c.in-VfRead.is (c.take_vf_read.ensures.takes c.args.room.now) c.take_vf_read.ensures.accesses (λ v p. refl) in
    record { takes = t.takes; listed = t.listed }

pub returns-in-VfWrite : goal.returns-in-VfWrite
returns-in-VfWrite g c =
    let t = untouched_taken g.D.Dma.shared c.args.self.now.accesses c.take_vf_write.new.self.accesses c.in-VfWrite.is (c.take_vf_write.ensures.takes c.args.room.now) c.take_vf_write.ensures.accesses (λ v p. refl) in
    record { takes = t.takes; listed = t.listed }

pub returns-in-Wire : goal.returns-in-Wire
returns-in-Wire g c =
    let t = asked_taken g.D.Dma.shared c.args.self.now.accesses c.take_wire.new.self.accesses c.in-Wire.is (c.take_wire.ensures.takes c.args.room.now) c.take_wire.ensures.listed in
    record { takes = t.takes; listed = t.listed }
