-- A line whose words are not as many numbers says no event.
use Rattle.script.proofs.NumberLemmas.{end_not, flr_not, mem_read_not, mem_write_not, on_bad, open_not, pf_read_not, pf_write_not, serve_not, vf_read_not, vf_write_not}
use Rattle.script.proofs.record.record_of_line.Goals as goal

pub returns-in_err-p-in-VfRead-clause-bad : goal.returns-in_err-p-in-VfRead-clause-bad
returns-in_err-p-in-VfRead-clause-bad c = on_bad _ (rw c.in-VfRead.is (vf_read_not c.args.limit _ c.in_err-p-in-VfRead.ensures.1))

pub returns-in_err-p-in-VfWrite-clause-bad : goal.returns-in_err-p-in-VfWrite-clause-bad
returns-in_err-p-in-VfWrite-clause-bad c = on_bad _ (rw c.in-VfWrite.is (vf_write_not c.args.limit _ c.in_err-p-in-VfWrite.ensures.1))

pub returns-in_err-p-in-Serve-clause-bad : goal.returns-in_err-p-in-Serve-clause-bad
returns-in_err-p-in-Serve-clause-bad c = on_bad _ (rw c.in-Serve.is (serve_not c.args.limit _ c.in_err-p-in-Serve.ensures.1))

pub returns-in_err-p-in-MemRead-clause-bad : goal.returns-in_err-p-in-MemRead-clause-bad
returns-in_err-p-in-MemRead-clause-bad c = on_bad _ (rw c.in-MemRead.is (mem_read_not c.args.limit _ c.in_err-p-in-MemRead.ensures.1))

pub returns-in_err-p-in-MemWrite-clause-bad : goal.returns-in_err-p-in-MemWrite-clause-bad
returns-in_err-p-in-MemWrite-clause-bad c = on_bad _ (rw c.in-MemWrite.is (mem_write_not c.args.limit _ c.in_err-p-in-MemWrite.ensures.1))

pub returns-in_err-one_number-in-PfRead-clause-bad : goal.returns-in_err-one_number-in-PfRead-clause-bad
returns-in_err-one_number-in-PfRead-clause-bad c = on_bad _ (rw c.in-PfRead.is (pf_read_not c.args.limit _ c.in_err-one_number-in-PfRead.ensures.1))

pub returns-in_err-at-in-PfWrite-clause-bad : goal.returns-in_err-at-in-PfWrite-clause-bad
returns-in_err-at-in-PfWrite-clause-bad c = on_bad _ (rw c.in-PfWrite.is (pf_write_not c.args.limit _ c.in_err-at-in-PfWrite.ensures.1))

pub returns-in_err-one_number-in-Open-clause-bad : goal.returns-in_err-one_number-in-Open-clause-bad
returns-in_err-one_number-in-Open-clause-bad c = on_bad _ (rw c.in-Open.is (open_not c.args.limit _ c.in_err-one_number-in-Open.ensures.1))

pub returns-in_err-one_number-in-End-clause-bad : goal.returns-in_err-one_number-in-End-clause-bad
returns-in_err-one_number-in-End-clause-bad c = on_bad _ (rw c.in-End.is (end_not c.args.limit _ c.in_err-one_number-in-End.ensures.1))

pub returns-in_err-one_number-in-Flr-clause-bad : goal.returns-in_err-one_number-in-Flr-clause-bad
returns-in_err-one_number-in-Flr-clause-bad c = on_bad _ (rw c.in-Flr.is (flr_not c.args.limit _ c.in_err-one_number-in-Flr.ensures.1))
