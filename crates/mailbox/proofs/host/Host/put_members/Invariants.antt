-- The writes so far and those that are left are all, and half of the words at most are written.
use Rattle.std.proofs.Common.{◌≡◌, ◌+◌, ◌-◌, ◌*◌, ◌/◌, ◌≤◌, ◌++◌, length}
use Rattle.vlan_table.specs.Registers.{VLVFB}
use Rattle.mailbox.specs.Words.{member_word}
use Rattle.mailbox.specs.Writes.{writes_where, joins_or_leaves}
use Rattle.mailbox.proofs.host.Host.put_members.Given as goal

abbrev pub invariant-loop-i : goal.invariant-loop-i
invariant-loop-i l = record {
  list : l.writes ++ writes_where (joins_or_leaves l.p l.before l.after) VLVFB (member_word l.self) l.i (2 * length l.self.ids - l.i)
      ≡ l.fn.writes ++ writes_where (joins_or_leaves l.p l.before l.after) VLVFB (member_word l.self) 0 (2 * length l.self.ids);
  few : length l.writes ≤ 10 + (l.i + 1 - l.p / 32) / 2;
}
