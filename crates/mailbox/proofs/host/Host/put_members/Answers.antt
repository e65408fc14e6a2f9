-- Each turn puts the first of the places that are left.
use Rattle.std.proofs.Common.{arith, ◌≡◌, ◌*◌, length, ap}
use Rattle.vlan_table.specs.Registers.{VLVFB}
use Rattle.mailbox.specs.Words.{member_word}
use Rattle.mailbox.specs.Writes.{joins_or_leaves}
use Rattle.mailbox.proofs.Members.{put_from}
use Rattle.mailbox.proofs.host.Host.put_members.Goals as goal

pub loop-i-preserved : goal.loop-i-preserved
loop-i-preserved c =
    let ids : length c.ids.result.now ≡ length c.args.self.now.ids = ap length c.ids.ensures.value in
    record {
      list = put_from (joins_or_leaves c.args.p c.args.before.now c.args.after.now) VLVFB (member_word c.args.self.now) c.loop-i.i (2 * length c.args.self.now.ids) c.loop-i.writes _ _ (omega (arith, ids)) c.put_member.ensures.list c.loop-i.invariant.list;
      few = omega (arith, c.put_member.ensures.few);
    }
