-- Each reply is one to its message.
use Rattle.std.proofs.Common.{◌≡◌, ℕ, ◌+◌, ◌<◌, ◌^◌, ◌%◌, Bool, true, false, nat_lt, List, [], ◌++◌, length, Option, Some, None, refl, ◌∙◌, arith, length-append}
use Rattle.std.specs.Prelude.{if◌then◌else◌}
use Rattle.byteorder.specs.Endian.{little_bytes}
use Rattle.vfio_user.specs.Numbers.{CAPABILITIES}
use Rattle.vfio_user.specs.Fields.{number}
use Rattle.vfio_user.specs.declared.header.Header.{Header}
use Rattle.vfio_user.specs.declared.errno.Errno.{Errno}
use Rattle.vfio_user.specs.declared.request.RegionQuery.{RegionQuery}
use Rattle.vfio_user.specs.declared.reply.Area.{Area}
use Rattle.vfio_user.specs.declared.reply.Reply.TheVariants.{Done, Failed, Version, Unmapped, Info, RegionInfo, IrqInfo, Bytes, Written}
use Rattle.vfio_user.specs.Replies.{Reply, HasItsBytes, head_bytes, version_bytes, range_bytes, info_bytes, region_info_bytes, area_bytes, capability_bytes, irq_info_bytes, region_bytes, laid_bytes, reply_bytes, flags_of, error_of}
use Rattle.vfio_user.specs.Spelled.{HeaderFits}
use Rattle.vfio_user.specs.Told.{IsReplyTo}
use Rattle.vfio_user.proofs.ReadBack.{two, four}

kind_of : (error : Option Errno) (more : List ℕ) → number 4 (little_bytes 4 (flags_of error) ++ more) % 16 ≡ 1
kind_of None more = refl
kind_of (Some e) more = refl

laid : (h : Header) (error : Option Errno) (f s : List ℕ) → HeaderFits h → 16 + length f + length s < 2 ^ 32 → IsReplyTo h (laid_bytes h error f s)
unfolding head_bytes
laid h error f s fits few =
    let behind : List ℕ = little_bytes 4 (error_of error) ++ (f ++ s) in
    let flagged : List ℕ = little_bytes 4 (flags_of error) ++ behind in
    let sized : List ℕ = little_bytes 4 (16 + length f + length s) ++ flagged in
    record {
      id = two h.id (little_bytes 2 h.command ++ sized) fits.id;
      command = two h.command sized fits.command;
      size = four (16 + length f + length s) flagged few ∙ omega (arith, length-append f s);
      kind = kind_of error behind;
    }

capability_few : (q : RegionQuery) (area : Option Area) → length (capability_bytes q area) < 64
unfolding area_bytes
capability_few q None = omega arith
capability_few q (Some a) = by_room (nat_lt q.argsz 64)
  where
    by_room : (b : Bool) → length (if b then [] else area_bytes a) < 64
    by_room true = omega arith
    by_room false = omega arith

pub is_reply_to : (h : Header) (r : Reply) → HeaderFits h → HasItsBytes r → IsReplyTo h (reply_bytes h r)
unfolding reply_bytes version_bytes range_bytes info_bytes region_info_bytes irq_info_bytes region_bytes
is_reply_to h Done fits has = laid h None [] [] fits (omega arith)
is_reply_to h (Failed errno) fits has = laid h (Some errno) [] [] fits (omega arith)
is_reply_to h (Version major minor) fits has = laid h None (version_bytes major minor) CAPABILITIES fits (omega arith)
is_reply_to h (Unmapped range) fits has = laid h None (range_bytes range) [] fits (omega arith)
is_reply_to h (Info regions irqs) fits has = laid h None (info_bytes regions irqs) [] fits (omega arith)
is_reply_to h (RegionInfo query size area) fits has = laid h None (region_info_bytes query size area) (capability_bytes query area) fits (omega (arith, capability_few query area))
is_reply_to h (IrqInfo index count) fits has = laid h None (irq_info_bytes index count) [] fits (omega arith)
is_reply_to h (Bytes region bytes) fits has = laid h None (region_bytes region) bytes fits (omega (arith, has.0, has.1))
is_reply_to h (Written region) fits has = laid h None (region_bytes region) [] fits (omega arith)
