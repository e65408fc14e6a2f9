-- Reads and writes of regions.
use Rattle.std.specs.Prelude.{ℕ, ◌+◌, ◌%◌, ◌==◌, ◌&&◌, nat_le, Bool, List, replicate, if◌then◌else◌}
use Rattle.vfio_user.specs.declared.errno.Errno.TheVariants.{Invalid}
use Rattle.vfio_user.specs.declared.header.Header.{Header}
use Rattle.vfio_user.specs.declared.request.Region.{Region}
use Rattle.vfio_user.specs.declared.reply.Reply.TheVariants.{Bytes, Written}
use Rattle.vfio_user.specs.Fields.{number}
use Rattle.pci_function.specs.Space.{bytes_at, written, resets}
use Rattle.vfio_session.specs.declared.decision.Ask.TheVariants.{Read, Write, Reset}
use Rattle.vfio_session.specs.declared.decision.Fate.TheVariants.{Closed}
use Rattle.vfio_session.specs.declared.owed.Form.TheVariants.{Register, Stored}
use Rattle.vfio_session.specs.Offered.{REGISTERS, TABLE, CONFIGURATION, size_of_region}
use Rattle.vfio_session.specs.Sessions.{SessionState, Received, answered, refused, asked}

-- all bytes lie in the region
abbrev pub is_inside : Region → Bool
is_inside r = nat_le (r.offset + r.count) (size_of_region r.index)

-- they are one register: 32 bits at a multiple of 4 (82599 Datasheet, register conventions)
abbrev pub is_register : Region → Bool
is_register r = (r.count == 4) && (r.offset % 4 == 0)

-- ---- a read

-- the card reads a register
abbrev pub read_register : SessionState → Header → Region → Received
read_register s h r = if is_register r then asked s h (Register r.offset) (Read r.offset) Closed else refused s h Invalid

-- the configuration space as it is; zeros of BAR 3; and no other region has bytes
abbrev pub read_inside : SessionState → Header → Region → Received
read_inside s h r =
    if r.index == REGISTERS then read_register s h r
    else (if r.index == CONFIGURATION then answered s h (Bytes r (bytes_at s.space r.offset r.count))
    else (if r.index == TABLE then answered s h (Bytes r (replicate r.count 0))
    else refused s h Invalid))

unfoldable pub read : SessionState → Header → Region → Received
read s h r = if is_inside r then read_inside s h r else refused s h Invalid

-- ---- a write

-- the card writes a register
abbrev pub write_register : SessionState → Header → Region → List ℕ → Received
write_register s h r bytes = if is_register r then asked s h (Stored r) (Write r.offset (number 4 bytes)) Closed else refused s h Invalid

abbrev pub with_written : SessionState → Region → List ℕ → SessionState
with_written s r bytes = record s { space = written r.offset bytes s.space }

-- the configuration space is written; where that sets Initiate Function Level Reset, the card resets what lies behind it
abbrev pub write_configuration : SessionState → Header → Region → List ℕ → Received
write_configuration s h r bytes =
    if resets r.offset bytes then asked (with_written s r bytes) h (Stored r) Reset Closed
    else answered (with_written s r bytes) h (Written r)

-- what is written to BAR 3 is dropped
abbrev pub write_inside : SessionState → Header → Region → List ℕ → Received
write_inside s h r bytes =
    if r.index == REGISTERS then write_register s h r bytes
    else (if r.index == CONFIGURATION then write_configuration s h r bytes
    else (if r.index == TABLE then answered s h (Written r)
    else refused s h Invalid))

unfoldable pub write : SessionState → Header → Region → List ℕ → Received
write s h r bytes = if is_inside r then write_inside s h r bytes else refused s h Invalid
