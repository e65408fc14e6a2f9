-- What is answered, as bytes.
use denote.Bor.{Bor}
use Rattle.std.specs.Prelude.{◌≡◌, ◌≤◌, ℕ, ◌+◌, ◌==◌, nat_lt, List, [], ◌++◌, length, Option, Some, None, if◌then◌else◌}
use Rattle.byteorder.specs.Endian.{little_bytes}
use Rattle.vfio_user.specs.Numbers.{HEADER, MOST_DATA, REPLY, ERROR, RESET_AND_PCI, READ_AND_WRITE, MMAP_AND_CAPS, SPARSE_MMAP, SPARSE_MMAP_VERSION, EVENTFD_AND_NORESIZE, CAPABILITIES}
use Rattle.vfio_user.specs.declared.header.Header.{Header}
use Rattle.vfio_user.specs.declared.request.Range.{Range}
use Rattle.vfio_user.specs.declared.request.Region.{Region}
use Rattle.vfio_user.specs.declared.request.RegionQuery.{RegionQuery}
use Rattle.vfio_user.specs.declared.errno.Errno.{Errno}
use Rattle.vfio_user.specs.declared.errno.Errno.TheVariants.{NotPermitted, NotFound, NoMemory, Exists, Invalid, NoRoom, NotSupported}
use Rattle.vfio_user.specs.declared.reply.Area.{Area}
use Rattle.vfio_user.specs.declared.reply.Reply.{Reply as ReplyOf}
use Rattle.vfio_user.specs.declared.reply.Reply.TheVariants.{Done, Failed, Version, Unmapped, Info, RegionInfo, IrqInfo, Bytes, Written}

-- a reply whose bytes are a list
abbrev pub Reply : Type 0
Reply = ReplyOf (List ℕ)

-- and one whose bytes are lent
abbrev pub of_lent : ReplyOf (Bor (List ℕ)) → Reply
of_lent Done = Done
of_lent (Failed errno) = Failed errno
of_lent (Version major minor) = Version major minor
of_lent (Unmapped range) = Unmapped range
of_lent (Info regions irqs) = Info regions irqs
of_lent (RegionInfo query size area) = RegionInfo query size area
of_lent (IrqInfo index count) = IrqInfo index count
of_lent (Bytes region bytes) = Bytes region bytes.now
of_lent (Written region) = Written region

-- the bytes that were read are as many as the message asked for, and a message may ask for so many
abbrev pub HasItsBytes : Reply → Type 0
HasItsBytes (Bytes region bytes) = (length bytes ≡ region.count) × (region.count ≤ MOST_DATA)
HasItsBytes _ = Unit {0}

-- as Linux numbers them (errno.h)
abbrev pub errno_number : Errno → ℕ
errno_number NotPermitted = 1
errno_number NotFound = 2
errno_number NoMemory = 12
errno_number Exists = 17
errno_number Invalid = 22
errno_number NoRoom = 28
errno_number NotSupported = 95

-- ---- the header (Header)

abbrev pub flags_of : Option Errno → ℕ
flags_of None = REPLY
flags_of (Some e) = REPLY + ERROR

abbrev pub error_of : Option Errno → ℕ
error_of None = 0
error_of (Some e) = errno_number e

-- the id and the command of the message, the size, the flags, and the error
unfoldable pub head_bytes : Header → ℕ → Option Errno → List ℕ
head_bytes h size error =
    little_bytes 2 h.id ++ (little_bytes 2 h.command ++ (little_bytes 4 size ++ (little_bytes 4 (flags_of error) ++ little_bytes 4 (error_of error))))

-- ---- what stands behind it

-- major and minor (VFIO_USER_VERSION); the capabilities follow
unfoldable pub version_bytes : ℕ → ℕ → List ℕ
version_bytes major minor = little_bytes 2 major ++ little_bytes 2 minor

-- the entry that was asked for: argsz, flags, address, size (VFIO_USER_DMA_UNMAP)
unfoldable pub range_bytes : Range → List ℕ
range_bytes r = little_bytes 4 24 ++ (little_bytes 4 0 ++ (little_bytes 8 r.address ++ little_bytes 8 r.size))

-- argsz, flags, how many regions and how many types of interrupts (VFIO_USER_DEVICE_GET_INFO)
unfoldable pub info_bytes : ℕ → ℕ → List ℕ
info_bytes regions irqs = little_bytes 4 16 ++ (little_bytes 4 RESET_AND_PCI ++ (little_bytes 4 regions ++ little_bytes 4 irqs))

-- how many bytes the whole answer has: with an area the capability follows, of 8 bytes, 8 more and 16 for the area
abbrev pub needed : Option Area → ℕ
needed None = 32
needed (Some a) = 64

-- what can be done with a region; nothing where it has no bytes
abbrev pub region_flags : ℕ → Option Area → ℕ
region_flags size None = if size == 0 then 0 else READ_AND_WRITE
region_flags size (Some a) = READ_AND_WRITE + MMAP_AND_CAPS

-- where the capability stands, also where it doesn't fit
abbrev pub capability_at : Option Area → ℕ
capability_at None = 0
capability_at (Some a) = 32

-- argsz, flags, index, cap_offset, size, offset (VFIO_USER_DEVICE_GET_REGION_INFO): the file begins where the region does
unfoldable pub region_info_bytes : RegionQuery → ℕ → Option Area → List ℕ
region_info_bytes q size area =
    little_bytes 4 (needed area)
    ++ (little_bytes 4 (region_flags size area)
    ++ (little_bytes 4 q.index
    ++ (little_bytes 4 (capability_at area)
    ++ (little_bytes 8 size
    ++ little_bytes 8 0))))

-- id, version, next, nr_areas, reserved; offset and size of the area (VFIO sparse mmap cap header, VFIO region info cap sparse mmap)
unfoldable pub area_bytes : Area → List ℕ
area_bytes a =
    little_bytes 2 SPARSE_MMAP
    ++ (little_bytes 2 SPARSE_MMAP_VERSION
    ++ (little_bytes 4 0
    ++ (little_bytes 4 1
    ++ (little_bytes 4 0
    ++ (little_bytes 8 a.offset
    ++ little_bytes 8 a.size)))))

-- the capability, where the client has room for it
abbrev pub capability_bytes : RegionQuery → Option Area → List ℕ
capability_bytes q None = []
capability_bytes q (Some a) = if nat_lt q.argsz 64 then [] else area_bytes a

-- argsz, flags, index, count (VFIO_USER_DEVICE_GET_IRQ_INFO)
unfoldable pub irq_info_bytes : ℕ → ℕ → List ℕ
irq_info_bytes index count =
    little_bytes 4 16 ++ (little_bytes 4 (if count == 0 then 0 else EVENTFD_AND_NORESIZE) ++ (little_bytes 4 index ++ little_bytes 4 count))

-- offset, region, count (VFIO_USER_REGION_READ, VFIO_USER_REGION_WRITE); the bytes that were read follow
unfoldable pub region_bytes : Region → List ℕ
region_bytes r = little_bytes 8 r.offset ++ (little_bytes 4 r.index ++ little_bytes 4 r.count)

-- ---- the whole reply: a header, and up to two parts behind it

abbrev pub laid_bytes : Header → Option Errno → List ℕ → List ℕ → List ℕ
laid_bytes h error first second = head_bytes h (HEADER + length first + length second) error ++ (first ++ second)

unfoldable pub reply_bytes : Header → Reply → List ℕ
reply_bytes h Done = laid_bytes h None [] []
reply_bytes h (Failed errno) = laid_bytes h (Some errno) [] []
reply_bytes h (Version major minor) = laid_bytes h None (version_bytes major minor) CAPABILITIES
reply_bytes h (Unmapped range) = laid_bytes h None (range_bytes range) []
reply_bytes h (Info regions irqs) = laid_bytes h None (info_bytes regions irqs) []
reply_bytes h (RegionInfo query size area) = laid_bytes h None (region_info_bytes query size area) (capability_bytes query area)
reply_bytes h (IrqInfo index count) = laid_bytes h None (irq_info_bytes index count) []
reply_bytes h (Bytes region bytes) = laid_bytes h None (region_bytes region) bytes
reply_bytes h (Written region) = laid_bytes h None (region_bytes region) []
