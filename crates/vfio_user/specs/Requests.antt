-- What a client asks, by the command and the bytes behind the header.
use denote.Bor.{Bor}
use Rattle.std.specs.Prelude.{◌≡◌, ◌≤◌, ℕ, ◌/◌, ◌%◌, ◌==◌, ◌&&◌, not, nat_le, nat_lt, Bool, true, false, List, drop, length, Result, Ok, Err, if◌then◌else◌}
use Rattle.vfio_user.specs.Numbers.{MOST_DATA, VERSION, DMA_MAP, DMA_UNMAP, DEVICE_GET_INFO, DEVICE_GET_REGION_INFO, DEVICE_GET_IRQ_INFO, DEVICE_SET_IRQS, REGION_READ, REGION_WRITE, DEVICE_RESET}
use Rattle.vfio_user.specs.Fields.{number}
use Rattle.vfio_user.specs.declared.errno.Errno.{Errno}
use Rattle.vfio_user.specs.declared.errno.Errno.TheVariants.{Invalid, NotSupported}
use Rattle.vfio_user.specs.declared.request.Access.{Access}
use Rattle.vfio_user.specs.declared.request.Access.TheVariants.{ReadOnly, WriteOnly, ReadWrite}
use Rattle.vfio_user.specs.declared.request.Carried.{Carried}
use Rattle.vfio_user.specs.declared.request.Carried.TheVariants.{Nothing, Eventfds}
use Rattle.vfio_user.specs.declared.request.Action.{Action}
use Rattle.vfio_user.specs.declared.request.Action.TheVariants.{Mask, Unmask, Trigger}
use Rattle.vfio_user.specs.declared.request.Region.{Region}
use Rattle.vfio_user.specs.declared.request.Request.{Request as RequestOf}
use Rattle.vfio_user.specs.declared.request.Request.TheVariants.{Version, Map, Unmap, Info, RegionInfo, IrqInfo, SetIrqs, Read, Write, Reset}

-- a request whose bytes are a list
abbrev pub Request : Type 0
Request = RequestOf (List ℕ)

-- and one whose bytes are lent
abbrev pub of_lent : RequestOf (Bor (List ℕ)) → Request
of_lent (Version major minor) = Version major minor
of_lent (Map mapping) = Map mapping
of_lent (Unmap range) = Unmap range
of_lent Info = Info
of_lent (RegionInfo query) = RegionInfo query
of_lent (IrqInfo index) = IrqInfo index
of_lent (SetIrqs irqs) = SetIrqs irqs
of_lent (Read region) = Read region
of_lent (Write region bytes) = Write region bytes.now
of_lent Reset = Reset

abbrev pub lent : Result (RequestOf (Bor (List ℕ))) Errno → Result Request Errno
lent (Ok r) = Ok (of_lent r)
lent (Err e) = Err e

abbrev pub pair_lent : Result (Region × Bor (List ℕ)) Errno → Result (Region × List ℕ) Errno
pair_lent (Ok p) = Ok (p.0, p.1.now)
pair_lent (Err e) = Err e

-- a message has at most 4096 bytes of a region, and a write has all that it writes
abbrev pub IsWhole : Request → Type 0
IsWhole (Read region) = region.count ≤ MOST_DATA
IsWhole (Write region bytes) = (region.count ≤ MOST_DATA) × (length bytes ≡ region.count)
IsWhole _ = Unit {0}

-- n bytes are there, and the first number, argsz, is n at least (Message sizes)
abbrev pub has_fields : ℕ → List ℕ → Bool
has_fields n b = nat_le n (length b) && nat_le n (number 4 b)

-- ---- VFIO_USER_VERSION: major, minor; what stands behind that is not read

unfoldable pub version_of : List ℕ → Result Request Errno
version_of b = if nat_lt (length b) 4 then Err Invalid else Ok (Version (number 2 b) (number 2 (drop 2 b)))

-- ---- VFIO_USER_DMA_MAP: argsz, flags, offset, address, size

-- bits 1:0 of the flags: readable and writeable
unfoldable pub access_of : ℕ → Result Access Errno
access_of bits =
    if bits == 1 then Ok ReadOnly
    else (if bits == 2 then Ok WriteOnly
    else (if bits == 3 then Ok ReadWrite
    else Err Invalid))

-- bits 31:2 of the flags: whether the access mode is mmap, so that a file has to come with the message. File I/O is not offered
unfoldable pub needs_file_of : ℕ → Result Bool Errno
needs_file_of bits =
    if bits == 0 then Ok false
    else (if bits == 1 then Ok true
    else (if nat_lt bits 4 then Err NotSupported
    else Err Invalid))

abbrev pub mapped : Result Access Errno → Result Bool Errno → ℕ → ℕ → ℕ → Result Request Errno
mapped (Err e) file offset address size = Err e
mapped (Ok access) (Err e) offset address size = Err e
mapped (Ok access) (Ok file) offset address size =
    Ok (Map (record { access = access; needs_file = file; offset = offset; range = record { address = address; size = size } }))

unfoldable pub map_of : List ℕ → Result Request Errno
map_of b =
    if not (has_fields 32 b) then Err Invalid
    else mapped
    (access_of (number 4 (drop 4 b) % 4))
    (needs_file_of (number 4 (drop 4 b) / 4))
    (number 8 (drop 4 (drop 4 b)))
    (number 8 (drop 8 (drop 4 (drop 4 b))))
    (number 8 (drop 8 (drop 8 (drop 4 (drop 4 b)))))

-- ---- VFIO_USER_DMA_UNMAP: argsz, flags, address, size

-- no flag is in use
unfoldable pub unmap_of : List ℕ → Result Request Errno
unmap_of b =
    if not (has_fields 24 b) then Err Invalid
    else (if not (number 4 (drop 4 b) == 0) then Err NotSupported
    else Ok (Unmap (record { address = number 8 (drop 4 (drop 4 b)); size = number 8 (drop 8 (drop 4 (drop 4 b))) })))

-- ---- VFIO_USER_DEVICE_GET_INFO: argsz, and fields that the reply fills

unfoldable pub info_of : List ℕ → Result Request Errno
info_of b = if has_fields 16 b then Ok Info else Err Invalid

-- ---- VFIO_USER_DEVICE_GET_REGION_INFO: argsz, flags, index, and fields that the reply fills

unfoldable pub region_info_of : List ℕ → Result Request Errno
region_info_of b = if has_fields 32 b then Ok (RegionInfo (record { argsz = number 4 b; index = number 4 (drop 4 (drop 4 b)) })) else Err Invalid

-- ---- VFIO_USER_DEVICE_GET_IRQ_INFO: argsz, flags, index, and a field that the reply fills

unfoldable pub irq_info_of : List ℕ → Result Request Errno
irq_info_of b = if has_fields 16 b then Ok (IrqInfo (number 4 (drop 4 (drop 4 b)))) else Err Invalid

-- ---- VFIO_USER_DEVICE_SET_IRQS: argsz, flags, index, start, count

-- bits 2:0 of the flags: no data, an array of bytes, or files. An array is not offered
unfoldable pub carried_of : ℕ → Result Carried Errno
carried_of bits =
    if bits == 1 then Ok Nothing
    else (if bits == 2 then Err NotSupported
    else (if bits == 4 then Ok Eventfds
    else Err Invalid))

-- bits 31:3 of the flags
unfoldable pub action_of : ℕ → Result Action Errno
action_of bits =
    if bits == 1 then Ok Mask
    else (if bits == 2 then Ok Unmask
    else (if bits == 4 then Ok Trigger
    else Err Invalid))

abbrev pub set : Result Carried Errno → Result Action Errno → ℕ → ℕ → ℕ → Result Request Errno
set (Err e) action index start count = Err e
set (Ok carried) (Err e) index start count = Err e
set (Ok carried) (Ok action) index start count =
    Ok (SetIrqs (record { carried = carried; action = action; index = index; start = start; count = count }))

unfoldable pub set_irqs_of : List ℕ → Result Request Errno
set_irqs_of b =
    if not (has_fields 20 b) then Err Invalid
    else set
    (carried_of (number 4 (drop 4 b) % 8))
    (action_of (number 4 (drop 4 b) / 8))
    (number 4 (drop 4 (drop 4 b)))
    (number 4 (drop 4 (drop 4 (drop 4 b))))
    (number 4 (drop 4 (drop 4 (drop 4 (drop 4 b)))))

-- ---- VFIO_USER_REGION_READ and VFIO_USER_REGION_WRITE: offset, region, count; and what is written

unfoldable pub region_of : List ℕ → Result (Region × List ℕ) Errno
region_of b =
    if nat_lt (length b) 16 then Err Invalid
    else (if nat_lt MOST_DATA (number 4 (drop 4 (drop 8 b))) then Err Invalid
    else Ok (record { offset = number 8 b; index = number 4 (drop 8 b); count = number 4 (drop 4 (drop 8 b)) }, drop 4 (drop 4 (drop 8 b))))

abbrev pub as_read : Result (Region × List ℕ) Errno → Result Request Errno
as_read (Ok p) = Ok (Read p.0)
as_read (Err e) = Err e

unfoldable pub read_of : List ℕ → Result Request Errno
read_of b = as_read (region_of b)

-- as many bytes have to stand there as the count says
abbrev pub as_write : Result (Region × List ℕ) Errno → Result Request Errno
as_write (Ok p) = if not (length p.1 == p.0.count) then Err Invalid else Ok (Write p.0 p.1)
as_write (Err e) = Err e

unfoldable pub write_of : List ℕ → Result Request Errno
write_of b = as_write (region_of b)

-- ---- all of them, by the command's number (Commands)

unfoldable pub request_of : ℕ → List ℕ → Result Request Errno
request_of c b =
    if c == VERSION then version_of b
    else (if c == DMA_MAP then map_of b
    else (if c == DMA_UNMAP then unmap_of b
    else (if c == DEVICE_GET_INFO then info_of b
    else (if c == DEVICE_GET_REGION_INFO then region_info_of b
    else (if c == DEVICE_GET_IRQ_INFO then irq_info_of b
    else (if c == DEVICE_SET_IRQS then set_irqs_of b
    else (if c == REGION_READ then read_of b
    else (if c == REGION_WRITE then write_of b
    else (if c == DEVICE_RESET then Ok Reset
    else Err NotSupported)))))))))
