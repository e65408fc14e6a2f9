-- How a client spells a message: the header, the command's number, and the bytes behind the header.
use Rattle.std.specs.Prelude.{◌≡◌, ◌≤◌, ◌<◌, ◌^◌, ◌+◌, ℕ, Bool, List, ◌++◌, length, if◌then◌else◌}
use Rattle.byteorder.specs.Endian.{little_bytes}
use Rattle.vfio_user.specs.Numbers.{HEADER, MOST, MOST_DATA, VERSION, DMA_MAP, DMA_UNMAP, DEVICE_GET_INFO, DEVICE_GET_REGION_INFO, DEVICE_GET_IRQ_INFO, DEVICE_SET_IRQS, REGION_READ, REGION_WRITE, DEVICE_RESET}
use Rattle.vfio_user.specs.declared.header.Header.{Header}
use Rattle.vfio_user.specs.declared.request.Access.{Access}
use Rattle.vfio_user.specs.declared.request.Access.TheVariants.{ReadOnly, WriteOnly, ReadWrite}
use Rattle.vfio_user.specs.declared.request.Carried.{Carried}
use Rattle.vfio_user.specs.declared.request.Carried.TheVariants.{Nothing, Eventfds}
use Rattle.vfio_user.specs.declared.request.Action.{Action}
use Rattle.vfio_user.specs.declared.request.Action.TheVariants.{Mask, Unmask, Trigger}
use Rattle.vfio_user.specs.declared.request.Range.{Range}
use Rattle.vfio_user.specs.declared.request.Region.{Region}
use Rattle.vfio_user.specs.declared.request.Request.TheVariants.{Version, Map, Unmap, Info, RegionInfo, IrqInfo, SetIrqs, Read, Write, Reset}
use Rattle.vfio_user.specs.Requests.{Request}

-- ---- the header

-- the type of a command is 0; No_reply is bit 4. `error` means nothing in a command
abbrev pub spelled_header : Header → ℕ → List ℕ → List ℕ
spelled_header h error more =
    little_bytes 2 h.id ++ (little_bytes 2 h.command ++ (little_bytes 4 h.size ++ (little_bytes 4 (if h.wants_reply then 0 else 16) ++ (little_bytes 4 error ++ more))))

pub record HeaderFits (h : Header) : Type 0 where
  pub id : h.id < 2 ^ 16
  pub command : h.command < 2 ^ 16
  pub size : HEADER ≤ h.size
  pub most : h.size ≤ MOST

-- ---- the command and what stands behind the header

abbrev pub command_of : Request → ℕ
command_of (Version major minor) = VERSION
command_of (Map mapping) = DMA_MAP
command_of (Unmap range) = DMA_UNMAP
command_of Info = DEVICE_GET_INFO
command_of (RegionInfo query) = DEVICE_GET_REGION_INFO
command_of (IrqInfo index) = DEVICE_GET_IRQ_INFO
command_of (SetIrqs irqs) = DEVICE_SET_IRQS
command_of (Read region) = REGION_READ
command_of (Write region bytes) = REGION_WRITE
command_of Reset = DEVICE_RESET

abbrev pub access_bits : Access → ℕ
access_bits ReadOnly = 1
access_bits WriteOnly = 2
access_bits ReadWrite = 3

abbrev pub mode_bit : Bool → ℕ
mode_bit needs_file = if needs_file then 4 else 0

abbrev pub carried_bit : Carried → ℕ
carried_bit Nothing = 1
carried_bit Eventfds = 4

abbrev pub action_bit : Action → ℕ
action_bit Mask = 8
action_bit Unmask = 16
action_bit Trigger = 32

-- `more` is what the protocol lets stand behind: capabilities of VERSION, fields that the reply fills
abbrev pub spelled : Request → List ℕ → List ℕ
spelled (Version major minor) more = little_bytes 2 major ++ (little_bytes 2 minor ++ more)
spelled (Map m) more = little_bytes 4 32 ++ (little_bytes 4 (access_bits m.access + mode_bit m.needs_file) ++ (little_bytes 8 m.offset ++ (little_bytes 8 m.range.address ++ (little_bytes 8 m.range.size ++ more))))
spelled (Unmap r) more = little_bytes 4 24 ++ (little_bytes 4 0 ++ (little_bytes 8 r.address ++ (little_bytes 8 r.size ++ more)))
spelled Info more = little_bytes 4 16 ++ (little_bytes 4 0 ++ (little_bytes 4 0 ++ (little_bytes 4 0 ++ more)))
spelled (RegionInfo q) more = little_bytes 4 q.argsz ++ (little_bytes 4 0 ++ (little_bytes 4 q.index ++ (little_bytes 4 0 ++ (little_bytes 8 0 ++ (little_bytes 8 0 ++ more)))))
spelled (IrqInfo index) more = little_bytes 4 16 ++ (little_bytes 4 0 ++ (little_bytes 4 index ++ (little_bytes 4 0 ++ more)))
spelled (SetIrqs i) more = little_bytes 4 20 ++ (little_bytes 4 (carried_bit i.carried + action_bit i.action) ++ (little_bytes 4 i.index ++ (little_bytes 4 i.start ++ (little_bytes 4 i.count ++ more))))
spelled (Read r) more = little_bytes 8 r.offset ++ (little_bytes 4 r.index ++ (little_bytes 4 r.count ++ more))
spelled (Write r bytes) more = little_bytes 8 r.offset ++ (little_bytes 4 r.index ++ (little_bytes 4 r.count ++ bytes))
spelled Reset more = more

abbrev pub RangeFits : Range → Type 0
RangeFits r = (r.address < 2 ^ 64) × (r.size < 2 ^ 64)

pub record RegionFits (r : Region) : Type 0 where
  pub offset : r.offset < 2 ^ 64
  pub index : r.index < 2 ^ 32
  pub count : r.count ≤ MOST_DATA

-- what has a spelling: each number fits its field
abbrev pub IsSpelled : Request → Type 0
IsSpelled (Version major minor) = (major < 2 ^ 16) × (minor < 2 ^ 16)
IsSpelled (Map m) = (m.offset < 2 ^ 64) × RangeFits m.range
IsSpelled (Unmap r) = RangeFits r
IsSpelled Info = Unit {0}
IsSpelled (RegionInfo q) = (32 ≤ q.argsz) × (q.argsz < 2 ^ 32) × (q.index < 2 ^ 32)
IsSpelled (IrqInfo index) = index < 2 ^ 32
IsSpelled (SetIrqs i) = (i.index < 2 ^ 32) × (i.start < 2 ^ 32) × (i.count < 2 ^ 32)
IsSpelled (Read r) = RegionFits r
IsSpelled (Write r bytes) = RegionFits r × (length bytes ≡ r.count)
IsSpelled Reset = Unit {0}
