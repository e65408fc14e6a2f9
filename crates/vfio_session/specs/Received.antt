-- What a message does to a session, whatever its bytes.
use Rattle.std.specs.Prelude.{ℕ, ◌==◌, ◌||◌, not, nat_lt, Bool, true, false, List, drop, length, Result, Ok, Err, if◌then◌else◌}
use Rattle.vfio_user.specs.declared.header.Header.{Header}
use Rattle.vfio_user.specs.declared.header.Broken.{Broken}
use Rattle.vfio_user.specs.declared.errno.Errno.{Errno}
use Rattle.vfio_user.specs.declared.errno.Errno.TheVariants.{Invalid}
use Rattle.vfio_user.specs.declared.request.RegionQuery.{RegionQuery}
use Rattle.vfio_user.specs.declared.request.Carried.{Carried}
use Rattle.vfio_user.specs.declared.request.Carried.TheVariants.{Nothing, Eventfds}
use Rattle.vfio_user.specs.declared.request.Request.TheVariants.{Version, Map, Unmap, Info, RegionInfo, IrqInfo, SetIrqs, Read, Write, Reset}
use Rattle.vfio_user.specs.declared.reply.Reply.TheVariants.{Version as VersionReply, Info as InfoReply, RegionInfo as RegionReply, IrqInfo as IrqReply}
use Rattle.vfio_user.specs.Numbers.{HEADER}
use Rattle.vfio_user.specs.Header.{header_of}
use Rattle.vfio_user.specs.Requests.{Request, request_of}
use Rattle.pci_function.specs.Space.{initial}
use Rattle.vfio_session.specs.declared.decision.Ask.TheVariants.{Reset as ResetAsk}
use Rattle.vfio_session.specs.declared.decision.Fate.TheVariants.{Closed}
use Rattle.vfio_session.specs.declared.decision.Breach.TheVariants.{NoHeader, WrongSize, NoVersion, OtherVersion, SecondVersion, StrayFiles}
use Rattle.vfio_session.specs.declared.owed.Form.TheVariants.{Plain}
use Rattle.vfio_session.specs.Offered.{MAJOR, MINOR, REGIONS, IRQS, size_of_region, area_of_region, count_of_irqs}
use Rattle.vfio_session.specs.Sessions.{SessionState, Received, answered, refused, asked, ended}
use Rattle.vfio_session.specs.Regions.{read, write}
use Rattle.vfio_session.specs.Vectors.{set}
use Rattle.vfio_session.specs.Memory.{map, unmap}

-- ---- what the client asks about the function

abbrev pub region_told : SessionState → Header → RegionQuery → Received
region_told s h q =
    if nat_lt q.index REGIONS then answered s h (RegionReply q (size_of_region q.index) (area_of_region s.offers_area q.index))
    else refused s h Invalid

abbrev pub irq_told : SessionState → Header → ℕ → Received
irq_told s h index = if nat_lt index IRQS then answered s h (IrqReply index (count_of_irqs index)) else refused s h Invalid

-- ---- requests

-- files may come with a mapping, and with eventfds
abbrev pub carries_files : Carried → Bool
carries_files Nothing = false
carries_files Eventfds = true

unfoldable pub may_have_files : Request → Bool
may_have_files (Map mapping) = true
may_have_files (SetIrqs irqs) = carries_files irqs.carried
may_have_files _ = false

-- a request that the session takes, once a version was agreed on
unfoldable pub acted : SessionState → Header → Request → ℕ → Received
acted s h (Version major minor) files = ended SecondVersion
acted s h (Map mapping) files = map s h mapping files
acted s h (Unmap range) files = unmap s h range
acted s h Info files = answered s h (InfoReply REGIONS IRQS)
acted s h (RegionInfo query) files = region_told s h query
acted s h (IrqInfo index) files = irq_told s h index
acted s h (SetIrqs irqs) files = set s h irqs files
acted s h (Read region) files = read s h region
acted s h (Write region bytes) files = write s h region bytes
acted s h Reset files = asked (record s { space = initial }) h Plain ResetAsk Closed

-- the same, but for files that nobody wants
abbrev pub taken : SessionState → Header → Request → ℕ → Received
taken s h r files = if (files == 0) || may_have_files r then acted s h r files else refused s h Invalid

-- the first request: it proposes a version with this major number, whatever the minor one
unfoldable pub begun : SessionState → Header → Request → ℕ → Received
begun s h (Version major minor) files =
    if not (major == MAJOR) then ended OtherVersion
    else (if not (files == 0) then ended StrayFiles
    else answered (record s { has_version = true }) h (VersionReply MAJOR MINOR))
begun s h _ files = ended NoVersion

-- ---- messages

abbrev pub requested : SessionState → Header → Result Request Errno → ℕ → Received
requested s h (Ok r) files = if s.has_version then taken s h r files else begun s h r files
requested s h (Err errno) files = if s.has_version then refused s h errno else ended NoVersion

abbrev pub headed : SessionState → List ℕ → Result Header Broken → ℕ → Received
headed s message (Ok h) files =
    if h.size == length message then requested s h (request_of h.command (drop HEADER message)) files
    else ended WrongSize
headed s message (Err broken) files = ended (NoHeader broken)

-- a whole message, and how many files came with it
unfoldable pub received : SessionState → List ℕ → ℕ → Received
received s message files = headed s message (header_of message) files
