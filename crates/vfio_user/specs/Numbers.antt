-- The protocol's numbers (vfio-user Protocol Specification; the section stands beside each).
use Rattle.std.specs.Prelude.{ℕ, ◌+◌, List, [], ◌∷◌, ◌++◌, codes}

-- ---- sizes

-- bytes of a header (Header)
abbrev pub HEADER : ℕ
HEADER = 16

-- the most bytes of a region that one message reads or writes, as VERSION tells the client (max_data_xfer_size)
abbrev pub MOST_DATA : ℕ
MOST_DATA = 4096

-- the most bytes of a message: a header, the 16 bytes that say which bytes of a region, and those bytes
abbrev pub MOST : ℕ
MOST = HEADER + 16 + MOST_DATA

-- ---- commands (Commands)

abbrev pub VERSION : ℕ
VERSION = 1

abbrev pub DMA_MAP : ℕ
DMA_MAP = 2

abbrev pub DMA_UNMAP : ℕ
DMA_UNMAP = 3

abbrev pub DEVICE_GET_INFO : ℕ
DEVICE_GET_INFO = 4

abbrev pub DEVICE_GET_REGION_INFO : ℕ
DEVICE_GET_REGION_INFO = 5

abbrev pub DEVICE_GET_IRQ_INFO : ℕ
DEVICE_GET_IRQ_INFO = 7

abbrev pub DEVICE_SET_IRQS : ℕ
DEVICE_SET_IRQS = 8

abbrev pub REGION_READ : ℕ
REGION_READ = 9

abbrev pub REGION_WRITE : ℕ
REGION_WRITE = 10

abbrev pub DEVICE_RESET : ℕ
DEVICE_RESET = 13

-- ---- flags of replies

-- the type of a reply; and Error, bit 5 (Header)
abbrev pub REPLY : ℕ
REPLY = 1

abbrev pub ERROR : ℕ
ERROR = 32

-- the device can be reset, and is one of PCI (VFIO_USER_DEVICE_GET_INFO)
abbrev pub RESET_AND_PCI : ℕ
RESET_AND_PCI = 3

-- a region can be read and written; it can be mapped too, and has capabilities (VFIO_USER_DEVICE_GET_REGION_INFO)
abbrev pub READ_AND_WRITE : ℕ
READ_AND_WRITE = 3

abbrev pub MMAP_AND_CAPS : ℕ
MMAP_AND_CAPS = 12

-- the id and the version of the capability that lists areas which can be mapped (VFIO sparse mmap cap header; linux/vfio.h)
abbrev pub SPARSE_MMAP : ℕ
SPARSE_MMAP = 1

abbrev pub SPARSE_MMAP_VERSION : ℕ
SPARSE_MMAP_VERSION = 1

-- interrupts are signalled by eventfds, and are set up all at once (VFIO_USER_DEVICE_GET_IRQ_INFO: bits 0 and 3)
abbrev pub EVENTFD_AND_NORESIZE : ℕ
EVENTFD_AND_NORESIZE = 9

-- ---- what the server tells of itself (VFIO_USER_VERSION)

abbrev pub CAPABILITIES : List ℕ
CAPABILITIES = codes "{\"capabilities\":{\"max_msg_fds\":8,\"max_data_xfer_size\":4096,\"pgsizes\":4096,\"max_dma_maps\":64}}" ++ (0 ∷ [])
