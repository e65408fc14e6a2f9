-- What a client finds in a function: its version, its regions, and its interrupts.
use Rattle.std.specs.Prelude.{ℕ, ◌==◌, ◌&&◌, Bool, Option, Some, None, if◌then◌else◌}
use Rattle.vfio_user.specs.declared.reply.Area.{Area}
use Rattle.pci_function.specs.Space.{size_of_bar}

-- the version that is agreed on (VFIO_USER_VERSION)
abbrev pub MAJOR : ℕ
MAJOR = 0

abbrev pub MINOR : ℕ
MINOR = 0

-- ---- regions (linux/vfio.h, VFIO_PCI_BAR0_REGION_INDEX and the following)

abbrev pub REGIONS : ℕ
REGIONS = 9

-- BAR 0: the registers
abbrev pub REGISTERS : ℕ
REGISTERS = 0

-- BAR 3: the table of MSI-X, and its pending bits
abbrev pub TABLE : ℕ
TABLE = 3

-- the configuration space
abbrev pub CONFIGURATION : ℕ
CONFIGURATION = 7

-- how many bytes a region has; the configuration space has as many as one of PCI Express
abbrev pub size_of_region : ℕ → ℕ
size_of_region index = if index == CONFIGURATION then 4096 else size_of_bar index

-- the page of BAR 0 that has the registers of the transmit queues and counts what was sent, and has nothing of the receive queues (82599
-- Datasheet, VFTDBAL to VFTDWBAH, VFGPTC)
abbrev pub TRANSMIT_PAGE : Area
TRANSMIT_PAGE = record { offset = 0x2000; size = 0x1000 }

-- the area of a region that the client may map: that page of BAR 0, where it is offered, and else none
abbrev pub area_of_region : Bool → ℕ → Option Area
area_of_region offers index = if offers && (index == REGISTERS) then Some TRANSMIT_PAGE else None

-- ---- interrupts (linux/vfio.h, VFIO_PCI_INTX_IRQ_INDEX and the following)

abbrev pub IRQS : ℕ
IRQS = 5

abbrev pub MSIX : ℕ
MSIX = 2

-- how many vectors of MSI-X there are (82599 Datasheet, virtual functions configuration space)
abbrev pub VECTORS : ℕ
VECTORS = 3

abbrev pub count_of_irqs : ℕ → ℕ
count_of_irqs index = if index == MSIX then VECTORS else 0
