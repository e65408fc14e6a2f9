-- The registers of the configuration space of a virtual function of the 82599 that don't read 0 for ever, in the order of their places.
use Rattle.std.specs.Prelude.{ℕ, List, [], ◌∷◌}

-- where a register stands, how many bytes it has, what it holds at first, and which of its bits a write sets
pub record Line : Type 0 where
  pub at : ℕ
  pub width : ℕ
  pub initial : ℕ
  pub writable : ℕ

abbrev pub row : ℕ → ℕ → ℕ → ℕ → Line
row at width initial writable = record { at = at; width = width; initial = initial; writable = writable }

-- PCI Local Bus 3.0, 6.1, 6.2 and 6.8.2; PCI Express Base 2.1, 7.8; SR-IOV 1.1, 3.4 and 3.5; 82599 Datasheet, virtual functions configuration space
unfoldable pub registers : List Line
registers =
    row 0x00 2 0x8086 0  -- Vendor ID (PCI 6.2.1)
    ∷ row 0x02 2 0x10ED 0  -- Device ID (PCI 6.2.1): a virtual function of the 82599
    ∷ row 0x04 2 0 0x0406  -- Command (PCI 6.2.2): memory space, bus master, interrupt disable
    ∷ row 0x06 2 0x0010 0  -- Status (PCI 6.2.3): there is a list of capabilities
    ∷ row 0x08 4 0x02000001 0  -- Revision ID, 1, and Class Code (PCI 6.2.1): an Ethernet controller
    ∷ row 0x0C 1 0 0xFF  -- Cacheline Size (PCI 6.2.4)
    ∷ row 0x10 4 4 0  -- BAR 0 (PCI 6.2.5.1): memory with 64 bits of address
    ∷ row 0x1C 4 4 0  -- BAR 3 (PCI 6.2.5.1): the same
    ∷ row 0x2C 4 0x7A118086 0  -- Subsystem Vendor ID and Subsystem ID (PCI 6.2.4)
    ∷ row 0x34 1 0x70 0  -- Capabilities Pointer (PCI 6.7): MSI-X
    ∷ row 0x3C 1 0 0xFF  -- Interrupt Line (PCI 6.2.4)
    ∷ row 0x70 2 0xA011 0  -- MSI-X capability (PCI 6.8.2.1 and 6.8.2.2); the next one is at A0h
    ∷ row 0x72 2 2 0xC000  -- Message Control (PCI 6.8.2.3): three vectors; function mask, enable
    ∷ row 0x74 4 3 0  -- Table Offset and BIR (PCI 6.8.2.4): at 0 of BAR 3
    ∷ row 0x78 4 0x2003 0  -- PBA Offset and BIR (PCI 6.8.2.5): at 2000h of BAR 3
    ∷ row 0xA0 2 0x0010 0  -- PCI Express capability (Express 7.8.1); it is the last one
    ∷ row 0xA2 2 0x0002 0  -- PCI Express Capabilities (Express 7.8.2): version 2, an endpoint
    ∷ row 0xA4 4 0x10008002 0  -- Device Capabilities (Express 7.8.3): 512 bytes, role-based errors, function-level reset
    ∷ row 0xAC 4 0x00000D42 0  -- Link Capabilities (Express 7.8.6)
    ∷ row 0xB2 2 0x0042 0  -- Link Status (Express 7.8.8)
    ∷ row 0xC4 4 0x00000010 0  -- Device Capabilities 2 (Express 7.8.15): the completion timeout can be disabled
    ∷ []

-- Command, and its bits Memory Space and Bus Master (PCI 6.2.2)
abbrev pub COMMAND : ℕ
COMMAND = 0x04

abbrev pub MEMORY_SPACE : ℕ
MEMORY_SPACE = 1

abbrev pub BUS_MASTER : ℕ
BUS_MASTER = 2

-- Message Control of MSI-X, and its bits Function Mask and MSI-X Enable (PCI 6.8.2.3)
abbrev pub MESSAGE_CONTROL : ℕ
MESSAGE_CONTROL = 0x72

abbrev pub FUNCTION_MASK : ℕ
FUNCTION_MASK = 14

abbrev pub MSIX_ENABLE : ℕ
MSIX_ENABLE = 15

-- Device Control, and its bit Initiate Function Level Reset (Express 7.8.4)
abbrev pub DEVICE_CONTROL : ℕ
DEVICE_CONTROL = 0xA8

abbrev pub INITIATE_RESET : ℕ
INITIATE_RESET = 15
