-- The second word of a transmit descriptor: the places of its fields, as bits (82599 datasheet, 7.2.3.2.2, legacy, and 7.2.3.2.4,
-- advanced transmit data descriptor).
use Rattle.std.specs.Prelude.{ℕ}

-- DTYP: four bits from bit 20 on; 2 is a context and 3 is data
abbrev pub DTYP : ℕ
DTYP = 20

abbrev pub DTYP_SIZE : ℕ
DTYP_SIZE = 4

abbrev pub DTYP_CONTEXT : ℕ
DTYP_CONTEXT = 2

abbrev pub DTYP_DATA : ℕ
DTYP_DATA = 3

-- EOP: the last descriptor of a frame
abbrev pub EOP : ℕ
EOP = 24

-- RS: to be written back
abbrev pub RS : ℕ
RS = 27

-- DEXT: advanced
abbrev pub DEXT : ℕ
DEXT = 29

-- VLE: a tag is to be inserted
abbrev pub VLE : ℕ
VLE = 30

-- TSE: the frame is to be cut into segments
abbrev pub TSE : ℕ
TSE = 31

-- DD: done
abbrev pub DD : ℕ
DD = 32

-- VLAN, of a legacy descriptor: sixteen bits from bit 48 on
abbrev pub VLAN : ℕ
VLAN = 48

abbrev pub VLAN_SIZE : ℕ
VLAN_SIZE = 16

-- of an advanced data descriptor, in its high half: IDX, which of the two contexts of the queue is meant
abbrev pub IDX : ℕ
IDX = 36

abbrev pub IDX_SIZE : ℕ
IDX_SIZE = 1

-- IXSM and TXSM of POPTS: the sum of the IPv4 header, and that of what stands behind it, are to be made
abbrev pub IXSM : ℕ
IXSM = 40

abbrev pub TXSM : ℕ
TXSM = 41

-- ---- segmentation

-- the most bytes of a frame that is to be cut: 65,535 of payload, behind the longest headers that a context names
abbrev pub MOST_CUT : ℕ
MOST_CUT = 66428
