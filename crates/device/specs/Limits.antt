-- The sizes of a device: its register spaces, and how much it keeps and gives at once.
use Rattle.std.specs.Prelude.{ℕ}

-- the registers of a virtual function take 16 KiB
abbrev pub VF_SPACE : ℕ
VF_SPACE = 0x4000

-- those of the physical function take 128 KiB
abbrev pub PF_SPACE : ℕ
PF_SPACE = 0x20000

-- the most bytes of one access to a function's memory
abbrev pub MOST_BYTES : ℕ
MOST_BYTES = 2048

-- how many of the frames that went to the wire are kept
abbrev pub MOST_FRAMES : ℕ
MOST_FRAMES = 1024
