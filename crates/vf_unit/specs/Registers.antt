-- The register map of a virtual function (82599 datasheet, 8.3: device registers of a virtual function). The digit behind a name is the
-- queue; a queue's registers stand 0x40 bytes behind those of the queue before it.
use Rattle.std.specs.Prelude.{ℕ, List, [], ◌∷◌, ◌==◌, if◌then◌else◌}
use Rattle.vf_unit.specs.declared.registers.Queue.TheVariants.{Q0, Q1}
use Rattle.vf_unit.specs.declared.intervals.Vector.TheVariants.{V0, V1, V2}
use Rattle.rings.specs.declared.ring.RingRegister.TheVariants.{BaseLow, BaseHigh, Length, Head, Tail}
use Rattle.vf_unit.specs.declared.registers.Register.{Register}
use Rattle.vf_unit.specs.declared.registers.Register.TheVariants.{Nowhere, Control, Links, CauseRead, CauseSet, MaskSet, MaskClear, AutoClear, AutoMask, QueueVectors, OtherVector, Interval, Receive, ReceiveBuffers, ReceiveControl, Transmit, TransmitControl, FramesReceived, FramesSent}

-- a line of the map
pub record Line : Type 0 where
  pub offset : ℕ
  pub register : Register

abbrev pub register_map : List Line
register_map =
    record { offset = 0x0; register = Control }  -- VFCTRL
    ∷ record { offset = 0x10; register = Links }  -- VFLINKS
    ∷ record { offset = 0x100; register = CauseRead }  -- VTEICR
    ∷ record { offset = 0x104; register = CauseSet }  -- VTEICS
    ∷ record { offset = 0x108; register = MaskSet }  -- VTEIMS
    ∷ record { offset = 0x10C; register = MaskClear }  -- VTEIMC
    ∷ record { offset = 0x110; register = AutoClear }  -- VTEIAC
    ∷ record { offset = 0x114; register = AutoMask }  -- VTEIAM
    ∷ record { offset = 0x120; register = QueueVectors }  -- VTIVAR
    ∷ record { offset = 0x140; register = OtherVector }  -- VTIVAR_MISC
    ∷ record { offset = 0x820; register = Interval V0 }  -- VTEITR0
    ∷ record { offset = 0x824; register = Interval V1 }  -- VTEITR1
    ∷ record { offset = 0x828; register = Interval V2 }  -- VTEITR2
    ∷ record { offset = 0x1000; register = Receive Q0 BaseLow }  -- RDBAL0
    ∷ record { offset = 0x1004; register = Receive Q0 BaseHigh }  -- RDBAH0
    ∷ record { offset = 0x1008; register = Receive Q0 Length }  -- RDLEN0
    ∷ record { offset = 0x1010; register = Receive Q0 Head }  -- RDH0
    ∷ record { offset = 0x1014; register = ReceiveBuffers Q0 }  -- SRRCTL0
    ∷ record { offset = 0x1018; register = Receive Q0 Tail }  -- RDT0
    ∷ record { offset = 0x101C; register = FramesReceived }  -- VFGPRC
    ∷ record { offset = 0x1028; register = ReceiveControl Q0 }  -- RXDCTL0
    ∷ record { offset = 0x1040; register = Receive Q1 BaseLow }  -- RDBAL1
    ∷ record { offset = 0x1044; register = Receive Q1 BaseHigh }  -- RDBAH1
    ∷ record { offset = 0x1048; register = Receive Q1 Length }  -- RDLEN1
    ∷ record { offset = 0x1050; register = Receive Q1 Head }  -- RDH1
    ∷ record { offset = 0x1054; register = ReceiveBuffers Q1 }  -- SRRCTL1
    ∷ record { offset = 0x1058; register = Receive Q1 Tail }  -- RDT1
    ∷ record { offset = 0x1068; register = ReceiveControl Q1 }  -- RXDCTL1
    ∷ record { offset = 0x2000; register = Transmit Q0 BaseLow }  -- TDBAL0
    ∷ record { offset = 0x2004; register = Transmit Q0 BaseHigh }  -- TDBAH0
    ∷ record { offset = 0x2008; register = Transmit Q0 Length }  -- TDLEN0
    ∷ record { offset = 0x2010; register = Transmit Q0 Head }  -- TDH0
    ∷ record { offset = 0x2018; register = Transmit Q0 Tail }  -- TDT0
    ∷ record { offset = 0x201C; register = FramesSent }  -- VFGPTC
    ∷ record { offset = 0x2028; register = TransmitControl Q0 }  -- TXDCTL0
    ∷ record { offset = 0x2040; register = Transmit Q1 BaseLow }  -- TDBAL1
    ∷ record { offset = 0x2044; register = Transmit Q1 BaseHigh }  -- TDBAH1
    ∷ record { offset = 0x2048; register = Transmit Q1 Length }  -- TDLEN1
    ∷ record { offset = 0x2050; register = Transmit Q1 Head }  -- TDH1
    ∷ record { offset = 0x2058; register = Transmit Q1 Tail }  -- TDT1
    ∷ record { offset = 0x2068; register = TransmitControl Q1 }  -- TXDCTL1
    ∷ []

-- the register of the first line with that offset
abbrev pub found_in : List Line → ℕ → Register
found_in [] offset = Nowhere
found_in (line ∷ lines) offset = if line.offset == offset then line.register else found_in lines offset

-- the register at an offset, Nowhere where the map has none
unfoldable pub register_at : ℕ → Register
register_at offset = found_in register_map offset
