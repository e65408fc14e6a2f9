-- How far apart the messages of each vector are to be (82599 datasheet, VF Extended Interrupt Throttle, VTEITR).
use Rattle.std.specs.Prelude.{ℕ, ◌*◌}
use Rattle.wire_frame.specs.Bits.{field}
use Rattle.vf_unit.specs.Words.{INTERVAL, INTERVAL_SIZE, INTERVAL_UNIT}
use Rattle.vf_unit.specs.declared.intervals.Vector.{Vector}
use Rattle.vf_unit.specs.declared.intervals.Vector.TheVariants.{V0, V1, V2}
use Rattle.vf_unit.specs.declared.intervals.Intervals.{Intervals}

-- nothing is said of any vector
abbrev pub no_intervals : Intervals
no_intervals = record { vector_0 = 0; vector_1 = 0; vector_2 = 0 }

-- the word of a vector
abbrev pub word_for : Intervals → Vector → ℕ
word_for i V0 = i.vector_0
word_for i V1 = i.vector_1
word_for i V2 = i.vector_2

abbrev pub with_word : Intervals → Vector → ℕ → Intervals
with_word i V0 word = record i { vector_0 = word }
with_word i V1 word = record i { vector_1 = word }
with_word i V2 word = record i { vector_2 = word }

-- how many microseconds a word says
abbrev pub microseconds : ℕ → ℕ
microseconds word = INTERVAL_UNIT * field word INTERVAL INTERVAL_SIZE
