-- The callers' numbers.
use Rattle.std.specs.Prelude.{ℕ, ◌==◌, nat_lt, if◌then◌else◌}
use Rattle.history.specs.declared.caller.Caller.{Caller}
use Rattle.history.specs.declared.caller.Caller.TheVariants.{Port, Driver, Pump, Service}

-- the ports have the numbers of their pools
abbrev pub caller_number : Caller → ℕ
caller_number (Port p) = p
caller_number Driver = 64
caller_number Pump = 65
caller_number Service = 66

-- the caller of a number below 67
abbrev pub caller_of : ℕ → Caller
caller_of n = if nat_lt n 64 then Port n else (if n == 64 then Driver else (if n == 65 then Pump else Service))
