-- The interrupt line of a run: the ports are of the line of one device.
use Rattle.std.specs.Prelude.{◌≡◌, List}
use Rattle.std.specs.List.{All}
use Rattle.atomic_table.specs.Seated.{TableId}
use Rattle.guest_port.specs.Notes.{Known}
use Rattle.guest_port.specs.Port.{Port}

-- ports of any kind, by what they mean, each with a note of its end
abbrev pub ArePortsOf : {P : Type 0} → (P → Port) → TableId → List (P × Known) → Type 0
ArePortsOf {P} meaning line ports = All (λ (p : P × Known). (meaning p.0).seat.line ≡ line) ports
