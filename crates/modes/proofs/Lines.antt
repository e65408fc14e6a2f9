-- The shares of ports are for a device of one line, until they are handed out.
use Rattle.std.proofs.Common.{◌≡◌, ℕ, ◌<◌, List, [], ◌∷◌, ◌++◌, get_or, length, sym, ap, ◌∙◌, subst}
use Rattle.std.specs.Prelude.{Option, None, slice_get, slice_set}
use Rattle.std.proofs.lemmas.List.Elements.{All-nil, All-push}
use Rattle.atomic_table.specs.Seated.{TableId}
use Rattle.guest_port.specs.Notes.{Known}
use Rattle.guest_port.specs.Port.{Port}
use Rattle.recorder.specs.declared.shares.Shares.{Shares}
use Rattle.recorder.specs.Held.{CallerLog}
use Rattle.recorder.specs.Made.{AreSharesOf, AreUnused}
use Rattle.recorder.proofs.LineLemmas.{pump_line, shares_still}
use Rattle.modes.specs.Lines.{ArePortsOf}

pub unused_own : {L : Type 0} (line : TableId) (shares : Shares L) → AreUnused line shares → AreUnused shares.pump.line shares
unused_own line shares are = subst (λ (l : TableId). AreUnused l shares) (sym (pump_line line shares are)) are

pub handed_out : {L : Type 0} (old new : Shares L) (k : ℕ) → new.ports.items ≡ slice_set old.ports.items k None → new.pump ≡ old.pump → AreSharesOf old.pump.line old.ports.items → AreSharesOf new.pump.line new.ports.items
handed_out old new k gone pump ask p m is = shares_still old.pump.line old.ports.items new.ports.items k gone ask p m is ∙ sym (ap (λ (share : CallerLog). share.line) pump)

-- so it is where the pump's share and those of the ports stay
pub ask_as : {L : Type 0} (old new : Shares L) → new.pump ≡ old.pump → new.ports ≡ old.ports → AreSharesOf old.pump.line old.ports.items → AreSharesOf new.pump.line new.ports.items
ask_as old new pump ports ask p m is =
    let same : slice_get new.ports.items p ≡ slice_get old.ports.items p = λ i. slice_get (ports i).items p in
    ask p m (sym same ∙ is) ∙ sym (ap (λ (share : CallerLog). share.line) pump)

-- ---- ports and seats

pub port_line : {P : Type 0} (meaning : P → Port) (line : TableId) (ports : List (P × Known)) (k : ℕ) (p : P × Known) → ArePortsOf meaning line ports → k < length ports → p ≡ get_or ports k p → (meaning p.0).seat.line ≡ line
port_line {P} meaning line ports k p are less is = ap (λ (q : P × Known). (meaning q.0).seat.line) is ∙ are k p less

-- one port more
pub ports_more : {P : Type 0} (meaning : P → Port) (line : TableId) (old new : List (P × Known)) (p : P × Known) → new ≡ old ++ p ∷ [] → (meaning p.0).seat.line ≡ line → ArePortsOf meaning line old → ArePortsOf meaning line new
ports_more {P} meaning line old new p more is are = subst (ArePortsOf meaning line) (sym more) (All-push (λ (q : P × Known). (meaning q.0).seat.line ≡ line) old p are is)

pub no_ports : {P : Type 0} (meaning : P → Port) (line : TableId) (ports : List (P × Known)) → ports ≡ [] → ArePortsOf meaning line ports
no_ports {P} meaning line ports none = subst (ArePortsOf meaning line) (sym none) (All-nil (λ (q : P × Known). (meaning q.0).seat.line ≡ line))

pub ports_as : {P : Type 0} (meaning : P → Port) (line now : TableId) (ports : List (P × Known)) → now ≡ line → ArePortsOf meaning line ports → ArePortsOf meaning now ports
ports_as meaning line now ports same are = subst (λ (l : TableId). ArePortsOf meaning l ports) (sym same) are

-- where the pump's share stays
pub ports_still : {P : Type 0} (meaning : P → Port) (old new : CallerLog) (ports : List (P × Known)) → new ≡ old → ArePortsOf meaning old.line ports → ArePortsOf meaning new.line ports
ports_still meaning old new ports same are = ports_as meaning old.line new.line ports (ap (λ (share : CallerLog). share.line) same) are
