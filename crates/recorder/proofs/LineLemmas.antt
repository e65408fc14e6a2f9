-- The shares of ports, until they are handed out, are for a device of one line.
use Rattle.std.proofs.Common.{◌≡◌, ℕ, ◌<◌, zero, suc, Bool, true, false, List, [], ◌∷◌, sym, ap, ◌∙◌, subst}
use Rattle.std.specs.Prelude.{Option, Some, None, slice_get, slice_set}
use Rattle.std.proofs.lemmas.Bool.{false≢true}
use Rattle.std.proofs.lemmas.Option.{slice_get_within}
use Rattle.atomic_table.specs.Seated.{TableId}
use Rattle.recorder.specs.declared.shares.Shares.{Shares}
use Rattle.recorder.specs.Held.{CallerLog}
use Rattle.recorder.specs.Made.{AreSharesOf, AreUnused}

-- the line of a share, where there is one
abbrev share_line : TableId → Option (Option CallerLog) → TableId
share_line line (Some (Some m)) = m.line
share_line line _ = line

pub pump_line : {L : Type 0} (line : TableId) (shares : Shares L) → AreUnused line shares → shares.pump.line ≡ line
pump_line line shares are = ap (λ (share : CallerLog). share.line) are.pump

pub unused_shares : {L : Type 0} (line : TableId) (shares : Shares L) → AreUnused line shares → AreSharesOf shares.pump.line shares.ports.items
unused_shares line shares are p m is =
    let below : p < 64 = subst (λ (n : ℕ). p < n) are.many (slice_get_within shares.ports.items p (Some m) is) in
    ap (share_line line) (sym is ∙ are.ports p below) ∙ sym (pump_line line shares are)

-- one that is there
pub port_line : (line : TableId) (ports : List (Option CallerLog)) (p : ℕ) (m : CallerLog) → slice_get ports p ≡ Some (Some m) → AreSharesOf line ports → m.line ≡ line
port_line line ports p m is are = are p m is

abbrev is_there : Option (Option CallerLog) → Bool
is_there (Some (Some m)) = true
is_there _ = false

none_some : (m : CallerLog) → Some None ≡ Some (Some m) → ⊥
none_some m is = false≢true (ap is_there is)

-- one that is handed out is gone, and the others stay
left_still : (ports : List (Option CallerLog)) (k p : ℕ) (m : CallerLog) → slice_get (slice_set ports k None) p ≡ Some (Some m) → slice_get ports p ≡ Some (Some m)
left_still [] k p m is = is
left_still (x ∷ ports) zero zero m is = absurd (none_some m is)
left_still (x ∷ ports) zero (suc p) m is = is
left_still (x ∷ ports) (suc k) zero m is = is
left_still (x ∷ ports) (suc k) (suc p) m is = left_still ports k p m is

pub shares_still : (line : TableId) (old new : List (Option CallerLog)) (k : ℕ) → new ≡ slice_set old k None → AreSharesOf line old → AreSharesOf line new
shares_still line old new k handed_out are p m is = are p m (left_still old k p m (sym (ap (λ (ports : List (Option CallerLog)). slice_get ports p) handed_out) ∙ is))
