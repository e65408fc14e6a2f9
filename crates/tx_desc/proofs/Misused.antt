-- Why the descriptor that was read cannot be used.
use Rattle.std.proofs.Common.{◌≡◌, ℕ, ◌+◌, ◌^◌, ◌<◌, ◌≤◌, Bool, true, false, not, ◌&&◌, List, length, Option, Some, None, refl, sym, ap, ◌∙◌}
use Rattle.rings.specs.Ring.{RingState, head_slot}
use Rattle.offload.specs.declared.offloads.Offloads.{Offloads}
use Rattle.offload.specs.Offloads.{no_offloads}
use Rattle.tx_desc.specs.declared.descriptor.TxDescriptor.{TxDescriptor}
use Rattle.tx_desc.specs.declared.outcome.Misuse.{Misuse}
use Rattle.tx_desc.specs.Transmit.{descriptor_at}
use Rattle.tx_desc.specs.Fetches.{Holds}
use Rattle.tx_desc.specs.Offloaded.{is_plain}
use Rattle.tx_desc.specs.Misuses.{misuse_of, misuse_there}
use Rattle.tx_desc.proofs.Taking.{descriptor_there}

-- a descriptor that stands in the memory that was met
pub misused_there : (o : Offloads) (found m : List ℕ) (at n : ℕ) (d : TxDescriptor) (why : Option Misuse) → found ≡ m → d.at ≡ at → Holds m d → d.buffer < 2 ^ 64 → d.word < 2 ^ 64 → d.at + 16 ≤ length m → length m ≡ n → why ≡ misuse_of o n d → why ≡ misuse_of o (length found) (descriptor_at at found)
misused_there o found m at n d why same place holds low high fits len is =
    let there : descriptor_at at m ≡ d = ap (λ (p : ℕ). descriptor_at p m) (sym place) ∙ descriptor_there d.at d.buffer d.word m low high fits holds in
    is
    ∙ sym
    (ap (λ (l : List ℕ). misuse_of o (length l) (descriptor_at at l)) same
    ∙ ap (misuse_of o (length m)) there
    ∙ ap (λ (k : ℕ). misuse_of o k d) len)

-- and at the head of the ring
pub misused_head : (o : Offloads) (found m : List ℕ) (ring : RingState) (at n : ℕ) (d : TxDescriptor) (why : Option Misuse) → Some at ≡ head_slot ring → found ≡ m → d.at ≡ at → Holds m d → d.buffer < 2 ^ 64 → d.word < 2 ^ 64 → d.at + 16 ≤ length m → length m ≡ n → why ≡ misuse_of o n d → why ≡ misuse_there o found (head_slot ring)
misused_head o found m ring at n d why slot same place holds low high fits len is =
    misused_there o found m at n d why same place holds low high fits len is ∙ ap (misuse_there o found) slot

pub no_tag : (a b c : Bool) → (not a && (not b && not c)) ≡ true → a ≡ false
no_tag false b c is = refl
no_tag true b c is = sym is

pub no_cut : (a b c : Bool) → (not a && (not b && not c)) ≡ true → c ≡ false
no_cut a b false is = refl
no_cut false false true is = sym is
no_cut false true true is = sym is
no_cut true b true is = sym is

-- a card that does nothing for its driver has the reasons of one without offloads
pub misused_plainly : (o : Offloads) (m : List ℕ) (slot : Option ℕ) → is_plain o ≡ true → misuse_there no_offloads m slot ≡ misuse_there o m slot
unfolding misuse_of
misused_plainly o m None plain = refl
misused_plainly o m (Some address) plain = rw (no_tag o.vlan o.checksum o.segmentation plain) (rw (no_cut o.vlan o.checksum o.segmentation plain) refl)
