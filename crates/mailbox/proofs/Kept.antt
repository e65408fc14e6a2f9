-- The words of a host are words that their registers keep.
use Rattle.std.proofs.Common.{arith, ◌≡◌, ℕ, zero, suc, ◌+◌, ◌*◌, ◌/◌, ◌%◌, ◌^◌, ◌<◌, ◌≤◌, Bool, true, false, cond, ◌||◌, Option, Some, None, List, length, get_or, refl, ap, ◌∙◌, eqb, eqb-true, ltb, bit_and, bit_or}
use Rattle.std.specs.List.{list_all, range_with_len}
use Rattle.std.proofs.Math.Nat.{pow-le-pow_right}
use Rattle.std.proofs.lemmas.Bool.{and_parts}
use Rattle.std.proofs.lemmas.Nat.{and_mask, and_block}
use Rattle.mailbox.specs.declared.slot.Slot.{Slot}
use Rattle.mailbox.specs.declared.slot.Guest.{Guest}
use Rattle.mailbox.specs.declared.slot.Slot.TheVariants.{Absent, Admitted}
use Rattle.mailbox.specs.Address.{low_part}
use Rattle.mailbox.specs.Policy.{port_of}
use Rattle.mailbox.specs.Slot.{guest_of, has_port}
use Rattle.mailbox.specs.State.{HostState}
use Rattle.mailbox.specs.Words.{mask_from, entry, low_word, valid, high_word, pool_word, id_word, member_word, joined_at, is_all, flags_with, flags_word, inserted, port_word, control_word}
use Rattle.mailbox.proofs.Masks.{mask_below}

-- ---- masks

-- all 32 bits
pub kept_whole : (x : ℕ) → x < 2 ^ 32 → bit_and x 0xFFFFFFFF ≡ x
kept_whole x small = let same : x % 2 ^ 32 ≡ x = omega (arith, small) in and_mask x 32 ∙ same

-- bit 31 and bits 15:0
half_kept : (r : ℕ) → r < 2 ^ 16 → bit_and (2 ^ 31 + r) 0x8000FFFF ≡ 2 ^ 31 + r
half_kept r small =
    let same : r % 2 ^ 16 ≡ r = omega (arith, small) in
    and_block 16 32768 32768 r 65535 small (omega arith) ∙ ap (λ v. 2 ^ 31 + v) (and_mask r 16 ∙ same)

-- bit 31 and bits 11:0
id_kept : (r : ℕ) → r < 4096 → bit_and (2 ^ 31 + r) 0x80000FFF ≡ 2 ^ 31 + r
id_kept r small =
    let same : r % 2 ^ 12 ≡ r = omega (arith, small) in
    and_block 12 524288 524288 r 4095 small (omega arith) ∙ ap (λ v. 2 ^ 31 + v) (and_mask r 12 ∙ same)

-- bits 31:30 and 15:0
tag_kept : (r : ℕ) → r < 2 ^ 16 → bit_and (2 ^ 30 + r) 0xC000FFFF ≡ 2 ^ 30 + r
tag_kept r small =
    let same : r % 2 ^ 16 ≡ r = omega (arith, small) in
    and_block 16 16384 49152 r 65535 small (omega arith) ∙ ap (λ v. 2 ^ 30 + v) (and_mask r 16 ∙ same)

-- ---- addresses

low_below : (a : Option ℕ) → low_part a < 2 ^ 32
low_below None = omega arith
low_below (Some a) = omega arith

pub low_kept : (a : Option ℕ) → bit_and (low_part a) 0xFFFFFFFF ≡ low_part a
low_kept a = kept_whole (low_part a) (low_below a)

pub kept_low : (h : HostState) (e : ℕ) → bit_and (low_word h e) 0xFFFFFFFF ≡ low_word h e
kept_low h e = low_kept (entry h e)

pub valid_kept : (a : Option ℕ) → bit_and (valid a) 0x8000FFFF ≡ valid a
valid_kept None = refl
valid_kept (Some a) = half_kept (a / 2 ^ 32 % 2 ^ 16) (omega arith)

pub kept_high : (h : HostState) (e : ℕ) → bit_and (high_word h e) 0x8000FFFF ≡ high_word h e
kept_high h e = valid_kept (entry h e)

power_below : (i : ℕ) → i < 32 → 2 ^ i < 2 ^ 32
power_below i small =
    let most : 2 ^ i ≤ 2 ^ 31 = pow-le-pow_right {n = 2} (omega arith) {i = i} {j = 31} (omega arith) in
    omega (arith, most)

pub kept_pools : (i : ℕ) → bit_and (pool_word i) 0xFFFFFFFF ≡ pool_word i
kept_pools i = go (eqb (i / 2 % 64 / 32) (i % 2))
  where
    go : (b : Bool) → bit_and (cond b (2 ^ (i / 2 % 64 % 32)) 0) 0xFFFFFFFF ≡ cond b (2 ^ (i / 2 % 64 % 32)) 0
    go true = kept_whole (2 ^ (i / 2 % 64 % 32)) (power_below (i / 2 % 64 % 32) (omega arith))
    go false = refl

-- ---- VLANs

pub kept_mask : (t : ℕ → Bool) (first : ℕ) → bit_and (mask_from t first 32) 0xFFFFFFFF ≡ mask_from t first 32
kept_mask t first = kept_whole (mask_from t first 32) (mask_below t first 32)

pub kept_members : (h : HostState) (i : ℕ) → bit_and (member_word h i) 0xFFFFFFFF ≡ member_word h i
kept_members h i = go (ltb i (2 * length h.ids))
  where
    go : (b : Bool) → bit_and (cond b (mask_from (joined_at h (i / 2)) (32 * (i % 2)) 32) 0) 0xFFFFFFFF ≡ cond b (mask_from (joined_at h (i / 2)) (32 * (i % 2)) 32) 0
    go true = kept_mask (joined_at h (i / 2)) (32 * (i % 2))
    go false = refl

pub kept_id : (h : HostState) (k : ℕ) → bit_and (id_word h k) 0x80000FFF ≡ id_word h k
kept_id h k = go (ltb k (length h.ids))
  where
    go : (b : Bool) → bit_and (cond b (2 ^ 31 + get_or h.ids k 0 % 4096) 0) 0x80000FFF ≡ cond b (2 ^ 31 + get_or h.ids k 0 % 4096) 0
    go true = id_kept (get_or h.ids k 0 % 4096) (omega arith)
    go false = refl

-- ---- pools

pub kept_flags : (s : Slot) → bit_and (flags_word s) 0x1B000000 ≡ flags_word s
kept_flags s = go (has_port s) (guest_of s)
  where
    bits : (b c d : Bool) → bit_and (2 ^ 27 + cond b 0 (2 ^ 24) + cond (c || d) (2 ^ 28) 0) 0x1B000000 ≡ 2 ^ 27 + cond b 0 (2 ^ 24) + cond (c || d) (2 ^ 28) 0
    bits true true d = refl
    bits true false true = refl
    bits true false false = refl
    bits false true d = refl
    bits false false true = refl
    bits false false false = refl

    go : (port : Bool) (guest : Option Guest) → bit_and (flags_with port guest) 0x1B000000 ≡ flags_with port guest
    go port None = refl
    go port (Some g) = bits port g.groups (is_all g.multicast)

inserted_kept : (a : Option ℕ) → bit_and (inserted a) 0xC000FFFF ≡ inserted a
inserted_kept None = refl
inserted_kept (Some id) = tag_kept (id % 4096) (omega arith)

pub kept_port : (ids : List ℕ) (s : Slot) → bit_and (port_word ids s) 0xC000FFFF ≡ port_word ids s
kept_port ids Absent = refl
kept_port ids (Admitted policy None) = refl
kept_port ids (Admitted policy (Some g)) = inserted_kept (port_of ids policy.vlans)

-- a test of all numbers of a range
all_at : (t : ℕ → Bool) (a n i : ℕ) → list_all t (range_with_len a n) ≡ true → i < n → t (a + i) ≡ true
all_at t a zero i all below = absurd (omega (arith, below))
all_at t a (suc n) zero all below =
    let here : a + 0 ≡ a = omega arith in
    ap t here ∙ (and_parts (t a) (list_all t (range_with_len (a + 1) n)) all).0
all_at t a (suc n) (suc i) all below =
    let there : a + suc i ≡ a + 1 + i = omega arith in
    ap t there ∙ all_at t (a + 1) n i (and_parts (t a) (list_all t (range_with_len (a + 1) n)) all).1 (omega (arith, below))

control_same : ℕ → Bool
control_same pool = eqb (bit_or (bit_and (0x40000001 + pool * 2 ^ 7) 0x20001F80) 0x40000001) (0x40000001 + pool * 2 ^ 7)

all_same : list_all control_same (range_with_len 0 64) ≡ true
unfolding control_same
all_same = refl

control_kept : (n : ℕ) → n < 64 → bit_or (bit_and (0x40000001 + n * 2 ^ 7) 0x20001F80) 0x40000001 ≡ 0x40000001 + n * 2 ^ 7
unfolding control_same
control_kept n below =
    let place : n ≡ 0 + n = omega arith in
    eqb-true (bit_or (bit_and (0x40000001 + n * 2 ^ 7) 0x20001F80) 0x40000001) (0x40000001 + n * 2 ^ 7) (ap control_same place ∙ all_at control_same 0 64 n all_same below)

pub kept_control : (pool : Option ℕ) → bit_or (bit_and (control_word pool) 0x20001F80) 0x40000001 ≡ control_word pool
kept_control None = refl
kept_control (Some pool) = control_kept (pool % 64) (omega arith)
