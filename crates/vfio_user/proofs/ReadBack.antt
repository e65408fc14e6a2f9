-- What is spelled is read.
use Rattle.std.proofs.Common.{nat_lt, le-ltb, eq-eqb, ◌≡◌, ℕ, ◌+◌, ◌/◌, ◌%◌, ◌≤◌, ◌<◌, ◌^◌, Bool, true, false, List, ◌++◌, length, Ok, refl, arith}
use Rattle.std.proofs.lemmas.Bool.{le-leb}
use Rattle.byteorder.specs.Endian.{little_bytes, little_number}
use Rattle.byteorder.specs.Numbers.{little_number-reads_back}
use Rattle.vfio_user.specs.declared.header.Header.{Header}
use Rattle.vfio_user.specs.declared.request.Access.TheVariants.{ReadOnly, WriteOnly, ReadWrite}
use Rattle.vfio_user.specs.declared.request.Carried.TheVariants.{Nothing, Eventfds}
use Rattle.vfio_user.specs.declared.request.Action.TheVariants.{Mask, Unmask, Trigger}
use Rattle.vfio_user.specs.declared.request.Access.{Access}
use Rattle.vfio_user.specs.declared.request.Carried.{Carried}
use Rattle.vfio_user.specs.declared.request.Action.{Action}
use Rattle.vfio_user.specs.declared.request.Request.TheVariants.{Version, Map, Unmap, Info, RegionInfo, IrqInfo, SetIrqs, Read, Write, Reset}
use Rattle.vfio_user.specs.Header.{header_of}
use Rattle.vfio_user.specs.Requests.{Request, has_fields, request_of, version_of, access_of, needs_file_of, map_of, unmap_of, info_of, region_info_of, irq_info_of, carried_of, action_of, set_irqs_of, region_of, read_of, write_of}
use Rattle.vfio_user.specs.Spelled.{spelled_header, HeaderFits, command_of, spelled, IsSpelled, access_bits, mode_bit, carried_bit, action_bit}

pub two : (x : ℕ) (rest : List ℕ) → x < 2 ^ 16 → little_number 2 (little_bytes 2 x ++ rest) ≡ x
two x rest fits = little_number-reads_back 2 x rest fits

pub four : (x : ℕ) (rest : List ℕ) → x < 2 ^ 32 → little_number 4 (little_bytes 4 x ++ rest) ≡ x
four x rest fits = little_number-reads_back 4 x rest fits

eight : (x : ℕ) (rest : List ℕ) → x < 2 ^ 64 → little_number 8 (little_bytes 8 x ++ rest) ≡ x
eight x rest fits = little_number-reads_back 8 x rest fits

-- so many bytes are there
long : (n : ℕ) (b : List ℕ) → n ≤ length b → nat_lt (length b) n ≡ false
long n b enough = le-ltb (length b) n enough

-- all fields are there, and argsz says so
fielded : (n argsz : ℕ) (rest : List ℕ) → argsz < 2 ^ 32 → n ≤ argsz → n ≤ length (little_bytes 4 argsz ++ rest) → has_fields n (little_bytes 4 argsz ++ rest) ≡ true
fielded n argsz rest fits enough there =
    rw (four argsz rest fits, le-leb n (length (little_bytes 4 argsz ++ rest)) there, le-leb n argsz enough) refl

-- ---- flags are read as what was spelled

access_back : (a : Access) (file : Bool) → access_of ((access_bits a + mode_bit file) % 4) ≡ Ok a
unfolding access_of
access_back ReadOnly true = refl
access_back ReadOnly false = refl
access_back WriteOnly true = refl
access_back WriteOnly false = refl
access_back ReadWrite true = refl
access_back ReadWrite false = refl

mode_back : (a : Access) (file : Bool) → needs_file_of ((access_bits a + mode_bit file) / 4) ≡ Ok file
unfolding needs_file_of
mode_back ReadOnly true = refl
mode_back ReadOnly false = refl
mode_back WriteOnly true = refl
mode_back WriteOnly false = refl
mode_back ReadWrite true = refl
mode_back ReadWrite false = refl

map_flags_fit : (a : Access) (file : Bool) → access_bits a + mode_bit file < 2 ^ 32
map_flags_fit ReadOnly true = omega arith
map_flags_fit ReadOnly false = omega arith
map_flags_fit WriteOnly true = omega arith
map_flags_fit WriteOnly false = omega arith
map_flags_fit ReadWrite true = omega arith
map_flags_fit ReadWrite false = omega arith

carried_back : (c : Carried) (a : Action) → carried_of ((carried_bit c + action_bit a) % 8) ≡ Ok c
unfolding carried_of
carried_back Nothing Mask = refl
carried_back Nothing Unmask = refl
carried_back Nothing Trigger = refl
carried_back Eventfds Mask = refl
carried_back Eventfds Unmask = refl
carried_back Eventfds Trigger = refl

action_back : (c : Carried) (a : Action) → action_of ((carried_bit c + action_bit a) / 8) ≡ Ok a
unfolding action_of
action_back Nothing Mask = refl
action_back Nothing Unmask = refl
action_back Nothing Trigger = refl
action_back Eventfds Mask = refl
action_back Eventfds Unmask = refl
action_back Eventfds Trigger = refl

irq_flags_fit : (c : Carried) (a : Action) → carried_bit c + action_bit a < 2 ^ 32
irq_flags_fit Nothing Mask = omega arith
irq_flags_fit Nothing Unmask = omega arith
irq_flags_fit Nothing Trigger = omega arith
irq_flags_fit Eventfds Mask = omega arith
irq_flags_fit Eventfds Unmask = omega arith
irq_flags_fit Eventfds Trigger = omega arith

-- ---- the header

header_back : (id command size error : ℕ) (more : List ℕ) (reply : Bool) → id < 2 ^ 16 → command < 2 ^ 16 → 16 ≤ size → size ≤ 4128 → header_of (spelled_header (record { id = id; command = command; size = size; wants_reply = reply }) error more) ≡ Ok (record { id = id; command = command; size = size; wants_reply = reply })
unfolding header_of
header_back id command size error more true id_fits command_fits least most =
    let flagged : List ℕ = little_bytes 4 0 ++ (little_bytes 4 error ++ more) in
    let sized : List ℕ = little_bytes 4 size ++ flagged in
    rw (long 16 (little_bytes 2 id ++ (little_bytes 2 command ++ sized)) (omega arith), four size flagged (omega (arith, most)), le-ltb size 16 least, le-ltb 4128 size most)
    (λ i. Ok (record { id = two id (little_bytes 2 command ++ sized) id_fits i; command = two command sized command_fits i; size = size; wants_reply = true }))
header_back id command size error more false id_fits command_fits least most =
    let flagged : List ℕ = little_bytes 4 16 ++ (little_bytes 4 error ++ more) in
    let sized : List ℕ = little_bytes 4 size ++ flagged in
    rw (long 16 (little_bytes 2 id ++ (little_bytes 2 command ++ sized)) (omega arith), four size flagged (omega (arith, most)), le-ltb size 16 least, le-ltb 4128 size most)
    (λ i. Ok (record { id = two id (little_bytes 2 command ++ sized) id_fits i; command = two command sized command_fits i; size = size; wants_reply = false }))

pub header_read_back : (h : Header) (error : ℕ) (more : List ℕ) → HeaderFits h → header_of (spelled_header h error more) ≡ Ok h
header_read_back h error more fits = header_back h.id h.command h.size error more h.wants_reply fits.id fits.command fits.size fits.most

-- ---- requests

pub read_back : (r : Request) (more : List ℕ) → IsSpelled r → request_of (command_of r) (spelled r more) ≡ Ok r
unfolding request_of version_of map_of unmap_of info_of region_info_of irq_info_of set_irqs_of region_of read_of write_of
read_back (Version major minor) more fits =
    rw (long 4 (spelled (Version major minor) more) (omega arith))
    (λ i. Ok (Version (two major (little_bytes 2 minor ++ more) fits.0 i) (two minor more fits.1 i)))
read_back (Map m) more fits =
    let sized : List ℕ = little_bytes 8 m.range.size ++ more in
    let addressed : List ℕ = little_bytes 8 m.range.address ++ sized in
    let placed : List ℕ = little_bytes 8 m.offset ++ addressed in
    let flags : ℕ = access_bits m.access + mode_bit m.needs_file in
    rw (fielded 32 32 (little_bytes 4 flags ++ placed) (omega arith) (omega arith) (omega arith), four flags placed (map_flags_fit m.access m.needs_file), access_back m.access m.needs_file, mode_back m.access m.needs_file)
    (λ i. Ok (Map (record {
      access = m.access;
      needs_file = m.needs_file;
      offset = eight m.offset addressed fits.0 i;
      range = record { address = eight m.range.address sized fits.1.0 i; size = eight m.range.size more fits.1.1 i };
    })))
read_back (Unmap r) more fits =
    let sized : List ℕ = little_bytes 8 r.size ++ more in
    rw (fielded 24 24 (little_bytes 4 0 ++ (little_bytes 8 r.address ++ sized)) (omega arith) (omega arith) (omega arith))
    (λ i. Ok (Unmap (record { address = eight r.address sized fits.0 i; size = eight r.size more fits.1 i })))
read_back Info more fits =
    rw (fielded 16 16 (little_bytes 4 0 ++ (little_bytes 4 0 ++ (little_bytes 4 0 ++ more))) (omega arith) (omega arith) (omega arith)) refl
read_back (RegionInfo q) more fits =
    let rest : List ℕ = little_bytes 4 0 ++ (little_bytes 8 0 ++ (little_bytes 8 0 ++ more)) in
    rw (fielded 32 q.argsz (little_bytes 4 0 ++ (little_bytes 4 q.index ++ rest)) fits.1 fits.0 (omega arith))
    (λ i. Ok (RegionInfo (record {
      argsz = four q.argsz (little_bytes 4 0 ++ (little_bytes 4 q.index ++ rest)) fits.1 i;
      index = four q.index rest fits.2 i;
    })))
read_back (IrqInfo index) more fits =
    rw (fielded 16 16 (little_bytes 4 0 ++ (little_bytes 4 index ++ (little_bytes 4 0 ++ more))) (omega arith) (omega arith) (omega arith))
    (λ i. Ok (IrqInfo (four index (little_bytes 4 0 ++ more) fits i)))
read_back (SetIrqs s) more fits =
    let counted : List ℕ = little_bytes 4 s.count ++ more in
    let started : List ℕ = little_bytes 4 s.start ++ counted in
    let indexed : List ℕ = little_bytes 4 s.index ++ started in
    let flags : ℕ = carried_bit s.carried + action_bit s.action in
    rw (fielded 20 20 (little_bytes 4 flags ++ indexed) (omega arith) (omega arith) (omega arith), four flags indexed (irq_flags_fit s.carried s.action), carried_back s.carried s.action, action_back s.carried s.action)
    (λ i. Ok (SetIrqs (record {
      carried = s.carried;
      action = s.action;
      index = four s.index started fits.0 i;
      start = four s.start counted fits.1 i;
      count = four s.count more fits.2 i;
    })))
read_back (Read r) more fits =
    rw (long 16 (spelled (Read r) more) (omega arith), four r.count more (omega (arith, fits.count)), le-ltb 4096 r.count fits.count)
    (λ i. Ok (Read (record {
      offset = eight r.offset (little_bytes 4 r.index ++ (little_bytes 4 r.count ++ more)) fits.offset i;
      index = four r.index (little_bytes 4 r.count ++ more) fits.index i;
      count = r.count;
    })))
read_back (Write r bytes) more fits =
    rw (long 16 (spelled (Write r bytes) more) (omega arith), four r.count bytes (omega (arith, fits.0.count)), le-ltb 4096 r.count fits.0.count, eq-eqb (length bytes) r.count fits.1)
    (λ i. Ok (Write (record {
      offset = eight r.offset (little_bytes 4 r.index ++ (little_bytes 4 r.count ++ bytes)) fits.0.offset i;
      index = four r.index (little_bytes 4 r.count ++ bytes) fits.0.index i;
      count = r.count;
    }) bytes))
read_back Reset more fits = refl
