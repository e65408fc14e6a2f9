-- An Ethernet frame without FCS: destination, source and the rest.
use Rattle.std.specs.Prelude.{ℕ, ◌+◌, ◌*◌, ◌/◌, ◌%◌, ◌≤◌, ◌++◌, List, [], ◌∷◌, length, take, drop, slice_index, slice_range, Option, Some, None, Bool, ◌==◌, ◌&&◌, ◌||◌, not, nat_le, if◌then◌else◌, IsTrue}

abbrev pub destination : List ℕ → List ℕ
destination f = take 6 f

abbrev pub source : List ℕ → List ℕ
source f = slice_range f 6 12

-- the bytes after the addresses begin with the type of a VLAN tag, 0x8100
abbrev pub is_tagged : List ℕ → Bool
is_tagged f = nat_le 14 (length f) && (slice_index f 12 == 0x81 && slice_index f 13 == 0)

-- the bytes are a frame no longer than the limit; a tagged one has room for its tag and the type that follows
abbrev pub is_frame : ℕ → List ℕ → Bool
is_frame limit f = nat_le 14 (length f) && (nat_le (length f) limit && (not (is_tagged f) || nat_le 18 (length f)))

-- the same as a fact, at the longest limit
pub record IsFrame (f : List ℕ) : Type 0 where
  pub least : 14 ≤ length f
  pub most : length f ≤ 9018
  pub tagged : IsTrue (is_tagged f) → 18 ≤ length f

-- the tag control information: bytes 14 and 15, the highest first
abbrev pub tag_control : List ℕ → ℕ
tag_control f = slice_index f 14 * 256 + slice_index f 15

-- the VLAN id: the low 12 bits of the tag control
abbrev pub vlan_id : List ℕ → ℕ
vlan_id f = tag_control f % 4096

-- the tag control, where the frame is tagged
abbrev pub tag_of : List ℕ → Option ℕ
tag_of f = if is_tagged f then Some (tag_control f) else None

-- the frame without its tag
abbrev pub untagged : List ℕ → List ℕ
untagged f = take 12 f ++ drop 16 f

-- the bytes of a tag: its type, then its control, the highest byte first
abbrev pub tag_bytes : ℕ → List ℕ
tag_bytes tag = 0x81 ∷ 0 ∷ tag / 256 ∷ tag % 256 ∷ []

-- the frame with a tag after its addresses
abbrev pub with_tag : ℕ → List ℕ → List ℕ
with_tag tag f = take 12 f ++ (tag_bytes tag ++ drop 12 f)

-- the bytes have both addresses, and are a frame no longer than the limit once the tag stands after them
abbrev pub is_frame_tagged : ℕ → ℕ → List ℕ → Bool
is_frame_tagged limit tag f = nat_le 12 (length f) && is_frame limit (with_tag tag f)
