-- What is asked lies inside the function, case by case.
use Rattle.std.proofs.Common.{◌≡◌, ℕ, ◌≤◌, ◌+◌, ◌%◌, Bool, true, false, List, length, drop, Result, Ok, Err, refl, arith, eqb-true}
use Rattle.std.proofs.lemmas.Bool.{and_parts, ltb-true, leb-true}
use Rattle.std.specs.Prelude.{◌==◌, ◌&&◌, ◌||◌, not, nat_lt, nat_le, ◌^◌, if◌then◌else◌}
use Rattle.vfio_user.specs.declared.errno.Errno.{Errno}
use Rattle.vfio_user.specs.declared.errno.Errno.TheVariants.{Invalid}
use Rattle.vfio_user.specs.declared.header.Header.{Header}
use Rattle.vfio_user.specs.declared.header.Broken.{Broken}
use Rattle.vfio_user.specs.declared.request.Region.{Region}
use Rattle.vfio_user.specs.declared.request.Range.{Range}
use Rattle.vfio_user.specs.declared.request.Mapping.{Mapping}
use Rattle.vfio_user.specs.declared.request.Irqs.{Irqs}
use Rattle.vfio_user.specs.declared.request.Action.{Action}
use Rattle.vfio_user.specs.declared.request.Action.TheVariants.{Mask, Unmask, Trigger}
use Rattle.vfio_user.specs.declared.request.Carried.{Carried}
use Rattle.vfio_user.specs.declared.request.Carried.TheVariants.{Nothing, Eventfds}
use Rattle.vfio_user.specs.declared.request.Request.TheVariants.{Version, Map, Unmap, Info, RegionInfo, IrqInfo, SetIrqs, Read, Write, Reset}
use Rattle.vfio_user.specs.Header.{header_of}
use Rattle.vfio_user.specs.Requests.{Request, request_of}
use Rattle.vfio_user.specs.Replies.{Reply}
use Rattle.vfio_session.specs.declared.decision.Breach.{Breach}
use Rattle.vfio_session.specs.declared.decision.VectorRange.{VectorRange}
use Rattle.pci_function.specs.Space.{size_of_bar, resets}
use Rattle.vfio_session.specs.declared.decision.Ask.TheVariants.{Arm, Disarm}
use Rattle.vfio_session.specs.declared.decision.Fate.TheVariants.{Closed, Vectors}
use Rattle.vfio_session.specs.declared.owed.Form.TheVariants.{Plain}
use Rattle.vfio_session.specs.Offered.{size_of_region}
use Rattle.vfio_session.specs.Sessions.{SessionState, Received, answered, refused, asked, ended}
use Rattle.vfio_session.specs.Regions.{is_inside, is_register, read, write}
use Rattle.vfio_session.specs.Vectors.{are_there, set, acted_on, carried, turned_off, given_files, vectors_in, with_vectors}
use Rattle.vfio_session.specs.Memory.{is_span, can_be, map, unmap}
use Rattle.vfio_session.specs.Received.{may_have_files, acted, taken, begun, requested, headed, received}
use Rattle.vfio_session.specs.Inside.{IsRegister, IsSpan, AreVectors, IsFit}

-- ---- what is true of both cases is true of the choice

by_test : (files : ℕ) (b : Bool) (x y : Received) → (b ≡ true → IsFit x files) → (b ≡ false → IsFit y files) → IsFit (if b then x else y) files
by_test files true x y when otherwise = when refl
by_test files false x y when otherwise = otherwise refl

-- ---- where nothing is asked

told : (s : SessionState) (h : Header) (reply : Reply) (files : ℕ) → IsFit (answered s h reply) files
told s h reply files = record { inside = tt; files = refl }

over : (breach : Breach) (files : ℕ) → IsFit (ended breach) files
over breach files = record { inside = tt; files = refl }

-- ---- regions

bar_most : (index : ℕ) → size_of_bar index ≤ 0x4000
bar_most index = by_index ((index == 0) || (index == 3))
  where
    by_index : (b : Bool) → (if b then 0x4000 else 0) ≤ 0x4000
    by_index true = omega arith
    by_index false = omega arith

region_most : (index : ℕ) → size_of_region index ≤ 0x4000
region_most index = by_index (index == 7) (bar_most index)
  where
    by_index : (b : Bool) → size_of_bar index ≤ 0x4000 → (if b then 4096 else size_of_bar index) ≤ 0x4000
    by_index true few = omega arith
    by_index false few = few

is_one : (r : Region) → is_inside r ≡ true → is_register r ≡ true → IsRegister r.offset
is_one r within one =
    let parts = and_parts (r.count == 4) (r.offset % 4 == 0) one in (
      omega (arith, leb-true (r.offset + r.count) (size_of_region r.index) within, region_most r.index, eqb-true r.count 4 parts.0),
      eqb-true (r.offset % 4) 0 parts.1,
    )

read_fit : (s : SessionState) (h : Header) (r : Region) (files : ℕ) → IsFit (read s h r) files
unfolding read
read_fit s h r files =
    by_test files (is_inside r) _ _
    (λ within. by_test files (r.index == 0) _ _
    (λ here. by_test files (is_register r) _ _
    (λ one. record { inside = is_one r within one; files = refl })
    (λ not_one. told s h _ files))
    (λ elsewhere. by_test files (r.index == 7) _ _
    (λ here. told s h _ files)
    (λ other. by_test files (r.index == 3) _ _ (λ here. told s h _ files) (λ none. told s h _ files))))
    (λ outside. told s h _ files)

write_fit : (s : SessionState) (h : Header) (r : Region) (bytes : List ℕ) (files : ℕ) → IsFit (write s h r bytes) files
unfolding write
write_fit s h r bytes files =
    by_test files (is_inside r) _ _
    (λ within. by_test files (r.index == 0) _ _
    (λ here. by_test files (is_register r) _ _
    (λ one. record { inside = is_one r within one; files = refl })
    (λ not_one. told s h _ files))
    (λ elsewhere. by_test files (r.index == 7) _ _
    (λ here. by_test files (resets r.offset bytes) _ _
    (λ reset. record { inside = tt; files = refl })
    (λ kept. told _ h _ files))
    (λ other. by_test files (r.index == 3) _ _ (λ here. told s h _ files) (λ none. told s h _ files))))
    (λ outside. told s h _ files)

-- ---- vectors

there : (v : VectorRange) → are_there v ≡ true → AreVectors v
there v is =
    let parts = and_parts (nat_lt 0 v.count) (nat_le (v.first + v.count) 3) is in
    (ltb-true 0 v.count parts.0, leb-true (v.first + v.count) 3 parts.1)

off_fit : (s : SessionState) (h : Header) (i : Irqs) (files : ℕ) → IsFit (turned_off s h i) files
off_fit s h i files =
    by_test files ((i.start == 0) && (i.count == 0)) _ _
    (λ all. record { inside = (omega arith, omega arith); files = refl })
    (λ some. told s h _ files)

given_fit : (s : SessionState) (h : Header) (v : VectorRange) (files : ℕ) → IsFit (given_files s h v files) files
given_fit s h v files = by_count (are_there v) refl
  where
    by_count : (b : Bool) → are_there v ≡ b → IsFit (if not b then refused s h Invalid else (if files == 0 then asked (with_vectors s v false) h Plain (Disarm v) Closed else (if files == v.count then asked (with_vectors s v true) h Plain (Arm v) (Vectors v.first) else refused s h Invalid))) files
    by_count false is = told s h _ files
    by_count true is =
        by_test files (files == 0) _ _
        (λ none. record { inside = there v is; files = refl })
        (λ some. by_test files (files == v.count) _ _
        (λ as_many. record { inside = (there v is, eqb-true files v.count as_many); files = refl })
        (λ others. told s h _ files))

carried_fit : (s : SessionState) (h : Header) (i : Irqs) (files : ℕ) (c : Carried) → IsFit (carried s h i files c) files
carried_fit s h i files Nothing = off_fit s h i files
carried_fit s h i files Eventfds = given_fit s h (vectors_in i) files

acted_on_fit : (s : SessionState) (h : Header) (i : Irqs) (files : ℕ) (a : Action) → IsFit (acted_on s h i files a) files
acted_on_fit s h i files Mask = told s h _ files
acted_on_fit s h i files Unmask = told s h _ files
acted_on_fit s h i files Trigger = carried_fit s h i files i.carried

set_fit : (s : SessionState) (h : Header) (i : Irqs) (files : ℕ) → IsFit (set s h i files) files
unfolding set
set_fit s h i files = by_test files (i.index == 2) _ _ (λ here. acted_on_fit s h i files i.action) (λ other. told s h _ files)

-- ---- memory

span : (first size : ℕ) → is_span first size ≡ true → IsSpan first size
span first size is =
    let parts = and_parts (nat_lt 0 size) (nat_le (first + size) (2 ^ 64)) is in
    (ltb-true 0 size parts.0, leb-true (first + size) (2 ^ 64) parts.1)

map_fit : (s : SessionState) (h : Header) (m : Mapping) (files : ℕ) → IsFit (map s h m files) files
unfolding map
map_fit s h m files =
    by_test files (can_be m) _ _
    (λ can. by_test files (files == 1) _ _
    (λ one. (let parts = and_parts (is_span m.range.address m.range.size) (is_span m.offset m.range.size) can in record {
      inside = (span m.range.address m.range.size parts.0, span m.offset m.range.size parts.1, eqb-true files 1 one);
      files = refl;
    }))
    (λ others. by_test files ((files == 0) && not m.needs_file) _ _ (λ none. told s h _ files) (λ some. told s h _ files)))
    (λ out. told s h _ files)

unmap_fit : (s : SessionState) (h : Header) (r : Range) (files : ℕ) → IsFit (unmap s h r) files
unfolding unmap
unmap_fit s h r files =
    by_test files (is_span r.address r.size) _ _
    (λ is. record { inside = span r.address r.size is; files = refl })
    (λ out. told s h _ files)

-- ---- all requests

acted_fit : (s : SessionState) (h : Header) (r : Request) (files : ℕ) → IsFit (acted s h r files) files
unfolding acted
acted_fit s h (Version major minor) files = over _ files
acted_fit s h (Map mapping) files = map_fit s h mapping files
acted_fit s h (Unmap range) files = unmap_fit s h range files
acted_fit s h Info files = told s h _ files
acted_fit s h (RegionInfo query) files = by_test files (nat_lt query.index 9) _ _ (λ here. told s h _ files) (λ none. told s h _ files)
acted_fit s h (IrqInfo index) files = by_test files (nat_lt index 5) _ _ (λ here. told s h _ files) (λ none. told s h _ files)
acted_fit s h (SetIrqs irqs) files = set_fit s h irqs files
acted_fit s h (Read region) files = read_fit s h region files
acted_fit s h (Write region bytes) files = write_fit s h region bytes files
acted_fit s h Reset files = record { inside = tt; files = refl }

taken_fit : (s : SessionState) (h : Header) (r : Request) (files : ℕ) → IsFit (taken s h r files) files
taken_fit s h r files = by_test files ((files == 0) || may_have_files r) _ _ (λ may. acted_fit s h r files) (λ stray. told s h _ files)

begun_fit : (s : SessionState) (h : Header) (r : Request) (files : ℕ) → IsFit (begun s h r files) files
unfolding begun
begun_fit s h (Version major minor) files =
    by_test files (not (major == 0)) _ _
    (λ other. over _ files)
    (λ same. by_test files (not (files == 0)) _ _ (λ stray. over _ files) (λ none. told _ h _ files))
begun_fit s h (Map mapping) files = over _ files
begun_fit s h (Unmap range) files = over _ files
begun_fit s h Info files = over _ files
begun_fit s h (RegionInfo query) files = over _ files
begun_fit s h (IrqInfo index) files = over _ files
begun_fit s h (SetIrqs irqs) files = over _ files
begun_fit s h (Read region) files = over _ files
begun_fit s h (Write region bytes) files = over _ files
begun_fit s h Reset files = over _ files

requested_fit : (s : SessionState) (h : Header) (r : Result Request Errno) (files : ℕ) → IsFit (requested s h r files) files
requested_fit s h (Ok r) files = by_test files s.has_version _ _ (λ up. taken_fit s h r files) (λ new. begun_fit s h r files)
requested_fit s h (Err errno) files = by_test files s.has_version _ _ (λ up. told s h _ files) (λ new. over _ files)

headed_fit : (s : SessionState) (message : List ℕ) (h : Result Header Broken) (files : ℕ) → IsFit (headed s message h files) files
headed_fit s message (Ok h) files =
    by_test files (h.size == length message) _ _
    (λ whole. requested_fit s h (request_of h.command (drop 16 message)) files)
    (λ other. over _ files)
headed_fit s message (Err broken) files = over _ files

pub received_fit : (s : SessionState) (message : List ℕ) (files : ℕ) → IsFit (received s message files) files
unfolding received
received_fit s message files = headed_fit s message (header_of message) files
