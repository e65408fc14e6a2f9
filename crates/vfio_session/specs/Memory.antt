-- Guest addresses get memory, and lose it.
use Rattle.std.specs.Prelude.{ℕ, ◌+◌, ◌^◌, ◌==◌, ◌&&◌, nat_le, nat_lt, not, Bool, if◌then◌else◌}
use Rattle.vfio_user.specs.declared.errno.Errno.TheVariants.{Invalid}
use Rattle.vfio_user.specs.declared.header.Header.{Header}
use Rattle.vfio_user.specs.declared.request.Mapping.{Mapping}
use Rattle.vfio_user.specs.declared.request.Range.{Range}
use Rattle.vfio_user.specs.declared.reply.Reply.TheVariants.{Done}
use Rattle.vfio_session.specs.declared.decision.Ask.TheVariants.{Map, Unmap}
use Rattle.vfio_session.specs.declared.decision.Fate.TheVariants.{Closed, Memory}
use Rattle.vfio_session.specs.declared.owed.Form.TheVariants.{Plain, Unmapped}
use Rattle.vfio_session.specs.Sessions.{SessionState, Received, answered, refused, asked}

-- there is at least one number from the first on, and the last one is below 2^64
abbrev pub is_span : ℕ → ℕ → Bool
is_span first size = nat_lt 0 size && nat_le (first + size) (2 ^ 64)

-- so it is of the addresses, and of the bytes of the file
abbrev pub can_be : Mapping → Bool
can_be m = is_span m.range.address m.range.size && is_span m.offset m.range.size

-- one file is the memory. Without a file there is none that this server reaches, and the addresses stay as they are
abbrev pub mapped : SessionState → Header → Mapping → ℕ → Received
mapped s h m files =
    if files == 1 then asked s h Plain (Map m) Memory
    else (if (files == 0) && not m.needs_file then answered s h Done
    else refused s h Invalid)

-- VFIO_USER_DMA_MAP
unfoldable pub map : SessionState → Header → Mapping → ℕ → Received
map s h m files = if can_be m then mapped s h m files else refused s h Invalid

-- VFIO_USER_DMA_UNMAP
unfoldable pub unmap : SessionState → Header → Range → Received
unmap s h r = if is_span r.address r.size then asked s h (Unmapped r) (Unmap r) Closed else refused s h Invalid
