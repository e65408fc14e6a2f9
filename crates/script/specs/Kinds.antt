-- The kinds of events, by their names in a script.
use Rattle.std.specs.Prelude.{ℕ, List, Option, Some, None, codes, if◌then◌else◌}
use Rattle.std.specs.Str.{bytes_eq}
use Rattle.script.specs.declared.kind.Kind.{Kind}
use Rattle.script.specs.declared.kind.Kind.TheVariants.{Open, End, Flr, VfRead, VfWrite, MemRead, MemWrite, Serve, PfRead, PfWrite, PfReset, Wire}

unfoldable pub kind_of : List ℕ → Option Kind
kind_of name =
    if bytes_eq name (codes "open") then Some Open else
    if bytes_eq name (codes "end") then Some End else
    if bytes_eq name (codes "flr") then Some Flr else
    if bytes_eq name (codes "r") then Some VfRead else
    if bytes_eq name (codes "w") then Some VfWrite else
    if bytes_eq name (codes "mr") then Some MemRead else
    if bytes_eq name (codes "mw") then Some MemWrite else
    if bytes_eq name (codes "serve") then Some Serve else
    if bytes_eq name (codes "pr") then Some PfRead else
    if bytes_eq name (codes "pw") then Some PfWrite else
    if bytes_eq name (codes "preset") then Some PfReset else
    if bytes_eq name (codes "wire") then Some Wire else None
