-- Bytes that are read hide what stood in their place.
use Rattle.std.proofs.Common.{◌≡◌, ℕ, true, List, None, length, replicate, refl, sym, ap, true≢false}
use Rattle.std.proofs.lemmas.List.{length-replicate}
use Rattle.vf_unit.specs.Unit.{Function, Closed, Open, has_range, bytes_at}
use Rattle.device.specs.declared.event.Event.TheVariants.{MemRead}
use Rattle.device.specs.declared.event.Reply.TheVariants.{Bytes}
use Rattle.device.specs.Act.{refusal, act}

read_over : (f : Function) (at : ℕ) (a b : List ℕ) → has_range f at (length a) ≡ true → length b ≡ length a → bytes_at f at a ≡ bytes_at f at b
unfolding bytes_at
read_over (Closed size) at a b within same = absurd (true≢false (sym within))
read_over (Open s) at a b within same = rw (same, within) refl

-- a read that is not refused replies what now stands in the place of bytes that were handed in
pub read_over_any : (f : Function) (p at : ℕ) (a : List ℕ) → refusal f (MemRead p at (length a)) ≡ None → has_range f at (length a) ≡ true
    → (act f (MemRead p at (length a))).reply ≡ Bytes (bytes_at f at a)
unfolding act
read_over_any f p at a done within = rw done (ap Bytes (sym (read_over f at a (replicate (length a) 0) within (length-replicate (length a) 0))))

pub read_over_zeros : (f : Function) (at : ℕ) (a : List ℕ) → has_range f at (length a) ≡ true → bytes_at f at a ≡ bytes_at f at (replicate (length a) 0)
read_over_zeros f at a within = read_over f at a (replicate (length a) 0) within (length-replicate (length a) 0)
