-- Bytes joined to those gathered.
use Rattle.std.proofs.Common.{◌≡◌, ℕ, ◌+◌, ◌≤◌, Bool, true, false, List, ◌++◌, length, nat_le, if◌then◌else◌, refl, sym, ap, ◌∙◌}
use Rattle.std.proofs.lemmas.Bool.{false≢true, le-leb}
use Rattle.tx_desc.specs.Transmit.{Gathering, Gathered, Overlong, joined}

within : (limit : ℕ) (first more : List ℕ) (fits : Bool) → nat_le (length first + length more) limit ≡ fits → fits ≡ true → joined limit (Gathered first) more ≡ Gathered (first ++ more)
unfolding joined
within limit first more true is _ = rw is refl
within limit first more false is passes = absurd (false≢true passes)

pub joined_by : (limit : ℕ) (overlong : Bool) (first last more : List ℕ) (old : Gathering) → overlong ≡ false → (if overlong then Overlong else Gathered first) ≡ old → last ≡ first ++ more → length first + length more ≤ limit → (if overlong then Overlong else Gathered last) ≡ joined limit old more
joined_by limit true first last more old fine view is fits = absurd (false≢true (sym fine))
joined_by limit false first last more old _ view is fits =
    ap Gathered is ∙ sym (within limit first more true (le-leb (length first + length more) limit fits) refl) ∙ ap (λ (g : Gathering). joined limit g more) view
