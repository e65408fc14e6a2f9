-- One more of the shares that were not handed out.
use Rattle.std.proofs.Common.{◌≡◌, List, [], ◌∷◌, ◌++◌, Option, Some, None, refl, ap, ◌∙◌, sym, append_assoc}
use Rattle.std.proofs.lemmas.List.{append-nil}
use Rattle.recorder.specs.Held.{CallerLog, left_of}

left_more : (ports more : List (Option CallerLog)) → left_of (ports ++ more) ≡ left_of ports ++ left_of more
left_more [] more = refl
left_more (None ∷ ports) more = left_more ports more
left_more (Some m ∷ ports) more = ap (λ ms. m ∷ ms) (left_more ports more)

left_some : (ports : List (Option CallerLog)) (port : Option CallerLog) (m : CallerLog) → port ≡ Some m → left_of (ports ++ port ∷ []) ≡ left_of ports ++ m ∷ []
left_some ports port m is = left_more ports (port ∷ []) ∙ ap (λ p. left_of ports ++ left_of (p ∷ [])) is

pub left_none : (ports : List (Option CallerLog)) (port : Option CallerLog) → port ≡ None → left_of (ports ++ port ∷ []) ≡ left_of ports
left_none ports port is = left_more ports (port ∷ []) ∙ ap (λ p. left_of ports ++ left_of (p ∷ [])) is ∙ append-nil (left_of ports)

pub one_more_left : (others : List CallerLog) (ports : List (Option CallerLog)) (port : Option CallerLog) (m : CallerLog) (before after : List CallerLog) → port ≡ Some m
    → before ≡ others ++ left_of ports → after ≡ before ++ m ∷ [] → after ≡ others ++ left_of (ports ++ port ∷ [])
one_more_left others ports port m before after is so_far more =
    more ∙ ap (λ xs. xs ++ m ∷ []) so_far ∙ append_assoc others (left_of ports) (m ∷ []) ∙ ap (λ xs. others ++ xs) (sym (left_some ports port m is))
