-- Three writes, each from where the one before it ended, leave what they wrote.
use Rattle.std.proofs.Common.{◌≡◌, ℕ, ◌+◌, ◌-◌, ◌≤◌, ◌++◌, List, take, drop, length, arith, sym, ap, ◌∙◌, append_assoc, length-drop}
use Rattle.std.proofs.lemmas.List.{take_all, length-take-le}
use Rattle.wire_frame.proofs.frame.lay_tagged.Goals as goal

laid : (x y z b g r : List ℕ)
    → 12 ≤ length b → length g ≡ 4 → r ≡ drop 12 b
    → take (0 + length (take 12 b)) x ≡ take 12 b
    → take (12 + length g) y ≡ take 12 x ++ g
    → take (16 + length r) z ≡ take 16 y ++ r
    → length z ≤ 16 + length r
    → z ≡ take 12 b ++ (g ++ drop 12 b)
laid x y z b g r least four rest first second third short =
    let twelve : 0 + length (take 12 b) ≡ 12 = omega (arith, length-take-le 12 b least) in
    let sixteen : 12 + length g ≡ 16 = omega arith in
    sym (take_all (16 + length r) z short)
    ∙ third
    ∙ ap (λ (l : List ℕ). l ++ r) ((rw sixteen at second) ∙ ap (λ (l : List ℕ). l ++ g) (rw twelve at first))
    ∙ ap (λ (l : List ℕ). (take 12 b ++ g) ++ l) rest
    ∙ append_assoc (take 12 b) g (drop 12 b)

pub returns : goal.returns
returns c =
    let bytes = c.args.bytes.now in
    let all : take (length bytes - 12) (drop 12 bytes) ≡ drop 12 bytes = take_all _ _ (omega (arith, length-drop 12 bytes)) in
    let count : length (take (length bytes - 12) (drop 12 bytes)) ≡ length bytes - 12 = ap length all ∙ length-drop 12 bytes in
    let head : length (take 12 bytes) ≡ 12 = length-take-le 12 bytes c.requires.least in
    let four : length c.tag_bytes.result ≡ 4 = ap length c.tag_bytes.ensures in
    laid _ _ _ _ _ _ c.requires.least four all c.overlay.ensures.front c.overlay-2.ensures.front c.overlay-3.ensures.front
    (omega (arith, c.overlay-3.ensures.len, c.overlay-2.ensures.len, c.overlay.ensures.len, c.truncate.ensures.len, count, head, four))
    ∙ ap (λ (g : List ℕ). take 12 bytes ++ (g ++ drop 12 bytes)) c.tag_bytes.ensures
