-- The header and the two parts are laid one behind the other.
use Rattle.std.proofs.Common.{◌≡◌, ℕ, ◌+◌, ◌++◌, drop, length, refl, sym, ap, ◌∙◌, arith, append_assoc, length-append}
use Rattle.vfio_user.specs.Replies.{head_bytes}
use Rattle.vfio_user.proofs.Laid.{laid_on}
use Rattle.vfio_user.proofs.reply.put.Goals as goal

pub returns-clause-bytes : goal.returns-clause-bytes
unfolding head_bytes
returns-clause-bytes c =
    let r = c.args.room.now in
    let h = c.head_bytes-head.result in
    let f = c.args.first.now in
    let s = c.args.second.now in
    let whole : 16 ≡ length h = sym (ap length c.head_bytes-head.ensures) in
    let begin : 0 + length h ≡ 16 = omega (arith, whole) in
    let one : c.lay.new.room ≡ h ++ drop 16 r = c.lay.ensures ∙ ap (λ (n : ℕ). h ++ drop n r) begin in
    let two : c.lay-2.new.room ≡ (h ++ f) ++ drop (16 + length f) r = c.lay-2.ensures ∙ laid_on r h f c.lay.new.room 16 (16 + length f) whole refl (omega (arith, c.requires.few, c.requires.room)) one in
    c.lay-3.ensures
    ∙ laid_on r (h ++ f) s c.lay-2.new.room (16 + length f) (16 + length f + length s) (ap (λ (n : ℕ). n + length f) whole ∙ sym (length-append h f)) refl (omega (arith, c.requires.few, c.requires.room)) two
    ∙ (λ i. (append_assoc h f s ∙ ap (λ head. head ++ (f ++ s)) c.head_bytes-head.ensures) i ++ drop (16 + length f + length s) r)
