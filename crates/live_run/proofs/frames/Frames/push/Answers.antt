-- One frame more, behind the others.
use Rattle.std.proofs.Common.{◌≡◌, ◌<◌, ◌≤◌, ◌+◌, ◌++◌, [], ◌∷◌, ℕ, List, length, arith, subst, sym, ap, ◌∙◌}
use Rattle.std.proofs.lemmas.List.{length-append}
use Rattle.live_run.specs.Frames.{FramesState, with_frame}
use Rattle.live_run.specs.Stored.{IsCut, frames_from}
use Rattle.live_run.proofs.FrameLemmas.{as_many, cut_more, one_more, room_left}
use Rattle.live_run.proofs.frames.Frames.push.Goals as goal

pub push_reserved-requires : goal.push_reserved-requires
push_reserved-requires c =
    let room = room_left c.args.self.now c.requires in
    omega (arith, room.0, as_many 0 c.self.inside.ends.items c.self.inside.bytes.items, ap (λ (r : FramesState). length r.frames) c.self.view_is, ap (λ (r : FramesState). r.most) c.self.view_is, c.self.invariant.2)

-- how many bytes there are then
many : (c : goal.After-push_reserved) → length c.append.new.store.items ≡ length c.self.inside.bytes.items + length c.bytes.result.now
many c = ap length c.append.ensures.items ∙ length-append c.self.inside.bytes.items c.bytes.result.now

pub returns : goal.returns
returns c =
    let ends : c.len.result ≡ length c.self.inside.bytes.items + length c.bytes.result.now = omega (arith, c.len.ensures, many c) in
    let frames : frames_from 0 c.push_reserved.new.self.items c.append.new.store.items ≡ frames_from 0 c.self.inside.ends.items c.self.inside.bytes.items ++ c.args.frame.now ∷ [] =
    (λ i. frames_from 0 (c.push_reserved.ensures.items i) (c.append.ensures.items i))
    ∙ one_more 0 c.self.inside.ends.items c.self.inside.bytes.items c.bytes.result.now c.len.result c.self.invariant.0 ends
    ∙ ap (λ (f : List ℕ). frames_from 0 c.self.inside.ends.items c.self.inside.bytes.items ++ f ∷ []) c.bytes.ensures.value in
    let used = many c ∙ ap (λ (f : List ℕ). length c.self.inside.bytes.items + length f) c.bytes.ensures.value in
    (λ i. record { frames = frames i; used = used i; most = c.self.inside.most; size = c.self.inside.size })
    ∙ ap (λ (r : FramesState). with_frame r c.args.frame.now) c.self.view_is

pub invariant_of-self : goal.invariant_of-self
invariant_of-self c =
    let room = room_left c.args.self.now c.requires in
    let few : length c.self.inside.ends.items < c.self.inside.most =
    omega (arith, room.0, as_many 0 c.self.inside.ends.items c.self.inside.bytes.items, ap (λ (r : FramesState). length r.frames) c.self.view_is, ap (λ (r : FramesState). r.most) c.self.view_is) in
    let space : length c.self.inside.bytes.items + 9018 ≤ c.self.inside.size = omega (arith, room.1, ap (λ (r : FramesState). r.used) c.self.view_is, ap (λ (r : FramesState). r.size) c.self.view_is) in
    let short : length c.bytes.result.now ≤ 9018 = omega (arith, c.bytes.ensures.frame.most, ap length c.bytes.ensures.value) in
    let end : c.len.result ≡ length c.append.new.store.items = omega (arith, c.len.ensures) in
    let above : length c.self.inside.bytes.items ≤ c.len.result = omega (arith, end, many c) in (
      subst (λ (es : List ℕ). IsCut 0 es (length c.append.new.store.items)) (sym c.push_reserved.ensures.items)
          (subst (λ n. IsCut 0 (c.self.inside.ends.items ++ c.len.result ∷ []) n) end (cut_more 0 c.self.inside.ends.items (length c.self.inside.bytes.items) c.len.result c.self.invariant.0 above)),
      omega (arith, few, ap length c.push_reserved.ensures.items, length-append c.self.inside.ends.items (c.len.result ∷ [])),
      omega (arith, c.push_reserved.ensures.capacity, c.self.invariant.2),
      omega (arith, space, short, many c),
      omega (arith, c.append.ensures.capacity, c.self.invariant.4),
    )
