-- A frame lies where its end and the one before it say.
use Rattle.std.proofs.Common.{◌≡◌, ◌<◌, ◌≤◌, List, ℕ, [], length, get_or, slice_range, arith, ap, ◌∙◌}
use Rattle.live_run.specs.Frames.{FramesState}
use Rattle.live_run.specs.Stored.{begin_of}
use Rattle.live_run.proofs.FrameLemmas.{as_many, frame_is, lies_inside}
use Rattle.live_run.proofs.frames.Frames.frame.Goals as goal

pub begin_of-start-requires : goal.begin_of-start-requires
begin_of-start-requires c = omega (arith, c.requires, ap length c.deref.ensures.value, as_many 0 c.self.inside.ends.items c.self.inside.bytes.items, ap (λ (r : FramesState). length r.frames) c.self.view_is)

pub index-end-requires : goal.index-end-requires
index-end-requires c = omega (arith, c.requires, c.deref.ensures.len, ap length c.deref.ensures.value, as_many 0 c.self.inside.ends.items c.self.inside.bytes.items, ap (λ (r : FramesState). length r.frames) c.self.view_is)

below : (c : goal.After-deref-2) → c.args.number < length c.self.inside.ends.items
below c = omega (arith, c.requires, as_many 0 c.self.inside.ends.items c.self.inside.bytes.items, ap (λ (r : FramesState). length r.frames) c.self.view_is)

first : (c : goal.After-deref-2) → c.begin_of-start.result ≡ begin_of c.self.inside.ends.items c.args.number
first c = c.begin_of-start.ensures ∙ ap (λ (es : List ℕ). begin_of es c.args.number) c.deref.ensures.value

inside : (c : goal.After-deref-2) → (c.begin_of-start.result ≤ c.index-end.result.now) × (c.index-end.result.now ≤ length c.self.inside.bytes.items)
inside c = lies_inside c.self.inside.ends.items (length c.self.inside.bytes.items) c.args.number c.begin_of-start.result c.index-end.result.now c.self.invariant.0 (below c) (first c) c.index-end.ensures

pub between-requires : goal.between-requires
between-requires c = record {
  order = (inside c).0;
  inside = let lies = (inside c).1 in omega (arith, lies, ap length c.deref-2.ensures.value);
}

pub returns : goal.returns
returns c =
    let low : c.args.number < length c.self.inside.ends.items = omega (arith, c.requires, as_many 0 c.self.inside.ends.items c.self.inside.bytes.items, ap (λ (r : FramesState). length r.frames) c.self.view_is) in
    c.between.ensures
    ∙ ap (λ (bs : List ℕ). slice_range bs c.begin_of-start.result c.index-end.result.now) c.deref-2.ensures.value
    ∙ frame_is c.self.inside.ends.items c.self.inside.bytes.items c.args.number c.begin_of-start.result c.index-end.result.now low (c.begin_of-start.ensures ∙ ap (λ (es : List ℕ). begin_of es c.args.number) c.deref.ensures.value) c.index-end.ensures
    ∙ ap (λ (r : FramesState). get_or r.frames c.args.number []) c.self.view_is
