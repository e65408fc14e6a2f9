-- A service, with the frame that it sent switched.
use Rattle.std.proofs.Common.{◌≡◌, ◌≤◌, ◌∙◌, ℕ, List, Some, None, length, get_or, refl, ap, subst, sym}
use Rattle.std.specs.Prelude.{if◌then◌else◌}
use Rattle.device.specs.World.{World}
use Rattle.device.specs.Live.{told_functions, told_world}
use Rattle.device.proofs.Arrivals.{sender_silent}
use Rattle.device.proofs.Fitting.{sent_fits}
use Rattle.device.proofs.LiveServes.{unsent_live, sent_live, unsent_listed, sent_listed, others_kept, sender_kept}
use Rattle.device.proofs.device.Device.serve_pool.Goals as goal

pub returns-then-not-is_sent : goal.returns-then-not-is_sent
returns-then-not-is_sent g c =
    let none = c.transmit-acted.ensures.sent ∙ ap (λ b. if b then Some c.transmit-acted.new.frame else None) (sym c.is_sent.ensures ∙ c.if-not-is_sent.true) in
    let now = c.transmit-acted.new.self in
    record {
      takes = unsent_live g.D.Dma.shared c.args.self.now.accesses now.accesses c.args.self.now.world now.world c.args.pool c.args.queue _ _ c.transmit-acted.result.vectors c.requires.there
          (others_kept c.args.self.now.accesses now.accesses (told_world c.args.self.now.accesses now.accesses c.args.self.now.world) c.args.pool c.args.queue c.transmit-acted.ensures.listed) c.transmit-acted.ensures.met c.transmit-acted.ensures.world c.transmit-acted.ensures.sizes
          c.transmit-acted.ensures.reply c.transmit-acted.ensures.messages c.of.ensures none (ap (λ b. if b then Some c.transmit-acted.new.frame else None) (sym c.is_sent.ensures ∙ c.if-not-is_sent.true)) refl;
      listed = unsent_listed c.args.self.now.accesses now.accesses c.args.self.now.world c.args.pool c.args.queue c.requires.there none c.transmit-acted.ensures.listed;
    }

-- a frame that is sent is within the limit
pub switch-switched-requires : goal.switch-switched-requires
switch-switched-requires g c =
    let sent = c.transmit-acted.ensures.sent ∙ ap (λ b. if b then Some c.transmit-acted.new.frame else None) (sym c.is_sent.ensures ∙ c.if-not-is_sent.false) in
    subst (λ (f : List ℕ). length f ≤ c.transmit-acted.new.self.world.profile.limit) (sym c.as_frame.ensures)
    (subst (λ (w : World). length c.transmit-acted.new.frame ≤ w.profile.limit) (sym c.transmit-acted.ensures.world) (sent_fits c.args.self.now.world.profile.limit _ _ c.args.queue c.transmit-acted.new.frame sent))

-- the sender gets nothing of its own frame
pub note-requires : goal.note-requires
note-requires g c = ap (λ (ms : List ℕ). get_or ms c.args.pool 0) c.switch-switched.ensures.messages ∙ sender_silent _ _ _ c.args.pool c.transmit-acted.ensures.below

pub returns : goal.returns
returns g c =
    let own = c.transmit-acted.new.frame in
    let frame = c.as_frame.result.bytes.now in
    let same : own ≡ frame = sym c.as_frame.ensures in
    let mid = c.transmit-acted.new.self in
    let last = c.switch-switched.new.self in
    let was_sent = ap (λ b. if b then Some own else None) (sym c.is_sent.ensures ∙ c.if-not-is_sent.false) ∙ ap (λ (f : List ℕ). Some f) same in
    let sent = c.transmit-acted.ensures.sent ∙ was_sent in
    record {
      takes = sent_live g.D.Dma.shared c.args.self.now.accesses mid.accesses last.accesses c.args.self.now.world mid.world last.world c.args.pool c.args.queue frame _ _ c.switch-switched.result.messages c.transmit-acted.result.vectors c.requires.there
          (others_kept c.args.self.now.accesses mid.accesses (told_world c.args.self.now.accesses mid.accesses c.args.self.now.world) c.args.pool c.args.queue c.transmit-acted.ensures.listed)
          (sender_kept mid.accesses last.accesses mid.world.settings (told_functions mid.accesses last.accesses mid.world.functions) c.args.pool frame c.switch-switched.ensures.listed) c.transmit-acted.ensures.met c.switch-switched.ensures.met
          c.transmit-acted.ensures.world c.switch-switched.ensures.world c.transmit-acted.ensures.sizes c.switch-switched.ensures.sizes c.transmit-acted.ensures.reply c.transmit-acted.ensures.messages c.switch-switched.ensures.messages c.note.ensures sent was_sent (ap (λ (f : List ℕ). if c.switch-switched.result.left then Some f else None) same ∙ ap (λ b. if b then Some frame else None) c.switch-switched.ensures.left);
      listed = sent_listed c.args.self.now.accesses mid.accesses last.accesses c.args.self.now.world mid.world c.args.pool c.args.queue frame c.requires.there c.transmit-acted.ensures.listed c.switch-switched.ensures.listed c.transmit-acted.ensures.world sent;
    }
