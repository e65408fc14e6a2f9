-- The settings after an event are by those before it and by the physical function's events alone.
use Rattle.std.proofs.Common.{◌≡◌, ℕ, Bool, true, false, List, Option, Some, None, refl, sym, ◌∙◌, ltb, true≢false, length}
use Rattle.vf_unit.specs.declared.registers.Queue.{Queue}
use Rattle.pool_filter.specs.Settings.{Settings}
use Rattle.device.specs.Limits.{PF_SPACE}
use Rattle.device.specs.Events.{Event}
use Rattle.device.specs.declared.event.Event.TheVariants.{Serve, Flr, PfRead, PfWrite, PfReset, Wire}
use Rattle.device.specs.Replies.{is_done}
use Rattle.device.specs.Act.{Service, is_bad_offset}
use Rattle.device.specs.World.{World, Stepped, own_step, served, service, flagged, step}
use Rattle.device.specs.Erased.{is_groups, settings_then}
use Rattle.device.proofs.Owners.{owner}

own_settings : (w : World) (q : ℕ) (e : Event) (inside : Bool) → ltb q (length w.functions) ≡ inside → (own_step w q e).world.settings ≡ w.settings
own_settings w q e true is = rw is refl
own_settings w q e false is = rw is refl

flagged_settings : (q : ℕ) (s : Stepped) (done : Bool) → is_done s.answer.reply ≡ done → (flagged q s).world.settings ≡ s.world.settings
flagged_settings q s true is = rw is refl
flagged_settings q s false is = rw is refl

served_settings : (q : ℕ) (w : World) (s : Service) (o : Option (List ℕ)) → (served w q s o).world.settings ≡ w.settings
served_settings q w s None = refl
served_settings q w s (Some frame) = refl

serve_settings : (w : World) (r : ℕ) (q : Queue) (inside : Bool) → ltb r (length w.functions) ≡ inside → (step w (Serve r q)).world.settings ≡ w.settings
serve_settings w r q true is = rw is (served_settings r w (service w r q) (service w r q).sent)
serve_settings w r q false is = rw is refl

pf_read_settings : (w : World) (offset : ℕ) (bad : Bool) → is_bad_offset PF_SPACE offset ≡ bad → (step w (PfRead offset)).world.settings ≡ w.settings
pf_read_settings w offset true is = rw is refl
pf_read_settings w offset false is = rw is refl

pf_write_settings : (w : World) (offset x : ℕ) (bad : Bool) → is_bad_offset PF_SPACE offset ≡ bad → (step w (PfWrite offset x)).world.settings ≡ settings_then w.settings (PfWrite offset x)
pf_write_settings w offset x true is = rw is refl
pf_write_settings w offset x false is = rw is refl

wire_settings : (w : World) (frame : List ℕ) (long : Bool) → ltb w.profile.limit (length frame) ≡ long → (step w (Wire frame)).world.settings ≡ w.settings
wire_settings w frame true is = rw is refl
wire_settings w frame false is = rw is refl

pub settings_stepped : (w : World) (e : Event) → (step w e).world.settings ≡ settings_then w.settings e
settings_stepped w (Serve r q) = serve_settings w r q _ refl
settings_stepped w (Flr q) = flagged_settings q (own_step w q (Flr q)) _ refl ∙ own_settings w q (Flr q) _ refl
settings_stepped w (PfRead offset) = pf_read_settings w offset _ refl
settings_stepped w (PfWrite offset x) = pf_write_settings w offset x _ refl
settings_stepped w PfReset = refl
settings_stepped w (Wire frame) = wire_settings w frame _ refl
settings_stepped w e = own_settings w (owner e) e _ refl

-- no event of a group's own changes them
pub groups_leave_settings : (group : ℕ → Bool) (s : Settings) (e : Event) → is_groups group e ≡ true → settings_then s e ≡ s
groups_leave_settings group s (PfWrite offset x) is = absurd (true≢false (sym is))
groups_leave_settings group s PfReset is = absurd (true≢false (sym is))
groups_leave_settings group s _ is = refl
