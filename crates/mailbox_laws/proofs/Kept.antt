-- The writes of one turn in a device: its settings are the host's after them, and another pool is left nothing.
use Rattle.std.proofs.Common.{arith, ◌≡◌, ℕ, ◌+◌, ◌*◌, ◌%◌, ◌<◌, ◌≤◌, Bool, true, false, cond, not, ◌||◌, List, [], ◌∷◌, ◌++◌, length, is_none, Option, Some, None, refl, sym, ap, subst, ◌∙◌, true≢false, eqb, leb, ltb}
use Rattle.std.specs.Bool.{⊤}
use Rattle.std.specs.List.{All, cons_option}
use Rattle.std.proofs.lemmas.Bool.{eqb-false}
use Rattle.std.proofs.lemmas.Bool.Decides.{nat_tests}
use Rattle.std.proofs.lemmas.List.Elements.{All-head, All-tail}
use Rattle.pool_filter.specs.Settings.{settings_after}
use Rattle.pool_filter.specs.Own.{OwnSettings, own}
use Rattle.pool_filter.proofs.OwnLemmas.{same_settings_decides}
use Rattle.device.specs.Limits.{PF_SPACE}
use Rattle.wire_frame.specs.Bits.{with_bit}
use Rattle.wire_frame.specs.declared.fault.Fault.TheVariants.{NoSuchVf, BadOffset, BadFrame}
use Rattle.local_switch.specs.declared.ways.Source.TheVariants.{Wire as FromWire}
use Rattle.device.specs.Act.{act, is_bad_offset}
use Rattle.device.specs.Replies.{is_done}
use Rattle.device.specs.declared.event.Reply.TheVariants.{Done, Value}
use Rattle.device.specs.Events.{Event}
use Rattle.device.specs.declared.event.Event.TheVariants.{Serve, Flr, PfRead, PfWrite, PfReset, Wire}
use Rattle.device.specs.declared.profile.Profile.{Profile}
use Rattle.device.specs.World.{World, fresh_with, step, world_after, function_of, acted, own_step, service, served, switched, all_raised, pf_word, pf_written, refused, replied}
use Rattle.device.specs.Lone.{NewSettings, kept, keep, changed_settings}
use Rattle.device.proofs.Append.{world_after_append, keep_append}
use Rattle.device.proofs.Owners.{owner}
use Rattle.mailbox.specs.declared.slot.Slot.{Slot}
use Rattle.mailbox.specs.declared.message.Message.{Message}
use Rattle.mailbox.specs.declared.writes.Write.{Write}
use Rattle.mailbox.specs.Slot.{with_guest}
use Rattle.mailbox.specs.State.{HostState, slot_at, with_slot, holder}
use Rattle.mailbox.specs.Host.{slot_after, host_after, host_without, host_dismissing, refusal, host_freed, host_under}
use Rattle.mailbox.specs.Isolation.{IsSameFor}
use Rattle.mailbox.specs.Words.{settings_of}
use Rattle.mailbox.specs.Writes.{write_at, writes_of, after_writes, writes_after, writes_without, writes_dismissing, writes_freed_by, writes_freeing, writes_under}
use Rattle.mailbox.specs.declared.start.Register.{Register}
use Rattle.mailbox.specs.declared.start.Register.TheVariants.{SourceChecks, LowAddress, HighAddress, AddressPools, MulticastTable, MulticastControl, VlanControl, VlanTable, VlanIds, VlanPools, PoolControl, PortVlans, Loopback, PoolFlags, ReceiveEnable, TransmitEnable}
use Rattle.mailbox.specs.Start.{registers, row_of, word_of, register_writes, writes_to, first_writes}
use Rattle.mailbox.proofs.First.{first_settled, whole_at_first}
use Rattle.mailbox.proofs.Others.{message_meanwhile, reset_meanwhile}
use Rattle.mailbox.proofs.Turns.{after_message, after_reset}
use Rattle.mailbox.proofs.Rows.{Each, each_append, each_where, Part, part_writes, writes_in, AllFit}
use Rattle.mailbox.proofs.Settle.{parts, parts_fit, in_parts}
use Rattle.mailbox.specs.declared.policy.Policy.{Policy}
use Rattle.mailbox.specs.declared.slot.Slot.TheVariants.{Absent}
use Rattle.mailbox.specs.Address.{number_of, is_number}
use Rattle.mailbox.specs.Keeping.{under, without_address}
use Rattle.mailbox.proofs.Freed.{holder_below}
use Rattle.mailbox.proofs.Policies.{itself}
use Rattle.mailbox_laws.proofs.Admissions.{after_dismissal, dismissal_meanwhile, few_freed, after_policy, policy_meanwhile, policy_ids}
use Rattle.mailbox_laws.specs.Turns.{Turn, Happens, Answers, Forgets, Admits, Dismisses, writes_taken, writes_admitting, sets_registers, IsTurn, write_event, write_events, host_of, events_in, host_at_end, events_of, kept_in, kept_of_turns}

-- ---- the device takes each write

abbrev pub IsTaken : Write → Type 0
IsTaken w = is_bad_offset PF_SPACE w.offset ≡ false

taken : (offset : ℕ) → offset % 4 ≡ 0 → offset < 0x20000 → is_bad_offset PF_SPACE offset ≡ false
taken offset whole below =
    let even : eqb (offset % 4) 0 ≡ true = grind (arith, nat_tests, whole) in
    let inside : leb 0x20000 offset ≡ false = grind (arith, nat_tests, below) in
    λ i. not (even i) || inside i

register_taken : (r : Register) (j x : ℕ) → j < (row_of r).count → IsTaken (write_at (row_of r) j x)
register_taken SourceChecks j x below = taken (0x8200 + 4 * j) (omega arith) (omega (arith, below))
register_taken LowAddress j x below = taken (0xA200 + 8 * j) (omega arith) (omega (arith, below))
register_taken HighAddress j x below = taken (0xA204 + 8 * j) (omega arith) (omega (arith, below))
register_taken AddressPools j x below = taken (0xA600 + 4 * j) (omega arith) (omega (arith, below))
register_taken MulticastTable j x below = taken (0x5200 + 4 * j) (omega arith) (omega (arith, below))
register_taken MulticastControl j x below = taken (0x5090 + 4 * j) (omega arith) (omega (arith, below))
register_taken VlanControl j x below = taken (0x5088 + 4 * j) (omega arith) (omega (arith, below))
register_taken VlanTable j x below = taken (0xA000 + 4 * j) (omega arith) (omega (arith, below))
register_taken VlanIds j x below = taken (0xF100 + 4 * j) (omega arith) (omega (arith, below))
register_taken VlanPools j x below = taken (0xF200 + 4 * j) (omega arith) (omega (arith, below))
register_taken PoolControl j x below = taken (0x51B0 + 4 * j) (omega arith) (omega (arith, below))
register_taken PortVlans j x below = taken (0x8000 + 4 * j) (omega arith) (omega (arith, below))
register_taken Loopback j x below = taken (0x8220 + 4 * j) (omega arith) (omega (arith, below))
register_taken PoolFlags j x below = taken (0xF000 + 4 * j) (omega arith) (omega (arith, below))
register_taken ReceiveEnable j x below = taken (0x51E0 + 4 * j) (omega arith) (omega (arith, below))
register_taken TransmitEnable j x below = taken (0x8110 + 4 * j) (omega arith) (omega (arith, below))

-- every word of the part's row
abbrev pub AllTaken : List Part → Type 0
AllTaken [] = ⊤
AllTaken (g ∷ gs) = ((j x : ℕ) → j < g.row.count → IsTaken (write_at g.row j x)) × AllTaken gs

each_taken : (gs : List Part) → AllFit gs → AllTaken gs → Each IsTaken (writes_in gs)
each_taken [] fit all = tt
each_taken (g ∷ gs) fit all =
    each_append IsTaken (part_writes g) (writes_in gs)
    (each_where IsTaken g.test g.row g.word g.from g.count (λ j past below. all.0 j (g.word j) (omega (arith, below, fit.0.1))))
    (each_taken gs fit.1 all.1)

parts_taken : (k : HostState) (p : ℕ) (old : Slot) → AllTaken (parts k p old)
parts_taken k p old = (
  register_taken HighAddress,
  (
    register_taken LowAddress,
    (
      register_taken HighAddress,
      (
        register_taken HighAddress,
        (
          register_taken LowAddress,
          (
            register_taken HighAddress,
            (register_taken PoolFlags, (register_taken PortVlans, (register_taken ReceiveEnable, (register_taken TransmitEnable, (register_taken VlanPools, tt))))),
          ),
        ),
      ),
    ),
  ),
)

pub pool_taken : (k : HostState) (p : ℕ) (old : Slot) → p < 64 → length k.ids ≤ 64 → Each IsTaken (writes_of k p old)
pool_taken k p old small few = subst (Each IsTaken) (sym (in_parts k p old)) (each_taken (parts k p old) (parts_fit k p old small few) (parts_taken k p old))

message_taken : (h : HostState) (p : ℕ) (message : Message) → p < 64 → length h.ids ≤ 64 → Each IsTaken (writes_after h p message)
unfolding writes_after host_after
message_taken h p message small few = pool_taken (with_slot h p (slot_after h p message)) p (slot_at h p) small few

reset_taken : (h : HostState) (p : ℕ) → p < 64 → length h.ids ≤ 64 → Each IsTaken (writes_without h p)
unfolding writes_without host_without
reset_taken h p small few = pool_taken (with_slot h p (with_guest (slot_at h p) None)) p (slot_at h p) small few

dismissal_taken : (h : HostState) (p : ℕ) → p < 64 → length h.ids ≤ 64 → Each IsTaken (writes_dismissing h p)
unfolding writes_dismissing host_dismissing
dismissal_taken h p small few = pool_taken (with_slot h p Absent) p (slot_at h p) small few

freed_taken : (h : HostState) (p a : ℕ) (o : Option ℕ) → holder h p a ≡ o → length h.ids ≤ 64 → Each IsTaken (writes_freed_by h a o)
freed_taken h p a None is few = tt
freed_taken h p a (Some q) is few = pool_taken (with_slot h q (without_address a (slot_at h q))) q (slot_at h q) (holder_below h p a q is) few

freeing_taken : (h : HostState) (p a : ℕ) → length h.ids ≤ 64 → Each IsTaken (writes_freeing h p a)
unfolding writes_freeing
freeing_taken h p a few = freed_taken h p a (holder h p a) refl few

under_taken : (k : HostState) (p : ℕ) (policy : Policy) → p < 64 → length k.ids ≤ 64 → Each IsTaken (writes_under k p policy)
unfolding writes_under host_under
under_taken k p policy small few = pool_taken (with_slot k p (under policy (slot_at k p))) p (slot_at k p) small few

few_in : (h : HostState) (p a : ℕ) → length h.ids ≤ 64 → length (host_freed h p a).ids ≤ 64
unfolding host_freed
few_in h p a few = few_freed h a (holder h p a) few

policy_taken : (h : HostState) (p : ℕ) (policy : Policy) → p < 64 → length h.ids ≤ 64 → Each IsTaken (writes_admitting h p policy)
policy_taken h p policy small few = go (is_none (refusal h p policy))
  where
    go : (b : Bool) → Each IsTaken (cond b (writes_taken h p policy) [])
    go true =
        each_append IsTaken (writes_freeing h p (number_of policy.address)) (writes_under (host_freed h p (number_of policy.address)) p policy)
        (freeing_taken h p (number_of policy.address) few)
        (under_taken (host_freed h p (number_of policy.address)) p policy small (few_in h p (number_of policy.address) few))
    go false = tt

registers_taken : (h : HostState) (rs : List Register) → Each IsTaken (writes_to h rs)
registers_taken h [] = tt
registers_taken h (r ∷ rs) =
    each_append IsTaken (register_writes h r) (writes_to h rs)
    (each_where IsTaken (λ j. true) (row_of r) (word_of h r) 0 (row_of r).count (λ j past below. register_taken r j (word_of h r j) (omega (arith, below))))
    (registers_taken h rs)

first_taken : (h : HostState) → Each IsTaken (first_writes h)
unfolding first_writes
first_taken h = registers_taken h registers

-- ---- writes in a device

one_write : (w : World) (v : Write) → IsTaken v → (step w (write_event v)).world.settings ≡ settings_after w.settings v.offset v.value
one_write w v is = ap (λ b. (cond b (refused w BadOffset) (replied (pf_written w v.offset v.value) Done)).world.settings) is

writes_done : (w : World) (ws : List Write) → Each IsTaken ws → (world_after w (write_events ws)).settings ≡ after_writes w.settings ws
writes_done w [] each = refl
writes_done w (v ∷ ws) each = writes_done (step w (write_event v)).world ws each.1 ∙ ap (λ s. after_writes s ws) (one_write w v each.0)

same_is_kept : (o n : OwnSettings) → n ≡ o → changed_settings o n ≡ None
same_is_kept o n same = ap (λ b. cond b None (Some (NewSettings n))) ((same_settings_decides o n).1 (sym same))

-- where at every moment the pool's own settings are what they were, nothing is left for it
quiet : (q : ℕ) (w : World) (ws : List Write) → Each IsTaken ws → ((done left : List Write) → done ++ left ≡ ws → own (after_writes w.settings done) q ≡ own w.settings q) → keep q w (write_events ws) ≡ []
quiet q w [] each same = refl
quiet q w (v ∷ ws) each same =
    ap (λ o. cons_option o (keep q (step w (write_event v)).world (write_events ws))) here
    ∙ quiet q (step w (write_event v)).world ws each.1
    (λ done left is. ap (λ s. own (after_writes s done) q) now ∙ same (v ∷ done) left (ap (λ l. v ∷ l) is) ∙ sym (same (v ∷ []) ws refl) ∙ sym (ap (λ s. own s q) now))
  where
    now : (step w (write_event v)).world.settings ≡ settings_after w.settings v.offset v.value
    now = one_write w v each.0

    here : kept q w (write_event v) ≡ None
    here = same_is_kept (own w.settings q) (own (step w (write_event v)).world.settings q) (ap (λ s. own s q) now ∙ same (v ∷ []) ws refl)

-- ---- events that write nothing

own_stays : (w : World) (p : ℕ) (e : Event) → (own_step w p e).world.settings ≡ w.settings
own_stays w p e = go (ltb p (length w.functions))
  where
    go : (b : Bool) → (cond b (acted w p (act (function_of p w) e)) (refused w NoSuchVf)).world.settings ≡ w.settings
    go true = refl
    go false = refl

pub event_stays : (w : World) (e : Event) → sets_registers e ≡ false → (step w e).world.settings ≡ w.settings
event_stays w (Serve p q) none = go (ltb p (length w.functions)) (service w p q).sent
  where
    go : (b : Bool) (sent : Option (List ℕ)) → (cond b (served w p (service w p q) sent) (refused w NoSuchVf)).world.settings ≡ w.settings
    go true None = refl
    go true (Some frame) = refl
    go false sent = refl
event_stays w (Flr p) none = go (is_done (own_step w p (Flr p)).answer.reply)
  where
    go : (b : Bool) → (cond b (record { world = record (own_step w p (Flr p)).world { resets = with_bit (own_step w p (Flr p)).world.resets p }; answer = (own_step w p (Flr p)).answer }) (own_step w p (Flr p))).world.settings ≡ w.settings
    go true = own_stays w p (Flr p)
    go false = own_stays w p (Flr p)
event_stays w (PfRead offset) none = go (is_bad_offset PF_SPACE offset)
  where
    go : (b : Bool) → (cond b (refused w BadOffset) (replied w (Value (pf_word w offset)))).world.settings ≡ w.settings
    go true = refl
    go false = refl
event_stays w (PfWrite offset x) none = absurd (true≢false none)
event_stays w PfReset none = absurd (true≢false none)
event_stays w (Wire frame) none = go (ltb w.profile.limit (length frame))
  where
    go : (b : Bool) → (cond b (refused w BadFrame) (record { world = switched w FromWire frame; answer = record { reply = Done; raised = all_raised w.settings w.functions FromWire frame } })).world.settings ≡ w.settings
    go true = refl
    go false = refl
event_stays w e none = own_stays w (owner e) e

-- ---- turns

ids_stay : (h : HostState) (t : Turn) → (host_of h t).ids ≡ h.ids
unfolding host_after host_without host_dismissing
ids_stay h (Happens e) = refl
ids_stay h (Answers p message) = refl
ids_stay h (Forgets p) = refl
ids_stay h (Admits p policy) = policy_ids h p policy
ids_stay h (Dismisses p) = refl

turn_settles : (h : HostState) (w : World) (t : Turn) → w.settings ≡ settings_of h → length h.ids ≤ 64 → IsTurn t → (world_after w (events_in h t)).settings ≡ settings_of (host_of h t)
turn_settles h w (Happens e) is few none = event_stays w e none ∙ is
turn_settles h w (Answers p message) is few small =
    writes_done w (writes_after h p message) (message_taken h p message small few)
    ∙ ap (λ s. after_writes s (writes_after h p message)) is
    ∙ after_message h p message small few
turn_settles h w (Forgets p) is few small =
    writes_done w (writes_without h p) (reset_taken h p small few)
    ∙ ap (λ s. after_writes s (writes_without h p)) is
    ∙ after_reset h p small few
turn_settles h w (Admits p policy) is few small =
    writes_done w (writes_admitting h p policy) (policy_taken h p policy small few)
    ∙ ap (λ s. after_writes s (writes_admitting h p policy)) is
    ∙ after_policy h p policy small few
turn_settles h w (Dismisses p) is few small =
    writes_done w (writes_dismissing h p) (dismissal_taken h p small few)
    ∙ ap (λ s. after_writes s (writes_dismissing h p)) is
    ∙ after_dismissal h p small few

-- the writes of another pool leave nothing
others_quiet : (q : ℕ) (h : HostState) (w : World) (ws : List Write) → w.settings ≡ settings_of h → Each IsTaken ws → ((done left : List Write) → done ++ left ≡ ws → IsSameFor (settings_of h) (after_writes (settings_of h) done) q) → keep q w (write_events ws) ≡ []
others_quiet q h w ws is each same = quiet q w ws each (λ done left at. ap (λ s. own (after_writes s done) q) is ∙ sym (same done left at).settings ∙ sym (ap (λ s. own s q) is))

turn_keeps : (q : ℕ) (h : HostState) (w : World) (t : Turn) → q < 64 → w.settings ≡ settings_of h → length h.ids ≤ 64 → IsTurn t → keep q w (events_in h t) ≡ kept_in q h w t
turn_keeps q h w (Happens e) q_small is few none = refl
turn_keeps q h w (Answers p message) q_small is few small = go (eqb p q) refl
  where
    go : (b : Bool) → eqb p q ≡ b → keep q w (write_events (writes_after h p message)) ≡ cond b (keep q w (write_events (writes_after h p message))) []
    go true same = refl
    go false differs = others_quiet q h w (writes_after h p message) is (message_taken h p message small few)
        (λ done left at. message_meanwhile h p q message done left small few q_small (λ same. eqb-false p q differs (sym same)) at)
turn_keeps q h w (Forgets p) q_small is few small = go (eqb p q) refl
  where
    go : (b : Bool) → eqb p q ≡ b → keep q w (write_events (writes_without h p)) ≡ cond b (keep q w (write_events (writes_without h p))) []
    go true same = refl
    go false differs = others_quiet q h w (writes_without h p) is (reset_taken h p small few)
        (λ done left at. reset_meanwhile h p q done left small few q_small (λ same. eqb-false p q differs (sym same)) at)
turn_keeps q h w (Admits p policy) q_small is few small = go (eqb p q) (is_number (holder h p (number_of policy.address)) q) refl refl
  where
    go : (b c : Bool) → eqb p q ≡ b → is_number (holder h p (number_of policy.address)) q ≡ c → keep q w (write_events (writes_admitting h p policy)) ≡ cond (b || c) (keep q w (write_events (writes_admitting h p policy))) []
    go true c same lost = refl
    go false true same lost = refl
    go false false differs kept = others_quiet q h w (writes_admitting h p policy) is (policy_taken h p policy small few)
        (λ done left at. policy_meanwhile h p q policy done left small few q_small (λ same. eqb-false p q differs (sym same))
        (λ lost. true≢false (sym (ap (λ o. is_number o q) lost ∙ itself q) ∙ kept)) at)
turn_keeps q h w (Dismisses p) q_small is few small = go (eqb p q) refl
  where
    go : (b : Bool) → eqb p q ≡ b → keep q w (write_events (writes_dismissing h p)) ≡ cond b (keep q w (write_events (writes_dismissing h p))) []
    go true same = refl
    go false differs = others_quiet q h w (writes_dismissing h p) is (dismissal_taken h p small few)
        (λ done left at. dismissal_meanwhile h p q done left small few q_small (λ same. eqb-false p q differs (sym same)) at)

-- ---- runs

pub few_still : (h : HostState) (t : Turn) → length h.ids ≤ 64 → length (host_of h t).ids ≤ 64
few_still h t few = subst (λ (ids : List ℕ). length ids ≤ 64) (sym (ids_stay h t)) few

pub run_settles : (h : HostState) (w : World) (turns : List Turn) → w.settings ≡ settings_of h → length h.ids ≤ 64 → All IsTurn turns → (world_after w (events_of h turns)).settings ≡ settings_of (host_at_end h turns)
run_settles h w [] is few all = is
run_settles h w (t ∷ ts) is few all =
    ap (λ v. v.settings) (world_after_append w (events_in h t) (events_of (host_of h t) ts))
    ∙ run_settles (host_of h t) (world_after w (events_in h t)) ts (turn_settles h w t is few (All-head IsTurn t ts all)) (few_still h t few) (All-tail IsTurn t ts all)

pub run_keeps : (q : ℕ) (h : HostState) (w : World) (turns : List Turn) → q < 64 → w.settings ≡ settings_of h → length h.ids ≤ 64 → All IsTurn turns → keep q w (events_of h turns) ≡ kept_of_turns q h w turns
run_keeps q h w [] q_small is few all = refl
run_keeps q h w (t ∷ ts) q_small is few all =
    keep_append q w (events_in h t) (events_of (host_of h t) ts)
    ∙ (λ i. turn_keeps q h w t q_small is few (All-head IsTurn t ts all) i
    ++ run_keeps q (host_of h t) (world_after w (events_in h t)) ts q_small (turn_settles h w t is few (All-head IsTurn t ts all)) (few_still h t few) (All-tail IsTurn t ts all) i)

pub first_run : (h : HostState) (profile : Profile) (sizes : List ℕ) → (world_after (fresh_with profile sizes) (write_events (first_writes h))).settings ≡ settings_of h
first_run h profile sizes = writes_done (fresh_with profile sizes) (first_writes h) (first_taken h) ∙ first_settled h (fresh_with profile sizes).settings whole_at_first
