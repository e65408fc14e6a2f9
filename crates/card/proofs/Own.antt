-- What a function's own turns make of it is by its own part alone.
use Rattle.std.proofs.Common.{◌≡◌, ℕ, ◌<◌, ◌≤◌, ◌==◌, Bool, true, false, List, [], ◌∷◌, Option, Some, None, length, refl, sym, ap, ◌∙◌, subst, arith}
use Rattle.std.specs.Prelude.{◌+◌, ◌&&◌, ◌||◌, nat_le, not, slice_index, slice_index_or, if◌then◌else◌}
use Rattle.std.proofs.lemmas.Bool.{eq-eqb}
use Rattle.std.proofs.lemmas.List.{get_or-set_same, length-set}
use Rattle.pool_filter.specs.Own.{own}
use Rattle.device.specs.Events.{Event}
use Rattle.device.specs.declared.event.Event.TheVariants.{PfWrite}
use Rattle.device.specs.declared.event.Answer.{Answer}
use Rattle.device.specs.Replies.{Reply}
use Rattle.device.specs.Lone.{OwnEvent, Lone, Observation, Replied, is_own, kept_of, interrupted, lone_of, with_settings, moved as lone_moved, shown}
use Rattle.device.specs.Act.{is_bad_offset}
use Rattle.device.specs.Limits.{PF_SPACE}
use Rattle.device.specs.World.{World, pf_written, refused, replied as step_replied, step, world_after}
use Rattle.wire_frame.specs.declared.fault.Fault.TheVariants.{BadOffset}
use Rattle.device.specs.declared.event.Reply.TheVariants.{Done}
use Rattle.vf_unit.specs.Unit.{Closed}
use Rattle.device.proofs.Steps.{Follows, step_follows}
use Rattle.mailbox.specs.declared.message.Message.{Message}
use Rattle.mailbox.specs.declared.message.Message.TheVariants.{Reset, SetAddress, SetMulticast, JoinVlan, LeaveVlan, SetFrameLength, ClearSecond, ReplaceSecond, AddSecond, NegotiateApi, GetQueues, SetMulticastMode, GetLinkState, Other}
use Rattle.mailbox.specs.declared.policy.Policy.{Policy}
use Rattle.mailbox.specs.declared.slot.Guest.{Guest}
use Rattle.mailbox.specs.declared.slot.Slot.{Slot}
use Rattle.mailbox.specs.declared.slot.Slot.TheVariants.{Absent, Admitted}
use Rattle.mailbox.specs.declared.writes.Write.{Write}
use Rattle.mailbox.specs.Address.{is_unicast, number_of}
use Rattle.mailbox.specs.Granting.{answered, found, granted, has_room, joined_at, left_at, may_add, when_reset}
use Rattle.mailbox.specs.Mailbox.{MailboxState, replied}
use Rattle.mailbox.specs.Message.{message_of}
use Rattle.mailbox.specs.Policy.{is_port, place_to_join}
use Rattle.mailbox.specs.Replies.{reply_of, reply_to}
use Rattle.mailbox.specs.Host.{host_after, host_without, outcome, slot_after}
use Rattle.mailbox.specs.Slot.{begun, granted_to, policy_of, with_guest}
use Rattle.mailbox.specs.State.{HostState, is_taken, slot_at, with_slot}
use Rattle.mailbox_laws.specs.Turns.{write_event, write_events}
use Rattle.card.specs.Alike.{asked_address, is_held, may_choose}
use Rattle.card.proofs.Hosts.{HostsAlike}

-- ---- the device

own_event : (p : ℕ) → (p == p) ≡ true
own_event p = eq-eqb p p refl

-- what p sees of its own event, and its function after it, in two worlds in which it is the same
pub record EventsAlike (p : ℕ) (w v : World) (e : Event) : Type 0 where
  pub lone : lone_of p (step w e).world ≡ lone_of p (step v e).world
  pub reply : (step w e).answer.reply ≡ (step v e).answer.reply
  pub raised : slice_index (step w e).answer.raised p ≡ slice_index (step v e).answer.raised p

abbrev reply_in : Option Observation → Reply → Reply
reply_in (Some (Replied r n)) other = r
reply_in _ other = other

abbrev raised_in : Option Observation → ℕ
raised_in (Some (Replied r n)) = n
raised_in _ = 0

pub events_alike : (p : ℕ) (w v : World) (e : Event) → is_own p e ≡ true → p < length w.functions → length w.functions ≤ 64 → p < length v.functions → length v.functions ≤ 64 → lone_of p w ≡ lone_of p v → EventsAlike p w v e
events_alike p w v e mine there few also_there also_few same =
    record {
      lone = one.1 ∙ ap (λ (s : Lone). lone_moved s (OwnEvent e)) same ∙ sym two.1;
      reply = ap (λ (o : Option Observation). reply_in o (step w e).answer.reply) told;
      raised = ap raised_in told;
    }
  where
    sight : Answer → Option Observation
    sight a = Some (Replied a.reply (slice_index a.raised p))

    follows : (u : World) → p < length u.functions → length u.functions ≤ 64 → Follows (lone_of p u) (sight (step u e).answer) (lone_of p (step u e).world) (Some (OwnEvent e))
    follows u inside small =
        subst (λ (b : Bool). Follows (lone_of p u) (if b then sight (step u e).answer else interrupted (slice_index (step u e).answer.raised p)) (lone_of p (step u e).world) (if b then Some (OwnEvent e) else kept_of p u e))
        mine (step_follows p u e inside (omega (arith, inside, small)))

    one : Follows (lone_of p w) (sight (step w e).answer) (lone_of p (step w e).world) (Some (OwnEvent e))
    one = follows w there few

    two : Follows (lone_of p v) (sight (step v e).answer) (lone_of p (step v e).world) (Some (OwnEvent e))
    two = follows v also_there also_few

    told : sight (step w e).answer ≡ sight (step v e).answer
    told = one.0 ∙ ap (λ (s : Lone). shown s (OwnEvent e)) same ∙ sym two.0

-- writes of the physical function's registers leave the functions and the profile as they are
write_functions : (w : World) (offset x : ℕ) → (step w (PfWrite offset x)).world.functions ≡ w.functions
write_functions w offset x = go (is_bad_offset PF_SPACE offset)
  where
    go : (b : Bool) → (if b then refused w BadOffset else step_replied (pf_written w offset x) Done).world.functions ≡ w.functions
    go true = refl
    go false = refl

write_profile : (w : World) (offset x : ℕ) → (step w (PfWrite offset x)).world.profile ≡ w.profile
write_profile w offset x = go (is_bad_offset PF_SPACE offset)
  where
    go : (b : Bool) → (if b then refused w BadOffset else step_replied (pf_written w offset x) Done).world.profile ≡ w.profile
    go true = refl
    go false = refl

writes_functions : (w : World) (ws : List Write) → (world_after w (write_events ws)).functions ≡ w.functions
writes_functions w [] = refl
writes_functions w (r ∷ ws) = writes_functions (step w (write_event r)).world ws ∙ write_functions w r.offset r.value

writes_profile : (w : World) (ws : List Write) → (world_after w (write_events ws)).profile ≡ w.profile
writes_profile w [] = refl
writes_profile w (r ∷ ws) = writes_profile (step w (write_event r)).world ws ∙ write_profile w r.offset r.value

-- so of a function alone its settings change, and nothing else
pub lone_written : (p : ℕ) (w : World) (ws : List Write) → lone_of p (world_after w (write_events ws)) ≡ with_settings (lone_of p w) (own (world_after w (write_events ws)).settings p)
lone_written p w ws = λ i. record {
  profile = writes_profile w ws i;
  function = slice_index_or (writes_functions w ws i) p (Closed 0);
  settings = own (world_after w (write_events ws)).settings p;
}

-- ---- the host

abbrev pub taken_alike : HostState → HostState → ℕ → Option ℕ → Type 0
taken_alike h k p a = is_held h p a ≡ is_held k p a

-- the same by the function's policy
abbrev held_by : Option Policy → HostState → ℕ → Option ℕ → Bool
held_by o h p None = false
held_by o h p (Some a) = may_choose o && is_taken h p a

held_is : (h : HostState) (p : ℕ) (a : Option ℕ) → is_held h p a ≡ held_by (policy_of (slot_at h p)) h p a
held_is h p None = refl
held_is h p (Some a) = refl

may_add_alike : (h k : HostState) (p : ℕ) (policy : Policy) (a : ℕ) → held_by (Some policy) h p (Some a) ≡ held_by (Some policy) k p (Some a) → may_add h p policy a ≡ may_add k p policy a
may_add_alike h k p policy a same = go policy.may_choose same
  where
    go : (b : Bool) → (b && is_taken h p a) ≡ (b && is_taken k p a) → (b && (is_unicast a && not (is_taken h p a))) ≡ (b && (is_unicast a && not (is_taken k p a)))
    go true is = ap (λ (t : Bool). is_unicast a && not t) is
    go false is = refl

granted_alike : (p : ℕ) (h k : HostState) (policy : Policy) (g : Guest) (m : Message) → HostsAlike p h k → held_by (Some policy) h p (asked_address m) ≡ held_by (Some policy) k p (asked_address m) → granted h p policy g m ≡ granted k p policy g m
unfolding granted
granted_alike p h k policy g Reset is held = ap (λ (ids : List ℕ). Some (begun ids policy)) is.ids
granted_alike p h k policy g (SetAddress a) is held = ap (λ (b : Bool). if (number_of policy.address == a) || b then Some (record g { address = a }) else None) (may_add_alike h k p policy a held)
granted_alike p h k policy g (SetMulticast groups) is held = refl
granted_alike p h k policy g (JoinVlan id) is held = ap (λ (ids : List ℕ). joined_at g (place_to_join ids policy.vlans id)) is.ids
granted_alike p h k policy g (LeaveVlan id) is held = ap (λ (ids : List ℕ). if (id == 0) && not (is_port policy.vlans) then Some g else left_at g (place_to_join ids policy.vlans id)) is.ids
granted_alike p h k policy g (SetFrameLength n) is held = ap (λ (limit : ℕ). if nat_le n (limit + 4) then Some (record g { frame_length = n }) else None) is.limit
granted_alike p h k policy g ClearSecond is held = refl
granted_alike p h k policy g (ReplaceSecond a) is held = ap (λ (b : Bool). if has_room g.second a && b then Some (record g { second = Some a }) else None) (may_add_alike h k p policy a held)
granted_alike p h k policy g (AddSecond a) is held = ap (λ (b : Bool). if has_room g.second a && b then Some (record g { second = Some a }) else None) (may_add_alike h k p policy a held)
granted_alike p h k policy g (NegotiateApi api) is held = refl
granted_alike p h k policy g GetQueues is held = refl
granted_alike p h k policy g (SetMulticastMode asked) is held = refl
granted_alike p h k policy g GetLinkState is held = refl
granted_alike p h k policy g Other is held = refl

reset_alike : (ids other : List ℕ) (policy : Policy) (m : Message) → ids ≡ other → when_reset ids policy m ≡ when_reset other policy m
reset_alike ids other policy m same = ap (λ (is : List ℕ). when_reset is policy m) same

answered_alike : (p : ℕ) (h k : HostState) (s : Slot) (m : Message) → HostsAlike p h k → held_by (policy_of s) h p (asked_address m) ≡ held_by (policy_of s) k p (asked_address m) → answered h p s m ≡ answered k p s m
answered_alike p h k Absent m is held = refl
answered_alike p h k (Admitted policy None) m is held = reset_alike h.ids k.ids policy m is.ids
answered_alike p h k (Admitted policy (Some g)) m is held = granted_alike p h k policy g m is held

-- a message finds the function under its policy
found_policy : (s : Slot) (m : Message) → policy_of (found s m) ≡ policy_of s
found_policy Absent m = refl
found_policy (Admitted policy None) m = refl
found_policy (Admitted policy (Some g)) m = refl

pub outcome_alike : (p : ℕ) (h k : HostState) (m : Message) → HostsAlike p h k → taken_alike h k p (asked_address m) → outcome h p m ≡ outcome k p m
unfolding outcome
outcome_alike p h k m is held = answered_alike p h k (found (slot_at h p) m) m is once ∙ ap (λ (s : Slot). answered k p (found s m) m) is.slot
  where
    a : Option ℕ
    a = asked_address m

    once : held_by (policy_of (found (slot_at h p) m)) h p a ≡ held_by (policy_of (found (slot_at h p) m)) k p a
    once =
        ap (λ (o : Option Policy). held_by o h p a) (found_policy (slot_at h p) m)
        ∙ sym (held_is h p a) ∙ held ∙ held_is k p a
        ∙ ap (λ (o : Option Policy). held_by o k p a) (ap policy_of (sym is.slot) ∙ sym (found_policy (slot_at h p) m))

-- after p's slot is another, the same in both
slot_here : (h : HostState) (p : ℕ) (s : Slot) → p < 64 → length h.slots ≡ 64 → slot_at (with_slot h p s) p ≡ s
slot_here h p s below many = get_or-set_same h.slots p s Absent (omega (arith, below, many))

pub with_alike : (p : ℕ) (h k : HostState) (s t : Slot) → p < 64 → HostsAlike p h k → s ≡ t → HostsAlike p (with_slot h p s) (with_slot k p t)
with_alike p h k s t below is same = record {
  slot = slot_here h p s below is.many ∙ same ∙ sym (slot_here k p t below is.also_many);
  ids = is.ids;
  pool = is.pool;
  limit = is.limit;
  many = length-set h.slots p s ∙ is.many;
  also_many = length-set k.slots p t ∙ is.also_many;
  few = is.few;
}

pub answer_alike : (p : ℕ) (h k : HostState) (m : Message) → p < 64 → HostsAlike p h k → taken_alike h k p (asked_address m) → HostsAlike p (host_after h p m) (host_after k p m)
unfolding host_after slot_after
answer_alike p h k m below is held =
    with_alike p h k (slot_after h p m) (slot_after k p m) below is (λ i. granted_to (found (is.slot i) m) (outcome_alike p h k m is held i))

pub forgotten_alike : (p : ℕ) (h k : HostState) → p < 64 → HostsAlike p h k → HostsAlike p (host_without h p) (host_without k p)
unfolding host_without
forgotten_alike p h k below is = with_alike p h k (with_guest (slot_at h p) None) (with_guest (slot_at k p) None) below is (ap (λ (s : Slot). with_guest s None) is.slot)

pub reply_alike : (p : ℕ) (h k : HostState) (b : MailboxState) → HostsAlike p h k → taken_alike h k p (asked_address (message_of b.words)) → reply_to h p b ≡ reply_to k p b
unfolding reply_to
reply_alike p h k b is held = λ i. replied b (reply_of b.words (is.slot i) (message_of b.words) (outcome_alike p h k (message_of b.words) is held i))
