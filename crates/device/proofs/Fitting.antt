-- A frame that a service sends is no longer than the limit.
use Rattle.std.proofs.Common.{◌≡◌, ◌≤◌, ℕ, Bool, true, false, not, ◌&&◌, nat_lt, ◌+◌, List, length, arith, refl, subst}
use Rattle.std.specs.Prelude.{⊤, ◌==◌, Option, Some, None, if◌then◌else◌}
use Rattle.std.proofs.lemmas.Bool.Decides.{nat_tests}
use Rattle.wire_frame.specs.Frame.{is_frame, is_frame_tagged, with_tag}
use Rattle.wire_frame.specs.Fault.{number_of}
use Rattle.wire_frame.specs.declared.fault.Fault.TheVariants.{NotOpen}
use Rattle.wire_frame.specs.declared.vlan.PortVlan.{PortVlan}
use Rattle.rings.specs.Ring.{RingState, head_slot}
use Rattle.irq_causes.specs.Causes.{Change}
use Rattle.tx_desc.specs.declared.descriptor.Kind.{Kind}
use Rattle.tx_desc.specs.declared.descriptor.Kind.TheVariants.{Context as IsContext, Unusable, Data}
use Rattle.tx_desc.specs.declared.descriptor.TxDescriptor.{TxDescriptor}
use Rattle.tx_desc.specs.declared.outcome.Fetched.{Fetched}
use Rattle.tx_desc.specs.declared.outcome.Fetched.TheVariants.{Idle, More, Frame, Dropped, Faulted}
use Rattle.tx_desc.specs.declared.terms.Terms.{Terms}
use Rattle.tx_desc.specs.declared.sending.Segments.{Segments}
use Rattle.tx_desc.specs.declared.sending.Sending.{Sending}
use Rattle.tx_desc.specs.declared.sending.Stage.TheVariants.{Begun, Cutting}
use Rattle.tx_desc.specs.Transmit.{Gathering, Gathered, Overlong, Fetching, kind_of, joined, ends_frame, refuses, frame_with, ended, taken, descriptor_at, fetch_next, fetch}
use Rattle.tx_desc.specs.Offloaded.{Serving, Step, leaving, is_cut_due, context_for, lacks_sums, emptied, bytes_of, uncut, ended_with, after_joining, cut_step, next_segment, taken_with, served_at, served_next, plainly, is_plain, fetch_with}
use Rattle.offload.specs.declared.context.Context.{Context}
use Rattle.offload.specs.Segment.{segment_of}
use Rattle.pool_filter.specs.Own.{OwnSettings, port_vlan_of}
use Rattle.vf_unit.specs.declared.registers.Queue.{Queue}
use Rattle.vf_unit.specs.Unit.{Function, Closed, Open, is_open, one_more_sent, one_more_refused, serviced, service_outcome}
use Rattle.anti_spoof.specs.Permitted.{permitted}
use Rattle.device.specs.declared.event.Reply.TheVariants.{Sent, Idle as WasIdle, Dropped as WasDropped, Refused}
use Rattle.device.specs.Act.{Service, concluded, serve, unsent, unserved}

abbrev Fits : ℕ → Fetched → Type 0
Fits limit Idle = ⊤
Fits limit More = ⊤
Fits limit (Frame frame) = length frame ≤ limit
Fits limit Dropped = ⊤
Fits limit Faulted = ⊤

either : {X : Type 0} (P : X → Type 0) (b : Bool) (x y : X) → P x → P y → P (if b then x else y)
either P true x y first second = first
either P false x y first second = second

-- ---- the end of a frame

last_of : (a b : Bool) → (a && b) ≡ true → b ≡ true
last_of true b is = is
last_of false true is = refl
last_of false false is = is

short : (limit : ℕ) (frame : List ℕ) → is_frame limit frame ≡ true → length frame ≤ limit
short limit frame is = grind (arith, nat_tests, is)

framed_where : (limit : ℕ) (b : Bool) (frame : List ℕ) → (b ≡ true → length frame ≤ limit) → Fits limit (if b then Frame frame else Dropped)
framed_where limit true frame is = is refl
framed_where limit false frame is = tt

framed : (limit : ℕ) (tag : Option ℕ) (bytes : List ℕ) → Fits limit (frame_with limit tag bytes)
framed limit None bytes = framed_where limit (is_frame limit bytes) bytes (short limit bytes)
framed limit (Some tag) bytes = framed_where limit (is_frame_tagged limit tag bytes) (with_tag tag bytes) (λ is. short limit (with_tag tag bytes) (last_of _ _ is))

leaving_fits : (rule : PortVlan) (limit : ℕ) (tag : Option ℕ) (bytes : List ℕ) → Fits limit (leaving rule limit tag bytes)
leaving_fits rule limit tag bytes = either (Fits limit) (refuses rule bytes) Dropped (frame_with limit tag bytes) tt (framed limit tag bytes)

-- ---- a queue whose card does nothing for the driver

ended_fits : (limit : ℕ) (rule : PortVlan) (word : ℕ) (g : Gathering) → Fits limit (ended limit rule word g)
unfolding ended
ended_fits limit rule word Overlong = tt
ended_fits limit rule word (Gathered bytes) = leaving_fits rule limit _ bytes

taken_fits : (k : Kind) (limit : ℕ) (rule : PortVlan) (memory : List ℕ) (ring : RingState) (pending : Gathering) (d : TxDescriptor) → Fits limit (taken k limit rule memory ring pending d).outcome
taken_fits IsContext limit rule memory ring pending d = tt
taken_fits Unusable limit rule memory ring pending d = tt
taken_fits Data limit rule memory ring pending d = either (Fits limit) (ends_frame d.word) _ More (ended_fits limit rule d.word _) tt

next_fits : (limit : ℕ) (rule : PortVlan) (memory : List ℕ) (ring : RingState) (pending : Gathering) (slot : Option ℕ) → Fits limit (fetch_next limit rule memory ring pending slot).outcome
next_fits limit rule memory ring pending None = tt
next_fits limit rule memory ring pending (Some address) = taken_fits (kind_of (length memory) (descriptor_at address memory)) limit rule memory ring pending (descriptor_at address memory)

fetch_fits : (limit : ℕ) (rule : PortVlan) (memory : List ℕ) (ring : RingState) (pending : Gathering) → Fits limit (fetch limit rule memory ring pending).outcome
unfolding fetch
fetch_fits limit rule memory ring pending = next_fits limit rule memory ring pending (head_slot ring)

-- ---- one whose card does something for it

StepFits : ℕ → Step → Type 0
StepFits limit s = Fits limit s.outcome

step_fits : (limit : ℕ) (s : Step) → Fits limit s.outcome → StepFits limit s
unfolding StepFits
step_fits limit s is = is

outcome_of : (limit : ℕ) (s : Step) → StepFits limit s → Fits limit s.outcome
unfolding StepFits
outcome_of limit s is = is

ended_with_fits : (t : Terms) (c : Context) (first last : ℕ) (g : Gathering) → Fits t.limit (ended_with t c first last g)
unfolding ended_with
ended_with_fits t c first last Overlong = tt
ended_with_fits t c first last (Gathered bytes) = leaving_fits t.rule t.limit _ _

joining_fits : (t : Terms) (s : Sending) (first word : ℕ) (g : Gathering) → StepFits t.limit (after_joining t s first word g)
joining_fits t s first word g =
    let goes_on : Step = record { outcome = More; is_done = true; falls_short = false; sending = record s { pending = g; stage = Begun first } } in
    let is_cut : Step = record { outcome = More; is_done = false; falls_short = false; sending = record s { pending = g; stage = Cutting (record { first = first; last = word; number = 0 }) } } in
    let is_over : Step = record { outcome = ended_with t (context_for s first) first word g; is_done = true; falls_short = lacks_sums t (context_for s first) first g; sending = emptied s } in
    either (StepFits t.limit) (not (ends_frame word)) goes_on (if is_cut_due t.offloads first then is_cut else is_over) (step_fits t.limit goes_on tt)
    (either (StepFits t.limit) (is_cut_due t.offloads first) is_cut is_over (step_fits t.limit is_cut tt) (step_fits t.limit is_over (ended_with_fits t (context_for s first) first word g)))

cut_fits : (t : Terms) (s : Sending) (g : Segments) (c : Context) (tag : Option ℕ) (count : ℕ) → StepFits t.limit (cut_step t s g c tag count)
cut_fits t s g c tag count =
    let next : Step = record {
      outcome = leaving t.rule t.limit tag (segment_of c (bytes_of s.pending) g.number);
      is_done = g.number + 1 == count;
      falls_short = false;
      sending = if g.number + 1 == count then emptied s else record s { stage = Cutting (record { first = g.first; last = g.last; number = g.number + 1 }) };
    } in
    either (StepFits t.limit) (not (nat_lt g.number count)) (uncut s) next (step_fits t.limit (uncut s) tt) (step_fits t.limit next (leaving_fits t.rule t.limit tag (segment_of c (bytes_of s.pending) g.number)))

segment_fits : (t : Terms) (s : Sending) (g : Segments) → StepFits t.limit (next_segment t s g)
unfolding next_segment
segment_fits t s g = cut_fits t s g _ _ _

taken_with_fits : (k : Kind) (t : Terms) (memory : List ℕ) (ring : RingState) (s : Sending) (d : TxDescriptor) → Fits t.limit (taken_with k t memory ring s d).outcome
taken_with_fits IsContext t memory ring s d = tt
taken_with_fits Unusable t memory ring s d = tt
taken_with_fits Data t memory ring s d = outcome_of t.limit _ (joining_fits t s _ d.word _)

at_fits : (g : Option Segments) (t : Terms) (memory : List ℕ) (ring : RingState) (s : Sending) (address : ℕ) → Fits t.limit (served_at g t memory ring s address).outcome
at_fits None t memory ring s address = taken_with_fits _ t memory ring s (descriptor_at address memory)
at_fits (Some g) t memory ring s address = outcome_of t.limit _ (segment_fits t s g)

served_fits : (t : Terms) (memory : List ℕ) (ring : RingState) (s : Sending) (slot : Option ℕ) → Fits t.limit (served_next t memory ring s slot).outcome
served_fits t memory ring s None = tt
served_fits t memory ring s (Some address) = at_fits _ t memory ring s address

fetch_with_fits : (t : Terms) (memory : List ℕ) (ring : RingState) (s : Sending) → Fits t.limit (fetch_with t memory ring s).outcome
unfolding fetch_with
fetch_with_fits t memory ring s =
    either (λ (v : Serving). Fits t.limit v.outcome) (is_plain t.offloads) (plainly s (fetch t.limit t.rule memory ring s.pending)) (served_next t memory ring s (head_slot ring))
    (fetch_fits t.limit t.rule memory ring s.pending) (served_fits t memory ring s (head_slot ring))

-- ---- a service of a function's queue

abbrev AllFit : ℕ → Option Fetched → Type 0
AllFit limit None = ⊤
AllFit limit (Some outcome) = Fits limit outcome

outcome_fits : (limit : ℕ) (rule : PortVlan) (f : Function) (q : Queue) → AllFit limit (service_outcome limit rule f q)
outcome_fits limit rule (Closed size) q = tt
outcome_fits limit rule (Open s) q = fetch_with_fits _ s.memory _ _

abbrev SentFits : ℕ → Option (List ℕ) → Type 0
SentFits limit None = ⊤
SentFits limit (Some frame) = length frame ≤ limit

abbrev ServiceFits : ℕ → Service → Type 0
ServiceFits limit s = SentFits limit s.sent

concluded_fits : (limit : ℕ) (o : OwnSettings) (c : Change Function) (outcome : Option Fetched) → AllFit limit outcome → ServiceFits limit (concluded o c outcome)
concluded_fits limit o c None is = tt
concluded_fits limit o c (Some Idle) is = tt
concluded_fits limit o c (Some More) is = tt
concluded_fits limit o c (Some (Frame frame)) is =
    either (ServiceFits limit) (permitted o frame) (record { function = one_more_sent c.state; reply = Sent; messages = c.messages; sent = Some frame })
    (unsent (record c { state = one_more_refused c.state }) WasDropped) is tt
concluded_fits limit o c (Some Dropped) is = tt
concluded_fits limit o c (Some Faulted) is = tt

service_fits : (limit : ℕ) (o : OwnSettings) (f : Function) (q : Queue) → ServiceFits limit (serve limit o f q)
unfolding serve
service_fits limit o f q =
    let port : PortVlan = port_vlan_of o.port_vlan in
    let made : Service = concluded o (serviced limit port f q) (service_outcome limit port f q) in
    either (ServiceFits limit) (is_open f) (if o.may_transmit then made else unserved f WasIdle) (unserved f (Refused (number_of NotOpen)))
    (either (ServiceFits limit) o.may_transmit made (unserved f WasIdle) (concluded_fits limit o (serviced limit port f q) (service_outcome limit port f q) (outcome_fits limit port f q)) tt)
    tt

pub sent_fits : (limit : ℕ) (o : OwnSettings) (f : Function) (q : Queue) (frame : List ℕ) → (serve limit o f q).sent ≡ Some frame → length frame ≤ limit
sent_fits limit o f q frame is = subst (SentFits limit) is (service_fits limit o f q)
