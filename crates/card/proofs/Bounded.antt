-- What the device does for a message, and how much that is.
use Rattle.std.proofs.Common.{◌≡◌, ℕ, zero, suc, ◌+◌, ◌*◌, ◌/◌, ◌%◌, ◌≤◌, ◌==◌, Bool, true, false, List, [], ◌∷◌, ◌++◌, Option, Some, None, length, refl, sym, ap, ◌∙◌, subst, arith}
use Rattle.std.specs.Prelude.{◌&&◌, is_some, if◌then◌else◌}
use Rattle.std.proofs.lemmas.List.{length-append, length-map}
use Rattle.std.proofs.lemmas.Bool.{and_parts, eqb-true}
use Rattle.wire_frame.specs.declared.row.Row.{Row}
use Rattle.addr_tables.specs.Registers.{RAL, RAH}
use Rattle.vlan_table.specs.Registers.{VLVFB}
use Rattle.pool_filter.specs.Registers.{PFVFRE, PFVFTE, VMVIR, VMOLR}
use Rattle.device.specs.declared.event.Event.TheVariants.{Flr, VfWrite}
use Rattle.device.specs.World.{world_after}
use Rattle.mailbox.specs.declared.message.Message.{Message}
use Rattle.mailbox.specs.declared.slot.Slot.{Slot}
use Rattle.mailbox.specs.declared.writes.Write.{Write}
use Rattle.mailbox.specs.Address.{low_part}
use Rattle.mailbox.specs.Host.{host_after, host_without}
use Rattle.mailbox.specs.Mailbox.{MailboxState, after_write}
use Rattle.mailbox.specs.Message.{message_of}
use Rattle.mailbox.specs.Slot.{has_joined, is_on, own_address, second_address}
use Rattle.mailbox.specs.State.{HostState, slot_at}
use Rattle.mailbox.specs.Words.{flags_word, member_word, port_word, up_word, valid}
use Rattle.mailbox.specs.Writes.{changes, entry_writes, joins_or_leaves, moves, pool_writes, shared_writes, turns, write_at, writes_after, writes_of, writes_where, writes_without}
use Rattle.mailbox_laws.specs.Turns.{events_of, write_event, write_events}
use Rattle.mailbox_laws.specs.Turns.Turn.{Answers, Forgets}
use Rattle.hosted.specs.Hosted.{mailbox_at}
use Rattle.hosted.specs.Turns.{mail_turns, reset_turns, resets, rings, takes, write_turns}
use Rattle.vfio_session.specs.declared.decision.Ask.{Ask}
use Rattle.vfio_session.specs.declared.decision.Ask.TheVariants.{Read, Write as WriteAsk, Map, Unmap, Reset, Arm, Disarm}
use Rattle.vfio_session.specs.declared.owed.Owed.{Owed}
use Rattle.vfio_session.specs.Received.{received}
use Rattle.vfio_session.specs.Sessions.{Received}
use Rattle.card.specs.Alike.{IsCard}
use Rattle.card.specs.Card.{CardState, end_at}
use Rattle.card.specs.Life.{events_asked, events_by, events_heard, world_of}
use Rattle.card.specs.Told.{asked, told, told_by, with_session}

-- ---- the writes of one function

few_where : (t : ℕ → Bool) (row : Row) (word : ℕ → ℕ) (i n : ℕ) → length (writes_where t row word i n) ≤ n
few_where t row word i zero = omega arith
few_where t row word i (suc n) = go (t i) (few_where t row word (suc i) n)
  where
    go : (b : Bool) → length (writes_where t row word (suc i) n) ≤ n → length (if b then write_at row i (word i) ∷ writes_where t row word (suc i) n else writes_where t row word (suc i) n) ≤ suc n
    go true few = omega (arith, few)
    go false few = omega (arith, few)

-- of two words that stand side by side only one has the pool
one_of_two : (p : ℕ) (old new : Slot) (k : ℕ) → joins_or_leaves p old new (2 * k) ≡ true → joins_or_leaves p old new (2 * k + 1) ≡ true → ⊥
one_of_two p old new k even odd =
    let first : ((2 * k) % 2 == p / 32) ≡ true = (and_parts ((2 * k) % 2 == p / 32) (turns (has_joined old (2 * k / 2)) (has_joined new (2 * k / 2))) even).0 in
    let second : ((2 * k + 1) % 2 == p / 32) ≡ true = (and_parts ((2 * k + 1) % 2 == p / 32) (turns (has_joined old ((2 * k + 1) / 2)) (has_joined new ((2 * k + 1) / 2))) odd).0 in
    let a : (2 * k) % 2 ≡ p / 32 = eqb-true ((2 * k) % 2) (p / 32) first in
    let b : (2 * k + 1) % 2 ≡ p / 32 = eqb-true ((2 * k + 1) % 2) (p / 32) second in
    absurd (omega (arith, a, b))

half_where : (p : ℕ) (old new : Slot) (row : Row) (word : ℕ → ℕ) (k n : ℕ) → length (writes_where (joins_or_leaves p old new) row word (2 * k) (2 * n)) ≤ n
half_where p old new row word k zero = omega arith
half_where p old new row word k (suc n) =
    subst (λ (m : ℕ). length (writes_where t row word (2 * k) m) ≤ suc n) (sym double)
    (go (t (2 * k)) (t (suc (2 * k))) refl refl (subst (λ (i : ℕ). length (writes_where t row word i (2 * n)) ≤ n) after (half_where p old new row word (k + 1) n)))
  where
    t : ℕ → Bool
    t = joins_or_leaves p old new

    double : 2 * suc n ≡ suc (suc (2 * n))
    double = omega arith

    after : 2 * (k + 1) ≡ suc (suc (2 * k))
    after = omega arith

    next : suc (2 * k) ≡ 2 * k + 1
    next = omega arith

    rest : List Write
    rest = writes_where t row word (suc (suc (2 * k))) (2 * n)

    go : (a b : Bool) → t (2 * k) ≡ a → t (suc (2 * k)) ≡ b → length rest ≤ n
        → length (if a then write_at row (2 * k) (word (2 * k)) ∷ (if b then write_at row (suc (2 * k)) (word (suc (2 * k))) ∷ rest else rest) else (if b then write_at row (suc (2 * k)) (word (suc (2 * k))) ∷ rest else rest)) ≤ suc n
    go true true even odd few = absurd (one_of_two p old new k even (sym (ap t next) ∙ odd))
    go true false even odd few = omega (arith, few)
    go false true even odd few = omega (arith, few)
    go false false even odd few = omega (arith, few)

joined : {X : Type 0} (xs ys : List X) (a b : ℕ) → length xs ≤ a → length ys ≤ b → length (xs ++ ys) ≤ a + b
joined xs ys a b one two = omega (arith, length-append xs ys, one, two)

-- of one place there is one write at most
one_here : (b : Bool) (row : Row) (x e : ℕ) → length (writes_where (λ i. b) row (λ i. x) e 1) ≤ 1
one_here b row x e = few_where (λ i. b) row (λ i. x) e 1

few_entry : (e : ℕ) (old new : Option ℕ) → length (entry_writes e old new) ≤ 3
few_entry e old new = joined (none ++ low) high 2 1 (joined none low 1 1 (one_here _ RAH _ e) (one_here _ RAL _ e)) (one_here _ RAH _ e)
  where
    none : List Write
    none = writes_where (λ i. moves old new && is_some old) RAH (λ i. 0) e 1

    low : List Write
    low = writes_where (λ i. changes (low_part old) (low_part new)) RAL (λ i. low_part new) e 1

    high : List Write
    high = writes_where (λ i. moves old new && is_some new) RAH (λ i. valid new) e 1

few_pool : (h : HostState) (p : ℕ) (old new : Slot) → length (pool_writes h p old new) ≤ 2
few_pool h p old new = joined flags port 1 1 (one_here _ VMOLR _ p) (one_here _ VMVIR _ p)
  where
    flags : List Write
    flags = writes_where (λ i. changes (flags_word old) (flags_word new)) VMOLR (λ i. flags_word new) p 1

    port : List Write
    port = writes_where (λ i. changes (port_word h.ids old) (port_word h.ids new)) VMVIR (λ i. port_word h.ids new) p 1

few_shared : (h : HostState) (p : ℕ) (old new : Slot) → length h.ids ≤ 64 → length (shared_writes h p old new) ≤ 66
few_shared h p old new few = joined (receives ++ sends) members 2 64 (joined receives sends 1 1 (one_here _ PFVFRE _ (p / 32)) (one_here _ PFVFTE _ (p / 32))) (omega (arith, few, half))
  where
    receives : List Write
    receives = writes_where (λ i. turns (is_on old) (is_on new)) PFVFRE (up_word h) (p / 32) 1

    sends : List Write
    sends = writes_where (λ i. turns (is_on old) (is_on new)) PFVFTE (up_word h) (p / 32) 1

    members : List Write
    members = writes_where (joins_or_leaves p old new) VLVFB (member_word h) 0 (2 * length h.ids)

    half : length members ≤ length h.ids
    half = half_where p old new VLVFB (member_word h) 0 (length h.ids)

few_writes : (h : HostState) (p : ℕ) (old : Slot) → length h.ids ≤ 64 → length (writes_of h p old) ≤ 74
unfolding writes_of
few_writes h p old few =
    joined (first ++ second ++ third) (shared_writes h p old new) 8 66
    (joined (first ++ second) third 6 2 (joined first second 3 3 (few_entry p (own_address old) (own_address new)) (few_entry (64 + p) (second_address old) (second_address new))) (few_pool h p old new))
    (few_shared h p old new few)
  where
    new : Slot
    new = slot_at h p

    first : List Write
    first = entry_writes p (own_address old) (own_address new)

    second : List Write
    second = entry_writes (64 + p) (second_address old) (second_address new)

    third : List Write
    third = pool_writes h p old new

few_answered : (h : HostState) (p : ℕ) (message : Message) → length h.ids ≤ 64 → length (writes_after h p message) ≤ 74
unfolding writes_after host_after
few_answered h p message few = few_writes (host_after h p message) p (slot_at h p) few

few_forgotten : (h : HostState) (p : ℕ) → length h.ids ≤ 64 → length (writes_without h p) ≤ 74
unfolding writes_without host_without
few_forgotten h p few = few_writes (host_without h p) p (slot_at h p) few

-- ---- the events of a message

few_events : (ws : List Write) → length ws ≤ 74 → length (write_events ws ++ []) ≤ 74
few_events ws few = omega (arith, joined (write_events ws) [] 74 0 (omega (arith, length-map ws write_event, few)) (omega arith))

few_mail : (h : HostState) (m : MailboxState) (p offset x : ℕ) → length h.ids ≤ 64 → length (events_of h (mail_turns m p offset x)) ≤ 74
few_mail h m p offset x few = go (rings offset x) (resets offset x)
  where
    go : (a b : Bool) → length (events_of h (if a then Answers p (message_of (after_write m offset x).words) ∷ [] else (if b then Forgets p ∷ [] else []))) ≤ 74
    go true b = few_events (writes_after h p (message_of (after_write m offset x).words)) (few_answered h p (message_of (after_write m offset x).words) few)
    go false true = few_events (writes_without h p) (few_forgotten h p few)
    go false false = omega arith

few_written : (c : CardState) (p offset x : ℕ) → length c.hosted.host.ids ≤ 64 → length (events_of c.hosted.host (write_turns c.hosted p offset x)) ≤ 75
few_written c p offset x few = go (takes c.hosted (VfWrite p offset x))
  where
    go : (b : Bool) → length (VfWrite p offset x ∷ events_of c.hosted.host (if b then mail_turns (mailbox_at c.hosted p) p offset x else [])) ≤ 75
    go true = omega (arith, few_mail c.hosted.host (mailbox_at c.hosted p) p offset x few)
    go false = omega arith

few_reset : (c : CardState) (p : ℕ) → length c.hosted.host.ids ≤ 64 → length (events_of c.hosted.host (reset_turns c.hosted p)) ≤ 75
few_reset c p few = go (takes c.hosted (Flr p))
  where
    go : (b : Bool) → length (Flr p ∷ events_of c.hosted.host (if b then Forgets p ∷ [] else [])) ≤ 75
    go true = omega (arith, few_events (writes_without c.hosted.host p) (few_forgotten c.hosted.host p few))
    go false = omega arith

few_asked : (c : CardState) (p : ℕ) (a : Ask) → length c.hosted.host.ids ≤ 64 → length (events_asked c p a) ≤ 75
few_asked c p (Read offset) few = omega arith
few_asked c p (WriteAsk offset x) few = few_written c p offset x few
few_asked c p Reset few = few_reset c p few
few_asked c p (Map mapping) few = omega arith
few_asked c p (Unmap range) few = omega arith
few_asked c p (Arm vectors) few = omega arith
few_asked c p (Disarm vectors) few = omega arith

few_by : (c : CardState) (p : ℕ) (a : Option Ask) (o : Option Owed) → length c.hosted.host.ids ≤ 64 → length (events_by c p a o) ≤ 75
few_by c p (Some a) (Some o) few = few_asked c p a few
few_by c p (Some a) None few = omega arith
few_by c p None o few = omega arith

pub few_heard : (p : ℕ) (c : CardState) (message : List ℕ) (files : ℕ) → IsCard c → length (events_heard c p message files) ≤ 75
few_heard p c message files is = few_by c p (received (end_at c p).session message files).asks (received (end_at c p).session message files).owed is.hosted.ids

-- ---- what the device does

world_asked : (c : CardState) (p : ℕ) (a : Ask) (o : Owed) → world_of (asked c p a o).card ≡ world_after (world_of c) (events_asked c p a)
world_asked c p (Read offset) o = refl
world_asked c p (WriteAsk offset x) o = refl
world_asked c p Reset o = refl
world_asked c p (Map mapping) o = refl
world_asked c p (Unmap range) o = refl
world_asked c p (Arm vectors) o = refl
world_asked c p (Disarm vectors) o = refl

world_by : (c : CardState) (p : ℕ) (r : Received) (a : Option Ask) (o : Option Owed) → world_of (told_by (with_session c p r) p r a o).card ≡ world_after (world_of c) (events_by c p a o)
world_by c p r (Some (Read offset)) (Some o) = world_asked (with_session c p r) p (Read offset) o
world_by c p r (Some (WriteAsk offset x)) (Some o) = world_asked (with_session c p r) p (WriteAsk offset x) o
world_by c p r (Some Reset) (Some o) = world_asked (with_session c p r) p Reset o
world_by c p r (Some (Map mapping)) (Some o) = refl
world_by c p r (Some (Unmap range)) (Some o) = refl
world_by c p r (Some (Arm vectors)) (Some o) = refl
world_by c p r (Some (Disarm vectors)) (Some o) = refl
world_by c p r (Some a) None = refl
world_by c p r None o = refl

pub world_heard : (p : ℕ) (c : CardState) (message : List ℕ) (files : ℕ) → world_of (told c p message files).card ≡ world_after (world_of c) (events_heard c p message files)
unfolding told
world_heard p c message files = world_by c p (received (end_at c p).session message files) (received (end_at c p).session message files).asks (received (end_at c p).session message files).owed
