-- What many workers did, one by one, and whose the shares are that they leave.
use Rattle.std.proofs.Common.{◌≡◌, ℕ, suc, ◌+◌, ◌<◌, ◌≤◌, false, not, cond, List, [], ◌∷◌, ◌++◌, filter, length, map, refl, sym, ap, ◌∙◌, get_or, set, subst, take, append_assoc, arith, true, Bool}
use Rattle.std.specs.Prelude.{IfSome, MatchOption, None, Option, Some, slice_index_or, slice_set}
use Rattle.std.proofs.lemmas.List.{append-nil, length-append, length-set, map-append, take_more}
use Rattle.std.proofs.Math.Seq.{get_or-append_seam, set-append_seam}
use Rattle.device.specs.Events.{Event}
use Rattle.device.specs.declared.event.Event.TheVariants.{End}
use Rattle.history.specs.declared.caller.Caller.{Caller}
use Rattle.history.specs.declared.caller.Caller.TheVariants.{Port, Driver, Pump, Service}
use Rattle.recorder.specs.Held.{HasAsked, CallerLog, having_calls, left_of}
use Rattle.recorder.specs.declared.shares.Shares.{Shares}
use Rattle.guest_port.specs.Calls.{CallingPort}
use Rattle.guest_port.specs.Notes.{Known}
use Rattle.workers.specs.Calls.{HasClosed}
use Rattle.workers.specs.Duties.{AreDone, Duty, HaveDone, IsDone, OfPort, OfShare, port_duty}
use Rattle.workers.specs.Plans.{Planned, own_events}
use Rattle.workers.specs.Ends.{pool_of, port_end}
use Rattle.workers.specs.Run.{HaveRun, duties_of, has_share, shares_back, with_ports}
use Rattle.workers.proofs.Asks.{asked_behind, same_caller}
use Rattle.workers.proofs.Closing.{ends_of_ports}

-- ---- one worker

pub one_done : (duty : Duty) (share : CallerLog) (old new : List CallerLog) → IsDone duty (Some share) → new ≡ old ++ share ∷ [] → HaveDone (duty ∷ []) old new
one_done duty share old new done behind = record { left = Some share ∷ []; done = (done, tt); behind = behind }

pub none_left : (duty : Duty) (old new : List CallerLog) → IsDone duty None → new ≡ old → HaveDone (duty ∷ []) old new
none_left duty old new done same = record { left = None ∷ []; done = (done, tt); behind = same ∙ sym (append-nil old) }

-- what a port's worker says of it
pub handed_back : (plan : Planned) (old new : CallingPort) (left : Option CallerLog) → HasClosed (own_events plan (Port old.port.pool)) old new
    → MatchOption left (old.port.is_closed ≡ true) (λ share. (old.port.is_closed ≡ false) × (share.caller ≡ Port old.port.pool)) → IfSome left (λ share. share ≡ having_calls new.calls new.made) → IsDone (OfPort plan old) left
handed_back plan old new None done seat calls = record { new = new; done = done; share = seat }
handed_back plan old new (Some share) done seat calls = record { new = new; done = done; share = (seat.0, seat.1, calls) }

-- ---- many

are_done_more : (duties more : List Duty) (left rest : List (Option CallerLog)) → AreDone duties left → AreDone more rest → AreDone (duties ++ more) (left ++ rest)
are_done_more [] more [] rest are also = also
are_done_more [] more (l ∷ left) rest are also = absurd are
are_done_more (d ∷ duties) more [] rest are also = absurd are
are_done_more (d ∷ duties) more (l ∷ left) rest are also = (are.0, are_done_more duties more left rest are.1 also)

pub left_behind : (left rest : List (Option CallerLog)) → left_of (left ++ rest) ≡ left_of left ++ left_of rest
left_behind [] rest = refl
left_behind (None ∷ left) rest = left_behind left rest
left_behind (Some m ∷ left) rest = ap (λ (ms : List CallerLog). m ∷ ms) (left_behind left rest)

pub done_more : (duties more : List Duty) (old mid new : List CallerLog) → HaveDone duties old mid → HaveDone more mid new → HaveDone (duties ++ more) old new
done_more duties more old mid new before after = record {
  left = before.left ++ after.left;
  done = are_done_more duties more before.left after.left before.done after.done;
  behind =
      after.behind ∙ ap (λ (ms : List CallerLog). ms ++ left_of after.left) before.behind
      ∙ (append_assoc old (left_of before.left) (left_of after.left) ∙ ap (λ (ms : List CallerLog). old ++ ms) (sym (left_behind before.left after.left)));
}

-- what one port's worker more is to do
pub duty_more : (plan : Planned) (before now after : List Duty) (ports : List (CallingPort × Known)) (p : CallingPort × Known) → now ≡ before ++ map (port_duty plan) ports → after ≡ now ++ OfPort plan p.0 ∷ [] → after ≡ before ++ map (port_duty plan) (ports ++ p ∷ [])
duty_more plan before now after ports p is more =
    more ∙ ap (λ (xs : List Duty). xs ++ OfPort plan p.0 ∷ []) is
    ∙ (append_assoc before (map (port_duty plan) ports) (OfPort plan p.0 ∷ []) ∙ ap (λ (xs : List Duty). before ++ xs) (sym (map-append (port_duty plan) ports (p ∷ []))))

-- what all are to do, from the starts one by one
pub all_duties : {L : Type 0} (plan : Planned) (ports : List (CallingPort × Known)) (shares : Shares L) (pf_share pump_share service_share : CallerLog) (none guests with_pf with_pump all : List Duty)
    → pf_share ≡ shares.pf → pump_share ≡ shares.pump → service_share ≡ shares.service → none ≡ [] → guests ≡ none ++ map (port_duty plan) ports → with_pf ≡ guests ++ OfShare plan pf_share ∷ []
    → with_pump ≡ with_pf ++ OfShare plan pump_share ∷ [] → all ≡ with_pump ++ OfShare plan service_share ∷ [] → all ≡ duties_of plan ports shares
all_duties plan ports shares pf_share pump_share service_share none guests with_pf with_pump all is_pf is_pump is_service n g a b c =
    let ds : List Duty = map (port_duty plan) ports in
    let p : Duty = OfShare plan pf_share in let q : Duty = OfShare plan pump_share in let s : Duty = OfShare plan service_share in
    c ∙ ap (λ (xs : List Duty). xs ++ s ∷ []) (b ∙ ap (λ (xs : List Duty). xs ++ q ∷ []) (a ∙ ap (λ (xs : List Duty). xs ++ p ∷ []) (g ∙ ap (λ (xs : List Duty). xs ++ ds) n)))
    ∙ (ap (λ (xs : List Duty). xs ++ s ∷ []) (append_assoc ds (p ∷ []) (q ∷ [])) ∙ append_assoc ds (p ∷ q ∷ []) (s ∷ []))
    ∙ (λ i. ds ++ OfShare plan (is_pf i) ∷ OfShare plan (is_pump i) ∷ OfShare plan (is_service i) ∷ [])

-- what one worker more did
pub worked_more : {X : Type 0} (xs : List X) (x : X) (duty : X → Duty) (old mid new : List CallerLog) → HaveDone (map duty xs) old mid → HaveDone (duty x ∷ []) mid new → HaveDone (map duty (xs ++ x ∷ [])) old new
worked_more xs x duty old mid new before more = subst (λ (ds : List Duty). HaveDone ds old new) (sym (map-append duty xs (x ∷ []))) (done_more (map duty xs) (duty x ∷ []) old mid new before more)

pub done_with : {L : Type 0} (plan : Planned) (ports : List (CallingPort × Known)) (shares : Shares L) (all : List Duty) (back new : List CallerLog) → all ≡ duties_of plan ports shares → back ≡ left_of shares.ports.items → HaveDone all back new
    → HaveDone (duties_of plan ports shares) (left_of shares.ports.items) new
done_with plan ports shares all back new duties others done =
    subst (λ (ds : List Duty). HaveDone ds (left_of shares.ports.items) new) duties (subst (λ (ms : List CallerLog). HaveDone all ms new) others done)

-- ---- whose the shares are

record Split (duties more : List Duty) (all : List (Option CallerLog)) : Type 0 where
  pub left : List (Option CallerLog)
  pub rest : List (Option CallerLog)
  pub is : all ≡ left ++ rest
  pub done : AreDone duties left
  pub also : AreDone more rest

split_done : (duties more : List Duty) (all : List (Option CallerLog)) → AreDone (duties ++ more) all → Split duties more all
split_done [] more all are = record { left = []; rest = all; is = refl; done = tt; also = are }
split_done (d ∷ duties) more [] are = absurd are
split_done (d ∷ duties) more (l ∷ all) are =
    let s = split_done duties more all are.1 in
    record { left = l ∷ s.left; rest = s.rest; is = ap (λ (ms : List (Option CallerLog)). l ∷ ms) s.is; done = (are.0, s.done); also = s.also }

-- the three shares that are left where there is no port
pub record Three (plan : Planned) (pf_share pump_share service_share : CallerLog) (left : List (Option CallerLog)) : Type 0 where
  pub pf_left : CallerLog
  pub pf_asked : HasAsked (own_events plan pf_share.caller) pf_share pf_left
  pub pump_left : CallerLog
  pub pump_asked : HasAsked (own_events plan pump_share.caller) pump_share pump_left
  pub service_left : CallerLog
  pub service_asked : HasAsked (own_events plan service_share.caller) service_share service_left
  pub all : left_of left ≡ pf_left ∷ pump_left ∷ service_left ∷ []

three_done : (plan : Planned) (a b c : CallerLog) (left : List (Option CallerLog)) → AreDone (OfShare plan a ∷ OfShare plan b ∷ OfShare plan c ∷ []) left → Three plan a b c left
three_done plan a b c [] are = absurd are
three_done plan a b c (p ∷ []) are = absurd are.1
three_done plan a b c (p ∷ q ∷ []) are = absurd are.1.1
three_done plan a b c (p ∷ q ∷ r ∷ []) are = record {
  pf_left = are.0.0;
  pf_asked = are.0.2;
  pump_left = are.1.0.0;
  pump_asked = are.1.0.2;
  service_left = are.1.1.0.0;
  service_asked = are.1.1.0.2;
  all = λ i. left_of (are.0.1 i ∷ are.1.0.1 i ∷ are.1.1.0.1 i ∷ []);
}
three_done plan a b c (p ∷ q ∷ r ∷ s ∷ left) are = absurd are.1.1.1

-- before the ends of ports are recorded, the last share is the service's
pub record IsRun {L : Type 0} (plan : Planned) (ports : List (CallingPort × Known)) (shares : Shares L) (now : List CallerLog) : Type 0 where
  pub left : List (Option CallerLog)
  pub ports_done : AreDone (map (port_duty plan) ports) left
  pub three : List (Option CallerLog)
  pub others : Three plan shares.pf shares.pump shares.service three
  pub all : now ≡ (left_of shares.ports.items ++ left_of left ++ others.pf_left ∷ others.pump_left ∷ []) ++ others.service_left ∷ []

last_apart : (front left : List CallerLog) (a b c : CallerLog) → front ++ left ++ a ∷ b ∷ c ∷ [] ≡ (front ++ left ++ a ∷ b ∷ []) ++ c ∷ []
last_apart front left a b c = sym (append_assoc (front ++ left) (a ∷ b ∷ []) (c ∷ []))

pub is_run : {L : Type 0} (plan : Planned) (ports : List (CallingPort × Known)) (shares : Shares L) (now : List CallerLog) → HaveDone (duties_of plan ports shares) (left_of shares.ports.items) now → IsRun plan ports shares now
is_run plan ports shares now done =
    let s = split_done (map (port_duty plan) ports) (OfShare plan shares.pf ∷ OfShare plan shares.pump ∷ OfShare plan shares.service ∷ []) done.left done.done in
    let three = three_done plan shares.pf shares.pump shares.service s.rest s.also in
    record {
      left = s.left;
      ports_done = s.done;
      three = s.rest;
      others = three;
      all =
          done.behind ∙ ap (λ (ms : List CallerLog). left_of shares.ports.items ++ ms) (ap left_of s.is ∙ left_behind s.left s.rest ∙ ap (λ (ms : List CallerLog). left_of s.left ++ ms) three.all)
          ∙ sym (append_assoc (left_of shares.ports.items) (left_of s.left) (three.pf_left ∷ three.pump_left ∷ three.service_left ∷ [])) ∙ last_apart (left_of shares.ports.items) (left_of s.left) three.pf_left three.pump_left three.service_left;
    }

front_length : (at : ℕ) (front now : List CallerLog) (last : CallerLog) → now ≡ front ++ last ∷ [] → at + 1 ≡ length now → at ≡ length front
front_length at front now last is many = let l = ap length is in let n = length-append front (last ∷ []) in omega (arith, l, n, many)

last_is : (at : ℕ) (front now : List CallerLog) (last d : CallerLog) → now ≡ front ++ last ∷ [] → at + 1 ≡ length now → get_or now at d ≡ last
last_is at front now last d is many =
    ap (λ (ms : List CallerLog). get_or ms at d) is ∙ (ap (λ (k : ℕ). get_or (front ++ last ∷ []) k d) (front_length at front now last is many) ∙ get_or-append_seam front last [] d)

last_set : (at : ℕ) (front now : List CallerLog) (last new : CallerLog) → now ≡ front ++ last ∷ [] → at + 1 ≡ length now → set now at new ≡ front ++ new ∷ []
last_set at front now last new is many =
    ap (λ (ms : List CallerLog). set ms at new) is ∙ (ap (λ (k : ℕ). set (front ++ last ∷ []) k new) (front_length at front now last is many) ∙ set-append_seam front last [] new)

pub last_caller : {L : Type 0} (plan : Planned) (ports : List (CallingPort × Known)) (shares : Shares L) (now : List CallerLog) (at : ℕ) (share : CallerLog) → shares.service.caller ≡ Service → HaveDone (duties_of plan ports shares) (left_of shares.ports.items) now
    → at + 1 ≡ length now → share ≡ get_or now at share → share.caller ≡ Service
last_caller plan ports shares now at share own done many is =
    let r = is_run plan ports shares now done in
    ap (λ (m : CallerLog). m.caller) (is ∙ last_is at (left_of shares.ports.items ++ left_of r.left ++ r.others.pf_left ∷ r.others.pump_left ∷ []) now r.others.service_left share r.all many)
    ∙ same_caller (own_events plan shares.service.caller) shares.service r.others.service_left r.others.service_asked ∙ own

has_run : {L : Type 0} (plan : Planned) (ports : List (CallingPort × Known)) (pools : List ℕ) (shares : Shares L) (now : List CallerLog) (at : ℕ) (before share : CallerLog) → shares.pf.caller ≡ Driver → shares.pump.caller ≡ Pump → shares.service.caller ≡ Service
    → HaveDone (duties_of plan ports shares) (left_of shares.ports.items) now → at + 1 ≡ length now → before ≡ get_or now at before → pools ≡ map pool_of ports → HasAsked (map End pools) before share
    → HaveRun plan ports shares (set now at share)
has_run plan ports pools shares now at before share own_pf own_pump own_service done many is noted asked =
    let r = is_run plan ports shares now done in
    let front : List CallerLog = left_of shares.ports.items ++ left_of r.left ++ r.others.pf_left ∷ r.others.pump_left ∷ [] in
    let same : before ≡ r.others.service_left = is ∙ last_is at front now r.others.service_left before r.all many in
    let ends : HasAsked (map port_end ports) r.others.service_left share =
    subst (λ (es : List Event). HasAsked es r.others.service_left share) (ap (map End) noted ∙ ends_of_ports ports) (subst (λ (m : CallerLog). HasAsked (map End pools) m share) same asked) in
    record {
      left = r.left;
      ports_done = r.ports_done;
      pf_left = r.others.pf_left;
      pf_asked = subst (λ (c : Caller). HasAsked (own_events plan c) shares.pf r.others.pf_left) own_pf r.others.pf_asked;
      pump_left = r.others.pump_left;
      pump_asked = subst (λ (c : Caller). HasAsked (own_events plan c) shares.pump r.others.pump_left) own_pump r.others.pump_asked;
      service_left = share;
      service_asked =
          asked_behind (own_events plan Service) (map port_end ports) shares.service r.others.service_left share
          (subst (λ (c : Caller). HasAsked (own_events plan c) shares.service r.others.service_left) own_service r.others.service_asked) ends;
      all = last_set at front now r.others.service_left share r.all many ∙ sym (last_apart (left_of shares.ports.items) (left_of r.left) r.others.pf_left r.others.pump_left share);
    }

-- by a plan that is this one
pub have_run : {L : Type 0} (plan own : Planned) (ports : List (CallingPort × Known)) (pools : List ℕ) (shares : Shares L) (now : List CallerLog) (at : ℕ) (before share : CallerLog) → own ≡ plan → shares.pf.caller ≡ Driver → shares.pump.caller ≡ Pump
    → shares.service.caller ≡ Service → HaveDone (duties_of own ports shares) (left_of shares.ports.items) now → at + 1 ≡ length now → before ≡ get_or now at before → pools ≡ map pool_of ports → HasAsked (map End pools) before share
    → HaveRun plan ports shares (set now at share)
have_run plan own ports pools shares now at before share same own_pf own_pump own_service done many is noted asked =
    subst (λ (p : Planned). HaveRun p ports shares (set now at share)) same (has_run own ports pools shares now at before share own_pf own_pump own_service done many is noted asked)

-- ---- how many shares come back

-- each port that is not closed leaves its share
ports_left : (plan : Planned) (ports : List (CallingPort × Known)) (left : List (Option CallerLog)) → AreDone (map (port_duty plan) ports) left → length (left_of left) ≡ length (filter has_share ports)
ports_left plan [] [] are = refl
ports_left plan [] (l ∷ left) are = absurd are
ports_left plan (p ∷ ports) [] are = absurd are
ports_left plan (p ∷ ports) (None ∷ left) are =
    ports_left plan ports left are.1 ∙ sym (ap (λ (b : Bool). length (cond (not b) (p ∷ filter has_share ports) (filter has_share ports))) are.0.share)
ports_left plan (p ∷ ports) (Some m ∷ left) are =
    ap suc (ports_left plan ports left are.1) ∙ sym (ap (λ (b : Bool). length (cond (not b) (p ∷ filter has_share ports) (filter has_share ports))) are.0.share.0)

all_back : {L : Type 0} (plan : Planned) (ports : List (CallingPort × Known)) (shares : Shares L) (now : List CallerLog) → HaveDone (duties_of plan ports shares) (left_of shares.ports.items) now → length now ≡ shares_back shares ports
all_back plan ports shares now done =
    let r = is_run plan ports shares now done in
    let l = left_of r.left in
    let there = ports_left plan ports r.left r.ports_done in
    let whole = ap length r.all in
    let a = length-append (left_of shares.ports.items ++ l ++ r.others.pf_left ∷ r.others.pump_left ∷ []) (r.others.service_left ∷ []) in
    let b = length-append (left_of shares.ports.items ++ l) (r.others.pf_left ∷ r.others.pump_left ∷ []) in
    let c = length-append (left_of shares.ports.items) l in
    omega (arith, whole, a, b, c, there)

-- as many where one of them has asked more
pub all_set : {L : Type 0} (plan : Planned) (ports : List (CallingPort × Known)) (shares : Shares L) (now : List CallerLog) (at : ℕ) (share : CallerLog) → HaveDone (duties_of plan ports shares) (left_of shares.ports.items) now
    → length (set now at share) ≡ shares_back shares ports
all_set plan ports shares now at share done = length-set now at share ∙ all_back plan ports shares now done

-- the service's is there
pub some_back : {L : Type 0} (plan : Planned) (ports : List (CallingPort × Known)) (shares : Shares L) (now : List CallerLog) → HaveDone (duties_of plan ports shares) (left_of shares.ports.items) now → 1 ≤ length now
some_back plan ports shares now done = let l = all_back plan ports shares now done in omega (arith, l)

-- ---- which pools have a port

ports_last : (pools : List Bool) (ports : List (CallingPort × Known)) (p : CallingPort × Known) → with_ports pools (ports ++ p ∷ []) ≡ slice_set (with_ports pools ports) p.0.port.pool true
ports_last pools [] p = refl
ports_last pools (x ∷ ports) p = ports_last (slice_set pools x.0.port.pool true) ports p

pub ports_more : (none : List Bool) (ports : List (CallingPort × Known)) (k : ℕ) (p : CallingPort × Known) (pools : List Bool) (at : ℕ) → k < length ports → p ≡ slice_index_or ports k p → at ≡ p.0.port.pool
    → pools ≡ with_ports none (take k ports) → slice_set pools at true ≡ with_ports none (take (k + 1) ports)
ports_more none ports k p pools at less is here before =
    (λ i. slice_set (before i) (here i) true)
    ∙ (sym (ports_last none (take k ports) p) ∙ ap (with_ports none) (ap (λ (x : CallingPort × Known). take k ports ++ x ∷ []) is ∙ sym (take_more ports k p less)))
