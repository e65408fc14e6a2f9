-- The pools of ports, and one port's end more that is recorded.
use Rattle.std.proofs.Common.{◌≡◌, ℕ, ◌+◌, ◌<◌, ◌≤◌, List, [], ◌∷◌, ◌++◌, get_or, length, map, set, take, refl, sym, ap, ◌∙◌, subst, arith}
use Rattle.std.specs.Prelude.{slice_index_or}
use Rattle.std.proofs.lemmas.List.{get_or-set_same, length-set, map-append, take_all, take_more}
use Rattle.device.specs.Events.{Event}
use Rattle.device.specs.declared.event.Answer.{Answer}
use Rattle.device.specs.declared.event.Event.TheVariants.{End}
use Rattle.history.specs.declared.caller.Caller.TheVariants.{Service}
use Rattle.recorder.specs.Held.{HasAsked, CallerLog}
use Rattle.guest_port.specs.Calls.{CallingPort}
use Rattle.guest_port.specs.Notes.{Known}
use Rattle.workers.specs.Ends.{HaveEnded, pool_of, port_end}
use Rattle.workers.specs.Asked.{HasTold}
use Rattle.workers.proofs.Asks.{asked_behind, asked_none, asked_one}

-- ---- the pools of the ports so far

-- what a function gives of the first of a list, and of the next
map_more : {A B : Type 0} (f : A → B) (xs : List A) (k : ℕ) (x : A) → k < length xs → x ≡ get_or xs k x → map f (take k xs) ++ f x ∷ [] ≡ map f (take (k + 1) xs)
map_more f xs k x less is = sym (map-append f (take k xs) (x ∷ [])) ∙ ap (map f) (ap (λ y. take k xs ++ y ∷ []) is ∙ sym (take_more xs k x less))

pub pools_more : (ports : List (CallingPort × Known)) (k : ℕ) (p : CallingPort × Known) (old new : List ℕ) (pool : ℕ) → k < length ports → p ≡ slice_index_or ports k p → pool ≡ p.0.port.pool
    → old ≡ map pool_of (take k ports) → new ≡ old ++ pool ∷ [] → new ≡ map pool_of (take (k + 1) ports)
pools_more ports k p old new pool less is here before more = more ∙ (λ i. before i ++ here i ∷ []) ∙ map_more pool_of ports k p less is

pub pools_all : (ports : List (CallingPort × Known)) (k : ℕ) (pools : List ℕ) → length ports ≤ k → pools ≡ map pool_of (take k ports) → pools ≡ map pool_of ports
pools_all ports k pools through are = are ∙ ap (map pool_of) (take_all k ports through)

-- ---- the ends of the ports of the pools so far

pub ending_begins : (old : CallerLog) → HasAsked [] old old
ending_begins old = asked_none old

pub ending_more : (pools : List ℕ) (k pool : ℕ) (answer : Answer) (old mid new : CallerLog) → k < length pools → pool ≡ slice_index_or pools k pool → HasAsked (map End (take k pools)) old mid → HasTold (End pool) answer mid new
    → HasAsked (map End (take (k + 1) pools)) old new
ending_more pools k pool answer old mid new less is before more =
    subst (λ (es : List Event). HasAsked es old new) (map_more End pools k pool less is) (asked_behind (map End (take k pools)) (End pool ∷ []) old mid new before (asked_one (End pool) answer mid new more))

pub ending_all : (pools : List ℕ) (k : ℕ) (old new : CallerLog) → length pools ≤ k → HasAsked (map End (take k pools)) old new → HasAsked (map End pools) old new
ending_all pools k old new through asked = subst (λ (ps : List ℕ). HasAsked (map End ps) old new) (take_all k pools through) asked

pub ends_of_ports : (ports : List (CallingPort × Known)) → map End (map pool_of ports) ≡ map port_end ports
ends_of_ports [] = refl
ends_of_ports (p ∷ ports) = ap (λ (es : List Event). port_end p ∷ es) (ends_of_ports ports)

-- the service's share, which stands at a place, asked the ends of all ports
pub have_ended : (ports : List (CallingPort × Known)) (pools : List ℕ) (shares : List CallerLog) (at : ℕ) (before share : CallerLog) → at < length shares → before.caller ≡ Service → pools ≡ map pool_of ports
    → HasAsked (map End pools) before share → HaveEnded ports (set shares at share)
have_ended ports pools shares at before share less is noted asked =
    record {
      before = before;
      after = share;
      service = is;
      asked = subst (λ (es : List Event). HasAsked es before share) (ap (map End) noted ∙ ends_of_ports ports) asked;
      among = (at, (let l = length-set shares at share in omega (arith, less, l)), get_or-set_same shares at share share less);
    }
