-- Entries over a store of bytes that grows: what stood stays, and what is added is the new entry.
use Rattle.std.proofs.Common.{◌≡◌, ℕ, Bool, true, false, List, [], ◌∷◌, ◌++◌, ◌≤◌, ◌<◌, ◌+◌, length, length-append, length-drop, append_assoc, take, drop, map, refl, sym, ap, ◌∙◌, subst, true≢false, arith}
use Rattle.std.specs.List.{All}
use Rattle.std.proofs.Math.Seq.{drop-append_seam}
use Rattle.std.proofs.lemmas.List.{length-map, map-append, take-append-le, drop-append-le, take_all}
use Rattle.std.proofs.lemmas.List.Elements.{All-head, All-tail, All-weaker, All-push}
use Rattle.device.specs.Events.{Event}
use Rattle.device.specs.declared.event.Event.TheVariants.{Open}
use Rattle.device.specs.declared.event.Reply.TheVariants.{Done, Value, Bytes, Idle, More, Sent, Dropped, Faulted, Refused}
use Rattle.device.specs.Outcome.{Outcome, reply_of}
use Rattle.history.specs.declared.head.Head.{Head}
use Rattle.history.specs.Entries.{Kept, entry, brings}
use Rattle.history.specs.Heads.{head_of, kind_of, event_with, reply_with, reads, moved, IsSound, words_len, messages_with, part, moved_of, words_of, entry_of, Stands}

-- ---- parts of a store

-- a part stays where more is added behind it
part_old : (store more : List ℕ) (start count : ℕ) → start + count ≤ length store → part (store ++ more) start count ≡ part store start count
part_old store more start count h =
    ap (take count) (drop-append-le start store more (omega arith))
    ∙ take-append-le count (drop start store) more (let l = length-drop start store in omega arith)

-- what is added last is the part at the old end
part_end : (store more : List ℕ) → part (store ++ more) (length store) (length more) ≡ more
part_end store more = ap (take (length more)) (drop-append_seam store more) ∙ take_all (length more) more (omega arith)

-- ---- entries that stay

entry_stays : (store more : List ℕ) (h : Head) → Stands store h → entry_of (store ++ more) h ≡ entry_of store h
entry_stays store more h s =
    let i = s.inside in
    let bytes = part_old store more h.start h.count (omega arith) in
    let words = part_old store more (h.start + h.count) (words_len h.vectors) i in
    λ k. entry h.caller (event_with (bytes k) h.event) (record { reply = reply_with (bytes k) h.reply; raised = messages_with h.vectors (words k) })

stands_on : (store more : List ℕ) (h : Head) → Stands store h → Stands (store ++ more) h
stands_on store more h s = record {
  inside = let i = s.inside in let l = length-append store more in omega arith;
  sound = let P : List ℕ → Type 0 = λ bytes. IsSound (event_with bytes h.event) in
      subst P (sym (part_old store more h.start h.count (let i = s.inside in omega arith))) s.sound;
}

entries_stay : (store more : List ℕ) (hs : List Head) → All (Stands store) hs → map (entry_of (store ++ more)) hs ≡ map (entry_of store) hs
entries_stay store more [] all = refl
entries_stay store more (h ∷ hs) all =
    ap (λ e. e ∷ map (entry_of (store ++ more)) hs) (entry_stays store more h (All-head (Stands store) h hs all))
    ∙ ap (λ es. entry_of store h ∷ es) (entries_stay store more hs (All-tail (Stands store) h hs all))

-- ---- a call as a head and bytes

-- the event comes back from its head and the bytes
event_back : (cells : List ℕ) (e : Event) (o : Outcome) → event_with (moved cells e o) (head_of e) ≡ e
event_back cells (Open p) o = refl
event_back cells e o = refl

-- and so does the reply, since an event that brings bytes reads none
reply_back : (cells : List ℕ) (e : Event) (o : Outcome) → (brings e ≡ true → reads o ≡ false) → reply_with (moved cells e o) (kind_of o) ≡ reply_of cells o
reply_back cells e Done alone = refl
reply_back cells e (Value x) alone = refl
reply_back cells e (Bytes read) alone = by (brings e) refl
  where
    by : (b : Bool) → brings e ≡ b → reply_with (moved cells e (Bytes read)) (kind_of (Bytes read)) ≡ reply_of cells (Bytes read)
    by true is = absurd (true≢false (alone is))
    by false is = rw is refl
reply_back cells e Idle alone = refl
reply_back cells e More alone = refl
reply_back cells e Sent alone = refl
reply_back cells e Dropped alone = refl
reply_back cells e Faulted alone = refl
reply_back cells e (Refused fault) alone = refl

-- what is added to a store, and the head of it, for a call
pub record Adds (cells : List ℕ) (e : Event) (o : Outcome) (messages store store' : List ℕ) (h : Head) : Type 0 where
  pub words : List ℕ
  pub grown : store' ≡ (store ++ moved cells e o) ++ words
  pub event : h.event ≡ head_of e
  pub kind : h.reply ≡ kind_of o
  pub start : h.start ≡ length store
  pub count : h.count ≡ length (moved cells e o)
  pub words_count : length words ≡ words_len h.vectors
  pub messages_back : messages_with h.vectors words ≡ messages
  pub alone : brings e ≡ true → reads o ≡ false

moved_added : (cells : List ℕ) (e : Event) (o : Outcome) (messages store store' : List ℕ) (h : Head) → Adds cells e o messages store store' h → moved_of store' h ≡ moved cells e o
moved_added cells e o messages store store' h a =
    (λ k. part (a.grown k) (a.start k) (a.count k))
    ∙ part_old (store ++ moved cells e o) a.words (length store) (length (moved cells e o)) (let l = length-append store (moved cells e o) in omega arith)
    ∙ part_end store (moved cells e o)

words_added : (cells : List ℕ) (e : Event) (o : Outcome) (messages store store' : List ℕ) (h : Head) (a : Adds cells e o messages store store' h) → words_of store' h ≡ a.words
words_added cells e o messages store store' h a =
    let place : h.start + h.count ≡ length (store ++ moved cells e o) = let s = a.start in let c = a.count in let l = length-append store (moved cells e o) in omega arith in
    (λ k. part (a.grown k) (place k) (sym a.words_count k)) ∙ part_end (store ++ moved cells e o) a.words

-- the new entry
entry_added : (cells : List ℕ) (e : Event) (o : Outcome) (messages store store' : List ℕ) (h : Head) → Adds cells e o messages store store' h
    → entry_of store' h ≡ entry h.caller e (record { reply = reply_of cells o; raised = messages })
entry_added cells e o messages store store' h a =
    let bytes = moved_added cells e o messages store store' h a in
    let event : event_with (moved_of store' h) h.event ≡ e = (λ k. event_with (bytes k) (a.event k)) ∙ event_back cells e o in
    let reply : reply_with (moved_of store' h) h.reply ≡ reply_of cells o = (λ k. reply_with (bytes k) (a.kind k)) ∙ reply_back cells e o a.alone in
    let raised : messages_with h.vectors (words_of store' h) ≡ messages = ap (messages_with h.vectors) (words_added cells e o messages store store' h a) ∙ a.messages_back in
    λ k. entry h.caller (event k) (record { reply = reply k; raised = raised k })

whole : (cells : List ℕ) (e : Event) (o : Outcome) (messages store store' : List ℕ) (h : Head) (a : Adds cells e o messages store store' h) → store' ≡ store ++ (moved cells e o ++ a.words)
whole cells e o messages store store' h a = a.grown ∙ append_assoc store (moved cells e o) a.words

-- all entries
pub entries_added : (cells : List ℕ) (e : Event) (o : Outcome) (messages store store' : List ℕ) (hs hs' : List Head) (h : Head) → Adds cells e o messages store store' h
    → hs' ≡ hs ++ h ∷ [] → All (Stands store) hs
    → map (entry_of store') hs' ≡ map (entry_of store) hs ++ entry h.caller e (record { reply = reply_of cells o; raised = messages }) ∷ []
entries_added cells e o messages store store' hs hs' h a more all =
    let former : map (entry_of store') hs ≡ map (entry_of store) hs =
    ap (λ (bytes : List ℕ). map (entry_of bytes) hs) (whole cells e o messages store store' h a) ∙ entries_stay store (moved cells e o ++ a.words) hs all in
    ap (map (entry_of store')) more ∙ map-append (entry_of store') hs (h ∷ [])
    ∙ (λ k. former k ++ entry_added cells e o messages store store' h a k ∷ [])

-- and all heads' bytes stand in the store
pub heads_stand : (cells : List ℕ) (e : Event) (o : Outcome) (messages store store' : List ℕ) (hs hs' : List Head) (h : Head) → Adds cells e o messages store store' h
    → hs' ≡ hs ++ h ∷ [] → IsSound e → All (Stands store) hs → All (Stands store') hs'
heads_stand cells e o messages store store' hs hs' h a more sound all =
    let bytes = moved_added cells e o messages store store' h a in
    let event : event_with (moved_of store' h) h.event ≡ e = (λ k. event_with (bytes k) (a.event k)) ∙ event_back cells e o in
    let here : Stands store' h = record {
      inside =
          let s = a.start in let c = a.count in let n = a.words_count in
          let l = ap (length {A = ℕ}) a.grown in
          let one = length-append (store ++ moved cells e o) a.words in
          let two = length-append store (moved cells e o) in
          omega arith;
      sound = let P : Event → Type 0 = λ x. IsSound x in subst P (sym event) sound;
    } in
    let added : List ℕ = moved cells e o ++ a.words in
    let still : All (Stands (store ++ added)) hs = All-weaker (Stands store) (Stands (store ++ added)) (stands_on store added) hs all in
    let P : List ℕ → Type 0 = λ xs. All (Stands xs) hs in
    let Q : List Head → Type 0 = λ xs. All (Stands store') xs in
    subst Q (sym more) (All-push (Stands store') hs h (subst P (sym (whole cells e o messages store store' h a)) still) here)

-- there is room for one more head
pub room_left : (store : List ℕ) (hs : List Head) (cap n : ℕ) (v : Kept) → record { entries = map (entry_of store) hs; cap = cap } ≡ v → length v.entries < v.cap → length hs ≡ n → n < cap
room_left store hs cap n v is less same =
    let entries : length (map (entry_of store) hs) ≡ length v.entries = ap (λ (w : Kept). length w.entries) is in
    let most : cap ≡ v.cap = ap (λ (w : Kept). w.cap) is in
    let long = length-map hs (entry_of store) in
    omega arith
