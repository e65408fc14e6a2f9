-- The bytes that are added are those of the new entry.
use Rattle.std.proofs.Common.{rules, ◌<◌, [], ◌∷◌, ◌++◌, ℕ, List, map, length, vec_len, ap, ◌∙◌, arith}
use Rattle.device.specs.Request.{event_of}
use Rattle.device.specs.Outcome.{answer_of}
use Rattle.history.specs.declared.caller.Caller.{Caller}
use Rattle.history.specs.Entries.{Entry, entry}
use Rattle.history.specs.Heads.{entry_of, packed}
use Rattle.history.proofs.StoreLemmas.{Adds, entries_added, heads_stand, room_left}
use Rattle.history.proofs.history.History.push.Goals as goal

adds : (c : goal.After-push_reserved)
    → Adds c.args.room.now.bytes (event_of c.args.request) c.args.response.now.outcome c.args.response.now.messages c.self.inside.store.items c.append_words-vectors.new.store.items
    (record { event = c.head_of.result; reply = c.kind_of.result; start = c.len-start.result; count = length c.moved-bytes.result.now; caller = c.new.result; vectors = c.append_words-vectors.result })
adds c =
    let words = c.append_words-vectors.ensures in
    let bytes = c.moved-bytes.ensures.bytes in
    record {
      words = packed c.words.result;
      grown = ◌∙◌ {A = List ℕ} words.items
          (ap (λ (xs : List ℕ). xs ++ packed c.words.result) (◌∙◌ {A = List ℕ} c.append.ensures.items (ap (λ (xs : List ℕ). c.self.inside.store.items ++ xs) bytes)));
      event = c.head_of.ensures;
      kind = c.kind_of.ensures;
      start = search rules;
      count = ap (length {A = ℕ}) bytes;
      words_count = words.count;
      messages_back = words.kept ∙ c.words.ensures;
      alone = c.requires.alone;
    }

pub invariant_of-self : goal.invariant_of-self
invariant_of-self c =
    let old = c.self.invariant in
    let bytes = c.append.ensures in
    let words = c.append_words-vectors.ensures in
    let head = c.push_reserved.ensures in
    record {
      stand = heads_stand _ _ _ _ _ _ _ _ _ (adds c) head.items c.moved-bytes.ensures.sound old.stand;
      short = let less : vec_len c.self.inside.heads < c.self.inside.cap = room_left _ _ _ _ _ c.self.view_is c.requires.room (search rules) in let l = head.len in omega arith;
      few = old.few;
      room = let k = head.capacity in let r = old.room in omega arith;
      bytes = let l = head.len in let a = bytes.len in let m = c.moved-bytes.ensures.most in let b = words.len in let n = words.most in let o = old.bytes in omega arith;
      bytes_room = let a = bytes.capacity in let b = words.capacity in let o = old.bytes_room in omega arith;
    }

pub returns-clause-entries : goal.returns-clause-entries
returns-clause-entries c =
    let before : List Entry = map (entry_of c.self.inside.store.items) c.self.inside.heads.items in
    let by : Caller → List Entry = λ who. before ++ entry who (event_of c.args.request) (answer_of c.args.room.now c.args.response.now) ∷ [] in
    rw (← c.self.view_is) (entries_added _ _ _ _ _ _ _ _ _ (adds c) c.push_reserved.ensures.items c.self.invariant.stand ∙ ap by c.new.ensures)
