-- The key that the entry held and the one that it holds are brought up to date, and the entries say of every other key
-- what they said.
use Rattle.std.proofs.Common.{arith, ◌≡◌, ◌≢◌, ℕ, true, false, Some, bit_or, refl, sym, ◌∙◌}
use Rattle.pool_index.specs.Index.{kept_pools, pools_in}
use Rattle.pool_index.specs.Entries.{SaySame}
use Rattle.pool_index.proofs.EntryLemmas.{index_stays, index_idle, answer_grown, first_room, second_room, index_once, index_twice}
use Rattle.pool_index.proofs.WordLemmas.{not_other, not_any}
use Rattle.pool_index.proofs.table.KeyedTable.write.Goals as goal

pub invariant_of-self : goal.invariant_of-self
invariant_of-self g c =
    let w = g.W.KeyedWords in
    rw c.write.ensures (c.self.invariant.0, index_stays c.self.inside.index g.row.N (w.entries c.self.inside.words) _ (λ e. c.entry_of.ensures.others c.self.inside.words c.args.value e (not_any c.entry_of.result e c.in_default.is)) c.self.invariant.1)

pub invariant_of-self-then-not-is_valid : goal.invariant_of-self-then-not-is_valid
invariant_of-self-then-not-is_valid g c =
    let a = g.W.KeyedWords.entries c.self.inside.words in
    let b = g.W.KeyedWords.entries c.write-2.new.self in
    let others : (x : ℕ) → x ≢ c.in-Some.e → SaySame a b x = rw c.write-2.ensures (λ x differ. c.entry_of.ensures.others c.self.inside.words c.args.value x (not_other c.entry_of.result c.in-Some.e x c.in-Some.is differ)) in
    let before : a.is_valid c.in-Some.e ≡ false = sym c.if-not-was_valid.ensures in
    let after : b.is_valid c.in-Some.e ≡ false = sym c.if-not-is_valid.ensures in
    (c.self.invariant.0, index_idle a b c.in-Some.e others c.self.inside.index g.row.N before after c.self.invariant.1)

pub add-requires : goal.add-requires
add-requires g c =
    let a = g.W.KeyedWords.entries c.self.inside.words in
    let b = g.W.KeyedWords.entries c.write-2.new.self in
    let others : (x : ℕ) → x ≢ c.in-Some.e → SaySame a b x = rw c.write-2.ensures (λ x differ. c.entry_of.ensures.others c.self.inside.words c.args.value x (not_other c.entry_of.result c.in-Some.e x c.in-Some.is differ)) in
    let few = c.self.invariant.0 in
    let before : a.is_valid c.in-Some.e ≡ true = sym c.if-was_valid.ensures in
    let after : b.is_valid c.in-Some.e ≡ true = sym c.if-is_valid.ensures in
    let held : c.key-key.result ≡ a.key c.in-Some.e = c.if-key-former.true ∙ c.key-former.ensures in
    let answer = answer_grown a b c.in-Some.e g.row.N c.key-key.result others c.in-Some.ensures.below before after held c.key-key.ensures (kept_pools c.self.inside.index c.key-key.result) c.pools-gave.result c.pools-gives.result c.pools-gave.ensures c.pools-gives.ensures c.if-gave-gives.true (c.self.invariant.1.1 c.key-key.result) in
    (omega (arith, few), first_room a b c.in-Some.e c.key-key.result c.key-key.result held c.key-key.ensures others c.self.inside.index g.row.N c.self.invariant.1 (Some (bit_or (pools_in c.self.inside.index c.key-key.result) c.pools-gives.result)) answer refl)

pub invariant_of-self-then-gave-gives : goal.invariant_of-self-then-gave-gives
invariant_of-self-then-gave-gives g c =
    let a = g.W.KeyedWords.entries c.self.inside.words in
    let b = g.W.KeyedWords.entries c.write-2.new.self in
    let others : (x : ℕ) → x ≢ c.in-Some.e → SaySame a b x = rw c.write-2.ensures (λ x differ. c.entry_of.ensures.others c.self.inside.words c.args.value x (not_other c.entry_of.result c.in-Some.e x c.in-Some.is differ)) in
    let before : a.is_valid c.in-Some.e ≡ true = sym c.if-was_valid.ensures in
    let after : b.is_valid c.in-Some.e ≡ true = sym c.if-is_valid.ensures in
    let held : c.key-key.result ≡ a.key c.in-Some.e = c.if-key-former.true ∙ c.key-former.ensures in
    let answer = answer_grown a b c.in-Some.e g.row.N c.key-key.result others c.in-Some.ensures.below before after held c.key-key.ensures (kept_pools c.self.inside.index c.key-key.result) c.pools-gave.result c.pools-gives.result c.pools-gave.ensures c.pools-gives.ensures c.if-gave-gives.true (c.self.invariant.1.1 c.key-key.result) in
    (c.self.invariant.0, index_once a b c.in-Some.e c.key-key.result c.key-key.result held c.key-key.ensures others c.self.inside.index g.row.N c.self.invariant.1 (Some (bit_or (pools_in c.self.inside.index c.key-key.result) c.pools-gives.result)) c.add.new.self c.add.ensures.kept c.add.ensures.rises answer refl)

pub set-requires : goal.set-requires
set-requires g c =
    let a = g.W.KeyedWords.entries c.self.inside.words in
    let b = g.W.KeyedWords.entries c.write-2.new.self in
    let others : (x : ℕ) → x ≢ c.in-Some.e → SaySame a b x = rw c.write-2.ensures (λ x differ. c.entry_of.ensures.others c.self.inside.words c.args.value x (not_other c.entry_of.result c.in-Some.e x c.in-Some.is differ)) in
    let few = c.self.invariant.0 in
    (omega (arith, few), first_room a b c.in-Some.e c.key-former.result c.key-key.result c.key-former.ensures c.key-key.ensures others c.self.inside.index g.row.N c.self.invariant.1 c.found.result c.found.ensures)

pub set-requires-then-key-former-2 : goal.set-requires-then-key-former-2
set-requires-then-key-former-2 g c =
    let a = g.W.KeyedWords.entries c.self.inside.words in
    let b = g.W.KeyedWords.entries c.write-2.new.self in
    let others : (x : ℕ) → x ≢ c.in-Some.e → SaySame a b x = rw c.write-2.ensures (λ x differ. c.entry_of.ensures.others c.self.inside.words c.args.value x (not_other c.entry_of.result c.in-Some.e x c.in-Some.is differ)) in
    let few = c.self.invariant.0 in
    (omega (arith, few), second_room a b c.in-Some.e c.key-former.result c.key-key.result c.key-former.ensures c.key-key.ensures others c.self.inside.index g.row.N c.self.invariant.1 c.found.result c.set.new.self c.set.ensures.kept c.set.ensures.rises c.found.ensures c.found-then-key-former-2.result c.found-then-key-former-2.ensures)

pub invariant_of-self-then-key-former-2 : goal.invariant_of-self-then-key-former-2
invariant_of-self-then-key-former-2 g c =
    let a = g.W.KeyedWords.entries c.self.inside.words in
    let b = g.W.KeyedWords.entries c.write-2.new.self in
    let others : (x : ℕ) → x ≢ c.in-Some.e → SaySame a b x = rw c.write-2.ensures (λ x differ. c.entry_of.ensures.others c.self.inside.words c.args.value x (not_other c.entry_of.result c.in-Some.e x c.in-Some.is differ)) in
    (c.self.invariant.0, index_twice a b c.in-Some.e c.key-former.result c.key-key.result c.key-former.ensures c.key-key.ensures others c.self.inside.index g.row.N c.self.invariant.1 c.found.result c.set.new.self c.set.ensures.kept c.set.ensures.rises c.found.ensures c.found-then-key-former-2.result c.set-then-key-former-2.new.self c.set-then-key-former-2.ensures.kept c.set-then-key-former-2.ensures.rises c.found-then-key-former-2.ensures)

pub invariant_of-self-else-key-former-2 : goal.invariant_of-self-else-key-former-2
invariant_of-self-else-key-former-2 g c =
    let a = g.W.KeyedWords.entries c.self.inside.words in
    let b = g.W.KeyedWords.entries c.write-2.new.self in
    let others : (x : ℕ) → x ≢ c.in-Some.e → SaySame a b x = rw c.write-2.ensures (λ x differ. c.entry_of.ensures.others c.self.inside.words c.args.value x (not_other c.entry_of.result c.in-Some.e x c.in-Some.is differ)) in
    (c.self.invariant.0, index_once a b c.in-Some.e c.key-former.result c.key-key.result c.key-former.ensures c.key-key.ensures others c.self.inside.index g.row.N c.self.invariant.1 c.found.result c.set.new.self c.set.ensures.kept c.set.ensures.rises c.found.ensures c.if-key-former-2.false)
