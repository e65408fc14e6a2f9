-- The table has them, of pools of one digit and of two.
use Rattle.std.proofs.Common.{List, ℕ, ◌+◌, ◌*◌, ◌++◌, ◌∙◌, ap, take, arith}
use Rattle.std.specs.Prelude.{slice_range}
use Rattle.transcript.specs.declared.text.TheConstants.{POOLS}
use Rattle.transcript.proofs.Tables.{one_digit, two_digits}
use Rattle.transcript.proofs.text.put_pool.Goals as goal
use Rattle.transcript.proofs.text.put_pool.Goals.{then-number-lt10, else-number-lt10}

pub returns-clause-text : goal.returns-clause-text
returns-clause-text c =
    let k : ℕ = c.from-number.result in
    let part : List ℕ = slice_range POOLS (4 * k) (4 * k + 4) in
    c.put_front.ensures.text
    ∙ ap (λ (t : List ℕ). take c.args.at c.args.room.now ++ t)
    (ap (λ (word : List ℕ). take c.if-number-lt10.count word) c.word_at.ensures
    ∙ elim c.if-number-lt10.branch [
      | then-number-lt10 w ↦ ap (λ n. take n part) w.count-is ∙ one_digit c.args.pool k (omega arith) (omega arith)
      | else-number-lt10 w ↦ ap (λ n. take n part) w.count-is ∙ two_digits c.args.pool k (omega arith) (omega arith) (omega arith)
    ])
