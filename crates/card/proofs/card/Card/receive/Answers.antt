-- What the session asks decides what the card does.
use Rattle.std.proofs.Common.{◌≡◌, None, sym, ap, ◌∙◌, subst, List, ℕ, Option}
use Rattle.vfio_session.specs.Decisions.{Says}
use Rattle.card.specs.Steps.{count_in}
use Rattle.card.specs.Told.{Told, asked, told}
use Rattle.card.proofs.Calls.{heard_lives}
use Rattle.card.proofs.Told.{heard, says_nothing, told_asked, told_plainly}
use Rattle.card.proofs.card.Card.receive.Goals as goal

pub returns-in-Answered-clause-card : goal.returns-in-Answered-clause-card
returns-in-Answered-clause-card g c = c.in-Answered.ensures.card ∙ ap (λ (t : Told). t.card) (sym (told_plainly c.args.self.now c.args.pool c.args.message.now c.args.files c.in-Answered.ensures.asks))

pub returns-in-Answered-clause-lived : goal.returns-in-Answered-clause-lived
returns-in-Answered-clause-lived g c = heard_lives c.args.self.now c.hear.new.self c.args.pool c.args.message.now c.args.files (returns-in-Answered-clause-card g c)

pub returns-in-Answered-clause-reply : goal.returns-in-Answered-clause-reply
returns-in-Answered-clause-reply g c = subst (λ (r : Option (List ℕ)). Says c.in-Answered.count c.args.room.now c.hear.new.room r) (ap (λ (t : Told). t.reply) (sym (told_plainly c.args.self.now c.args.pool c.args.message.now c.args.files c.in-Answered.ensures.asks))) c.in-Answered.ensures.reply

pub returns-in-Answered-clause-order : goal.returns-in-Answered-clause-order
returns-in-Answered-clause-order g c = ap (λ (t : Told). t.order) (sym (told_plainly c.args.self.now c.args.pool c.args.message.now c.args.files c.in-Answered.ensures.asks))

pub returns-in-Answered-clause-owed : goal.returns-in-Answered-clause-owed
returns-in-Answered-clause-owed g c = ap (λ (t : Told). t.owed) (sym (told_plainly c.args.self.now c.args.pool c.args.message.now c.args.files c.in-Answered.ensures.asks))

pub returns-in-Answered-clause-ends : goal.returns-in-Answered-clause-ends
returns-in-Answered-clause-ends g c = c.in-Answered.ensures.ends ∙ ap (λ (t : Told). t.ends) (sym (told_plainly c.args.self.now c.args.pool c.args.message.now c.args.files c.in-Answered.ensures.asks))

pub returns-in-Ends-clause-card : goal.returns-in-Ends-clause-card
returns-in-Ends-clause-card g c = c.in-Ends.ensures.card ∙ ap (λ (t : Told). t.card) (sym (told_plainly c.args.self.now c.args.pool c.args.message.now c.args.files c.in-Ends.ensures.asks))

pub returns-in-Ends-clause-lived : goal.returns-in-Ends-clause-lived
returns-in-Ends-clause-lived g c = heard_lives c.args.self.now c.hear.new.self c.args.pool c.args.message.now c.args.files (returns-in-Ends-clause-card g c)

pub returns-in-Ends-clause-reply : goal.returns-in-Ends-clause-reply
returns-in-Ends-clause-reply g c = subst (λ (r : Option (List ℕ)). Says None c.args.room.now c.hear.new.room r) (ap (λ (t : Told). t.reply) (sym (told_plainly c.args.self.now c.args.pool c.args.message.now c.args.files c.in-Ends.ensures.asks))) c.in-Ends.ensures.reply

pub returns-in-Ends-clause-order : goal.returns-in-Ends-clause-order
returns-in-Ends-clause-order g c = ap (λ (t : Told). t.order) (sym (told_plainly c.args.self.now c.args.pool c.args.message.now c.args.files c.in-Ends.ensures.asks))

pub returns-in-Ends-clause-owed : goal.returns-in-Ends-clause-owed
returns-in-Ends-clause-owed g c = ap (λ (t : Told). t.owed) (sym (told_plainly c.args.self.now c.args.pool c.args.message.now c.args.files c.in-Ends.ensures.asks))

pub returns-in-Ends-clause-ends : goal.returns-in-Ends-clause-ends
returns-in-Ends-clause-ends g c = c.in-Ends.ensures.ends ∙ ap (λ (t : Told). t.ends) (sym (told_plainly c.args.self.now c.args.pool c.args.message.now c.args.files c.in-Ends.ensures.asks))

pub returns-in-Asks-clause-card : goal.returns-in-Asks-clause-card
returns-in-Asks-clause-card g c = c.act.ensures.card ∙ ap (λ (t : Told). t.card) ((λ i. asked (c.in-Asks.ensures.card i) c.args.pool c.in-Asks.ask c.in-Asks.owed) ∙ sym (told_asked c.args.self.now c.args.pool c.args.message.now c.args.files c.in-Asks.ask c.in-Asks.owed c.in-Asks.ensures.asks c.in-Asks.ensures.owed))

pub returns-in-Asks-clause-order : goal.returns-in-Asks-clause-order
returns-in-Asks-clause-order g c = c.act.ensures.order ∙ ap (λ (t : Told). t.order) ((λ i. asked (c.in-Asks.ensures.card i) c.args.pool c.in-Asks.ask c.in-Asks.owed) ∙ sym (told_asked c.args.self.now c.args.pool c.args.message.now c.args.files c.in-Asks.ask c.in-Asks.owed c.in-Asks.ensures.asks c.in-Asks.ensures.owed))

pub returns-in-Asks-clause-owed : goal.returns-in-Asks-clause-owed
returns-in-Asks-clause-owed g c = c.act.ensures.owed ∙ ap (λ (t : Told). t.owed) ((λ i. asked (c.in-Asks.ensures.card i) c.args.pool c.in-Asks.ask c.in-Asks.owed) ∙ sym (told_asked c.args.self.now c.args.pool c.args.message.now c.args.files c.in-Asks.ask c.in-Asks.owed c.in-Asks.ensures.asks c.in-Asks.ensures.owed))

pub returns-in-Asks-clause-ends : goal.returns-in-Asks-clause-ends
returns-in-Asks-clause-ends g c = c.act.ensures.ends ∙ ap (λ (t : Told). t.ends) ((λ i. asked (c.in-Asks.ensures.card i) c.args.pool c.in-Asks.ask c.in-Asks.owed) ∙ sym (told_asked c.args.self.now c.args.pool c.args.message.now c.args.files c.in-Asks.ask c.in-Asks.owed c.in-Asks.ensures.asks c.in-Asks.ensures.owed))

pub returns-in-Asks-clause-lived : goal.returns-in-Asks-clause-lived
returns-in-Asks-clause-lived g c = heard_lives c.args.self.now c.act.new.self c.args.pool c.args.message.now c.args.files (returns-in-Asks-clause-card g c)

pub returns-in-Asks-clause-reply : goal.returns-in-Asks-clause-reply
returns-in-Asks-clause-reply g c =
    let same : asked c.hear.new.self c.args.pool c.in-Asks.ask c.in-Asks.owed ≡ told c.args.self.now c.args.pool c.args.message.now c.args.files = ((λ i. asked (c.in-Asks.ensures.card i) c.args.pool c.in-Asks.ask c.in-Asks.owed) ∙ sym (told_asked c.args.self.now c.args.pool c.args.message.now c.args.files c.in-Asks.ask c.in-Asks.owed c.in-Asks.ensures.asks c.in-Asks.ensures.owed)) in
    subst (λ (old : List ℕ). Says (count_in c.act.result) old c.act.new.room (told c.args.self.now c.args.pool c.args.message.now c.args.files).reply) (says_nothing c.args.room.now c.hear.new.room (heard c.args.self.now c.args.pool c.args.message.now c.args.files).reply c.in-Asks.ensures.reply)
    (subst (λ (r : Option (List ℕ)). Says (count_in c.act.result) c.hear.new.room c.act.new.room r) (ap (λ (t : Told). t.reply) same) c.act.ensures.reply)
