-- Nothing is written, or the writes of the function that gives the address up.
use Rattle.std.proofs.Common.{◌≡◌, Some, sym, ap, ◌∙◌}
use Rattle.mailbox.specs.Words.{settings_of}
use Rattle.mailbox.proofs.Freed.{nothing_done}
use Rattle.mailbox.proofs.host.Host.free.Goals as goal

pub returns-in-None-clause-meanwhile : goal.returns-in-None-clause-meanwhile
returns-in-None-clause-meanwhile c = λ q done left small other is. nothing_done (settings_of c.args.self.now) q done left (is ∙ c.new.ensures)

pub returns-in-Some-clause-meanwhile : goal.returns-in-Some-clause-meanwhile
returns-in-Some-clause-meanwhile c = λ q done left small other is. c.change.ensures.meanwhile q done left small (λ same. other (c.in-Some.is ∙ ap Some (sym same))) is
