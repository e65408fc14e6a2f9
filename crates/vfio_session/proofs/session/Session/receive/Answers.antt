-- What is asked lies inside the function, by the law.
use Rattle.std.proofs.Common.{sym, subst}
use Rattle.vfio_session.specs.Inside.{AreInside}
use Rattle.vfio_session.proofs.Fit.{received_fit}
use Rattle.vfio_session.proofs.session.Session.receive.Goals as goal

pub returns-clause-inside : goal.returns-clause-inside
returns-clause-inside c =
    subst (λ a. AreInside a c.args.files) (sym c.decide.ensures.asks) (received_fit c.args.self.now c.args.message.now c.args.files).inside
