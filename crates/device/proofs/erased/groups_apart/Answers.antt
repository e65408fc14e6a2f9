-- The law, by its lemmas.
use Rattle.device.proofs.NextSettings.{settings_stepped}
use Rattle.device.proofs.Confinement.{confined}
use Rattle.device.proofs.WithoutGroup.{needed}
use Rattle.device.proofs.Apartness.{apart_by_test}
use Rattle.device.proofs.erased.groups_apart.Goals as goal

pub returns-clause-by_test : goal.returns-clause-by_test
returns-clause-by_test c = apart_by_test

pub returns-clause-confined : goal.returns-clause-confined
returns-clause-confined c = confined

pub returns-clause-settings : goal.returns-clause-settings
returns-clause-settings c = settings_stepped

pub returns-clause-needed : goal.returns-clause-needed
returns-clause-needed c = needed
