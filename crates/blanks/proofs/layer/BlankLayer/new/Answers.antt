-- With a new layer comes the law of whole runs.
use Rattle.blanks.proofs.Law.{runs_treated}
use Rattle.blanks.proofs.layer.BlankLayer.new.Goals as goal

pub returns-clause-runs : goal.returns-clause-runs
returns-clause-runs g c = runs_treated
