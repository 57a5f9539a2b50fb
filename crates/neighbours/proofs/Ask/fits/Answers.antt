-- `Ask::fits`: the label is tested as the definition says.
use Rattle.neighbours.proofs.Picked.{fits-below, fits-above}
use Rattle.neighbours.proofs.Ask.fits.Goals as goal

pub returns-then-self-label : goal.returns-then-self-label
returns-then-self-label c = fits-above _ _ c.if-self-label.true

pub returns-else-self-label : goal.returns-else-self-label
returns-else-self-label c = fits-below _ _ c.if-self-label.false
