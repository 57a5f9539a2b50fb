-- The eight columns of a row are those at its place.
use native.Mathlib.Omega.{arith}
use Rattle.rules.proofs.Tests.{columns-part}
use Rattle.rules.proofs.Row.columns.Goals as goal

pub returns : goal.returns
returns c = columns-part _ _ _ c.args.self.whole.0 (omega arith)
