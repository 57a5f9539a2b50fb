-- `last`: the last row stands eleven values before the end.
use native.Mathlib.Omega.{arith}
use mathlib.Core.Path.{refl}
use Rattle.blocks.proofs.Loaded.{last-cell, last-read}
use Rattle.blocks.proofs.Show.last.Goals as goal

pub overflow_sub-self : goal.overflow_sub-self
overflow_sub-self c = omega (arith, last-cell c.args.self.now.loaded)

pub bounds-self-self : goal.bounds-self-self
bounds-self-self c = omega (arith, last-cell c.args.self.now.loaded)

pub returns : goal.returns
returns c = last-read _ _ c.args.self.now.loaded refl c.wide.ensures.0
