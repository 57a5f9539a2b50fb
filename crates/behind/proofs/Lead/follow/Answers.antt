-- `Lead::follow`: the cues of two joins.
use native.Mathlib.Omega.{arith}
use Rattle.behind.proofs.Seeing.{joins-fit}
use Rattle.behind.proofs.Lead.follow.Goals as goal

pub overflow_cast-result : goal.overflow_cast-result
overflow_cast-result c = omega (arith, joins-fit (c.args.show.now.loaded, c.requires))

pub overflow_add-result-2 : goal.overflow_add-result-2
overflow_add-result-2 c = omega (arith, joins-fit (c.args.show.now.loaded, c.requires), c.own-own.ensures.1)

pub overflow_cast-result-2 : goal.overflow_cast-result-2
overflow_cast-result-2 c = omega (arith, joins-fit (c.args.show.now.loaded, c.requires))

pub overflow_add-result-4 : goal.overflow_add-result-4
overflow_add-result-4 c = omega (arith, joins-fit (c.args.show.now.loaded, c.requires), c.own-own.ensures.1)
