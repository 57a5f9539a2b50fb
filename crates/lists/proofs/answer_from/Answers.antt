-- `answer_from`: the short table has the records of a low block, the other those of any.
use native.Mathlib.Omega.{arith}
use Rattle.blocks.proofs.Loaded.{block-few}
use Rattle.lists.proofs.answer_from.Goals as goal

pub answer_with-requires : goal.answer_with-requires
answer_with-requires c = let may = c.requires in (may, omega (arith, block-few c.args.question.now.show.loaded _ may.copy.known), omega arith)
