-- Counting: the total of the last block is the count.
use Prim.Native.Nat.{ℕ}
use mathlib.Core.Path.{◌≡◌}
use mathlib.Core.List.{List}
use Rattle.std.specs.Prelude.{Ok}
use Rattle.model.specs.Verdicts.{Verdict, Accepted}
use Rattle.model.specs.Blocks.{blocks_of, count}
use Rattle.model.specs.Answers.{of_count}
use Rattle.model.specs.Questions.{count_asked}
use Rattle.verdicts.specs.Passing.{IsChecked}
use Rattle.loading.proofs.Checked.{asked_yes}

pub count_yes : (xs t : List ℕ) (v : Verdict) (c : IsChecked xs t v) (n : ℕ) → v ≡ Accepted → n ≡ count (blocks_of xs) → of_count (Ok n) ≡ count_asked xs
unfolding of_count count_asked
count_yes xs t v c n e h = asked_yes xs t v c _ _ _ e (rw h)
