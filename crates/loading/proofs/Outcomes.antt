-- What comes of a file that was loaded: an answer for its rows, or its refusal.
use Prim.Native.Nat.{ℕ, ◌-◌, ◌≤◌}
use native.Mathlib.Omega.{arith}
use mathlib.Core.Path.{◌≡◌, sym, ◌∙◌, ap}
use mathlib.Core.List.{List}
use lib.ListN.{length, take, drop, length-take}
use Rattle.std.specs.Prelude.{Ok, Err}
use Rattle.model.specs.Verdicts.{Verdict}
use Rattle.model.specs.Questions.{on_accepted}
use Rattle.model.specs.declared.Refusal.{Refusal}
use Rattle.shows.proofs.Outcomes.{on-yes, on-no}
use Rattle.blocks.specs.Loaded.{Loaded}
use Rattle.loading.specs.Loads.{HasLoaded, Loads, Loading}

module _ (v : Verdict) (xs ys t : List ℕ) (r : Loading) (l : Loads v xs r ys t) where
  -- Its n numbers, as the code lends them.
  module _ (n : ℕ) (e : r ≡ Ok n) where
    rows_are : HasLoaded v xs n ys t
    unfolding Loads
    rows_are = rw e at l

    -- There is room for them, and they are a loaded show.
    pub rows-room : n ≤ length ys
    rows-room = let h = rows_are in omega (arith, h.size, length-take (length xs) ys, ap length h.first)

    part-is : take (n - 0) (drop 0 ys) ≡ xs
    part-is = let h = rows_are in let k : n - 0 ≡ length xs = omega (arith, h.size) in rw k h.first

    pub part-loaded : Loaded (take (n - 0) (drop 0 ys)) t
    part-loaded = rw part-is rows_are.loaded

    -- What is answered for the part is answered for the file.
    pub loaded-yes : {A : Type 0} (refuse : Refusal → A) (answer : List ℕ → A) (o : A) → o ≡ answer (take (n - 0) (drop 0 ys))
        → o ≡ on_accepted v refuse (answer xs)
    loaded-yes refuse answer o h = h ∙ ap answer part-is ∙ sym (on-yes v refuse (answer xs) rows_are.accepted)

  -- A refusal is the file's.
  pub loaded-no : {A : Type 0} (refuse : Refusal → A) (answer o : A) (f : Refusal) → r ≡ Err f → o ≡ refuse f → o ≡ on_accepted v refuse answer
  unfolding Loads
  loaded-no refuse answer o f e h = h ∙ sym (on-no v refuse answer f (rw e at l))
