-- The answers of the quickest question.
use Prim.Native.Nat.{ℕ, ◌≤◌, ◌<◌}
use native.Mathlib.Omega.{arith}
use mathlib.Core.Path.{◌≡◌, sym, ap}
use mathlib.Core.List.{List}
use Rattle.std.specs.Prelude.{Ok, Err, Some, None}
use Rattle.model.specs.Blocks.{Block, count}
use Rattle.model.specs.Unfolding.{show_links}
use Rattle.model.specs.Waits.{WaitFile, WaitTable, Unfit, wait_file}
use Rattle.model.specs.Quickest.{quickest}
use Rattle.model.specs.Answers.{of_quickest}
use Rattle.model.specs.Questions.{Outcome, outcome, answer, refuse, sum_values, cleared, quickest_under}
use Rattle.distances.specs.Tells.{told}
use Rattle.distances.specs.Quickest.{no_sum}
use Rattle.distances.proofs.Lightest.{told-far, told-lost}
use Rattle.shows.specs.Waits.{AreWaits}
use Rattle.shows.proofs.Waits.{waits_fit}
use Rattle.waits.specs.Passing.{SaysWaits}
use Rattle.std.proofs.Common.{Result, Ok, Err}
use Rattle.model.specs.declared.LineRefusal.{LineRefusal}

-- What the search says: n is the sum, from cue u to cue v.
module _ (bs : List Block) (waits : List ℕ) (s t u v n : ℕ) (lent work : List ℕ) (eu : u ≡ s) (ev : v ≡ t)
    (found : (quickest waits (show_links bs) (count bs) u v ≡ told no_sum n) × (work ≡ cleared lent)) where
  values : sum_values (quickest waits (show_links bs) (count bs) s t) ≡ sum_values (told no_sum n)
  values = rw (← eu, ← ev, found.0)

  pub sum-found : n < no_sum → outcome (of_quickest (Ok (Some n))) work ≡ quickest_under (WaitTable waits) bs s t lent
  unfolding of_quickest quickest_under answer sum_values
  sum-found h = rw (found.1, values, told-far no_sum n h)

  pub sum-none : no_sum ≤ n → outcome (of_quickest (Ok None)) work ≡ quickest_under (WaitTable waits) bs s t lent
  unfolding of_quickest quickest_under answer sum_values
  sum-none h = rw (found.1, values, told-lost no_sum n h)

-- What the file says, by what was read: its waits,
says_lawful : (w : WaitFile) (r : Result Unit LineRefusal) (after : List ℕ) → SaysWaits w r after → r ≡ Ok tt → w ≡ WaitTable after
unfolding SaysWaits
says_lawful (WaitTable ws) r after p e = ap WaitTable (sym p.1)
says_lawful (Unfit n l) r after p e = absurd (let z : ◌≡◌ {A = ℕ} 0 1 = cc in omega arith)

-- or a refusal.
says_unfit : (w : WaitFile) (r : Result Unit LineRefusal) (after : List ℕ) (e : LineRefusal) → SaysWaits w r after → r ≡ Err e → w ≡ Unfit e.number e.place
unfolding SaysWaits
says_unfit (WaitTable ws) r after e p q = let u = p.0 in absurd (let z : ◌≡◌ {A = ℕ} 0 1 = cc in omega arith)
says_unfit (Unfit m k) r after e p q =
    let u : ◌≡◌ {A = LineRefusal} e (record { number = m; place = k }) = cc in
    rw u

module _ (f after : List ℕ) (r : Result Unit LineRefusal) (says : SaysWaits (wait_file f) r after) where
  pub read-fit : r ≡ Ok tt → AreWaits after
  read-fit e = waits_fit f after (says_lawful (wait_file f) r after says e)

  pub under_lawful : (bs : List Block) (s t : ℕ) (work : List ℕ) (o : Outcome) → r ≡ Ok tt → o ≡ quickest_under (WaitTable after) bs s t work
      → o ≡ quickest_under (wait_file f) bs s t work
  under_lawful bs s t work o e q = rw (says_lawful (wait_file f) r after says e) q

  pub under_unfit : (bs : List Block) (s t : ℕ) (x : LineRefusal) (work : List ℕ) → r ≡ Err x
      → outcome (of_quickest (Err x)) work ≡ quickest_under (wait_file f) bs s t work
  unfolding of_quickest quickest_under refuse
  under_unfit bs s t x work e = rw (says_unfit (wait_file f) r after x says e)
