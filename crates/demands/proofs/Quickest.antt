-- The quickest answer under a lawful wait file: it is the smallest sum of waits over all chains, below 2^64, and none exactly where the fewest answer is.
use Prim.Native.Nat.{ℕ, ◌/◌, ◌%◌, ◌≤◌, ◌<◌}
use native.Mathlib.Omega.{arith}
use mathlib.Core.Path.{◌≡◌, refl, sym, ◌∙◌, ap}
use mathlib.Core.Logic.{◌↔◌}
use mathlib.Core.List.{List}
use lib.ListN.{length}
use Rattle.std.specs.Prelude.{Ok, Err, Some, None}
use Rattle.model.specs.Blocks.{Link, Block, blocks_of, last_block, count}
use Rattle.model.specs.Unfolding.{show_links}
use Rattle.model.specs.Chains.{Distance, Far, Unreachable}
use Rattle.model.specs.Verdicts.{refusal, verdict, Accepted}
use Rattle.model.specs.Quickest.{quickest}
use Rattle.model.specs.Answers.{Returned, given, returned, halves, of_quickest, FewestAnswer, QuickestAnswer, line_refusal}
use Rattle.model.specs.Questions.{sum_values}
use Rattle.model.specs.Asking.{AsksFewest}
use Rattle.shows.specs.Waits.{AreWaits}
use Rattle.shows.proofs.Accepted.{accepted-show}
use Rattle.distances.specs.Walks.{Walk, stop, Linked}
use Rattle.distances.specs.Lightest.{Lightest}
use Rattle.distances.specs.Quickest.{priced}
use Rattle.distances.proofs.Fewest.{Starts, far_not, show_ends, show_shortest}
use Rattle.distances.proofs.Closure.{walk_cut}
use Rattle.distances.proofs.Quickest.{quickest-lightest, quickest-none}
use Rattle.demands.specs.Quickest.{Lasts, IsQuickest}
use Rattle.demands.proofs.Answers.{same-value, no_values}
use Rattle.demands.proofs.Shortest.{is-fewest}
use Rattle.demands.proofs.Notes.{show_labels}
use Rattle.demands.proofs.Sums.{Agree, lasts_walk, walk_lasts}

-- The answer of a sum.
unfoldable pub answer_of : Distance → QuickestAnswer
answer_of (Far n) = Ok (Some n)
answer_of Unreachable = Ok None

-- A number is known by its two halves.
halves-same : (n m : ℕ) → n % 4294967296 ≡ m % 4294967296 → n / 4294967296 ≡ m / 4294967296 → n ≡ m
halves-same n m e f = omega arith

-- An answer has a sum's values only if it is that sum's answer, and a refusal's number and place only if it is that refusal.
pub same_answer : (r : QuickestAnswer) (d : Distance) → of_quickest r ≡ given (sum_values d) → r ≡ answer_of d
unfolding of_quickest sum_values halves answer_of
same_answer (Ok (Some n)) (Far m) e = ap (λ n. Ok (Some n)) (halves-same n m (same-value _ _ e 1) (same-value _ _ e 2))
same_answer (Ok (Some n)) Unreachable e = let z : ◌≡◌ {A = ℕ} 1 0 = same-value _ _ e 0 in absurd (omega arith)
same_answer (Ok None) (Far m) e = let z : ◌≡◌ {A = ℕ} 0 1 = same-value _ _ e 0 in absurd (omega arith)
same_answer (Ok None) Unreachable e = refl
same_answer (Err f) (Far m) e = absurd (no_values _ _ (omega arith) (sym e))
same_answer (Err f) Unreachable e = absurd (no_values _ _ (omega arith) (sym e))

pub refused-alike : (r : QuickestAnswer) (n p : ℕ) → of_quickest r ≡ returned (refusal n p) → r ≡ Err (line_refusal n p)
unfolding of_quickest halves returned refusal
refused-alike (Ok (Some m)) n p e = absurd (no_values _ _ (omega arith) e)
refused-alike (Ok None) n p e = absurd (no_values _ _ (omega arith) e)
refused-alike (Err f) n p e =
    let a : f.number ≡ n = ap (λ (x : Returned). x.number) e in
    let b : f.place ≡ p = ap (λ (x : Returned). x.place) e in
    rw (← a, ← b)

tenths-far : (d : Distance) (n : ℕ) → answer_of d ≡ Ok (Some n) → d ≡ Far n
unfolding answer_of
tenths-far (Far m) n e = cc
tenths-far Unreachable n e = absurd (let z : ◌≡◌ {A = ℕ} 0 1 = cc in omega arith)

none-unreachable : (d : Distance) → answer_of d ≡ Ok None → d ≡ Unreachable
unfolding answer_of
none-unreachable (Far m) e = absurd (let z : ◌≡◌ {A = ℕ} 0 1 = cc in omega arith)
none-unreachable Unreachable e = refl

-- The answer under a lawful wait file, whose lines and table agree.
module _ (xs : List ℕ) (v : verdict xs ≡ Accepted) (s t : ℕ) (low : 1 ≤ s) (high : s ≤ count (blocks_of xs)) (low' : 1 ≤ t)
    (high' : t ≤ count (blocks_of xs)) (vss : List (List ℕ)) (waits : List ℕ) (a : Agree vss waits) (fit : AreWaits waits) where
  abbrev bs : List Block
  bs = blocks_of xs

  abbrev E : List Link
  E = show_links bs

  abbrev far : Distance
  far = quickest waits E (count bs) s t

  starts : Starts E (count bs)
  starts l i = (show_ends bs (accepted-show xs v).good (accepted-show xs v).no_joins l i).0

  light : Lightest (priced waits) E s t far
  light = quickest-lightest waits E t (count bs) s starts low' high'

  lasts : (n : ℕ) → Walk (Linked (priced waits) E) t s n → Lasts vss E t s n
  lasts n c = walk_lasts a (λ l i. (show_labels xs v l i).0) c

  -- A chain that repeats no cue lasts less than 6,000 tenths for each cue, and there are fewer than 2^31 of them.
  below : (n : ℕ) → far ≡ Far n → n < 18446744073709551616
  unfolding count
  below n e =
      let (m, d, b) = walk_cut {price = priced waits} (count bs) 6000 starts low' high' (λ label w p. omega (arith, p.1, fit.most label)) n (light.has n e) in
      omega (arith, light.least n m e d, (accepted-show xs v).totals (last_block bs))

  same : (r : QuickestAnswer) → r ≡ answer_of far → (s ≡ t → r ≡ Ok (Some 0))
  unfolding answer_of
  same r q z =
      let (n, d) = light.found 0 (stop z refl) in
      let h : n ≡ 0 = omega (arith, light.least n 0 d (stop z refl)) in
      q ∙ ap answer_of (d ∙ ap Far h)

  lost : (d : Distance) → far ≡ d → ((sum : ℕ) → Lasts vss E t s sum → ⊥) → far ≡ Unreachable
  lost Unreachable e z = e
  lost (Far n) e z = absurd (z n (lasts n (light.has n e)))

  as_fewest : (r : QuickestAnswer) → r ≡ answer_of far → (work after : List ℕ) (q : FewestAnswer) → 16384 ≤ length work → AsksFewest xs s t work q after
      → (r ≡ Ok None) ↔ (q ≡ Ok None)
  unfolding answer_of
  as_fewest r p work after q room e =
      let f = is-fewest xs v s t work after q low high low' high' room e in
      let g = show_shortest bs (accepted-show xs v).good (accepted-show xs v).no_joins s t low' high' in
      let (to, from) = quickest-none waits E (count bs) s t starts low' high' in
      (λ z. f.lost (g.none (to (none-unreachable far (sym p ∙ z)))), λ z. p ∙ ap answer_of (from (g.lost (f.none z))))

  pub is-quickest : (r : QuickestAnswer) → r ≡ answer_of far → IsQuickest xs vss E s t r
  unfolding answer_of
  is-quickest r q =
      record {
        found = λ m c. let (n, d) = light.found m (lasts_walk a c) in (n, q ∙ ap answer_of d);
        chain = λ n e. lasts n (light.has n (tenths-far far n (sym q ∙ e)));
        least = λ n m e c. light.least n m (tenths-far far n (sym q ∙ e)) (lasts_walk a c);
        in_64_bits = λ n e. below n (tenths-far far n (sym q ∙ e));
        stays = same r q;
        none = (
          λ e m c. let (n, d) = light.found m (lasts_walk a c) in far_not (sym d ∙ none-unreachable far (sym q ∙ e)),
          λ z. q ∙ ap answer_of (lost far refl z),
        );
        as_fewest = as_fewest r q;
      }
