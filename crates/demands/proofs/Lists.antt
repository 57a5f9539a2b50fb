-- What list_out and list_in answer and leave is what document 01 demands, for one page and for pages asked for one after another.
use Prim.Native.Nat.{ℕ, ◌≤◌, ◌<◌, min}
use native.Mathlib.Omega.{arith}
use mathlib.Core.Path.{◌≡◌, sym, ◌∙◌, ap}
use mathlib.Core.Logic.{◌⊎◌, inl, inr, ◌↔◌}
use mathlib.Core.Bool.{Bool, true}
use mathlib.Core.List.{List, [], ◌++◌, Memᴰ}
use lib.ListN.{length, get_or, take, drop, length-take, length-drop, take-append-drop}
use lib.Dec.{ltb}
use borrow.Author.Tests.{lt-ltb, ltb-true}
use Rattle.model.specs.Blocks.{Link, blocks_of, total, last_block, count}
use Rattle.model.specs.Unfolding.{show_links}
use Rattle.model.specs.Verdicts.{verdict, Accepted}
use Rattle.model.specs.Lists.{cues_after, is_out, is_into}
use Rattle.model.specs.Answers.{of_list, ListAnswer}
use Rattle.model.specs.Questions.{Outcome, outcome, refuse, on_accepted, answer, listed, list_in, out_asked, in_asked}
use Rattle.basics.proofs.Members.{get_d_mem, mem_at}
use Rattle.shows.specs.Accepted.{Show}
use Rattle.shows.specs.Lists.{Rising}
use Rattle.shows.proofs.Accepted.{accepted-show}
use Rattle.shows.proofs.Lists.{in_out, in_in, after-rising}
use Rattle.shows.proofs.Ranges.{Within, inner, join, links-within}
use Rattle.shows.proofs.Outcomes.{on-yes, has-cue}
use Rattle.model.specs.Asking.{AsksOut, AsksIn}
use Rattle.demands.specs.Lists.{LinkedOut, LinkedIn, Smallest, IsList, Pages, ArePages}
use Rattle.demands.proofs.Answers.{page-is}
use Rattle.demands.proofs.Buffers.{leaves}
use Rattle.demands.proofs.Rising.{Parts, rising-parts, not_in}
use Rattle.demands.proofs.Pages.{are-pages}

-- A list of all linked cues after each number, rising.
module _ (Linked : ℕ → Type 0) (after : ℕ → List ℕ) (rises : (n : ℕ) → Rising (after n))
    (holds : (n u : ℕ) → Memᴰ u (after n) ↔ ((n < u) × Linked u)) where
  -- Its first cues are the smallest.
  module _ (n size : ℕ) where
    abbrev first : List ℕ
    first = take size (after n)

    abbrev rest : List ℕ
    rest = drop size (after n)

    -- The two parts of the list, and in which of them a linked cue stands.
    whole : first ++ rest ≡ after n
    whole = take-append-drop size (after n)

    parts : Parts first rest
    parts = rising-parts first rest (rw whole (rises n))

    from_first : (u : ℕ) → Memᴰ u first → (n < u) × Linked u
    from_first u i = (holds n u).0 (rw whole at (mathlib.Core.List.Memᴰ.append_left rest i))

    from-rest : (u : ℕ) → Memᴰ u rest → (n < u) × Linked u
    from-rest u i = (holds n u).0 (rw whole at (mathlib.Core.List.Memᴰ.append_right first i))

    first-or_rest : (u : ℕ) → Linked u → n < u → Memᴰ u first ⊎ Memᴰ u rest
    first-or_rest u l h = mathlib.Core.List.Memᴰ.append_cases first (rw whole ((holds n u).1 (h, l)))

    -- More exist exactly if the list is longer.
    first-smallest : Smallest Linked n first (ltb size (length (after n)))
    first-smallest =
        record {
          linked = λ u i. (from_first u i).1;
          above = λ u i. (from_first u i).0;
          rising = parts.first;
          smallest = λ u l h. at u (first-or_rest u l h);
          further = (λ e. one_more_is (ltb-true size (length (after n)) e), λ (u, l, h, k). left (first-or_rest u l h) k);
        }
      where
        at : (u : ℕ) → Memᴰ u first ⊎ Memᴰ u rest → Memᴰ u first ⊎ ((w : ℕ) → Memᴰ w first → w < u)
        at u (inl i) = inl i
        at u (inr j) = inr (λ w i. parts.below w u i j)

        one_more_is : size < length (after n) → (u : ℕ) × Linked u × (n < u) × (Memᴰ u first → ⊥)
        one_more_is h =
            let i : Memᴰ (get_or rest 0 0) rest = get_d_mem rest 0 (rw (length-drop size (after n)) (omega arith)) in
            let (g, l) = from-rest (get_or rest 0 0) i in
            (get_or rest 0 0, l, g, not_in (get_or rest 0 0) first (λ w j. parts.below w (get_or rest 0 0) j i))

        left : {u : ℕ} → Memᴰ u first ⊎ Memᴰ u rest → (Memᴰ u first → ⊥) → ltb size (length (after n)) ≡ true
        left (inl i) k = absurd (k i)
        left {u} (inr j) k = let (p, h, e) = mem_at u j in lt-ltb size (length (after n)) (omega (arith, length-drop size (after n)))

  -- So a page on which it is listed is what is demanded.
  page-of : (n : ℕ) (page left : List ℕ) (r : ListAnswer) → outcome (of_list r) left ≡ listed (after n) page → IsList Linked n page r left
  unfolding listed answer
  page-of n page left r e =
      let many : length (first n (length page)) ≡ min (length page) (length (after n)) = length-take (length page) (after n) in
      record {
        cues = first n (length page);
        more = ltb (length page) (length (after n));
        answer = rw many (page-is r _ _ (ap (λ (o : Outcome). o.answer) e));
        smallest = first-smallest n (length page);
        leaves = rw (ap (λ (o : Outcome). o.after) e) (leaves (first n (length page)) page (omega arith));
        fit = omega arith;
        full = λ t. omega (arith, ltb-true (length page) (length (after n)) t);
      }

-- Every link of an accepted show ends at its cues.
pub within : (xs : List ℕ) → verdict xs ≡ Accepted → (l : Link) → Memᴰ l (show_links (blocks_of xs))
    → (1 ≤ l.from) × (l.from ≤ count (blocks_of xs)) × (1 ≤ l.to) × (l.to ≤ count (blocks_of xs))
unfolding show_links count
within xs e l i =
    let s : Show xs = accepted-show xs e in
    let (x, y) = links-within (blocks_of xs) s.good (last_block (blocks_of xs)) 0 [] (sym s.no_joins) l i in
    let (a, b) = at l.from x in
    let (c, d) = at l.to y in
    (a, b, c, d)
  where
    at : (v : ℕ) → Within 0 (total (blocks_of xs) (last_block (blocks_of xs))) [] v → (1 ≤ v) × (v ≤ total (blocks_of xs) (last_block (blocks_of xs)))
    at v (inner x y) = omega arith
    at v (join j) = absurd (mathlib.Core.List.Memᴰ.not-nil j)

-- The list that both questions give, of the cues that a test finds.
listed-so : (xs : List ℕ) (v : ℕ) → verdict xs ≡ Accepted → 1 ≤ v → v ≤ count (blocks_of xs) → (test : ℕ → Bool) (Linked : ℕ → Type 0)
    → ((n u : ℕ) → Memᴰ u (cues_after test (count (blocks_of xs)) n) ↔ ((n < u) × (u ≤ count (blocks_of xs)) × Linked u))
    → ((u : ℕ) → Linked u → u ≤ count (blocks_of xs)) → (n : ℕ) (page after : List ℕ) (r : ListAnswer)
    → outcome (of_list r) after ≡ on_accepted (verdict xs) (λ f. refuse f page) (list_in (blocks_of xs) test v n page)
    → IsList Linked n page r after
unfolding list_in
listed-so xs v e low high test Linked finds inside n page after r q =
    page-of Linked (cues_after test (count (blocks_of xs))) (after-rising test (count (blocks_of xs)))
    (λ m u. (λ i. let f = (finds m u).0 i in (f.0, f.2), λ p. (finds m u).1 (p.0, inside u p.1, p.1)))
    n page after r
    (q ∙ on-yes (verdict xs) _ _ e ∙ has-cue (blocks_of xs) v page _ low high)

-- One page, out and in.
pub list_out : (xs : List ℕ) (v n : ℕ) (page after : List ℕ) (r : ListAnswer) → verdict xs ≡ Accepted → 1 ≤ v → v ≤ count (blocks_of xs)
    → AsksOut xs v n page r after → IsList (LinkedOut xs v) n page r after
unfolding out_asked
list_out xs v n page after r e low high =
    listed-so xs v e low high (is_out (show_links (blocks_of xs)) v) (LinkedOut xs v) (in_out (show_links (blocks_of xs)) (count (blocks_of xs)) v)
    (λ u (l, i, p, q). omega (arith, within xs e l i)) n page after r

pub list_in_lem : (xs : List ℕ) (v n : ℕ) (page after : List ℕ) (r : ListAnswer) → verdict xs ≡ Accepted → 1 ≤ v → v ≤ count (blocks_of xs)
    → AsksIn xs v n page r after → IsList (LinkedIn xs v) n page r after
unfolding in_asked
list_in_lem xs v n page after r e low high =
    listed-so xs v e low high (is_into (show_links (blocks_of xs)) v) (LinkedIn xs v) (in_in (show_links (blocks_of xs)) (count (blocks_of xs)) v)
    (λ u (l, i, p, q). omega (arith, within xs e l i)) n page after r

-- Pages, out and in.
pub pages_out : (xs : List ℕ) (v n many : ℕ) (cues : List ℕ) (more : Bool) → verdict xs ≡ Accepted → 1 ≤ v → v ≤ count (blocks_of xs)
    → Pages (AsksOut xs v) n many cues more → ArePages (LinkedOut xs v) n many cues more
pages_out xs v n many cues more e low high p =
    are-pages (LinkedOut xs v) (AsksOut xs v) (λ m page after r. list_out xs v m page after r e low high) p

pub pages_in : (xs : List ℕ) (v n many : ℕ) (cues : List ℕ) (more : Bool) → verdict xs ≡ Accepted → 1 ≤ v → v ≤ count (blocks_of xs)
    → Pages (AsksIn xs v) n many cues more → ArePages (LinkedIn xs v) n many cues more
pages_in xs v n many cues more e low high p =
    are-pages (LinkedIn xs v) (AsksIn xs v) (λ m page after r. list_in_lem xs v m page after r e low high) p
