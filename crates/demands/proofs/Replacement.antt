-- The unfolding by single steps, of the show and of each block that stands alone: whatever use is replaced at each step, it ends, in the cues that the
-- numbers name and in the links of the unfolded block. At every point of a run, what is done and what the uses that stand are still to bring is the whole.
use Prim.Native.Nat.{ℕ, zero, suc, ◌+◌, ◌≤◌, ◌<◌}
use native.Mathlib.Omega.{arith}
use mathlib.Core.Path.{◌≡◌, refl, sym, ap}
use mathlib.Core.Logic.{◌⊎◌, inl, inr}
use mathlib.Core.List.Permᴰ
use mathlib.Core.List.{List, [], ◌∷◌, ◌++◌, map, map-append, flat_map, append-nil, Permᴰ, Memᴰ}
use lib.ListN.{length}
use Rattle.model.specs.Blocks.{Block, block_at, joins_of, total, last_block}
use Rattle.model.specs.Unfolding.{show_links}
use Rattle.model.specs.Summaries.{block_links}
use Rattle.model.specs.Lists.{range}
use Rattle.basics.proofs.Members.{mem_map, range_length}
use Rattle.shows.specs.WellFormed.{Good}
use Rattle.shows.specs.Copies.{copy_of, after, ends}
use Rattle.shows.specs.Numbering.{block_after}
use Rattle.shows.proofs.Locality.{alone_total, alone_links_at}
use Rattle.shows.proofs.Ranges.{links-within}
use Rattle.demands.specs.Replacement.{Edge, Standing, Graph, nodes_of, standing, Step, Run, stay, then, join_nodes, begin, copies, node_at, by_numbers, Ended, Unfolds}
use Rattle.demands.proofs.Rearranging.{mem_split, perm_mem, replaced}
use Rattle.demands.proofs.Counts.{copies_at, left, left-append, left-standing}
use Rattle.demands.proofs.Standing.{links_for, cues_for, Stands, new, split_links, split_cues, new-stands}
use Rattle.demands.proofs.Nodes.{number-back, join_numbers, end-in}

-- What holds after n steps from block k.
record Kept (bs : List Block) (k n : ℕ) (g : Graph) : Type 0 where
  links : Permᴰ (map (by_numbers bs k) g.links ++ flat_map (links_for bs k) g.uses) (block_links bs k)
  cues : Permᴰ (g.cues ++ flat_map (cues_for bs k) g.uses) (map (node_at bs k) (range 1 (total bs k)))
  number : n + left bs g.uses ≡ copies bs k
  each : (u : Standing) → Memᴰ u g.uses → Stands bs k u

-- Any use that stands can be replaced, and then the uses of its block stand.
abbrev StepAt : List Block → Graph → Standing → Type 0
StepAt bs g u =
    (h : Graph)
    × Step bs g h
    × ((w : Standing) → Memᴰ w (standing (nodes_of (block_at bs u.block) u) u.path 1 (block_at bs u.block).uses) → Memᴰ w h.uses)

pub step-at : (bs : List Block) (g : Graph) (u : Standing) → Memᴰ u g.uses → StepAt bs g u
step-at bs g u i =
    let (before, after, e) = mem_split i in (
      _,
      record { before = before; chosen = u; after = after; stood = e; cues = refl; links = refl; uses = refl },
      λ w m. mathlib.Core.List.Memᴰ.append_right (before ++ after) m,
    )

-- No copy is to be put in where no use stands; as long as one is, the first use that stands can be replaced.
module _ (bs : List Block) where
  over-left : (g : Graph) → g.uses ≡ [] → left bs g.uses ≡ 0
  unfolding left
  over-left g e = rw e

  one_more_is : (g : Graph) → 1 ≤ left bs g.uses → (h : Graph) × Step bs g h
  one_more_is g l = go g.uses refl
    where
      go : (us : List Standing) → g.uses ≡ us → (h : Graph) × Step bs g h
      go [] e = absurd (omega (arith, over-left g e))
      go (u ∷ us) e = let (h, s, _) = step-at bs g u (rw e (mathlib.Core.List.Memᴰ.head refl)) in (h, s)

module _ (bs : List Block) (good : Good bs) (k : ℕ) where
  -- At the beginning, the one use that stands is to bring everything.
  kept-begin : k < length bs → Kept bs k 0 (begin bs k)
  unfolding begin flat_map left after block_after
  kept-begin known =
      record {
        links = rw (alone_links_at bs good k, append-nil) (Permᴰ.refl _);
        cues = rw (alone_total bs good k, append-nil) (Permᴰ.refl _);
        number = omega arith;
        each = λ u i. rw (mathlib.Core.List.Memᴰ.eq_of_singleton i) first;
      }
    where
      first : Stands bs k (record { path = []; block = k; met = join_nodes bs k })
      first = record { steps = ends; leads = refl; base = 0; is = ap (copy_of bs k 0) (sym (join_numbers bs k)); known = known }

  -- A step keeps it.
  module _ {n : ℕ} {g h : Graph} (t : Kept bs k n g) (s : Step bs g h) where
    stands : Stands bs k s.chosen
    stands = t.each s.chosen (rw s.stood (mathlib.Core.List.Memᴰ.append_right s.before (mathlib.Core.List.Memᴰ.head refl)))

    -- The use that it replaces brings what is put in, and what the uses that it leaves are to bring.
    brought : {X : Type 0} (f : Standing → List X) (done own whole : List X) → f s.chosen ≡ own ++ flat_map f (new bs good k stands)
        → Permᴰ (done ++ flat_map f g.uses) whole → Permᴰ ((done ++ own) ++ flat_map f h.uses) whole
    brought f done own whole e p =
        rw s.uses
        (Permᴰ.trans (replaced f done own s.before s.chosen s.after (new bs good k stands) e) (rw s.stood at p))

    step-links : Permᴰ (map (by_numbers bs k) h.links ++ flat_map (links_for bs k) h.uses) (block_links bs k)
    step-links =
        rw (s.links, map-append (by_numbers bs k) g.links _)
        (brought (links_for bs k) (map (by_numbers bs k) g.links) _ _ (split_links bs good k stands) t.links)

    step-cues : Permᴰ (h.cues ++ flat_map (cues_for bs k) h.uses) (map (node_at bs k) (range 1 (total bs k)))
    step-cues = rw s.cues (brought (cues_for bs k) g.cues _ _ (split_cues bs good k stands) t.cues)

    step-number : suc n + left bs h.uses ≡ copies bs k
    unfolding left
    step-number =
        rw s.uses
        (omega (
          arith,
          left-append bs (s.before ++ s.after) (new bs good k stands),
          left-append bs s.before s.after,
          left-append bs s.before (s.chosen ∷ s.after),
          left-standing bs (nodes_of (block_at bs s.chosen.block) s.chosen) s.chosen.path 1 (block_at bs s.chosen.block).uses,
          copies_at bs good s.chosen.block stands.known,
          rw s.stood at t.number,
        ))

    step-each : (u : Standing) → Memᴰ u h.uses → Stands bs k u
    step-each u i = go (mathlib.Core.List.Memᴰ.append_cases (s.before ++ s.after) (rw s.uses at i))
      where
        old : Memᴰ u s.before ⊎ Memᴰ u s.after → Stands bs k u
        old (inl j) = t.each u (rw s.stood (mathlib.Core.List.Memᴰ.append_left _ j))
        old (inr j) = t.each u (rw s.stood (mathlib.Core.List.Memᴰ.append_right s.before (mathlib.Core.List.Memᴰ.tail j)))

        go : Memᴰ u (s.before ++ s.after) ⊎ Memᴰ u (new bs good k stands) → Stands bs k u
        go (inl j) = old (mathlib.Core.List.Memᴰ.append_cases s.before j)
        go (inr j) = new-stands bs good k stands u j

    kept_step : Kept bs k (suc n) h
    kept_step = record { links = step-links; cues = step-cues; number = step-number; each = step-each }

  -- So it holds after every run.
  kept_on : {n : ℕ} {g h : Graph} → Run bs n g h → Kept bs k 0 g → Kept bs k n h
  kept_on stay t = t
  kept_on (then r s) t = kept_step (kept_on r t) s

  kept : k < length bs → {n : ℕ} {g : Graph} → Run bs n (begin bs k) g → Kept bs k n g
  kept known r = kept_on r (kept-begin known)

  pub each_stands : k < length bs → {n : ℕ} {g : Graph} → Run bs n (begin bs k) g → (u : Standing) → Memᴰ u g.uses → Stands bs k u
  each_stands known r u i = (kept known r).each u i

  -- Where a use stands, a copy is to be put in; where none is, no use stands.
  some_left : {n : ℕ} {g : Graph} → Kept bs k n g → (u : Standing) (us : List Standing) → g.uses ≡ u ∷ us → 1 ≤ left bs g.uses
  unfolding left
  some_left t u us e = rw e (omega (arith, copies_at bs good u.block (t.each u (rw e (mathlib.Core.List.Memᴰ.head refl))).known))

  none_left : {n : ℕ} {g : Graph} → Kept bs k n g → left bs g.uses ≡ 0 → g.uses ≡ []
  none_left {g} t z = go g.uses refl
    where
      go : (us : List Standing) → g.uses ≡ us → g.uses ≡ []
      go [] e = e
      go (u ∷ us) e = absurd (omega (arith, some_left t u us e))

  -- Each end of a link that is left is a cue that is left, or what a join meets.
  links-join : (g : Graph) → Permᴰ g.cues (map (node_at bs k) (range 1 (total bs k)))
      → Permᴰ (map (by_numbers bs k) g.links) (block_links bs k) → (e : Edge) → Memᴰ e g.links
      → Memᴰ e.from (g.cues ++ join_nodes bs k) × Memᴰ e.to (g.cues ++ join_nodes bs k)
  unfolding by_numbers block_links
  links-join g cues links e i =
      let joins : List ℕ = range (suc (total bs k)) (joins_of bs k) in
      let m : Memᴰ (by_numbers bs k e) (block_links bs k) = perm_mem links (mem_map (by_numbers bs k) i) in
      let (x, y) = links-within bs good k 0 joins (range_length (suc (total bs k)) (joins_of bs k)) (by_numbers bs k e) m in
      (end-in bs k cues e.from x, end-in bs k cues e.to y)

-- The demand, of every block.
pub unfolds : (bs : List Block) → Good bs → (k : ℕ) → k < length bs → Unfolds bs k (block_links bs k)
unfolding flat_map
unfolds bs good k known =
    record {
      bounded = λ r. omega (arith, (done r).number);
      goes_on_is = goes_on_is;
      all = λ {n} {g} r. (λ e. omega (arith, (done r).number, over-left bs g e), λ e. over r e);
      ended = let (g, r) = run-to (copies bs k) (omega arith) in (g, record { run = r; over = over r refl });
      named = number-back bs k good known;
      cues = cues;
      links = links;
      ends-in = λ {n} {g} e. links-join bs good k g (cues e) (links e);
    }
  where
    done : {n : ℕ} {g : Graph} → Run bs n (begin bs k) g → Kept bs k n g
    done r = kept bs good k known r

    goes_on_is : {n : ℕ} {g : Graph} → Run bs n (begin bs k) g → n < copies bs k → (h : Graph) × Step bs g h
    goes_on_is {n} {g} r l = one_more_is bs g (omega (arith, (done r).number))

    over : {n : ℕ} {g : Graph} → Run bs n (begin bs k) g → n ≡ copies bs k → g.uses ≡ []
    over r e = none_left bs good k (done r) (omega (arith, (done r).number))

    run-to : (n : ℕ) → n ≤ copies bs k → (g : Graph) × Run bs n (begin bs k) g
    run-to zero h = (begin bs k, stay)
    run-to (suc n) h = let (g, r) = run-to n (omega arith) in let (i, s) = goes_on_is r h in (i, then r s)

    cues : {n : ℕ} {g : Graph} → Ended bs k n g → Permᴰ g.cues (map (node_at bs k) (range 1 (total bs k)))
    cues e = rw append-nil at (rw e.over at (done e.run).cues)

    links : {n : ℕ} {g : Graph} → Ended bs k n g → Permᴰ (map (by_numbers bs k) g.links) (block_links bs k)
    links e = rw append-nil at (rw e.over at (done e.run).links)

-- And of the show, which has no joins.
pub unfolds_show : (bs : List Block) → Good bs → 1 ≤ length bs → joins_of bs (last_block bs) ≡ 0 → Unfolds bs (last_block bs) (show_links bs)
unfolding show_links block_links range last_block
unfolds_show bs good some closed = rw closed at (unfolds bs good (last_block bs) (omega arith))
