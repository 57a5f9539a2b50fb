-- The work area as it is filled: the summaries of the blocks so far, and what was there before
-- behind them.
use Prim.Native.Nat.{ℕ, suc, ◌+◌, ◌*◌, ◌-◌, ◌≤◌, ◌<◌}
use native.Mathlib.Omega.{arith}
use native.Mathlib.Numerals.{add-one}
use mathlib.Core.Path.{◌≡◌, refl, sym, ◌∙◌, ap}
use mathlib.Core.List.{List, ◌++◌, flat_map, append_assoc}
use lib.ListN.{length, get_or, take, drop, replicate, length-append, length-drop, length-replicate}
use lib.Seq.{take_at, drop_at, drop-drop, get_or-take, length-take-le}
use Rattle.model.specs.Limits.{no_chain, max_joins, summary_size, work_size}
use Rattle.model.specs.Lists.{range, overwrite}
use Rattle.model.specs.Blocks.{Block, joins_of, own_of, last_block, blocks_of}
use Rattle.model.specs.Chains.{fewest}
use Rattle.model.specs.Summaries.{summary_of, summaries, work_by, work_after}
use Rattle.shows.specs.WellFormed.{Small}
use Rattle.shows.proofs.AtBlock.{joins-small}
use Rattle.distances.specs.Tells.{summary_place, summaries_to, summaries_to_by}
use Rattle.distances.proofs.Places.{summaries_to-next, summaries_to-length, summaries_to-at, summaries-all, summaries-length}
use Rattle.blocks.specs.Loaded.{Loaded}
use Rattle.blocks.proofs.Loaded.{loaded-show}
use Rattle.distances.specs.Walks.{Price}
use Rattle.searches.specs.Edges.{Only, SpreadIn}
use Rattle.searches.specs.Joins.{RowKept}
use Rattle.searches.specs.Parts.{part_of, with_part}
use Rattle.searches.proofs.Parts.{block-count, part-lent, part_length, part-put, with_before, part-with, with_with}
use Rattle.distance.specs.Summaries.{RowFound, RowsFilled, PartFilled, Below}
use Rattle.distance.proofs.Summaries.{filled-begin, filled-done}

-- The summaries of the lower blocks stay as a part is put in.
with_below : (w v : List ℕ) (k : ℕ) → summary_size * k + summary_size ≤ length w → (bs : List Block) → Small bs → Below bs k w
    → Below bs k (with_part w k v)
with_below w v k long bs small below m i j h x y =
    let few : joins_of bs m ≤ max_joins = joins-small m small in
    let l : summary_place m i j < summary_size * k = omega arith in
    sym (get_or-take (summary_size * k) (with_part w k v) (summary_place m i j) 0 l)
    ∙ ap (λ (z : List ℕ). get_or z (summary_place m i j) 0) (with_before w v k long)
    ∙ get_or-take (summary_size * k) w (summary_place m i j) 0 l
    ∙ below m i j h x y

-- A part put in anew: what was filled there goes.
part-again : {bs : List Block} {k i : ℕ} {w u : List ℕ} → PartFilled bs k i w u → summary_size * k + summary_size ≤ length w → (p : List ℕ)
    → with_part u k p ≡ with_part w k p
part-again {k = k} {w = w} s long p = ap (λ (z : List ℕ). with_part z k p) s.is ∙ with_with w s.part k long s.filled.size p

-- A block's part at first: no chain anywhere.
module _ (bs : List Block) (k : ℕ) (w v : List ℕ) (long : summary_size * k + summary_size ≤ length w)
    (ev : v ≡ replicate (length (take (summary_size * k + summary_size - summary_size * k) (drop (summary_size * k) w))) no_chain) where
  -- The work area with it, as the code puts it in.
  abbrev begun : List ℕ
  begun = take (summary_size * k) w ++ (v ++ drop (summary_size * k + summary_size - summary_size * k) (drop (summary_size * k) w))

  first : PartFilled bs k 0 w begun
  first =
      record {
        part = replicate summary_size no_chain;
        is = part-put w v (replicate summary_size no_chain) k (ev ∙ ap (λ (m : ℕ). replicate m no_chain) (part_length w k long));
        filled = filled-begin bs k;
      }

  pub part-begin : PartFilled bs k 0 begun begun
  part-begin =
      record {
        part = first.part;
        is = first.is ∙ sym (part-again first long first.part);
        filled = first.filled;
      }

  -- All rows.
  pub part-done : {x : List ℕ} {i m : ℕ} → PartFilled bs k i begun x → m ≡ joins_of bs k → i ≤ m → m ≤ i → x ≡ with_part w k (summary_of bs k)
  part-done r e h l =
      r.is ∙ part-again first long r.part ∙ ap (with_part w k) (filled-done bs k _ r.part (omega arith) r.filled)

-- One row more.
module _ {bs : List Block} {k : ℕ} {w u : List ℕ} {i : ℕ} (s : PartFilled bs k i w u) (long : summary_size * k + summary_size ≤ length w) where
  pub part-rows : RowsFilled bs k i (part_of u k)
  part-rows = rw (s.is, part-with w s.part k long s.filled.size) s.filled

  pub filled-part_on : {x : List ℕ} → PartFilled bs k (i + 1) u x → PartFilled bs k (i + 1) w x
  filled-part_on {x} r =
      record {
        part = r.part;
        is = r.is ∙ part-again s long r.part;
        filled = r.filled;
      }

-- The summaries of the lower blocks stay.
module _ {xs t : List ℕ} (g : Loaded xs t) (k : ℕ) where
  pub below-begin : (w v : List ℕ) → summary_size * k + summary_size ≤ length w → Below (blocks_of xs) k w
      → Below (blocks_of xs) k
      (take (summary_size * k) w ++ (v ++ drop (summary_size * k + summary_size - summary_size * k) (drop (summary_size * k) w)))
  below-begin w v long b = rw (part-put w v v k refl) (with_below w v k long (blocks_of xs) (loaded-show g).small b)

  pub below_on : {w u : List ℕ} {i n : ℕ} → PartFilled (blocks_of xs) k i w u → length w ≡ n → summary_size * k + summary_size ≤ n
      → Below (blocks_of xs) k w → Below (blocks_of xs) k u
  below_on {w} s e long b = rw s.is (with_below w s.part k (omega arith) (blocks_of xs) (loaded-show g).small b)

module _ (bs : List Block) (w₀ : List ℕ) where
  -- The area with the summaries of the first k blocks.
  abbrev pub area : ℕ → List ℕ
  area k = summaries_to bs k ++ drop (summary_size * k) w₀

  pub area-begin : w₀ ≡ area 0
  unfolding summaries_to_by range flat_map
  area-begin = refl

  area-length : (k : ℕ) → summary_size * k ≤ length w₀ → length (area k) ≡ length w₀
  area-length k h =
      omega (arith, length-append (summaries_to bs k) (drop (summary_size * k) w₀), length-drop (summary_size * k) w₀, summaries_to-length fewest bs k)

  area-below : (k : ℕ) (w : List ℕ) → Small bs → w ≡ area k → Below bs k w
  area-below k w small e m i j h x y =
      rw e
      (summaries_to-at fewest bs k (drop (summary_size * k) w₀) m i j h x.0 (omega (arith, joins-small m small)) y.0 (omega (arith, joins-small m small)))

  area-rest : (k n : ℕ) → drop (summary_size * k + n) (area k) ≡ drop (summary_size * k + n) w₀
  area-rest k n =
      sym (drop-drop n (summary_size * k) (area k))
      ∙ ap (drop n) (drop_at (summaries_to bs k) (drop (summary_size * k) w₀) (summary_size * k) (summaries_to-length fewest bs k))
      ∙ drop-drop n (summary_size * k) w₀

  pub area_on : (k : ℕ) (w u : List ℕ) → w ≡ area k
      → u ≡ take (summary_size * k) w ++ (summary_of bs k ++ drop (summary_size * k + summary_size) w) → u ≡ area (k + 1)
  area_on k w u e f =
      let p : summary_size * suc k ≡ summary_size * k + summary_size = omega arith in
      f
      ∙ (rw (
        e,
        take_at (summaries_to bs k) (drop (summary_size * k) w₀) (summary_size * k) (summaries_to-length fewest bs k),
        area-rest k summary_size,
        add-one,
        p,
        summaries_to-next fewest bs k,
        append_assoc,
      ))

  -- Zeros behind the last block's numbers, up to the area's end.
  area-done : (w u z : List ℕ) (b : ℕ) → b ≡ length bs → summary_size * b ≤ work_size → work_size ≤ length w₀ → w ≡ area b
      → z ≡ replicate (length (take (work_size - summary_size * b) (drop (summary_size * b) w))) 0
      → u ≡ take (summary_size * b) w ++ (z ++ drop (work_size - summary_size * b) (drop (summary_size * b) w)) → u ≡ work_after bs w₀
  unfolding work_by overwrite
  area-done w u z b eb few long ew ez eu =
      let n : length (take (work_size - summary_size * b) (drop (summary_size * b) (area b))) ≡ work_size - summary_size * b =
      length-take-le (work_size - summary_size * b) (drop (summary_size * b) (area b))
      (omega (arith, length-drop (summary_size * b) (area b), area-length b (omega arith))) in
      let s : summary_size * b + (work_size - summary_size * b) ≡ work_size = omega arith in
      let o : summaries bs ≡ summaries_to bs b = rw eb (summaries-all fewest bs) in
      let l : length (summaries_to bs b ++ replicate (work_size - summary_size * b) 0) ≡ work_size =
      omega (
        arith,
        length-append (summaries_to bs b) (replicate (work_size - summary_size * b) 0),
        summaries_to-length fewest bs b,
        length-replicate {A = ℕ} (work_size - summary_size * b) 0,
      ) in
      eu
      ∙ (rw (
        ez,
        ew,
        n,
        take_at (summaries_to bs b) (drop (summary_size * b) w₀) (summary_size * b) (summaries_to-length fewest bs b),
        drop-drop,
        area-rest b,
        s,
        ← eb,
        o,
        l,
        append_assoc,
      ))

-- Of a loaded show, as the code has it: how many blocks there are, the summaries below a block, and the whole work area.
module _ {xs t : List ℕ} (g : Loaded xs t) where
  abbrev bs : List Block
  bs = blocks_of xs

  pub last-count : {n : ℕ} → n ≡ last_block bs → n + 1 ≡ length bs
  last-count {n} e = (block-count n g e).0

  pub area-lower : (w₀ : List ℕ) {w : List ℕ} (k : ℕ) → w ≡ area bs w₀ k → Below bs k w
  area-lower w₀ {w} k e = area-below bs w₀ k w (loaded-show g).small e

  pub area-all : (n : ℕ) (w₀ w z : List ℕ) → n ≡ last_block bs → w ≡ area bs w₀ (n + 1)
      → z ≡ replicate (length (take (work_size - summary_size * (n + 1)) (drop (summary_size * (n + 1)) w))) 0 → work_size ≤ length w₀
      → take (summary_size * (n + 1)) w ++ (z ++ drop (work_size - summary_size * (n + 1)) (drop (summary_size * (n + 1)) w)) ≡ work_after bs w₀
  area-all n w₀ w z en ew ez long =
      area-done bs w₀ w _ z (n + 1) (last-count en) (omega (arith, block-count n g en)) long ew ez refl

-- The blocks passed are all.
pub area-last : (bs : List Block) (w₀ : List ℕ) {w : List ℕ} (k b : ℕ) → w ≡ area bs w₀ k → k ≤ b → b ≤ k → w ≡ area bs w₀ b
area-last bs w₀ k b e h l = let z : k ≡ b = omega arith in rw z at e

-- What the fewest question asks of the work area: it begins with the summaries.
pub area-summaries : (bs : List Block) (w : List ℕ) → take (summary_size * length bs) (work_after bs w) ≡ summaries bs
unfolding work_by overwrite
area-summaries bs w =
    rw append_assoc
    (take_at (summaries bs)
    (replicate (work_size - summary_size * length bs) 0
    ++ drop (length (summaries bs ++ replicate (work_size - summary_size * length bs) 0)) w)
    (summary_size * length bs) (summaries-length fewest bs))

-- A row that was found, as the code puts it in.
pub row-found : {inf : ℕ} {price : Price} {bs : List Block} {k i : ℕ} {before v d : List ℕ} {own o m : ℕ}
    → summary_size * k + summary_size ≤ length before → own ≡ own_of bs k → o ≡ own → m ≡ joins_of bs k
    → SpreadIn inf price bs before k (Only (o + 1 + i)) d
    → RowKept (take (summary_size * k + summary_size - summary_size * k) (drop (summary_size * k) before)) i d (o + 1) m v
    → length v ≡ length (take (summary_size * k + summary_size - summary_size * k) (drop (summary_size * k) before))
    → RowFound inf price bs k i before
    (take (summary_size * k) before ++ (v ++ drop (summary_size * k + summary_size - summary_size * k) (drop (summary_size * k) before)))
row-found {k = k} {before = before} {v = v} {d} long ew eo em s r size =
    record {
      estimates = d;
      spread = rw (eo ∙ ew) at s;
      part = v;
      row = rw (part-lent before k, eo ∙ ew, em) at r;
      size = size ∙ part_length before k long;
      is = part-put before v v k refl;
    }
