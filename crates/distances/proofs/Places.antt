-- Where the summaries stand in the work area, "at place 64 × k + 8 × (i − 1) + (j − 1), counted from 0", whatever finds them.
use Prim.Native.Nat.{ℕ, zero, suc, ◌+◌, ◌*◌, ◌-◌, ◌≤◌, ◌<◌}
use native.Mathlib.Omega.{arith}
use mathlib.Core.Path.{◌≡◌, refl, sym, ◌∙◌, ap}
use mathlib.Core.List.{List, [], ◌∷◌, ◌++◌, map, flat_map, append-nil, append_assoc}
use lib.ListN.{length, get_or, length-append, length-map, get_or-append}
use lib.Seq.{get_or-append-add}
use Rattle.model.specs.Limits.{summary_size, summary_width}
use Rattle.model.specs.Blocks.{Block}
use Rattle.model.specs.Lists.{range}
use Rattle.model.specs.Summaries.{Search, summary_by, summary_of_by, summaries_by}
use Rattle.basics.proofs.Members.{get_d_map_in, range_length, range_at}
use Rattle.distances.specs.Tells.{summary_place, summaries_to_by}

-- Lists of one width, one behind the other.
module _ (f : ℕ → List ℕ) (width : ℕ) (wide : (x : ℕ) → length (f x) ≡ width) where
  pub flat_length : (xs : List ℕ) → length (flat_map f xs) ≡ width * length xs
  unfolding flat_map
  flat_length [] = omega arith
  flat_length (x ∷ xs) = omega (arith, length-append (f x) (flat_map f xs), wide x, flat_length xs)

  pub flat_at : (xs : List ℕ) (i j : ℕ) → i < length xs → j < width → get_or (flat_map f xs) (width * i + j) 0 ≡ get_or (f (get_or xs i 0)) j 0
  unfolding flat_map
  flat_at [] i j h k = absurd (omega arith)
  flat_at (x ∷ xs) zero j h k =
      let e : width * 0 + j ≡ j = omega arith in
      rw e (get_or-append (f x) (flat_map f xs) 0 j (omega (arith, wide x)))
  flat_at (x ∷ xs) (suc i) j h k =
      let e : width * suc i + j ≡ length (f x) + (width * i + j) = omega (arith, wide x) in
      rw e (get_or-append-add (f x) (flat_map f xs) (width * i + j) 0 ∙ flat_at xs i j (omega arith) k)

range_snoc : (m n : ℕ) → range m (suc n) ≡ range m n ++ (m + n) ∷ []
unfolding range
range_snoc m zero = let e : m + 0 ≡ m = omega arith in rw e refl
range_snoc m (suc n) = let e : m + suc n ≡ suc m + n = omega arith in rw e (ap (λ xs. m ∷ xs) (range_snoc (suc m) n))

flat_snoc : (f : ℕ → List ℕ) (xs : List ℕ) (x : ℕ) → flat_map f (xs ++ x ∷ []) ≡ flat_map f xs ++ f x
unfolding flat_map
flat_snoc f [] x = append-nil (f x)
flat_snoc f (y ∷ xs) x = ap (λ zs. f y ++ zs) (flat_snoc f xs x) ∙ sym (append_assoc (f y) (flat_map f xs) (f x))

module _ (find : Search) (bs : List Block) where
  -- A block's numbers.
  row : ℕ → ℕ → List ℕ
  row k i = map (λ j. summary_by find bs k i j) (range 1 summary_width)

  row-length : (k i : ℕ) → length (row k i) ≡ summary_width
  unfolding row
  row-length k i = length-map (range 1 summary_width) (λ j. summary_by find bs k i j) ∙ range_length 1 summary_width

  row_at : (k i j : ℕ) → j < summary_width → get_or (row k i) j 0 ≡ summary_by find bs k i (suc j)
  unfolding row
  row_at k i j h =
      let e : get_or (range 1 summary_width) j 0 ≡ suc j = omega (arith, range_at 1 summary_width j h) in
      get_d_map_in (λ j. summary_by find bs k i j) (range 1 summary_width) j (omega (arith, range_length 1 summary_width)) ∙ ap (λ c. summary_by find bs k i c) e

  pub summary_of-length : (k : ℕ) → length (summary_of_by find bs k) ≡ summary_size
  unfolding summary_of_by row
  summary_of-length k =
      omega (arith, flat_length (λ i. row k i) summary_width (λ i. row-length k i) (range 1 summary_width), range_length 1 summary_width)

  pub summary_of-at : (k i j : ℕ) → i < summary_width → j < summary_width
      → get_or (summary_of_by find bs k) (summary_width * i + j) 0 ≡ summary_by find bs k (suc i) (suc j)
  unfolding summary_of_by row
  summary_of-at k i j x y =
      let e : get_or (range 1 summary_width) i 0 ≡ suc i = omega (arith, range_at 1 summary_width i x) in
      flat_at (λ i. row k i) summary_width (λ i. row-length k i) (range 1 summary_width) i j (omega (arith, range_length 1 summary_width)) y
      ∙ ap (λ c. get_or (row k c) j 0) e ∙ row_at k (suc i) j y

  pub summaries_to-next : (n : ℕ) → summaries_to_by find bs (suc n) ≡ summaries_to_by find bs n ++ summary_of_by find bs n
  unfolding summaries_to_by
  summaries_to-next n =
      let e : 0 + n ≡ n = omega arith in
      ap (flat_map (λ k. summary_of_by find bs k)) (rw e at (range_snoc 0 n)) ∙ flat_snoc (λ k. summary_of_by find bs k) (range 0 n) n

  pub summaries_to-length : (n : ℕ) → length (summaries_to_by find bs n) ≡ summary_size * n
  unfolding summaries_to_by
  summaries_to-length n =
      omega (arith, flat_length (λ k. summary_of_by find bs k) summary_size (λ k. summary_of-length k) (range 0 n), range_length 0 n)

  -- Where they begin a list, block k's number for joins i and j is at its place.
  pub summaries_to-at : (n : ℕ) (rest : List ℕ) (k i j : ℕ) → k < n → 1 ≤ i → i ≤ summary_width → 1 ≤ j → j ≤ summary_width
      → get_or (summaries_to_by find bs n ++ rest) (summary_place k i j) 0 ≡ summary_by find bs k i j
  unfolding summaries_to_by
  summaries_to-at n rest k i j h a b c d =
      let p : summary_place k i j ≡ summary_size * k + (summary_width * (i - 1) + (j - 1)) = omega arith in
      let e : get_or (range 0 n) k 0 ≡ k = omega (arith, range_at 0 n k h) in
      let x : suc (i - 1) ≡ i = omega arith in
      let y : suc (j - 1) ≡ j = omega arith in
      let l : length (summaries_to_by find bs n) ≡ summary_size * n = summaries_to-length n in
      rw p
      (get_or-append (summaries_to_by find bs n) rest 0 (summary_size * k + (summary_width * (i - 1) + (j - 1))) (omega arith)
      ∙ flat_at (λ k. summary_of_by find bs k) summary_size (λ k. summary_of-length k) (range 0 n) k (summary_width * (i - 1) + (j - 1))
      (omega (arith, range_length 0 n)) (omega arith)
      ∙ ap (λ c. get_or (summary_of_by find bs c) (summary_width * (i - 1) + (j - 1)) 0) e
      ∙ (rw (x, y) at (summary_of-at k (i - 1) (j - 1) (omega arith) (omega arith))))

  -- "its first 64 × blocks numbers hold the summaries".
  pub summaries-all : summaries_by find bs ≡ summaries_to_by find bs (length bs)
  unfolding summaries_by summaries_to_by
  summaries-all = refl

  pub summaries-length : length (summaries_by find bs) ≡ summary_size * length bs
  summaries-length = rw (summaries-all) (summaries_to-length (length bs))

  -- "for block k, join i to join j (both from 1) at place 64 × k + 8 × (i − 1) + (j − 1), counted from 0".
  pub summaries-at : (k i j : ℕ) → k < length bs → 1 ≤ i → i ≤ summary_width → 1 ≤ j → j ≤ summary_width
      → get_or (summaries_by find bs) (summary_place k i j) 0 ≡ summary_by find bs k i j
  summaries-at k i j h a b c d =
      rw (summaries-all, ← append-nil (summaries_to_by find bs (length bs))) (summaries_to-at (length bs) [] k i j h a b c d)
