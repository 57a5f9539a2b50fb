-- Laws of the work area block by block: a part as it is lent, and the area with other numbers in it.
use Prim.Native.Nat.{ℕ, zero, suc, ◌+◌, ◌*◌, ◌-◌, ◌≤◌, ◌<◌}
use native.Mathlib.Omega.{arith}
use native.Mathlib.Decide.{dec_lt}
use mathlib.Core.Path.{◌≡◌, refl, sym, ◌∙◌, ap}
use mathlib.Core.Logic.{◌⊎◌, inl, inr}
use mathlib.Core.List.{List, ◌++◌}
use lib.ListN.{length, get_or, take, drop, length-drop, get_or-append}
use Rattle.std.specs.Simd.{first_chunks}
use Rattle.std.proofs.lemmas.List.{get_or-append_right}
use lib.Seq.{take_at, drop_at, drop-drop, get_or-take, get_or-drop, length-take-le}
use Rattle.model.specs.Limits.{max_blocks, summary_size, summary_width}
use Rattle.model.specs.Blocks.{blocks_of, last_block}
use Rattle.blocks.specs.Loaded.{Loaded}
use Rattle.blocks.proofs.Loaded.{loaded-show}
use Rattle.searches.specs.Joins.{RowKept}
use Rattle.searches.specs.Parts.{part_of, with_part}

-- How many blocks there are, by the last of them.
pub block-count : {xs t : List ℕ} (n : ℕ) → Loaded xs t → n ≡ last_block (blocks_of xs)
    → (n + 1 ≡ length (blocks_of xs)) × (n + 1 ≤ max_blocks)
unfolding last_block
block-count n g e = omega (arith, (loaded-show g).blocks)

-- There are no more than there may be.
pub blocks-few : {xs t : List ℕ} → Loaded xs t → length (blocks_of xs) ≤ max_blocks
blocks-few g = (loaded-show g).blocks.1

-- What stands in a part of a list, as it is lent.
pub lent_at : (n a : ℕ) (w : List ℕ) (x y : ℕ) → x < n → y ≡ a + x → get_or (take n (drop a w)) x 0 ≡ get_or w y 0
lent_at n a w x y h e = get_or-take n (drop a w) x 0 h ∙ get_or-drop a w x 0 ∙ ap (λ (z : ℕ). get_or w z 0) (sym e)

-- A part that is one of several in a row, of n each; and as it is read.
chunk_at : {A : Type 0} (n : ℕ) (w : List A) (k i : ℕ) (x : List A) → i < k → get_or (first_chunks n k w) i x ≡ take n (drop (n * i) w)
chunk_at n w zero i x h = absurd (omega arith)
chunk_at n w (suc k) zero x h = let z : n * 0 ≡ 0 = omega arith in rw z refl
chunk_at n w (suc k) (suc i) x h =
    let z : n + n * i ≡ n * suc i = omega arith in
    chunk_at n (drop n w) k i x (omega arith) ∙ ap (take n) (drop-drop (n * i) n w ∙ ap (λ (p : ℕ). drop p w) z)

pub chunk_is : {A : Type 0} {l : List (List A)} (n k i : ℕ) (w x : List A) → x ≡ get_or l i x → l ≡ first_chunks n k w → i < k
    → x ≡ take n (drop (n * i) w)
chunk_is n k i w x e f h = e ∙ ap (λ (l : List (List _)). get_or l i x) f ∙ chunk_at n w k i x h

-- How many there are from place a on and before a + m.
pub part_size : {A : Type 0} (w : List A) (a m : ℕ) → a + m ≤ length w → length (take (a + m - a) (drop a w)) ≡ m
part_size w a m h = length-take-le (a + m - a) (drop a w) (omega (arith, length-drop a w)) ∙ omega arith

-- A list with other numbers in such a part.
module _ (a n : ℕ) (w v : List ℕ) (size : length v ≡ n) (long : a + n ≤ length w) where
  abbrev changed : List ℕ
  changed = take a w ++ (v ++ drop n (drop a w))

  head-size : length (take a w) ≡ a
  head-size = length-take-le a w (omega arith)

  pub put_before : (x : ℕ) → x < a → get_or changed x 0 ≡ get_or w x 0
  put_before x h = get_or-append (take a w) (v ++ drop n (drop a w)) 0 x (omega (arith, head-size)) ∙ get_or-take a w x 0 h

  pub put_in : (x : ℕ) {y : ℕ} → x < n → y ≡ a + x → get_or changed y 0 ≡ get_or v x 0
  put_in x {y} h e =
      let z : y - a ≡ x = omega arith in
      get_or-append_right (take a w) (v ++ drop n (drop a w)) a y 0 head-size (omega arith)
      ∙ ap (λ (i : ℕ). get_or (v ++ drop n (drop a w)) i 0) z
      ∙ get_or-append v (drop n (drop a w)) 0 x (omega arith)

  pub put_behind : (x : ℕ) → a + n ≤ x → get_or changed x 0 ≡ get_or w x 0
  put_behind x h =
      let z : a + (n + (x - a - n)) ≡ x = omega arith in
      get_or-append_right (take a w) (v ++ drop n (drop a w)) a x 0 head-size (omega arith)
      ∙ get_or-append_right v (drop n (drop a w)) n (x - a) 0 size (omega arith)
      ∙ get_or-drop n (drop a w) (x - a - n) 0
      ∙ get_or-drop a w (n + (x - a - n)) 0
      ∙ ap (λ (i : ℕ). get_or w i 0) z

-- Block k's part as the code lends it, and the work area with other numbers put in there.
pub part-lent : (w : List ℕ) (k : ℕ) → take (summary_size * k + summary_size - summary_size * k) (drop (summary_size * k) w) ≡ part_of w k
part-lent w k = let d : summary_size * k + summary_size - summary_size * k ≡ summary_size = omega arith in rw d

pub part_length : (w : List ℕ) (k : ℕ) → summary_size * k + summary_size ≤ length w
    → length (take (summary_size * k + summary_size - summary_size * k) (drop (summary_size * k) w)) ≡ summary_size
part_length w k long =
    ap length (part-lent w k) ∙ length-take-le summary_size (drop (summary_size * k) w) (omega (arith, length-drop (summary_size * k) w))

pub part-put : (w v s : List ℕ) (k : ℕ) → v ≡ s
    → take (summary_size * k) w ++ (v ++ drop (summary_size * k + summary_size - summary_size * k) (drop (summary_size * k) w)) ≡ with_part w k s
part-put w v s k e = let d : summary_size * k + summary_size - summary_size * k ≡ summary_size = omega arith in rw (d, drop-drop, e)

-- A part that was put in is there, the rest is as it was, and a second one takes its place.
module _ (w v : List ℕ) (k : ℕ) (long : summary_size * k + summary_size ≤ length w) where
  front : length (take (summary_size * k) w) ≡ summary_size * k
  front = length-take-le (summary_size * k) w (omega arith)

  behind : drop (summary_size * k) (with_part w k v) ≡ v ++ drop (summary_size * k + summary_size) w
  behind = drop_at (take (summary_size * k) w) (v ++ drop (summary_size * k + summary_size) w) (summary_size * k) front

  pub with_before : take (summary_size * k) (with_part w k v) ≡ take (summary_size * k) w
  with_before = take_at (take (summary_size * k) w) (v ++ drop (summary_size * k + summary_size) w) (summary_size * k) front

  module _ (size : length v ≡ summary_size) where
    pub part-with : part_of (with_part w k v) k ≡ v
    part-with = ap (take summary_size) behind ∙ take_at v (drop (summary_size * k + summary_size) w) summary_size size

    rest : drop (summary_size * k + summary_size) (with_part w k v) ≡ drop (summary_size * k + summary_size) w
    rest =
        sym (drop-drop summary_size (summary_size * k) (with_part w k v)) ∙ ap (drop summary_size) behind ∙ drop_at v
        (drop (summary_size * k + summary_size) w) summary_size size

    pub with_with : (u : List ℕ) → with_part (with_part w k v) k u ≡ with_part w k u
    with_with u = rw (with_before, rest)

    -- What stands in the part, and what stands elsewhere.
    pub with_in : (x : ℕ) → x < summary_size → get_or (with_part w k v) (summary_size * k + x) 0 ≡ get_or v x 0
    with_in x h =
        sym (get_or-drop (summary_size * k) (with_part w k v) x 0) ∙ ap (λ (z : List ℕ). get_or z x 0) behind
        ∙ get_or-append v (drop (summary_size * k + summary_size) w) 0 x (omega arith)

    with_else : (x : ℕ) → (x < summary_size * k) ⊎ (summary_size * k + summary_size ≤ x) → get_or (with_part w k v) x 0 ≡ get_or w x 0
    with_else x (inl h) =
        sym (get_or-take (summary_size * k) (with_part w k v) x 0 h) ∙ ap (λ (z : List ℕ). get_or z x 0) with_before ∙ get_or-take (summary_size * k) w x 0 h
    with_else x (inr h) =
        let e : summary_size * k + summary_size + (x - (summary_size * k + summary_size)) ≡ x = omega arith in
        let n : ℕ = x - (summary_size * k + summary_size) in
        rw e at
        (sym (get_or-drop (summary_size * k + summary_size) (with_part w k v) n 0) ∙ ap (λ (z : List ℕ). get_or z n 0) rest
        ∙ get_or-drop (summary_size * k + summary_size) w n 0)

    -- A row of the part is a row of the area.
    pub part-kept : (i : ℕ) (d : List ℕ) (p m : ℕ) → i < summary_width → m ≤ summary_width → RowKept (part_of w k) i d p m v
        → RowKept w (summary_width * k + i) d p m (with_part w k v)
    part-kept i d p m hi hm r = record { at = at; else = λ x h. else x h (dec_lt x (summary_size * k)) (dec_lt x (summary_size * k + summary_size)) }
      where
        at : (j : ℕ) → j < m → get_or (with_part w k v) (summary_width * (summary_width * k + i) + j) 0 ≡ get_or d (p + j) 0
        at j h =
            let e : summary_size * k + (summary_width * i + j) ≡ summary_width * (summary_width * k + i) + j = omega arith in
            rw e at (with_in (summary_width * i + j) (omega arith) ∙ r.at j h)

        lent : (x : ℕ) → x < summary_size → get_or (part_of w k) x 0 ≡ get_or w (summary_size * k + x) 0
        lent x h = get_or-take summary_size (drop (summary_size * k) w) x 0 h ∙ get_or-drop (summary_size * k) w x 0

        place : (x : ℕ) → (x < summary_width * (summary_width * k + i)) ⊎ (summary_width * (summary_width * k + i) + m ≤ x) → summary_size * k ≤ x
            → (x - summary_size * k < summary_width * i) ⊎ (summary_width * i + m ≤ x - summary_size * k)
        place x (inl h) l = inl (omega arith)
        place x (inr h) l = inr (omega arith)

        else : (x : ℕ) → (x < summary_width * (summary_width * k + i)) ⊎ (summary_width * (summary_width * k + i) + m ≤ x)
            → Dec (x < summary_size * k) → Dec (x < summary_size * k + summary_size) → get_or (with_part w k v) x 0 ≡ get_or w x 0
        else x h (yes l) b = with_else x (inl l)
        else x h (no l) (no b) = with_else x (inr (omega arith))
        else x h (no l) (yes b) =
            let e : summary_size * k + (x - summary_size * k) ≡ x = omega arith in
            rw e at
            (with_in (x - summary_size * k) (omega arith) ∙ r.else (x - summary_size * k) (place x h (omega arith))
            ∙ lent (x - summary_size * k) (omega arith))
