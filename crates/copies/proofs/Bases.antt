-- Where the copies of a copy's uses begin: each behind the one before, and all inside.
use Prim.Native.Nat.{ℕ, suc, ◌+◌, ◌-◌, ◌≤◌, ◌<◌}
use native.Mathlib.Omega.{arith}
use mathlib.Core.Path.{◌≡◌, ◌∙◌, ap}
use mathlib.Core.List.{List, [], ◌∷◌, ◌++◌}
use lib.ListN.{length, get_or, take, drop}
use lib.Seq.{take-suc, split_at, take_all}
use Rattle.model.specs.Blocks.{Use, Block, block_at, own_of, sum_over, total, blocks_of}
use Rattle.shows.proofs.Ranges.{parts_from-range}
use Rattle.shows.specs.Copies.{copy_of, IsPart}
use Rattle.shows.proofs.BlockAt.{own_of_at, total-at}
use Rattle.shows.proofs.Locality.{parts_from-here}
use Rattle.verdicts.specs.Index.{use_at}
use Rattle.blocks.specs.Loaded.{Loaded, uses_begin, UseRows}
use Rattle.blocks.proofs.Loaded.{loaded-show}
use Rattle.blocks.proofs.Uses.{use_rows_length, use_rows_at}
use Rattle.copies.specs.Copies.{inner_base}

sum-append : (f : ℕ → ℕ) (us ws : List Use) → sum_over f (us ++ ws) ≡ sum_over f us + sum_over f ws
unfolding sum_over
sum-append f [] ws = omega arith
sum-append f (u ∷ us) ws = omega (arith, sum-append f us ws)

sum_one : (f : ℕ → ℕ) (u : Use) → sum_over f (u ∷ []) ≡ f u.block
unfolding sum_over
sum_one f u = omega arith

abbrev pub no_use : Use
no_use = record { block = 0; at = [] }

module _ {xs t : List ℕ} (g : Loaded xs t) (k base : ℕ) {a e : ℕ} (rows : UseRows xs t k a e) where
  abbrev bs : List Block
  bs = blocks_of xs

  abbrev us : List Use
  us = (block_at bs k).uses

  pub inner_base-begin : (own : ℕ) → own ≡ own_of bs k → base + own ≡ inner_base xs t k base a
  unfolding sum_over
  inner_base-begin own z = let n : a - uses_begin t k ≡ 0 = omega (arith, rows.begin) in rw n (omega arith)

  pub inner_base-done : inner_base xs t k base e ≡ base + total bs k
  inner_base-done =
      let all : take (e - uses_begin t k) us ≡ us = take_all (e - uses_begin t k) us (omega (arith, use_rows_length rows, rows.begin)) in
      rw all (omega (arith, total-at bs (loaded-show g).good k 0 [], own_of_at bs k))

  module _ (r : ℕ) (x : a ≤ r) (y : r < e) where
    abbrev n : ℕ
    n = r - uses_begin t k

    many : n < length us
    many = omega (arith, use_rows_length rows, rows.begin)

    pub use_here : get_or us n no_use ≡ use_at xs bs r
    use_here = let z : n ≡ r - a = omega (arith, rows.begin) in rw z (use_rows_at rows r no_use x y)

    pub inner_base-on : inner_base xs t k base r + total bs (use_at xs bs r).block ≡ inner_base xs t k base (r + 1)
    inner_base-on =
        let z : r + 1 - uses_begin t k ≡ suc n = omega (arith, rows.begin) in
        let s : sum_over (total bs) (take (suc n) us) ≡ sum_over (total bs) (take n us) + total bs (use_at xs bs r).block =
        rw (take-suc us n no_use many, use_here)
        (sum-append (total bs) (take n us) (use_at xs bs r ∷ []) ∙ ap (λ i. sum_over (total bs) (take n us) + i) (sum_one (total bs) (use_at xs bs r))) in
        rw z (omega (arith, s))

    pub inner-part : (met : List ℕ) → IsPart (copy_of bs k base met) (record { of = use_at xs bs r; base = inner_base xs t k base r })
    inner-part met =
        let s : us ≡ take n us ++ use_at xs bs r ∷ drop (suc n) us = rw (← use_here) (split_at us n no_use many) in
        rw (own_of_at bs k)
        (rw (← s) at (parts_from-here (total bs) (base + (block_at bs k).own) (take n us) (use_at xs bs r) (drop (suc n) us)))

    pub inner-fits : inner_base xs t k base r + total bs (use_at xs bs r).block ≤ base + total bs k
    inner-fits =
        omega (
          arith,
          total-at bs (loaded-show g).good k 0 [],
          own_of_at bs k,
          parts_from-range (total bs) (base + (block_at bs k).own) us _ (inner-part []),
        )
