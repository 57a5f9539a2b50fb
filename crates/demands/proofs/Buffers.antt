-- What is left in a lent list whose beginning was overwritten.
use Prim.Native.Nat.{ℕ, ◌+◌, ◌-◌, ◌≤◌, ◌<◌}
use native.Mathlib.Omega.{arith}
use mathlib.Core.Path.{◌≡◌, sym, ◌∙◌, ap}
use mathlib.Core.List.{List}
use lib.ListN.{length, get_or, drop, length-append, length-drop, get_or-append}
use lib.Seq.{take-append_seam, drop-append_seam, get_or-append-add, get_or-drop}
use Rattle.model.specs.Lists.{overwrite}
use Rattle.demands.specs.Buffers.{Leaves}

-- Numbers that fit stand at the beginning, and the rest is what it was.
pub leaves : (numbers lent : List ℕ) → length numbers ≤ length lent → Leaves numbers lent (overwrite numbers lent)
unfolding overwrite
leaves numbers lent h =
    record {
      first = take-append_seam numbers (drop (length numbers) lent);
      rest = drop-append_seam numbers (drop (length numbers) lent);
      size = simp (length-append, length-drop) (omega arith);
    }

-- The same by places.
module _ (numbers lent : List ℕ) (p d : ℕ) where
  pub over_first : p < length numbers → get_or (overwrite numbers lent) p d ≡ get_or numbers p d
  unfolding overwrite
  over_first h = get_or-append numbers (drop (length numbers) lent) d p h

  pub over-beyond : length numbers ≤ p → get_or (overwrite numbers lent) p d ≡ get_or lent p d
  unfolding overwrite
  over-beyond h =
      let e : length numbers + (p - length numbers) ≡ p = omega arith in
      ap (λ n. get_or (overwrite numbers lent) n d) (sym e)
      ∙ get_or-append-add numbers (drop (length numbers) lent) (p - length numbers) d
      ∙ get_or-drop (length numbers) lent (p - length numbers) d
      ∙ ap (λ n. get_or lent n d) e
