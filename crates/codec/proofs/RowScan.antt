-- The row of a line in the lent rows, and the step over the line.
use Prim.Native.Nat.{ℕ, ◌+◌, ◌*◌, ◌-◌, ◌/◌, ◌≤◌, ◌<◌}
use mathlib.Core.Path.{◌≡◌, refl, sym, ◌∙◌}
use mathlib.Core.Bool.{true, false}
use mathlib.Core.List.{List, ◌++◌}
use native.Mathlib.Omega.{arith}
use lib.ListN.{length, take, drop}
use Rattle.std.proofs.Common.{Option, Some, None, Ok, Err}
use Rattle.model.specs.Limits.{row_size}
use Rattle.model.specs.Text.{ends}
use Rattle.model.specs.Rows.{row_count}
use Rattle.model.specs.Verdicts.{refusal}
use Rattle.basics.proofs.Choices.{lt_then, lt_else}
use Rattle.shows.specs.Files.{ends_of}
use Rattle.lines.specs.Scanning.{ValueFound, Values, Broken, line_at, LineSays}
use Rattle.codec.specs.Scanning.{stored, RowSays, StepSays}
use Rattle.shows.proofs.Lines.{ends-are}

-- What was stored of a line, as ys of xs, if a row of n places was lent to its reader.
row_as : (n r : ℕ) (l : Option ℕ) (f xs ys zs : List ℕ) (at : ℕ) → LineSays (line_at (ends_of n) f at) l zs → n ≡ row_size → ys ≡ stored r zs xs
    → RowSays (line_at ends f at) r l xs ys
unfolding LineSays RowSays
row_as n r l f xs ys zs at s e q = rw ends-are (go (line_at (ends_of row_size) f at) (rw e at s))
  where
    go : (k : ValueFound) → LineSays k l zs → RowSays k r l xs ys
    go (Values vs next) s = (s.0, q ∙ rw s.1)
    go Broken s = s

-- The row goes to its place, if there is one.
module _ (n r : ℕ) (l : Option ℕ) (f xs zs : List ℕ) (at : ℕ) (s : LineSays (line_at (ends_of n) f at) l zs) (e : n ≡ row_size) where
  pub row-stored : r < length xs / row_size
      → RowSays (line_at ends f at) r l xs (take (r * row_size) xs ++ (zs ++ drop (r * row_size + row_size - r * row_size) (drop (r * row_size) xs)))
  unfolding stored row_count
  row-stored h =
      let d : r * row_size + row_size - r * row_size ≡ row_size = omega arith in
      row_as n r l f xs _ zs at s e (rw d (sym (lt_then _ _ _ _ h)))

  pub row-spare : length xs / row_size ≤ r → RowSays (line_at ends f at) r l xs xs
  unfolding stored row_count
  row-spare h = row_as n r l f xs xs zs at s e (sym (lt_else _ _ _ _ h))

-- What a row's reader says: the line, or that there is none.
pub row_line : (k : ValueFound) (r next : ℕ) (rows ys : List ℕ) → RowSays k r (Some next) rows ys
    → (vs : List ℕ) × (k ≡ Values vs next) × (ys ≡ stored r vs rows)
unfolding RowSays
row_line (Values vs n) r next rows ys s = let (p, q) = s in (vs, (cc), q)
row_line Broken r next rows ys s = let z : ◌≡◌ {A = ℕ} 0 1 = cc in absurd (omega arith)

row-none : (k : ValueFound) (r : ℕ) (rows ys : List ℕ) → RowSays k r None rows ys → k ≡ Broken
unfolding RowSays
row-none (Values vs n) r rows ys s = let (p, q) = s in let z : ◌≡◌ {A = ℕ} 0 1 = cc in absurd (omega arith)
row-none Broken r rows ys s = refl

-- So a step at a place goes on behind the line there, or ends.
module _ (f xs ys : List ℕ) (at n : ℕ) (l : Option ℕ) (h : at < length f) (w : RowSays (line_at ends f at) n l xs ys) where
  pub step-on : (next : ℕ) → l ≡ Some next → StepSays f at n (Ok true) next xs ys
  unfolding StepSays
  step-on next e = (h, rw e at w)

  pub step-bad : (next : ℕ) → l ≡ None → StepSays f at n (Err (record { number = 3; place = n + 2 })) next xs ys
  unfolding StepSays refusal
  step-bad next e = (h, row-none _ n xs ys (rw e at w), refl)

pub step_end : (f xs : List ℕ) (at n next : ℕ) → length f ≤ at → StepSays f at n (Ok false) next xs xs
unfolding StepSays
step_end f xs at n next h = (h, refl)
