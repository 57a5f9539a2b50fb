-- Loading a file the second way: what the codec parsed, behind the built-in table, is what the model reads.
use Prim.Native.Nat.{ℕ, ◌+◌, ◌*◌, ◌-◌, ◌≤◌}
use native.Mathlib.Omega.{arith}
use mathlib.Core.Path.{◌≡◌, sym, ◌∙◌, ap}
use mathlib.Core.Bool.{Bool, true, false}
use mathlib.Core.List.{List, [], ◌++◌, append-nil}
use lib.ListN.{length, take, drop, length-drop, drop_of_length-le}
use lib.Seq.{take_all, take-append-add, drop_at, length-take-le}
use Rattle.std.specs.Prelude.{Err}
use Rattle.model.specs.Choice.{if_lt}
use Rattle.model.specs.Limits.{row_size, max_rows, desk_rows}
use Rattle.model.specs.Rows.{row_count}
use Rattle.model.specs.Verdicts.{refusal, refused, and_then, read_file, numbers_of}
use Rattle.model.specs.Desk.{built_in_numbers, with_desk, desk_verdict, by_own_line, in_own_lines, desk_read_verdict, desk_file_verdict}
use Rattle.model.specs.declared.Refusal.{Refusal}
use Rattle.shows.proofs.DeskTable.{desk_size, with_length}
use Rattle.codec.specs.Parsing.{Parses}
use Rattle.std.proofs.Common.{Result, Ok, Err}
use Rattle.desk.specs.Own.{own_rows_fit, own_numbers}
use Rattle.desk.proofs.Own.{fits-few, own-yes, own-no}
use Rattle.loading.specs.Loads.{Loads, BehindTable, Loading}
use Rattle.loading.proofs.Files.{ParsedRows, rows-stored, loaded-first, unread, parsed_rows}

-- The numbers behind the table.
own_behind : (xs : List ℕ) → own_numbers (with_desk xs) ≡ xs
unfolding own_numbers with_desk
own_behind xs = drop_at built_in_numbers xs (desk_rows * row_size) desk_size

-- The part behind the table's place is lent, and comes back as ys.
pub own-part : (f g ys : List ℕ) (p : Result ℕ Refusal) (n : ℕ) → Parses (read_file f) p (take n (drop (desk_rows * row_size) g)) ys → n ≡ length g - desk_rows * row_size
    → desk_rows * row_size ≤ length g
    → Parses (read_file f) p (own_numbers g) (own_numbers (take (desk_rows * row_size) g ++ (ys ++ drop n (drop (desk_rows * row_size) g))))
unfolding own_numbers
own-part f g ys p n w e h =
    let size : length (drop (desk_rows * row_size) g) ≡ n = length-drop (desk_rows * row_size) g ∙ sym e in
    let all : take n (drop (desk_rows * row_size) g) ≡ drop (desk_rows * row_size) g = take_all n (drop (desk_rows * row_size) g) (omega arith) in
    let none : drop n (drop (desk_rows * row_size) g) ≡ [] = drop_of_length-le (drop (desk_rows * row_size) g) {i = n} (omega arith) in
    let back : drop (desk_rows * row_size) (take (desk_rows * row_size) g ++ (ys ++ [])) ≡ ys =
    drop_at (take (desk_rows * row_size) g) (ys ++ []) (desk_rows * row_size) (length-take-le (desk_rows * row_size) g h) ∙ append-nil ys in
    rw (none, back) (rw all at w)

-- The own numbers of g were lent, and are those of ys afterwards.
module _ (f g ys : List ℕ) (p : Result ℕ Refusal) (P : Parses (read_file f) p (own_numbers g) (own_numbers ys)) where
  pub desk_unread : (zs t : List ℕ) (r : Refusal) → p ≡ Err r → Loads (desk_file_verdict f) (with_desk (numbers_of (read_file f))) (Err r) zs t
  unfolding Loads desk_file_verdict desk_read_verdict
  desk_unread zs t r e = rw (unread f (own_numbers g) (own_numbers ys) p P r e)

  -- n rows were parsed; b is the test of their number.
  module _ (n : ℕ) (e : p ≡ Ok n) (b : Bool) (q : b ≡ own_rows_fit n) where
    parsed : ParsedRows f (own_numbers g) (own_numbers ys) n
    parsed = parsed_rows f (own_numbers g) (own_numbers ys) p P n e

    -- Too few or too many.
    pub desk_unfit : (zs t : List ℕ) (r : Loading) → b ≡ false → r ≡ Err (record { number = 4; place = 0 })
        → Loads (desk_file_verdict f) (with_desk (numbers_of (read_file f))) r zs t
    unfolding Loads desk_file_verdict desk_read_verdict desk_verdict and_then refused in_own_lines by_own_line refusal if_lt
    desk_unfit zs t r k z = rw (z, parsed.reads, own-no parsed.xs n parsed.many (sym q ∙ k))

    -- They stand behind the table.
    module _ (k : b ≡ true) (long : max_rows * row_size ≤ length g) (zs : List ℕ) (w : zs ≡ with_desk (own_numbers ys)) where
      abbrev part : List ℕ
      part = take ((desk_rows + n) * row_size - 0) (drop 0 zs)

      all-rows : part ≡ with_desk parsed.xs
      unfolding with_desk own_numbers
      all-rows =
          let size : length (own_numbers g) ≡ length g - desk_rows * row_size = length-drop (desk_rows * row_size) g in
          let end : (desk_rows + n) * row_size - 0 ≡ length built_in_numbers + n * row_size = omega (arith, desk_size) in
          rw (end, w)
          (take-append-add built_in_numbers (own_numbers ys) (n * row_size)
          ∙ ap with_desk (rows-stored f (own_numbers g) (own_numbers ys) n parsed (omega (arith, fits-few n b q k))))

      pub desk_behind : BehindTable part
      desk_behind =
          rw all-rows
          (record {
            all = ap with_desk (sym (own_behind parsed.xs));
            own = rw (own_behind parsed.xs) (own-yes parsed.xs n parsed.many (sym q ∙ k));
          })

      pub desk_loaded : (r : Loading) (t : List ℕ) → Loads (in_own_lines (desk_verdict (own_numbers part))) part r part t
          → Loads (desk_file_verdict f) (with_desk (numbers_of (read_file f))) r zs t
      unfolding desk_file_verdict desk_read_verdict numbers_of row_count
      desk_loaded r t l =
          let end : length (with_desk parsed.xs) ≡ (desk_rows + n) * row_size - 0 =
          omega (arith, with_length parsed.xs, parsed.many, parsed.whole) in
          rw parsed.reads
          (loaded-first (in_own_lines (desk_verdict parsed.xs)) (with_desk parsed.xs) zs t r (rw end all-rows) (rw (all-rows, own_behind parsed.xs) at l))
