-- Loading a file: what the codec parsed is what the model reads.
use Prim.Native.Nat.{ℕ, ◌*◌, ◌-◌, ◌/◌, ◌%◌, ◌≤◌, ◌<◌}
use native.Mathlib.Omega.{arith}
use mathlib.Core.Path.{◌≡◌, refl, sym, ◌∙◌, ap}
use mathlib.Core.List.{List}
use lib.ListN.{length, take, drop}
use lib.Seq.{take_all, take_at}
use Rattle.std.specs.Prelude.{Ok, Err}
use Rattle.model.specs.Choice.{if_lt}
use Rattle.model.specs.Limits.{row_size, max_rows}
use Rattle.model.specs.Rows.{row_count}
use Rattle.model.specs.Lists.{overwrite}
use Rattle.model.specs.Verdicts.{refusal, refused, and_then, check_length, verdict, Reading, Numbers, Unread, read_file, by_line, in_lines, numbers_of, read_verdict, file_verdict, Verdict}
use Rattle.model.specs.declared.Refusal.{Refusal}
use Rattle.basics.proofs.Choices.{lt_then, lt_else, eq_then}
use Rattle.shows.proofs.Files.{read_whole}
use Rattle.codec.specs.Parsing.{filled, Parses}
use Rattle.std.proofs.Common.{Result, Ok, Err}
use Rattle.loading.specs.Loads.{Loads, Loading}

-- The rows of a file were parsed.
pub record ParsedRows (f lent ys : List ℕ) (n : ℕ) : Type 0 where
  pub xs : List ℕ
  pub reads : read_file f ≡ Numbers xs
  pub many : n ≡ row_count xs
  pub whole : length xs % row_size ≡ 0
  pub stored : ys ≡ filled xs lent

-- They stand in the lent rows, if there is room for them.
pub rows-stored : (f lent ys : List ℕ) (n : ℕ) (r : ParsedRows f lent ys n) → n * row_size ≤ length lent → take (n * row_size) ys ≡ r.xs
unfolding row_count filled overwrite
rows-stored f lent ys n r h =
    let size : n * row_size ≡ length r.xs = omega (arith, r.many, r.whole) in
    let all : take (length lent / row_size * row_size) r.xs ≡ r.xs = take_all (length lent / row_size * row_size) r.xs (omega arith) in
    rw size (ap (take (length r.xs)) (r.stored ∙ rw all) ∙ take_at r.xs (drop (length r.xs) lent) (length r.xs) refl)

-- Rows that were loaded where they stand by themselves are loaded where they stand first.
pub loaded-first : (v : Verdict) (xs ys t : List ℕ) (r : Loading) → take (length xs) ys ≡ xs → Loads v xs r xs t → Loads v xs r ys t
unfolding Loads
loaded-first v xs ys t (Ok n) e l = record { accepted = l.accepted; size = l.size; first = e; loaded = l.loaded }
loaded-first v xs ys t (Err f) e l = l

module _ (f lent ys : List ℕ) (p : Result ℕ Refusal) (P : Parses (read_file f) p lent ys) where
  pub unread : (r : Refusal) → p ≡ Err r → read_file f ≡ Unread r
  unfolding Parses
  unread r e = go (read_file f) P
    where
      go : (k : Reading) → Parses k p lent ys → k ≡ Unread r
      go (Numbers xs) P = absurd (let z : ◌≡◌ {A = ℕ} 0 1 = cc (sym e ∙ P.0) in omega arith)
      go (Unread s) P = let same : s ≡ r = cc (sym P ∙ e) in ap Unread same

  pub parsed_rows : (n : ℕ) → p ≡ Ok n → ParsedRows f lent ys n
  unfolding Parses
  parsed_rows n e = go (read_file f) refl P
    where
      go : (k : Reading) → read_file f ≡ k → Parses k p lent ys → ParsedRows f lent ys n
      go (Numbers xs) q P = record { xs = xs; reads = q; many = cc (sym e ∙ P.0); whole = read_whole f xs q; stored = P.1 }
      go (Unread s) q P = absurd (let z : ◌≡◌ {A = ℕ} 0 1 = cc (sym e ∙ P) in omega arith)

  -- The first way: refused by a line, too many rows, and rows that were loaded as the code lends them.
  module _ (t : List ℕ) where
    pub file-unread : (r : Refusal) → p ≡ Err r → Loads (file_verdict f) (numbers_of (read_file f)) (Err r) ys t
    unfolding Loads file_verdict read_verdict
    file-unread r e = rw (unread r e)

    pub file-many : (n : ℕ) (r : Loading) → p ≡ Ok n → max_rows < n → r ≡ Err (record { number = 4; place = 0 })
        → Loads (file_verdict f) (numbers_of (read_file f)) r ys t
    unfolding Loads file_verdict read_verdict verdict check_length and_then in_lines refused by_line refusal if_lt
    file-many n r e h q =
        let k = parsed_rows n e in
        rw (
          q,
          k.reads,
          eq_then (length k.xs % row_size) 0 _ _ k.whole,
          lt_else (row_count k.xs) 1 _ _ (omega (arith, k.many)),
          lt_then max_rows (row_count k.xs) _ _ (omega (arith, k.many)),
        )

    pub file-loaded : (n : ℕ) (r : Loading) → p ≡ Ok n → n ≤ max_rows → max_rows * row_size ≤ length lent
        → Loads (in_lines (verdict (take (n * row_size - 0) (drop 0 ys)))) (take (n * row_size - 0) (drop 0 ys)) r (take (n * row_size - 0) (drop 0 ys)) t
        → Loads (file_verdict f) (numbers_of (read_file f)) r ys t
    unfolding file_verdict read_verdict numbers_of row_count
    file-loaded n r e h long l =
        let k = parsed_rows n e in
        let end : n * row_size - 0 ≡ n * row_size = omega arith in
        let first : take (n * row_size) ys ≡ k.xs = rows-stored f lent ys n k (omega arith) in
        let size : length k.xs ≡ n * row_size = omega (arith, k.many, k.whole) in
        rw k.reads (loaded-first (in_lines (verdict k.xs)) k.xs ys t r (rw size first) (rw (end, first) at l))
