-- The built-in table is as document 02, Paper 4, describes it.
use Prim.Native.Nat.{ℕ, ◌+◌, ◌≤◌, ◌<◌}
use native.Mathlib.Omega.{arith}
use native.Mathlib.Decide.{dec_lt}
use mathlib.Core.Path.{◌≡◌, refl, ◌∙◌, ap}
use mathlib.Core.Bool.{Bool, true, false}
use mathlib.Core.Logic.{◌⊎◌, inl, inr, ◌↔◌}
use mathlib.Core.List.Memᴰ
use mathlib.Core.List.{
  List,
  [],
  ◌∷◌,
  map,
  flat_map,
  Memᴰ,
}
use lib.ListN.{length, get_or, get_or-eq_default}
use Rattle.model.specs.Choice.{if_lt, if_true}
use Rattle.model.specs.Rules.{every}
use Rattle.model.specs.Rows.{row_count, row_values, file_text}
use Rattle.model.specs.Lists.{range}
use Rattle.model.specs.Blocks.{Link, Block, block_at, blocks_of}
use Rattle.model.specs.Desk.{plain_opening, plain_link, plain_run, built_in, built_in_numbers}
use Rattle.basics.proofs.Choices.{passed-not_lt}
use Rattle.basics.proofs.Members.{get_d_mem, every-mem, map-mem, mem_map, range-bounds, range-mem}
use Rattle.shows.proofs.DeskTable.{desk_size, table-rows, table-blocks, table-passes, table-count, table-crossing, plain_links, plain_block, table-block}
use Rattle.shows.proofs.Files.{rows-file}
use Rattle.demands.specs.Files.{UnpaddedFile}
use Rattle.demands.specs.Desk.{PlainLink, to-first, to-next, from_last, IsPlainRun, TableFact}
use Rattle.demands.proofs.Padding.{text-file_unpadded}
use Rattle.demands.proofs.RowByRow.{rows-keep, rows-passed}
use Rattle.demands.proofs.BlocksOfRows.{blocks-are}

-- A link is known by its cues and label.
abbrev one : ℕ → ℕ → Link
one a b = record { from = a; to = b; label = 1 }

link-is : (l : Link) (a b : ℕ) → l.from ≡ a → l.to ≡ b → l.label ≡ 1 → l ≡ one a b
link-is l a b p q s = rw (← p, ← q, ← s) refl

-- The links of a plain run.
plain-links : (k : ℕ) (l : Link) → Memᴰ l (plain_links k) ↔ PlainLink k l
plain-links k l = (λ i. part (Memᴰ.append_cases (map on (range 1 k)) i), back)
  where
    on : ℕ → Link
    on c = one c (c + 1)

    last : List Link
    last = one (k + 1) (k + 3) ∷ one (k + 2) 1 ∷ []

    inside : (c : ℕ) × Memᴰ c (range 1 k) × (l ≡ on c) → PlainLink k l
    inside (c, i, e) = let (low, high) = range-bounds 1 k c i in rw e (to-next low (omega arith) refl refl)

    second : (l ≡ one (k + 2) 1) ⊎ Memᴰ l [] → PlainLink k l
    second (inl e) = rw e (to-first refl refl refl)
    second (inr i) = absurd (Memᴰ.not-nil i)

    first : (l ≡ one (k + 1) (k + 3)) ⊎ Memᴰ l (one (k + 2) 1 ∷ []) → PlainLink k l
    first (inl e) = rw e (from_last refl refl refl)
    first (inr i) = second (Memᴰ.cases_cons i)

    part : Memᴰ l (map on (range 1 k)) ⊎ Memᴰ l last → PlainLink k l
    part (inl i) = inside (map-mem on l (range 1 k) i)
    part (inr i) = first (Memᴰ.cases_cons i)

    back : PlainLink k l → Memᴰ l (plain_links k)
    back (to-first p q s) = Memᴰ.append_right (map on (range 1 k)) (Memᴰ.tail (Memᴰ.head (link-is l (k + 2) 1 p q s)))
    back (to-next low high q s) =
        rw (link-is l l.from (l.from + 1) refl q s) (Memᴰ.append_left last (mem_map on (range-mem 1 k l.from low (omega arith))))
    back (from_last p q s) = Memᴰ.append_right (map on (range 1 k)) (Memᴰ.head (link-is l (k + 1) (k + 3) p q s))

plain-run : (k : ℕ) → k < 16 → IsPlainRun (blocks_of built_in_numbers) k
plain-run k h =
    let e : block_at (blocks_of built_in_numbers) k ≡ plain_block k = ap (λ bs. block_at bs k) table-blocks ∙ table-block k h in
    record {
      own = ap (λ (b : Block). b.own) e;
      joins = ap (λ (b : Block). b.joins) e;
      uses = ap (λ (b : Block). b.uses) e;
      links = λ l. rw e (plain-links k l);
    }

-- Its numbers are small, so their text is a file.
is_small : ℕ → Bool
is_small x = if_lt 999 x false true

all_small : every is_small built_in_numbers ≡ true
unfolding every is_small if_true if_lt built_in_numbers built_in flat_map range plain_run plain_opening plain_link row_values
all_small = refl

small_at : (i : ℕ) → get_or built_in_numbers i 0 ≤ 999
unfolding is_small
small_at i = go (dec_lt i (length built_in_numbers))
  where
    go : Dec (i < length built_in_numbers) → get_or built_in_numbers i 0 ≤ 999
    go (yes h) = (passed-not_lt 999 (get_or built_in_numbers i 0) true (every-mem is_small built_in_numbers all_small _ (get_d_mem built_in_numbers i h))).0
    go (no h) = rw (get_or-eq_default built_in_numbers 0 {n = i} (omega arith)) (omega arith)

file-printed : UnpaddedFile (file_text built_in) built_in_numbers
unfolding row_count
file-printed =
    rw table-rows at
    (text-file_unpadded (rows-file built_in_numbers (rw desk_size refl) small_at (rw desk_size (omega arith))))

-- "Over the whole table one fact is proved".
pub table-fact : TableFact
unfolding row_count
table-fact =
    record {
      size = desk_size;
      rows = rw desk_size refl;
      blocks = ap length table-blocks ∙ table-count;
      are = blocks-are built_in_numbers (rows-passed built_in_numbers (rw desk_size (omega arith)) (rw table-rows table-passes));
      plain = plain-run;
      printed = file-printed;
      passes = rows-keep built_in_numbers (rw table-rows table-passes);
      there = λ k h. rw table-blocks (table-crossing k h).there;
      back = λ k h. rw table-blocks (table-crossing k h).back;
    }
