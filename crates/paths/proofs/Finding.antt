-- The way down from the show, as a place with its rows and as a path.
use Prim.Native.Nat.{ℕ, zero, suc, ◌+◌, ◌-◌, ◌≤◌, ◌<◌}
use native.Mathlib.Omega.{arith}
use native.Mathlib.Nat.{zero-add}
use native.Mathlib.Decide.{dec_lt, ℕ_discrete}
use mathlib.Core.Path.{◌≡◌, refl, sym, ◌∙◌, ap}
use mathlib.Core.List.{List, [], ◌∷◌, ◌++◌}
use lib.ListN.{length, get_or, drop, set, length-append, get_or-append, length-set}
use lib.Seq.{get_or-append-add, get_or-set_same, get_or-set_other, ext_get_or}
use Rattle.model.specs.Limits.{max_depth}
use Rattle.model.specs.Blocks.{Block, total, blocks_of, last_block, count}
use Rattle.model.specs.Paths as paths
use Rattle.model.specs.Lists.{overwrite}
use Rattle.shows.specs.Numbering.{IsPlace}
use Rattle.shows.proofs.Numbering.{numbering}
use Rattle.verdicts.specs.Index.{use_at}
use Rattle.blocks.specs.Loaded.{Loaded, IsBlock}
use Rattle.blocks.specs.Places.{block_on, Takes, Along, Found}
use Rattle.blocks.specs.declared.Place.{Place}
use Rattle.blocks.proofs.Loaded.{loaded-show}
use Rattle.paths.specs.Locating.{place_of, in_copy, MayLocate, UseFrom, Descends, ends, goes, block_below, Reached, Down, Positions, IsReached}

-- What is known of each level of the way down from block k.
record Level (xs t : List ℕ) (k : ℕ) (rows path : List ℕ) (l : ℕ) : Type 0 where
  pub row : UseFrom xs t (block_below xs k rows l) (get_or rows l 0)
  pub takes : Takes t (block_below xs k rows l) (get_or path l 0) (get_or rows l 0)

leads-level : {xs t : List ℕ} (rows path : List ℕ) {k : ℕ} → Descends xs t k rows path → (l : ℕ) → l < length path → Level xs t k rows path l
unfolding block_below
leads-level [] [] ends l h = absurd (omega arith)
leads-level [] (p ∷ path) d l h = elim d [ ]
leads-level (r ∷ rows) [] d l h = elim d [ ]
leads-level (r ∷ rows) (p ∷ path) (goes u e s) zero h = record { row = u; takes = e }
leads-level (r ∷ rows) (p ∷ path) (goes u e s) (suc zero) h =
    let y = leads-level rows path s zero (omega arith) in record { row = y.row; takes = y.takes }
leads-level (r ∷ rows) (p ∷ path) (goes u e s) (suc (suc l)) h =
    let y = leads-level rows path s (suc l) (omega arith) in record { row = y.row; takes = y.takes }

leads-length : {xs t : List ℕ} (rows path : List ℕ) {k : ℕ} → Descends xs t k rows path → length rows ≡ length path
leads-length [] [] ends = refl
leads-length [] (p ∷ path) d = elim d [ ]
leads-length (r ∷ rows) [] d = elim d [ ]
leads-length (r ∷ rows) (p ∷ path) (goes u e s) = ap suc (leads-length rows path s)

-- In a longer list.
longer-block : (xs rows rest : List ℕ) (l : ℕ) → l ≤ length rows → block_below xs (last_block (blocks_of xs)) rows l ≡ block_on xs (rows ++ rest) l
unfolding block_below block_on
longer-block xs rows rest zero h = refl
longer-block xs rows rest (suc l) h =
    ap (λ (r : ℕ). (use_at xs (blocks_of xs) r).block) (sym (get_or-append rows rest 0 l h))

-- What is asked of the show's copy.
pub show_asks : {xs t lent : List ℕ} (k n : ℕ) → Loaded xs t → k ≡ last_block (blocks_of xs) → IsBlock xs k → 1 ≤ n → n ≤ count (blocks_of xs)
    → max_depth ≤ length lent → MayLocate xs t lent k (total (blocks_of xs) k) n 0
unfolding count last_block
show_asks {xs} k n g e h low high room =
    record {
      loaded = g;
      block = h;
      low = low;
      high = rw (← e) at high;
      short = omega (arith, (loaded-show g).blocks);
      room = room;
    }

module _ {xs t lent after : List ℕ} {k n depth block own : ℕ} (g : Loaded xs t) (low : 1 ≤ n) (high : n ≤ count (blocks_of xs))
    (e : k ≡ last_block (blocks_of xs)) (p : Reached xs t k 0 (in_copy xs k n) lent depth block own after) where
  abbrev bs : List Block
  bs = blocks_of xs

  abbrev q : paths.Place
  q = paths.place_in bs (last_block bs) n

  same : in_copy xs k n ≡ q
  same = rw e refl

  placed : IsPlace bs n q
  placed = (numbering bs (loaded-show g).good).each n low high

  leads : Descends xs t (last_block bs) p.rows q.path
  leads = rw (← e) p.leads

  many : length p.rows ≡ length q.path
  many = leads-length p.rows q.path leads

  deep_is : depth ≡ length q.path
  deep_is = rw (← e) (p.deep ∙ zero-add (length (in_copy xs k n).path))

  copy_is : block ≡ q.block
  copy_is = rw (← e) p.copy

  own_is : own ≡ q.own
  own_is = rw (← e) p.cue

  after_is : after ≡ p.rows ++ drop (length p.rows) lent
  unfolding overwrite
  after_is = p.written

  row_is : (l : ℕ) → l < length q.path → get_or after l 0 ≡ get_or p.rows l 0
  row_is l h = rw after_is (get_or-append p.rows (drop (length p.rows) lent) 0 l (omega (arith, many)))

  block-is : (l : ℕ) → l ≤ length q.path → block_below xs (last_block bs) p.rows l ≡ block_on xs after l
  block-is l h = rw after_is (longer-block xs p.rows (drop (length p.rows) lent) l (omega (arith, many)))

  level : (l : ℕ) → l < length q.path → Level xs t (last_block bs) p.rows q.path l
  level l h = leads-level p.rows q.path leads l h

  row_at : (l : ℕ) → l < length q.path → UseFrom xs t (block_on xs after l) (get_or after l 0)
  row_at l h = rw (← block-is l (omega arith), row_is l h) (level l h).row

  takes_at : (l : ℕ) → l < length q.path → Takes t (block_on xs after l) (get_or q.path l 0) (get_or after l 0)
  takes_at l h = rw (← block-is l (omega arith), row_is l h) (level l h).takes

  long : length q.path ≤ length after
  long = rw after_is (omega (arith, length-append p.rows (drop (length p.rows) lent), many))

  along : Along xs t after q.path
  along = record { uses = record { long = long; at = λ l h. (row_at l h).row }; steps = takes_at }

  deep : depth ≤ max_depth
  unfolding last_block
  deep = omega (arith, deep_is, placed.located.depth, (loaded-show g).blocks)

  pub reached-down : Down xs t after depth
  reached-down = record { deep = deep; long = omega (arith, deep_is, long); at = λ l h. row_at l (omega (arith, deep_is)) }

  pub reached-found : Found xs t after (record { cue = n; depth = depth; block = block; own = own })
  reached-found =
      record {
        path = q.path;
        depth = deep_is;
        deep = deep;
        along = along;
        block =
            p.end ∙ ap (λ (m : ℕ). block_below xs m p.rows (length p.rows)) e
            ∙ ap (block_below xs (last_block bs) p.rows) many
            ∙ block-is (length q.path) (omega arith)
            ∙ ap (block_on xs after) (sym deep_is);
        number = rw own_is placed.number;
        some = low;
      }

  -- Once the rows are positions, they are the path.
  pub reached-place : record { cue = n; depth = depth; block = block; own = own } ≡ place_of n q
  reached-place = rw (deep_is, copy_is, own_is) refl

  pub reached-path : (final : List ℕ) → Positions xs t after depth final → final ≡ overwrite q.path lent
  unfolding overwrite
  reached-path final s = ext_get_or 0 final (q.path ++ drop (length q.path) lent) size (λ i h. at i (dec_lt i (length q.path)))
    where
      shape : length after ≡ length p.rows + length (drop (length p.rows) lent)
      shape = rw after_is (length-append p.rows (drop (length p.rows) lent))

      size : length final ≡ length (q.path ++ drop (length q.path) lent)
      size = s.long ∙ shape ∙ rw many (sym (length-append q.path (drop (length q.path) lent)))

      at : (i : ℕ) → Dec (i < length q.path) → get_or final i 0 ≡ get_or (q.path ++ drop (length q.path) lent) i 0
      at i (yes h) =
          omega (arith, s.done i (omega (arith, deep_is)), takes_at i h)
          ∙ sym (get_or-append q.path (drop (length q.path) lent) 0 i h)
      at i (no h) = rest (i - length q.path) i (omega arith)
        where
          rest : (m i : ℕ) → i ≡ length q.path + m → get_or final i 0 ≡ get_or (q.path ++ drop (length q.path) lent) i 0
          rest m i z =
              let a : get_or (p.rows ++ drop (length p.rows) lent) (length p.rows + m) 0 ≡ get_or (drop (length p.rows) lent) m 0 =
              get_or-append-add p.rows (drop (length p.rows) lent) m 0 in
              let b : get_or after (length q.path + m) 0 ≡ get_or (drop (length q.path) lent) m 0 = rw (after_is, ← many) a in
              rw z
              (s.else (length q.path + m) (omega (arith, deep_is)) ∙ b
              ∙ sym (get_or-append-add q.path (drop (length q.path) lent) m 0))

-- The same of what `reach` finds.
module _ {xs t lent after : List ℕ} {n : ℕ} {place : Place} (g : Loaded xs t) (low : 1 ≤ n) (high : n ≤ count (blocks_of xs))
    (p : IsReached xs t n lent place after) where
  as_found : record { cue = n; depth = place.depth; block = place.block; own = place.own } ≡ place
  as_found = rw (← p.cue) refl

  pub found-place : Found xs t after place
  found-place = rw as_found at (reached-found g low high refl p.down)

  pub found-down : Down xs t after place.depth
  found-down = reached-down g low high refl p.down

  pub found-at : place ≡ place_of n (paths.place_in (blocks_of xs) (last_block (blocks_of xs)) n)
  found-at = sym as_found ∙ reached-place g low high refl p.down

  pub found-path : (final : List ℕ) → Positions xs t after place.depth final
      → final ≡ overwrite (paths.place_in (blocks_of xs) (last_block (blocks_of xs)) n).path lent
  found-path = reached-path g low high refl p.down

-- The rows turned into positions one after the other.
pub record Turned (xs t rows : List ℕ) (depth k l : ℕ) (now : List ℕ) : Type 0 where
  pub block : k ≡ block_on xs rows l
  pub known : IsBlock xs k
  pub upto : l ≤ depth
  pub positions : Positions xs t rows l now

pub turned_begin : {xs t rows : List ℕ} {depth : ℕ} (k : ℕ) → k ≡ last_block (blocks_of xs) → IsBlock xs k → Turned xs t rows depth k 0 rows
unfolding block_on
turned_begin k e h =
    record {
      block = e;
      known = h;
      upto = omega arith;
      positions = record { long = refl; done = λ l x. absurd (omega arith); else = λ l x. refl };
    }

module _ {xs t rows now : List ℕ} {depth k l : ℕ} (d : Down xs t rows depth) (s : Turned xs t rows depth k l now) (h : l < depth) where
  pub turned_there : l < length now
  turned_there = omega (arith, s.positions.long, d.long)

  module _ (r : ℕ) (er : r ≡ get_or now l 0) where
    row_same : r ≡ get_or rows l 0
    row_same = er ∙ s.positions.else l (omega arith)

    pub turned_row : UseFrom xs t k r
    turned_row = rw (s.block, row_same) (d.at l h)

    pub turned_on : (p u : ℕ) → Takes t k p r → u ≡ (use_at xs (blocks_of xs) r).block → Turned xs t rows depth u (l + 1) (set now l p)
    unfolding block_on
    turned_on p u x y =
        let z : l + 1 ≡ suc l = omega arith in
        record {
          block = rw z (y ∙ rw row_same refl);
          known = rw y (omega (arith, turned_row.row.lower, turned_row.row.block));
          upto = omega arith;
          positions =
              record {
                long = length-set now l p ∙ s.positions.long;
                done = λ j w. done j w (ℕ_discrete j l);
                else = λ j w. get_or-set_other now l j p 0 (λ e. omega arith) ∙ s.positions.else j (omega arith);
              };
        }
      where
        done : (j : ℕ) → j < l + 1 → Dec (j ≡ l) → Takes t (block_on xs rows j) (get_or (set now l p) j 0) (get_or rows j 0)
        done j w (yes e) = rw (e, get_or-set_same now l p 0 turned_there, ← row_same, ← s.block) x
        done j w (no n) = rw (get_or-set_other now l j p 0 n) (s.positions.done j (omega arith))

pub turned_done : {xs t rows now : List ℕ} {depth k l : ℕ} → Turned xs t rows depth k l now → depth ≤ l → Positions xs t rows depth now
turned_done {depth = depth} {l = l} s h = let e : depth ≡ l = omega (arith, s.upto) in rw e s.positions
