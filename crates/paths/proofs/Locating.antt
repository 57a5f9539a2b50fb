-- Cues that fall into uses, and the way down to the copy that owns one.
use Prim.Native.Nat.{ℕ, suc, ◌+◌, ◌-◌, ◌≤◌, ◌<◌}
use native.Mathlib.Omega.{arith}
use native.Mathlib.Nat.{add-zero}
use native.Mathlib.Numerals.{add-one}
use native.Mathlib.Decide.{dec_lt}
use mathlib.Core.Path.{◌≡◌, refl, sym, ◌∙◌, ap}
use mathlib.Core.List.Memᴰ
use mathlib.Core.List.{List, [], ◌∷◌, ◌++◌}
use mathlib.Core.Bool.{Bool, true, false}
use lib.ListN.{length, take, drop, set, length-set, take-append-drop}
use lib.Seq.{take-suc-set, drop-set-lt, drop-drop, append_snoc}
use lib.Dec.{eqb}
use borrow.Author.Tests.{eqb-false}
use Rattle.model.specs.Choice.{if_lt}
use Rattle.model.specs.Blocks.{Use, Block, block_at, own_of, sum_over, total, blocks_of}
use Rattle.model.specs.Paths as paths
use Rattle.model.specs.Lists.{overwrite}
use Rattle.shows.specs.WellFormed.{Good, more}
use Rattle.basics.proofs.Choices.{lt_then, lt_else}
use Rattle.shows.proofs.BlockAt.{Lower, lower_skip, good-at, total-at, own_of_at}
use Rattle.shows.proofs.AtBlock.{total-skip, block_at_hit, block_at_skip, place_in_hit, place_in_skip}
use Rattle.verdicts.specs.Index.{use_at, uses_from}
use Rattle.blocks.specs.Loaded.{Loaded, IsBlock, UseRows, UseRow}
use Rattle.blocks.specs.Places.{Takes}
use Rattle.blocks.proofs.Loaded.{uses_from-next, loaded-show, use_row, used_block}
use Rattle.paths.specs.Locating.{uses_of, cues_of, in_copy, in_uses, MayLocate, UseFrom, Descends, ends, goes, block_below, Reached}

-- Where cue n of a copy of block k is, over all blocks: what a block means does not depend on the blocks behind which it stands.
module _ (b : Block) (earlier : List Block) where
  places-more : (p n : ℕ) (us : List Use) → Lower us (length earlier)
      → paths.uses_place (total earlier) (paths.place_in earlier) p n us ≡ paths.uses_place (total (b ∷ earlier)) (paths.place_in (b ∷ earlier)) p n us
  unfolding paths.uses_place
  places-more p n [] h = refl
  places-more p n (u ∷ us) h =
      let e : eqb u.block (length earlier) ≡ false = lower_skip b earlier u.block (h u (Memᴰ.head refl)) in
      rw (total-skip b earlier u.block e, place_in_skip b earlier u.block n e)
      (ap (λ (q : paths.Place). if_lt (total earlier u.block) n q (paths.step_then p (paths.place_in earlier u.block n)))
      (places-more (suc p) (n - total earlier u.block) us (λ w i. h w (Memᴰ.tail i))))

-- A cue of a copy of block k, which is c: one of its own, or one of its uses'.
abbrev copy_place : List Block → Block → ℕ → ℕ → paths.Place
copy_place bs c k n =
    if_lt c.own n (paths.uses_place (total bs) (paths.place_in bs) 1 (n - c.own) c.uses) (record { path = []; block = k; own = n })

place-more : (b : Block) (earlier : List Block) (c : Block) (k n : ℕ) → Lower c.uses (length earlier)
    → copy_place earlier c k n ≡ copy_place (b ∷ earlier) c k n
place-more b earlier c k n h =
    ap (λ (q : paths.Place). if_lt c.own n q (record { path = []; block = k; own = n })) (places-more b earlier 1 (n - c.own) c.uses h)

pub place_in_at : (bs : List Block) → Good bs → (k n : ℕ) → k < length bs → paths.place_in bs k n ≡ copy_place bs (block_at bs k) k n
place_in_at [] good k n l = absurd (omega arith)
place_in_at (b ∷ earlier) (more ok good) k n l = go (place_in_at earlier good k n) (eqb k (length earlier)) refl
  where
    go : (k < length earlier → paths.place_in earlier k n ≡ copy_place earlier (block_at earlier k) k n) → (t : Bool) → eqb k (length earlier) ≡ t
        → paths.place_in (b ∷ earlier) k n ≡ copy_place (b ∷ earlier) (block_at (b ∷ earlier) k) k n
    go h true e =
        rw (block_at_hit b earlier k e) (place_in_hit b earlier k n e ∙ place-more b earlier b k n (λ u i. (ok.uses u i).lower))
    go h false e =
        rw (block_at_skip b earlier k e)
        (place_in_skip b earlier k n e ∙ h (omega (arith, eqb-false k (length earlier) e))
        ∙ place-more b earlier (block_at earlier k) k n (λ u i. ((good-at earlier good k).uses u i).lower))

-- A copy's own cues and those of its uses.
pub copy-total : {xs t : List ℕ} → Loaded xs t → (k : ℕ) → total (blocks_of xs) k ≡ own_of (blocks_of xs) k + cues_of xs (uses_of xs k)
copy-total {xs} g k = rw (own_of_at (blocks_of xs) k) (total-at (blocks_of xs) (loaded-show g).good k 0 [])

-- Cue n of the uses of block k is cue rest of the uses from row r on.
pub record Rest (xs t : List ℕ) (k n first end r rest : ℕ) : Type 0 where
  pub rows : UseRows xs t k first end
  pub from : first ≤ r
  pub to : r < end
  pub place : (below : ℕ → ℕ → paths.Place)
      → paths.uses_place (total (blocks_of xs)) below 1 n (uses_of xs k)
      ≡ paths.uses_place (total (blocks_of xs)) below (r - first + 1) rest (uses_from xs (blocks_of xs) r (end - r))
  pub low : 1 ≤ rest
  pub high : rest ≤ cues_of xs (uses_from xs (blocks_of xs) r (end - r))

-- Some cue is left only where a use is.
some_left : (xs : List ℕ) (r e m : ℕ) → 1 ≤ m → m ≤ cues_of xs (uses_from xs (blocks_of xs) r (e - r)) → r < e
unfolding uses_from sum_over
some_left xs r e m low high = go (dec_lt r e)
  where
    go : Dec (r < e) → r < e
    go (yes l) = l
    go (no l) = let q : e - r ≡ 0 = omega arith in absurd (omega (arith, rw (q, uses_from, sum_over) at high))

pub rest-begin : {xs t : List ℕ} {k n first end : ℕ} → UseRows xs t k first end → 1 ≤ n → n ≤ cues_of xs (uses_of xs k) → Rest xs t k n first end first n
rest-begin {xs} {t} {k} {n} {first} {end} rows low high =
    let l : n ≤ cues_of xs (uses_from xs (blocks_of xs) first (end - first)) = rw rows.uses at high in
    let p : first - first + 1 ≡ 1 = omega arith in
    record {
      rows = rows;
      from = omega arith;
      to = some_left xs first end n low l;
      place = λ below. rw (rows.uses, p) refl;
      low = low;
      high = l;
    }

-- Cue n of the copies of block k's uses is cue rest of the copy for the use of row r.
pub record Falls (xs t : List ℕ) (k n r block rest : ℕ) : Type 0 where
  pub position : ℕ
  pub takes : Takes t k position r
  pub row : UseFrom xs t k r
  pub named : block ≡ (use_at xs (blocks_of xs) r).block
  pub place : (below : ℕ → ℕ → paths.Place)
      → paths.uses_place (total (blocks_of xs)) below 1 n (uses_of xs k) ≡ paths.step_then position (below block rest)
  pub low : 1 ≤ rest
  pub high : rest ≤ total (blocks_of xs) block

module _ {xs t : List ℕ} {k n first end r rest : ℕ} (g : Loaded xs t) (h : IsBlock xs k) (q : Rest xs t k n first end r rest) where
  pub rest-row : UseRow xs k r
  rest-row = use_row g k h r q.rows q.from q.to

  module _ (u s : ℕ) (eu : u ≡ (use_at xs (blocks_of xs) r).block) (es : s ≡ total (blocks_of xs) u) where
    placed : (below : ℕ → ℕ → paths.Place) → paths.uses_place (total (blocks_of xs)) below 1 n (uses_of xs k)
        ≡ if_lt s rest
        (paths.uses_place (total (blocks_of xs)) below (r + 1 - first + 1) (rest - s) (uses_from xs (blocks_of xs) (r + 1) (end - (r + 1))))
        (paths.step_then (r - first + 1) (below u rest))
    unfolding paths.uses_place
    placed below =
        let p : r + 1 - first + 1 ≡ suc (r - first + 1) = omega (arith, q.from) in
        rw (es, eu, p) (q.place below ∙ rw (uses_from-next xs (blocks_of xs) r end q.to) refl)

    left : rest ≤ s + cues_of xs (uses_from xs (blocks_of xs) (r + 1) (end - (r + 1)))
    unfolding sum_over
    left = rw (es, eu) (rw (uses_from-next xs (blocks_of xs) r end q.to) at q.high)

    pub rest-on : (m : ℕ) → m ≡ rest - s → s < rest → Rest xs t k n first end (r + 1) m
    rest-on m em l =
        let high : m ≤ cues_of xs (uses_from xs (blocks_of xs) (r + 1) (end - (r + 1))) = omega (arith, left) in
        record {
          rows = q.rows;
          from = omega (arith, q.from);
          to = some_left xs (r + 1) end m (omega arith) high;
          place = λ below. rw em (placed below ∙ lt_then s rest _ _ l);
          low = omega arith;
          high = high;
        }

    pub rest-here : rest ≤ s → Falls xs t k n r u rest
    rest-here l =
        record {
          position = r - first + 1;
          takes = omega (arith, q.rows.begin, q.from);
          row = record { row = rest-row; from = omega (arith, q.rows.begin, q.from) };
          named = eu;
          place = λ below. placed below ∙ lt_else s rest _ _ l;
          low = q.low;
          high = rw (← es) l;
        }

-- Cue n of a copy, which has these own cues.
module _ {xs t lent : List ℕ} {k n depth : ℕ} (a : MayLocate xs t lent k (total (blocks_of xs) k) n depth) (own : ℕ)
    (e : own ≡ own_of (blocks_of xs) k) where
  own_is : own ≡ (block_at (blocks_of xs) k).own
  own_is = e ∙ own_of_at (blocks_of xs) k

  whole : in_copy xs k n ≡ copy_place (blocks_of xs) (block_at (blocks_of xs) k) k n
  whole = place_in_at (blocks_of xs) (loaded-show a.loaded).good k n a.block

  -- An own one: the way ends here.
  pub copy-here : n ≤ own → Reached xs t k depth (in_copy xs k n) lent depth k n lent
  unfolding overwrite block_below
  copy-here l =
      rw (whole ∙ lt_else (block_at (blocks_of xs) k).own n _ _ (rw own_is at l))
      (record {
        deep = sym (add-zero depth);
        copy = refl;
        cue = refl;
        rows = [];
        leads = ends;
        end = refl;
        written = sym (take-append-drop depth lent);
      })

  -- A later one, which is cue m of the uses.
  module _ (m : ℕ) (em : m ≡ n - own) (l : own < n) where
    pub copy-uses : (d b o : ℕ) (after : List ℕ) → Reached xs t k depth (in_uses xs k m) lent d b o after
        → Reached xs t k depth (in_copy xs k n) lent d b o after
    copy-uses d b o after p = rw (whole ∙ lt_then (block_at (blocks_of xs) k).own n _ _ (rw own_is at l)) (rw (em, own_is) at p)

    pub uses-asks : MayLocate xs t lent k (cues_of xs (uses_of xs k)) m depth
    uses-asks =
        record {
          loaded = a.loaded;
          block = a.block;
          low = omega arith;
          high = omega (arith, copy-total a.loaded k, a.high);
          short = a.short;
          room = a.room;
        }

-- One step down.
leads-named : {xs t : List ℕ} {k m : ℕ} {rows path : List ℕ} → k ≡ m → Descends xs t k rows path → Descends xs t m rows path
leads-named e l = rw e at l

below_step : (xs : List ℕ) (r block k : ℕ) (rows : List ℕ) → block ≡ (use_at xs (blocks_of xs) r).block
    → block_below xs block rows (length rows) ≡ block_below xs k (r ∷ rows) (suc (length rows))
unfolding block_below
below_step xs r block k [] e = e
below_step xs r block k (x ∷ rows) e = refl

step-written : (depth r : ℕ) (rows lent : List ℕ) → depth < length lent
    → take (depth + 1) (set lent depth r) ++ overwrite rows (drop (depth + 1) (set lent depth r)) ≡ take depth lent ++ overwrite (r ∷ rows) (drop depth lent)
unfolding overwrite
step-written depth r rows lent l =
    let q : suc depth + length rows ≡ depth + suc (length rows) = omega arith in
    rw (
      add-one depth,
      take-suc-set lent depth r l,
      drop-set-lt (suc depth) lent depth r (omega arith),
      append_snoc,
      drop-drop (length rows) (suc depth) lent,
      drop-drop (suc (length rows)) depth lent,
      q,
    )

module _ {xs t lent : List ℕ} {k n depth r block rest : ℕ} (a : MayLocate xs t lent k (cues_of xs (uses_of xs k)) n depth)
    (f : Falls xs t k n r block rest) where
  pub falls_lower : block < k
  falls_lower = rw f.named f.row.row.lower

  pub falls_room : depth < length lent
  falls_room = omega (arith, a.short, a.room, falls_lower)

  pub copy-asks : (v : ℕ) → MayLocate xs t (set lent depth v) block (total (blocks_of xs) block) rest (depth + 1)
  copy-asks v =
      record {
        loaded = a.loaded;
        block = used_block block f.row.row f.named;
        low = f.low;
        high = f.high;
        short = omega (arith, a.short, falls_lower);
        room = rw length-set a.room;
      }

  pub uses-step : (v d b o : ℕ) (after : List ℕ) → v ≡ r
      → Reached xs t block (depth + 1) (in_copy xs block rest) (set lent depth v) d b o after → Reached xs t k depth (in_uses xs k n) lent d b o after
  unfolding paths.step_then
  uses-step v d b o after e p =
      rw (f.place (paths.place_in (blocks_of xs)))
      (record {
        deep = p.deep ∙ deeper (length (in_copy xs block rest).path);
        copy = p.copy;
        cue = p.cue;
        rows = r ∷ p.rows;
        leads = goes f.row f.takes (leads-named f.named p.leads);
        end = p.end ∙ below_step xs r block k p.rows f.named;
        written = p.written ∙ rw e (step-written depth r p.rows lent falls_room);
      })
    where
      deeper : (m : ℕ) → depth + 1 + m ≡ depth + suc m
      deeper m = omega arith
