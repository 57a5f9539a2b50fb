-- Laws of going down to a copy.
use Prim.Native.Nat.{ℕ, suc, ◌+◌, ◌-◌, ◌≤◌, ◌<◌}
use native.Mathlib.Omega.{arith}
use native.Mathlib.Decide.{ℕ_discrete, dec_lt}
use native.Mathlib.Numerals.{add-one}
use mathlib.Core.Path.{◌≡◌, refl, sym, ◌∙◌, ap, ap₂}
use mathlib.Core.List.{List, [], ◌∷◌, ◌++◌, map}
use lib.ListN.{length, get_or, take, drop, set, length-set, length-take, length-map, replicate, length-replicate}
use lib.Seq.{take-suc, take_all, split_at, get_or-take, ext_get_or, get_or-set_same, get_or-set_other}
use Rattle.model.specs.Limits.{max_joins, max_total}
use Rattle.model.specs.Blocks.{Use, Block, block_at, joins_of, own_of, sum_over, total, last_block, blocks_of}
use Rattle.model.specs.Unfolding.{cue_at}
use Rattle.shows.proofs.AtBlock.{joins-small}
use Rattle.basics.proofs.Members.{get_d_map_in}
use Rattle.shows.specs.Copies.{nth_use, Copy, number, copy_of, show_copy, part-copy, part_at, after, Steps, goes}
use Rattle.shows.proofs.Ranges.{cue_at-own, cue_at-join}
use Rattle.shows.proofs.BlockAt.{own_of_at, total-at}
use Rattle.shows.proofs.Trails.{after-snoc, steps-after}
use Rattle.verdicts.specs.Index.{use_at}
use Rattle.blocks.specs.declared.Place.{Place}
use Rattle.blocks.specs.Loaded.{Loaded, IsBlock, uses_begin, UseRows, UseRow, column_at}
use Rattle.blocks.specs.Places.{block_on, Takes, Along, Found}
use Rattle.blocks.proofs.Loaded.{loaded-show, use_row, used_block}
use Rattle.blocks.proofs.Uses.{use_rows_length, uses-of, use_row_cue}
use Rattle.blocks.proofs.Along.{along-take}
use Rattle.copies.specs.declared.Frame.{Frame}
use Rattle.copies.specs.Copies.{framed, inner_base, MayStep, Stepped, ColumnsFit, MeetIs, CopyAt}
use Rattle.copies.proofs.Bases.{no_use, use_here, inner_base-on, inner-fits}

-- The number of a cue, by the first numbers that joins meet.
pub cue-own : (own base : ℕ) (met : List ℕ) (c : ℕ) → c ≤ own → base + c ≡ cue_at own base met c
cue-own own base met c h = sym (cue_at-own own base met c h)

pub cue-join : (own base : ℕ) (met : List ℕ) (c x j : ℕ) → own < c → x ≡ c - own - 1 → j ≡ x → get_or met j 0 ≡ cue_at own base met c
cue-join own base met c x j h e f = rw (f ∙ e) (sym (cue_at-join own base met c h))

cue-take : (own base n : ℕ) (met : List ℕ) (c : ℕ) → c ≤ own + n → cue_at own base (take n met) c ≡ cue_at own base met c
cue-take own base n met c h = go (dec_lt own c)
  where
    go : Dec (own < c) → cue_at own base (take n met) c ≡ cue_at own base met c
    go (yes l) = cue_at-join own base (take n met) c l ∙ get_or-take n met (c - own - 1) 0 (omega arith) ∙ sym (cue_at-join own base met c l)
    go (no l) = cue_at-own own base (take n met) c (omega arith) ∙ sym (cue_at-own own base met c (omega arith))

-- What the columns of a row meet.
module _ (xs : List ℕ) (r own : ℕ) (z : Frame) where
  pub meet_is_begin : MeetIs xs r 0 own z (replicate max_joins 0)
  meet_is_begin = record { long = length-replicate {A = ℕ} max_joins 0; at = λ n h. absurd (omega arith) }

  pub meet_is_on : (j joins x y : ℕ) (out : List ℕ) → MeetIs xs r j own z out → j < joins → joins ≤ max_joins → x ≡ column_at xs r j
      → y ≡ cue_at own z.base z.met x → MeetIs xs r (j + 1) own z (set out j y)
  meet_is_on j joins x y out m l l₂ e f =
      record { long = length-set out j y ∙ m.long; at = λ n h. go n h (ℕ_discrete n j) }
    where
      go : (n : ℕ) → n < j + 1 → Dec (n ≡ j) → get_or (set out j y) n 0 ≡ cue_at own z.base z.met (column_at xs r n)
      go n h (yes q) = rw q (get_or-set_same out j y 0 (omega (arith, m.long)) ∙ f ∙ ap (cue_at own z.base z.met) e)
      go n h (no k) = get_or-set_other out j n y 0 k ∙ m.at n (omega arith)

  pub meet_is_done : (j joins : ℕ) (out : List ℕ) → MeetIs xs r j own z out → j ≤ joins → joins ≤ j → MeetIs xs r joins own z out
  meet_is_done j joins out m h l = let e : joins ≡ j = omega arith in rw e m

pub columns_fit_at : (xs : List ℕ) (r joins own n x : ℕ) → ColumnsFit xs r joins own → n < joins → x ≡ column_at xs r n → x ≤ own + max_joins
columns_fit_at xs r joins own n x c h e = omega (arith, c.at n h)

-- A step down.
module _ {xs t : List ℕ} (g : Loaded xs t) (z : Frame) (r : ℕ) (may : MayStep xs t z r) where
  abbrev bs : List Block
  bs = blocks_of xs

  abbrev us : List Use
  us = (block_at bs z.block).uses

  step-rows : UseRows xs t z.block (uses_begin t z.block) (uses_begin t z.block + length us)
  step-rows = uses-of g z.block may.copy.known

  pub step_row : UseRow xs z.block r
  step_row = use_row g z.block may.copy.known r step-rows may.low may.high

  pub step_small : (own : ℕ) → own ≡ own_of bs z.block → z.base + own ≤ max_total
  step_small own e = omega (arith, may.copy.small, total-at bs (loaded-show g).good z.block 0 [], own_of_at bs z.block)

  -- The uses before the row.
  module _ (i : ℕ) {a e : ℕ} (rows : UseRows xs t z.block a e) (x : a ≤ i) (y : i < r) where
    before : i < e
    before = omega (arith, may.high, use_rows_length rows, rows.begin, rows.order)

    pub inner_base-row : UseRow xs z.block i
    inner_base-row = use_row g z.block may.copy.known i rows x before

    pub inner_base-fits : (b size : ℕ) → b ≡ inner_base xs t z.block z.base i → size ≡ total bs (use_at xs bs i).block → b + size ≤ max_total
    inner_base-fits b size u v = omega (arith, may.copy.small, inner-fits g z.block z.base rows i x before)

    pub inner_base-next : (b size : ℕ) → b ≡ inner_base xs t z.block z.base i → size ≡ total bs (use_at xs bs i).block
        → b + size ≡ inner_base xs t z.block z.base (i + 1)
    inner_base-next b size u v = omega (arith, inner_base-on g z.block z.base rows i x before)

  pub inner_base-last : (i : ℕ) {b : ℕ} → i ≤ r → r ≤ i → b ≡ inner_base xs t z.block z.base i → b ≡ inner_base xs t z.block z.base r
  inner_base-last i h l e = let n : r ≡ i = omega arith in rw n e

  -- The copy.
  module _ (j joins own : ℕ) (ej : j ≡ (use_at xs bs r).block) (en : joins ≡ joins_of bs j) (eo : own ≡ own_of bs z.block) where
    joins-are : joins ≡ joins_of bs (use_at xs bs r).block
    joins-are = en ∙ ap (joins_of bs) ej

    pub columns_fit : ColumnsFit xs r joins own
    columns_fit = record { at = λ n h. omega (arith, use_row_cue step_row n (omega (arith, joins-are)), joins-small z.block (loaded-show g).small) }

    pub stepped : (b : ℕ) (out : List ℕ) → b ≡ inner_base xs t z.block z.base r → MeetIs xs r joins own z out
        → Stepped xs t z r (record { block = j; base = b; met = out })
    unfolding nth_use after
    stepped b out eb m =
        record {
          copy = record {
            known = used_block j step_row ej;
            size = m.long;
            small = rw ej (omega (arith, eb, may.copy.small, inner-fits g z.block z.base step-rows r may.low may.high));
          };
          block = ej;
          leads = λ p takes. there p takes;
        }
      where
        y : Copy
        y = framed bs z

        arity : length (use_at xs bs r).at ≡ joins
        arity = step_row.good.arity ∙ sym joins-are

        long : length (take joins out) ≡ joins
        long = omega (arith, length-take joins out, m.long, joins-small (use_at xs bs r).block (loaded-show g).small, joins-are)

        met_at : (n : ℕ) → n < joins → get_or (map (number y) (use_at xs bs r).at) n 0 ≡ get_or (take joins out) n 0
        met_at n h =
            let here : n < joins_of bs (use_at xs bs r).block = omega (arith, joins-are) in
            get_d_map_in (number y) (use_at xs bs r).at n (omega (arith, arity))
            ∙ ap (number y) (step_row.columns n here)
            ∙ cue-take (block_at bs z.block).own z.base (joins_of bs z.block) z.met (column_at xs r n) (omega (arith, use_row_cue step_row n here, own_of_at bs z.block))
            ∙ ap (λ o. cue_at o z.base z.met (column_at xs r n)) (sym (eo ∙ own_of_at bs z.block))
            ∙ sym (m.at n h)
            ∙ sym (get_or-take joins out n 0 h)

        met-is : map (number y) (use_at xs bs r).at ≡ take (joins_of bs j) out
        met-is =
            rw (← en)
            (ext_get_or 0 (map (number y) (use_at xs bs r).at) (take joins out) (length-map (use_at xs bs r).at (number y) ∙ arity ∙ sym long)
            (λ n h. met_at n (omega (arith, length-map (use_at xs bs r).at (number y), arity))))

        there : (p : ℕ) → Takes t z.block p r → part-copy y (part_at y p) ≡ copy_of bs j b (take (joins_of bs j) out)
        there p takes =
            let n : p - 1 ≡ r - uses_begin t z.block = omega (arith, may.low) in
            let of_is : nth_use us p ≡ use_at xs bs r = ap (λ i. get_or us i no_use) n ∙ use_here g z.block z.base step-rows r may.low may.high in
            let base-is : z.base + (block_at bs z.block).own + sum_over (total bs) (take (p - 1) us) ≡ b =
            ap₂ (λ o i. z.base + o + sum_over (total bs) (take i us)) (sym (own_of_at bs z.block)) n ∙ sym eb in
            rw (of_is, base-is, met-is, ← ej) refl

-- Each step of a path is a use of the copy before it.
steps-at : (z : Copy) (before : List ℕ) (p : ℕ) (behind : List ℕ) → Steps z (before ++ p ∷ behind) → (1 ≤ p) × (p ≤ length (after z before).block.uses)
unfolding after
steps-at z [] p behind (goes x y s) = (x, y)
steps-at z (b ∷ before) p behind (goes x y s) = steps-at (part-copy z (part_at z b)) before p behind s

-- The way down, level by level.
pub copy_at_begin : {xs t : List ℕ} (rows : List ℕ) (k l : ℕ) → Loaded xs t → k ≡ last_block (blocks_of xs) → IsBlock xs k → l ≡ 0
    → CopyAt xs t rows l (record { block = k; base = 0; met = replicate max_joins 0 })
unfolding after block_on
copy_at_begin {xs} rows k l g e h z =
    rw z
    (record {
      copy = record { known = h; size = length-replicate {A = ℕ} max_joins 0; small = omega (arith, (loaded-show g).totals k) };
      block = e;
      at = λ path n along. rw (empty path n, e, (loaded-show g).no_joins) refl;
    })
  where
    empty : (path : List ℕ) → length path ≡ 0 → path ≡ []
    empty [] n = refl
    empty (p ∷ path) n = absurd (omega arith)

module _ {xs t rows : List ℕ} {z : Frame} (place : Place) (l n r : ℕ) (h : l < place.depth) (at : CopyAt xs t rows l z) (e₁ : n ≡ get_or rows l 0) (e₂ : r ≡ n) where
  row_is : r ≡ get_or rows l 0
  row_is = e₂ ∙ e₁

  takes_here : (path : List ℕ) → l < length path → Along xs t rows path → Takes t z.block (get_or path l 0) r
  takes_here path k along = rw (at.block, row_is) (along.steps l k)

  pub may_step_on : Loaded xs t → Found xs t rows place → MayStep xs t z r
  may_step_on g found =
      let bs : List Block = blocks_of xs in
      let path : List ℕ = found.path in
      let p : ℕ = get_or path l 0 in
      let k : l < length path = omega (arith, found.depth) in
      let cut : path ≡ take l path ++ p ∷ drop (suc l) path = split_at path l 0 k in
      let all : Steps (show_copy bs) path =
      (steps-after bs (loaded-show g).good (last_block bs) 0 [] path place.own (λ e. omega (arith, found.number, found.some))).0 in
      let (x, y) = steps-at (show_copy bs) (take l path) p (drop (suc l) path) (rw cut at all) in
      let here : after (show_copy bs) (take l path) ≡ framed bs z = at.at (take l path) (omega (arith, length-take l path)) (along-take l found.along (omega arith)) in
      let y' : p ≤ length (block_at bs z.block).uses = rw here at y in
      let takes : Takes t z.block p r = takes_here path k found.along in
      record { copy = at.copy; low = omega arith; high = omega arith }

  pub copy_at_on : (y : Frame) → Stepped xs t z r y → CopyAt xs t rows (l + 1) y
  unfolding block_on after
  copy_at_on y s =
      record {
        copy = s.copy;
        block = rw (add-one l) (s.block ∙ ap (λ i. (use_at xs (blocks_of xs) i).block) row_is);
        at = λ path m along.
            let z' : Copy = show_copy (blocks_of xs) in
            let p : ℕ = get_or path l 0 in
            let cut : path ≡ take l path ++ p ∷ [] = sym (take_all (suc l) path (omega arith)) ∙ take-suc path l 0 (omega arith) in
            ap (after z') cut
            ∙ after-snoc z' (take l path) p
            ∙ ap (λ y. part-copy y (part_at y p)) (at.at (take l path) (omega (arith, length-take l path)) (along-take l along (omega arith)))
            ∙ s.leads p (takes_here path (omega arith) along);
      }

pub copy_at_done : {xs t rows : List ℕ} {z : Frame} (l depth : ℕ) → CopyAt xs t rows l z → l ≤ depth → depth ≤ l → CopyAt xs t rows depth z
copy_at_done l depth at h k = let e : depth ≡ l = omega arith in rw e at
