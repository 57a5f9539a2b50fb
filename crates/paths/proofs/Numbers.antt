-- The cues before a use, and the number at the end of a path.
use Prim.Native.Nat.{ℕ, zero, suc, ◌+◌, ◌-◌, ◌≤◌, ◌<◌}
use native.Mathlib.Omega.{arith}
use native.Mathlib.Nat.{add-zero, add_assoc}
use mathlib.Core.Path.{◌≡◌, refl, sym, ◌∙◌}
use mathlib.Core.List.{List, [], ◌∷◌}
use lib.ListN.{length}
use Rattle.model.specs.Blocks.{Use, Block, own_of, sum_over, total, blocks_of, last_block}
use Rattle.model.specs.Limits.{max_total}
use Rattle.model.specs.Paths as paths
use Rattle.model.specs.Questions.{show_number}
use Rattle.shows.proofs.Numbering.{never_too_deep}
use Rattle.shows.proofs.Trails.{number_in_at}
use Rattle.basics.proofs.Choices.{eq_then, eq_else}
use Rattle.shows.proofs.BlockAt.{own_of_at}
use Rattle.verdicts.specs.Index.{use_at, uses_from}
use Rattle.blocks.specs.Loaded.{Loaded, IsBlock, UseRows, UseRow}
use Rattle.blocks.proofs.Loaded.{uses_from-length, uses_from-next, loaded-show, use_row, used_block}
use Rattle.paths.specs.Locating.{uses_of, cues_of}
use Rattle.paths.specs.Numbering.{from_copy, from_uses, MayNumber}
use Rattle.paths.proofs.Locating.{copy-total}

-- A path into some uses: 0 where its step is none of them, else the number in the copy for that use.
number-none : (size : ℕ → ℕ) (below : ℕ → ℕ → List ℕ → ℕ → ℕ) (us : List Use) (base p : ℕ) (path : List ℕ) (c : ℕ)
    → (1 ≤ p → length us < p) → paths.uses_number size below base us p path c ≡ 0
unfolding paths.uses_number
number-none size below [] base p path c n = refl
number-none size below (u ∷ us) base p path c n =
    eq_else p 1 _ _ (λ e. omega (arith, n (omega arith)))
    ∙ number-none size below us (base + size u.block) (p - 1) path c (λ l. omega (arith, n (omega arith)))

-- The use with j uses before it stands in row a + j, and so many cues come before its copy.
module _ (xs : List ℕ) (bs : List Block) (size : ℕ → ℕ) where
  number-into : (below : ℕ → ℕ → List ℕ → ℕ → ℕ) (path : List ℕ) (c m a base j : ℕ) → j < m
      → paths.uses_number size below base (uses_from xs bs a m) (suc j) path c
      ≡ below (use_at xs bs (a + j)).block (base + sum_over size (uses_from xs bs a j)) path c
  unfolding paths.uses_number uses_from sum_over
  number-into below path c zero a base j l = absurd (omega arith)
  number-into below path c (suc m) a base zero l = rw (add-zero a, add-zero base) (eq_then 1 1 _ _ refl)
  number-into below path c (suc m) a base (suc j) l =
      let less : suc (suc j) - 1 ≡ suc j = omega arith in
      let row : a + suc j ≡ a + 1 + j = omega arith in
      eq_else (suc (suc j)) 1 _ _ (λ e. omega arith)
      ∙ rw (less, row, ← add_assoc base) (number-into below path c m (a + 1) (base + size (use_at xs bs a).block) j (omega arith))

  into-fits : (m a j : ℕ) → j < m → sum_over size (uses_from xs bs a j) + size (use_at xs bs (a + j)).block ≤ sum_over size (uses_from xs bs a m)
  unfolding uses_from sum_over
  into-fits zero a j l = absurd (omega arith)
  into-fits (suc m) a zero l = rw add-zero (omega arith)
  into-fits (suc m) a (suc j) l =
      let row : a + suc j ≡ a + 1 + j = omega arith in
      rw row (omega (arith, into-fits m (a + 1) j (omega arith)))

nil : (path : List ℕ) → length path ≡ 0 → path ≡ []
nil [] e = refl
nil (p ∷ path) e = absurd (omega (arith, e))

-- A path that begins in a copy, which has these own cues.
module _ {xs t : List ℕ} {k base : ℕ} (a : MayNumber xs t k (total (blocks_of xs) k) base) (own : ℕ) (e : own ≡ own_of (blocks_of xs) k) where
  pub own-fits : base + own ≤ max_total
  own-fits = omega (arith, a.fits, copy-total a.loaded k)

  -- It ends here.
  pub number-here : (path : List ℕ) (c r : ℕ) → length path ≡ 0 → r ≡ paths.own_number own base c → r ≡ from_copy xs k base path c
  unfolding paths.copy_number
  number-here path c r l q =
      q
      ∙ rw (nil path l, e, own_of_at (blocks_of xs) k)
      (sym (number_in_at (blocks_of xs) (loaded-show a.loaded).good k base [] c))

  -- It goes on into a use.
  pub number-on : (path : List ℕ) (p : ℕ) (rest : List ℕ) (c r : ℕ) → path ≡ p ∷ rest → r ≡ from_uses xs k (base + own) p rest c → r ≡ from_copy xs k base path c
  unfolding paths.copy_number
  number-on path p rest c r l q =
      q
      ∙ rw (l, e, own_of_at (blocks_of xs) k)
      (sym (number_in_at (blocks_of xs) (loaded-show a.loaded).good k base (p ∷ rest) c))

  pub uses-asks : MayNumber xs t k (cues_of xs (uses_of xs k)) (base + own)
  uses-asks = record { loaded = a.loaded; block = a.block; fits = omega (arith, a.fits, copy-total a.loaded k) }

-- A path that goes on into the p-th use of block k, whose uses stand in these rows.
pub record Into (xs t : List ℕ) (k base first end p q : ℕ) : Type 0 where
  pub begun : MayNumber xs t k (cues_of xs (uses_of xs k)) base
  pub rows : UseRows xs t k first end
  pub step : p ≡ q

module _ {xs t : List ℕ} {k base first end p q : ℕ} (i : Into xs t k base first end p q) where
  abbrev size : ℕ → ℕ
  size = total (blocks_of xs)

  uses-here : uses_of xs k ≡ uses_from xs (blocks_of xs) first (end - first)
  uses-here = i.rows.uses

  -- There is none.
  pub number-no_use : (rest : List ℕ) (c : ℕ) → (1 ≤ p → end - first < p) → 0 ≡ from_uses xs k base q rest c
  number-no_use rest c n =
      sym (number-none size (paths.number_in (blocks_of xs)) (uses_of xs k) base q rest c (rw (← i.step, uses-here, uses_from-length) n))

  module _ (low : 1 ≤ p) (high : p ≤ end - first) where
    -- The row of the use is there.
    pub into-row : UseRow xs k (first + (p - 1))
    into-row = use_row i.begun.loaded k i.begun.block (first + (p - 1)) i.rows (omega arith) (omega arith)

    step_fits : base + cues_of xs (uses_from xs (blocks_of xs) first (p - 1)) + size (use_at xs (blocks_of xs) (first + (p - 1))).block ≤ max_total
    step_fits =
        omega (
          arith,
          rw (← uses-here) at (into-fits xs (blocks_of xs) size (end - first) first (p - 1) (omega arith)),
          i.begun.fits,
        )

    -- Base and b stand before the same number of cues: base before the first uses, b before those from row r on.
    pub record Summed (at r b : ℕ) : Type 0 where
      pub is : at ≡ first + (p - 1)
      pub from : first ≤ r
      pub to : r ≤ at
      pub same : base + cues_of xs (uses_from xs (blocks_of xs) first (p - 1)) ≡ b + cues_of xs (uses_from xs (blocks_of xs) r (at - r))

    pub summed_begin : Summed (first + (p - 1)) first base
    summed_begin =
        let l : first + (p - 1) - first ≡ p - 1 = omega arith in
        record { is = refl; from = omega arith; to = omega arith; same = rw l refl }

    module _ {at r b : ℕ} (s : Summed at r b) where
      pub summed_row : r < at → UseRow xs k r
      summed_row l = use_row i.begun.loaded k i.begun.block r i.rows s.from (omega (arith, s.is))

      module _ (u n : ℕ) (eu : u ≡ (use_at xs (blocks_of xs) r).block) (en : n ≡ size u) (l : r < at) where
        rest_sum : base + cues_of xs (uses_from xs (blocks_of xs) first (p - 1)) ≡ b + n + cues_of xs (uses_from xs (blocks_of xs) (r + 1) (at - (r + 1)))
        unfolding sum_over
        rest_sum = rw (en, eu) (omega (arith, rw (uses_from-next xs (blocks_of xs) r at l) at s.same))

        pub summed_fits : b + n ≤ max_total
        summed_fits = omega (arith, rest_sum, step_fits)

        pub summed_on : Summed at (r + 1) (b + n)
        summed_on = record { is = s.is; from = omega (arith, s.from); to = omega arith; same = rest_sum }

      module _ (u : ℕ) (eu : u ≡ (use_at xs (blocks_of xs) at).block) (l : at ≤ r) where
        b_is : b ≡ base + cues_of xs (uses_from xs (blocks_of xs) first (p - 1))
        unfolding uses_from sum_over
        b_is = let z : at - r ≡ 0 = omega arith in omega (arith, rw z at s.same)

        block-is : u ≡ (use_at xs (blocks_of xs) (first + (p - 1))).block
        block-is = rw s.is at eu

        pub step-lower : u < k
        step-lower = rw block-is into-row.lower

        pub copy-asks : MayNumber xs t u (size u) b
        copy-asks =
            record {
              loaded = i.begun.loaded;
              block = used_block u into-row block-is;
              fits = rw (b_is, block-is) step_fits;
            }

        pub number_step : (rest : List ℕ) (c r : ℕ) → r ≡ from_copy xs u b rest c → r ≡ from_uses xs k base q rest c
        number_step rest c r x =
            let s : p ≡ suc (p - 1) = omega arith in
            x
            ∙ rw (← i.step, uses-here, b_is, block-is)
            (sym (rw (← s) at (number-into xs (blocks_of xs) size (paths.number_in (blocks_of xs)) rest c (end - first) first base (p - 1) (omega arith))))

-- The step that is next, and the cues before its use as they are summed.
pub record Steps (xs t : List ℕ) (k base first end p q at r b : ℕ) : Type 0 where
  pub into : Into xs t k base first end p q
  pub low : 1 ≤ p
  pub high : p ≤ end - first
  pub summed : Summed into low high at r b

-- In the show.
module _ {xs t : List ℕ} (g : Loaded xs t) (k : ℕ) (e : k ≡ last_block (blocks_of xs)) where
  pub show_asks : IsBlock xs k → MayNumber xs t k (total (blocks_of xs) k) 0
  show_asks h = record { loaded = g; block = h; fits = omega (arith, (loaded-show g).totals k) }

  pub show_number_lem : (path : List ℕ) (c r : ℕ) → r ≡ from_copy xs k 0 path c → r ≡ show_number (blocks_of xs) path c
  show_number_lem path c r q = q ∙ rw (never_too_deep (blocks_of xs) (loaded-show g).good (loaded-show g).blocks.1 path c, e) refl
