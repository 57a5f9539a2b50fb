-- The links of a copy with their origins, by path: those that have a path are the links of the rows of the copy at its end, where each step of it is a
-- use. And which block that copy is of.
use Prim.Native.Nat.{ℕ, zero, suc, ◌+◌, ◌-◌, ◌≤◌, ◌<◌}
use native.Mathlib.Omega.{arith}
use mathlib.Core.Path.{◌≡◌, refl, sym, ◌∙◌, ap}
use mathlib.Core.Logic.{◌⊎◌, inl, inr}
use mathlib.Core.List.{List, [], ◌∷◌, ◌++◌, map, Memᴰ}
use lib.ListN.{length, get_or, take, drop}
use lib.Seq.{split_at}
use Rattle.model.specs.Blocks.{Link, Use, Block, block_at, sum_over, total}
use Rattle.model.specs.Unfolding.{renamed}
use Rattle.model.specs.Behind.{Traced, step_into, traced_into, rows_traced, uses_traced, traced}
use Rattle.basics.proofs.Choices.{eq_then, eq_else}
use Rattle.basics.proofs.Members.{map-mem, mem_map}
use Rattle.shows.specs.WellFormed.{Good}
use Rattle.shows.specs.Copies.{Copy, Part, number, meets, copy_of, nth_use, part_at, after, Steps, ends, goes}
use Rattle.shows.specs.Numbering.{used_by, block_after}
use Rattle.shows.proofs.BlockAt.{lower-at}
use Rattle.shows.proofs.Tracing.{own-traced, parts-traced, traced-at}

-- A link with its origin.
abbrev pub trace : List ℕ → ℕ → Link → Traced
trace path row l = record { origin = record { path = path; row = row }; link = l }

-- One that goes on by a step: which step, and what follows it.
step-first : (p q : ℕ) (path : List ℕ) (row : ℕ) (l : Link) (y : Traced) → trace (q ∷ path) row l ≡ traced_into p y
    → (q ≡ p) × (y ≡ trace path row l)
unfolding traced_into step_into
step-first p q path row l y e = (
  ap (λ (x : Traced). get_or x.origin.path 0 0) e,
  sym (ap (λ (x : Traced). trace (drop 1 x.origin.path) x.origin.row x.link) e),
)

no_step : (p row : ℕ) (l : Link) (y : Traced) → trace [] row l ≡ traced_into p y → ⊥
unfolding traced_into step_into
no_step p row l y e = let k = ap (λ (x : Traced). length x.origin.path) e in omega arith

-- The links of a copy's own rows go on by none.
rows-here : (f : ℕ → ℕ) (r : ℕ) (ls : List Link) (q : ℕ) (path : List ℕ) (row : ℕ) (l : Link)
    → Memᴰ (trace (q ∷ path) row l) (rows_traced f r ls) → ⊥
unfolding rows_traced
rows-here f r [] q path row l i = mathlib.Core.List.Memᴰ.not-nil i
rows-here f r (m ∷ ls) q path row l i = go (rows-here f (suc r) ls q path row l) (mathlib.Core.List.Memᴰ.cases_cons i)
  where
    go : (Memᴰ (trace (q ∷ path) row l) (rows_traced f (suc r) ls) → ⊥)
        → (trace (q ∷ path) row l ≡ trace [] r (renamed f m)) ⊎ Memᴰ (trace (q ∷ path) row l) (rows_traced f (suc r) ls) → ⊥
    go below (inl e) = let k = ap (λ (x : Traced). length x.origin.path) e in omega arith
    go below (inr j) = below j

-- The links of the copies of some uses: those of each use, gone on by its step.
abbrev use_at_lem : List Use → ℕ → Use
use_at_lem us i = get_or us i (record { block = 0; at = [] })

module _ (size : ℕ → ℕ) (below : ℕ → ℕ → List ℕ → List Traced) (f : ℕ → ℕ) where
  abbrev traced-use : List Use → ℕ → ℕ → List Traced
  traced-use us base i = below (use_at_lem us i).block (base + sum_over size (take i us)) (map f (use_at_lem us i).at)

  uses-in : (n base : ℕ) (us : List Use) (i : ℕ) → i < length us → (y : Traced) → Memᴰ y (traced-use us base i)
      → Memᴰ (traced_into (n + i) y) (uses_traced size below f n base us)
  unfolding uses_traced sum_over
  uses-in n base [] i h y j = absurd (omega arith)
  uses-in n base (u ∷ us) zero h y j =
      let e : base + 0 ≡ base = omega arith in
      let d : n + 0 ≡ n = omega arith in
      rw d (mathlib.Core.List.Memᴰ.append_left _ (mem_map (traced_into n) (rw e at j)))
  uses-in n base (u ∷ us) (suc i) h y j =
      let e : base + (size u.block + sum_over size (take i us)) ≡ base + size u.block + sum_over size (take i us) = omega arith in
      let d : n + suc i ≡ suc n + i = omega arith in
      rw d
      (mathlib.Core.List.Memᴰ.append_right (map (traced_into n) (below u.block base (map f u.at)))
      (uses-in (suc n) (base + size u.block) us i (omega arith) y (rw e at j)))

  -- And back.
  record FromUse (n base : ℕ) (us : List Use) (x : Traced) : Type 0 where
    place : ℕ
    few : place < length us
    rest : Traced
    member : Memᴰ rest (traced-use us base place)
    step : x ≡ traced_into (n + place) rest

  uses-out : (n base : ℕ) (us : List Use) (x : Traced) → Memᴰ x (uses_traced size below f n base us) → FromUse n base us x
  unfolding uses_traced sum_over
  uses-out n base [] x j = absurd (mathlib.Core.List.Memᴰ.not-nil j)
  uses-out n base (u ∷ us) x j =
      go (uses-out (suc n) (base + size u.block) us x)
      (mathlib.Core.List.Memᴰ.append_cases (map (traced_into n) (below u.block base (map f u.at))) j)
    where
      go : (Memᴰ x (uses_traced size below f (suc n) (base + size u.block) us) → FromUse (suc n) (base + size u.block) us x)
          → Memᴰ x (map (traced_into n) (below u.block base (map f u.at)))
          ⊎ Memᴰ x (uses_traced size below f (suc n) (base + size u.block) us) → FromUse n base (u ∷ us) x
      go later (inl k) =
          let (y, m, e) = map-mem (traced_into n) x (below u.block base (map f u.at)) k in
          let b : base + 0 ≡ base = omega arith in
          let d : n + 0 ≡ n = omega arith in
          record { place = 0; few = omega arith; rest = y; member = rw b m; step = rw d e }
      go later (inr k) =
          let v = later k in
          let b : base + (size u.block + sum_over size (take v.place us)) ≡ base + size u.block + sum_over size (take v.place us) =
          omega arith in
          let d : n + suc v.place ≡ suc n + v.place = omega arith in
          record { place = suc v.place; few = omega (arith, v.few); rest = v.rest; member = rw b v.member; step = rw d v.step }

-- The block of a use, by its position.
pub used_is : (us : List Use) (p : ℕ) → 1 ≤ p → used_by us p ≡ (nth_use us p).block
unfolding used_by nth_use
used_is [] p h = refl
used_is (u ∷ us) zero h = absurd (omega arith)
used_is (u ∷ us) (suc zero) h = eq_then 1 1 _ _ refl
used_is (u ∷ us) (suc (suc p)) h =
    let a : suc (suc p) - 1 ≡ suc p = omega arith in
    let b : suc p - 1 ≡ p = omega arith in
    eq_else (suc (suc p)) 1 _ _ (λ e. omega arith) ∙ rw a (rw b at (used_is us (suc p) (omega arith)))

nth-mem : (us : List Use) (p : ℕ) → 1 ≤ p → p ≤ length us → Memᴰ (nth_use us p) us
unfolding nth_use
nth-mem us p a b =
    let m : Memᴰ (nth_use us p) (take (p - 1) us ++ nth_use us p ∷ drop (suc (p - 1)) us) =
    mathlib.Core.List.Memᴰ.append_right (take (p - 1) us) (mathlib.Core.List.Memᴰ.head refl) in
    rw (← split_at us (p - 1) (record { block = 0; at = [] }) (omega arith)) at m

module _ (bs : List Block) (good : Good bs) where
  -- The copy at the end of a path is one of the block that the path leads to, which is lower by one at least for each step.
  pub after_block : (k base : ℕ) (met path : List ℕ) → Steps (copy_of bs k base met) path
      → (after (copy_of bs k base met) path).block ≡ block_at bs (block_after bs k path)
  unfolding after block_after
  after_block k base met [] s = refl
  after_block k base met (p ∷ path) (goes a b s) =
      let z : Copy = copy_of bs k base met in
      let q : Part = part_at z p in
      rw (used_is (block_at bs k).uses p a) (after_block q.of.block q.base (meets z q) path s)

  pub after_lower : (k base : ℕ) (met path : List ℕ) → Steps (copy_of bs k base met) path → block_after bs k path + length path ≤ k
  unfolding block_after
  after_lower k base met [] s = omega arith
  after_lower k base met (p ∷ path) (goes a b s) =
      let z : Copy = copy_of bs k base met in
      let q : Part = part_at z p in
      let h : q.of.block < k = lower-at bs good k q.of (nth-mem (block_at bs k).uses p a b) in
      rw (used_is (block_at bs k).uses p a) (omega (arith, after_lower q.of.block q.base (meets z q) path s))

  -- Which links of a copy have a path.
  module _ (opening : ℕ → ℕ) (row : ℕ) (l : Link) where
    abbrev AtEnd : ℕ → ℕ → List ℕ → List ℕ → Type 0
    AtEnd k base met path =
        Steps (copy_of bs k base met) path
        × Memᴰ (trace [] row l) (own-traced opening (block_after bs k path) (after (copy_of bs k base met) path))

    pub to_end : (path : List ℕ) (k base : ℕ) (met : List ℕ) → Memᴰ (trace path row l) (traced opening bs k base met) → AtEnd k base met path
    unfolding after block_after nth_use
    to_end [] k base met i = go (mathlib.Core.List.Memᴰ.append_cases (own-traced opening k z) (rw (traced-at opening bs good k base met) at i))
      where
        z : Copy
        z = copy_of bs k base met

        go : Memᴰ (trace [] row l) (own-traced opening k (copy_of bs k base met))
            ⊎ Memᴰ (trace [] row l) (parts-traced opening (copy_of bs k base met)) → AtEnd k base met []
        go (inl j) = (ends, j)
        go (inr j) = let u = uses-out _ _ _ 1 _ _ _ j in absurd (no_step _ row l _ u.step)
    to_end (p ∷ path) k base met i =
        go (to_end path) (mathlib.Core.List.Memᴰ.append_cases (own-traced opening k z) (rw (traced-at opening bs good k base met) at i))
      where
        z : Copy
        z = copy_of bs k base met

        go : ((k base : ℕ) (met : List ℕ) → Memᴰ (trace path row l) (traced opening bs k base met) → AtEnd k base met path)
            → Memᴰ (trace (p ∷ path) row l) (own-traced opening k (copy_of bs k base met))
            ⊎ Memᴰ (trace (p ∷ path) row l) (parts-traced opening (copy_of bs k base met)) → AtEnd k base met (p ∷ path)
        go below (inl j) = absurd (rows-here _ _ _ p path row l j)
        go below (inr j) =
            let u = uses-out _ _ _ 1 _ _ _ j in
            let (e, y) = step-first _ p path row l _ u.step in
            let d : u.place ≡ p - 1 = omega arith in
            let q : Part = part_at (copy_of bs k base met) p in
            let (s, m) = below q.of.block q.base (meets (copy_of bs k base met) q) (rw (d, y) at u.member) in
            let a : 1 ≤ p = omega arith in
            let b : p ≤ length (block_at bs k).uses = omega (arith, u.few) in
            (goes a b s, rw (used_is (block_at bs k).uses p a) m)

    pub from_end : (path : List ℕ) (k base : ℕ) (met : List ℕ) → AtEnd k base met path → Memᴰ (trace path row l) (traced opening bs k base met)
    unfolding after block_after nth_use traced_into step_into
    from_end [] k base met (s, m) = rw (traced-at opening bs good k base met) (mathlib.Core.List.Memᴰ.append_left _ m)
    from_end (p ∷ path) k base met (goes a b s, m) =
        let z : Copy = copy_of bs k base met in
        let q : Part = part_at z p in
        let d : 1 + (p - 1) ≡ p = omega arith in
        let i : Memᴰ (trace path row l) (traced opening bs q.of.block q.base (meets z q)) =
        from_end path q.of.block q.base (meets z q) (s, rw (used_is (block_at bs k).uses p a) at m) in
        rw (traced-at opening bs good k base met)
        (mathlib.Core.List.Memᴰ.append_right (own-traced opening k z)
        (rw d at (uses-in (total bs) (traced opening bs) (number z) 1 (base + (block_at bs k).own) (block_at bs k).uses (p - 1) (omega arith) _ i)))
