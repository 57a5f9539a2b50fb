-- No link lies deeper below a copy of block k than k copies, so levels are small.
use Prim.Native.Nat.{ℕ, zero, suc, ◌+◌, ◌≤◌, ◌<◌}
use native.Mathlib.Omega.{arith}
use native.Mathlib.Decide.{ℕ_discrete}
use mathlib.Core.Path.{◌≡◌, refl}
use mathlib.Core.Logic.{◌⊎◌, inl, inr}
use mathlib.Core.Bool.{Bool, true, false}
use mathlib.Core.List.Memᴰ
use mathlib.Core.List.{List, [], ◌∷◌, ◌++◌, map, Memᴰ}
use lib.ListN.{length}
use lib.Dec.{eqb}
use borrow.Author.Tests.{eqb-true}
use Rattle.model.specs.Choice.{if_eq, if_true}
use Rattle.model.specs.Blocks.{Link, Use, Block, joins_of, blocks_of, total}
use Rattle.model.specs.Lists.{range}
use Rattle.model.specs.Behind.{Traced, traced_into, step_into, rows_traced, uses_traced, traced, origins, depth_wins, Stands, best}
use Rattle.basics.proofs.Choices.{eq_then, eq_else, true_then, true_else}
use Rattle.basics.proofs.Members.{map-mem}
use Rattle.shows.specs.WellFormed.{Good, more}
use Rattle.shows.proofs.AtBlock.{joins-small}
use Rattle.shows.proofs.Locality.{alone_sound}
use Rattle.shows.proofs.Tracing.{traced-hit, traced-skip}
use Rattle.shows.proofs.Origins.{joins?, Joins, origins-hit, origins-skip}
use Rattle.verdicts.specs.Index.{use_at}
use Rattle.blocks.specs.Loaded.{Loaded, UseRow}
use Rattle.blocks.proofs.Loaded.{loaded-show}
use Rattle.levels.specs.Levels.{level, better_level}
use Rattle.levels.specs.Tables.{IsLevel, Levels, MayLift}
use Rattle.levels.proofs.Best.{level-winner}

abbrev Within : ℕ → List Traced → Type 0
Within n xs = (x : Traced) → Memᴰ x xs → length x.origin.path ≤ n

within-append : {n : ℕ} (xs ys : List Traced) → Within n xs → Within n ys → Within n (xs ++ ys)
within-append {n} xs ys a b x i = go (Memᴰ.append_cases xs i)
  where
    go : Memᴰ x xs ⊎ Memᴰ x ys → length x.origin.path ≤ n
    go (inl j) = a x j
    go (inr j) = b x j

rows-deep : (n : ℕ) (number : ℕ → ℕ) (r : ℕ) (ls : List Link) → Within n (rows_traced number r ls)
unfolding rows_traced
rows-deep n number r [] x i = absurd (Memᴰ.not-nil i)
rows-deep n number r (l ∷ ls) x (Memᴰ.head e) = rw e (omega arith)
rows-deep n number r (l ∷ ls) x (Memᴰ.tail i) = rows-deep n number (suc r) ls x i

into-deep : (n p : ℕ) (xs : List Traced) → Within n xs → Within (suc n) (map (traced_into p) xs)
unfolding traced_into step_into
into-deep n p xs h x i = let (y, j, e) = map-mem (traced_into p) x xs i in rw e (omega (arith, h y j))

uses-deep : (n : ℕ) (size : ℕ → ℕ) (below : ℕ → ℕ → List ℕ → List Traced) (number : ℕ → ℕ) (p base : ℕ) (us : List Use)
    → ((u : Use) → Memᴰ u us → (b : ℕ) (met : List ℕ) → Within n (below u.block b met))
    → Within (suc n) (uses_traced size below number p base us)
unfolding uses_traced
uses-deep n size below number p base [] h = λ x i. absurd (Memᴰ.not-nil i)
uses-deep n size below number p base (u ∷ us) h =
    within-append (map (traced_into p) (below u.block base (map number u.at))) _
    (into-deep n p (below u.block base (map number u.at)) (h u (Memᴰ.head refl) base (map number u.at)))
    (uses-deep n size below number (suc p) (base + size u.block) us (λ w i. h w (Memᴰ.tail i)))

traced-deep : (opening : ℕ → ℕ) (bs : List Block) → Good bs → (k base : ℕ) (met : List ℕ) → Within k (traced opening bs k base met)
unfolding traced uses_traced
traced-deep opening [] good k base met = λ x i. absurd (Memᴰ.not-nil i)
traced-deep opening (b ∷ earlier) (more ok good) k base met = go (traced-deep opening earlier good) (eqb k (length earlier)) refl
  where
    last : ((j base : ℕ) (met : List ℕ) → Within j (traced opening earlier j base met)) → (n : ℕ) → length earlier ≡ n → k ≡ n
        → (number : ℕ → ℕ) (b₀ : ℕ) → Within k (uses_traced (total earlier) (traced opening earlier) number 1 b₀ b.uses)
    last below zero e f number b₀ x i =
        none b.uses (λ u j. (ok.uses u j).lower) x i
      where
        none : (us : List Use) → ((u : Use) → Memᴰ u us → u.block < length earlier) → (x : Traced)
            → Memᴰ x (uses_traced (total earlier) (traced opening earlier) number 1 b₀ us) → length x.origin.path ≤ k
        none [] h x i = absurd (Memᴰ.not-nil i)
        none (u ∷ us) h x i = absurd (omega (arith, h u (Memᴰ.head refl)))
    last below (suc n) e f number b₀ x i =
        let h = uses-deep n (total earlier) (traced opening earlier) number 1 b₀ b.uses
        (λ u j c d y m. let l : u.block < length earlier = (ok.uses u j).lower in omega (arith, below u.block c d y m)) x i in
        omega arith

    go : ((j base : ℕ) (met : List ℕ) → Within j (traced opening earlier j base met)) → (t : Bool) → eqb k (length earlier) ≡ t
        → Within k (traced opening (b ∷ earlier) k base met)
    go below true e =
        rw (traced-hit opening b earlier k base met e)
        (within-append _ _ (rows-deep k _ (suc (opening k)) b.links) (last below (length earlier) refl (eqb-true k (length earlier) e) _ (base + b.own)))
    go below false e = rw (traced-skip opening b earlier k base met e) (below k base met)

-- So is the level of the best of some.
better-few : (n a b : ℕ) → a ≤ n → b ≤ n → better_level a b ≤ n
unfolding better_level
better-few n a b h k = go (ℕ_discrete b 0) (ℕ_discrete a 0) (depth_wins b a) refl
  where
    go : Dec (b ≡ 0) → Dec (a ≡ 0) → (t : Bool) → depth_wins b a ≡ t → if_eq b 0 a (if_eq a 0 b (if_true (depth_wins b a) b a)) ≤ n
    go (yes e) d t w = rw (eq_then b 0 a (if_eq a 0 b (if_true (depth_wins b a) b a)) e) h
    go (no e) (yes f) t w = rw (eq_else b 0 a (if_eq a 0 b (if_true (depth_wins b a) b a)) e, eq_then a 0 b (if_true (depth_wins b a) b a) f) k
    go (no e) (no f) true w = rw (eq_else b 0 a (if_eq a 0 b (if_true (depth_wins b a) b a)) e, eq_else a 0 b (if_true (depth_wins b a) b a) f, true_then (depth_wins b a) b a w) k
    go (no e) (no f) false w = rw (eq_else b 0 a (if_eq a 0 b (if_true (depth_wins b a) b a)) e, eq_else a 0 b (if_true (depth_wins b a) b a) f, true_else (depth_wins b a) b a w) h

best-few : (s t n : ℕ) (xs : List Traced) → Within n xs → level (best (origins s t xs)) ≤ suc n
unfolding origins best level
best-few s t n [] h = omega arith
best-few s t n (x ∷ xs) h = go (joins? s t x.link) (best-few s t n xs (λ y i. h y (Memᴰ.tail i)))
  where
    go : Dec (Joins s t x.link) → level (best (origins s t xs)) ≤ suc n → level (best (origins s t (x ∷ xs))) ≤ suc n
    go (yes j) below =
        rw (origins-hit s t x xs j, level-winner (Stands x.origin) (best (origins s t xs)))
        (better-few (suc n) (suc (length x.origin.path)) (level (best (origins s t xs))) (omega (arith, h x (Memᴰ.head refl))) below)
    go (no j) below = rw (origins-skip s t x xs j) below

pub level-small : (xs : List ℕ) → Good (blocks_of xs) → (k x y n : ℕ) → IsLevel xs k x y n → n ≤ suc k
level-small xs good k x y n l =
    let bs : List Block = blocks_of xs in
    rw (l.at 0 (range (suc (total bs k)) (joins_of bs k)) (alone_sound bs good k)) (best-few _ _ k _ (traced-deep _ bs good k 0 (range (suc (total bs k)) (joins_of bs k))))

-- So the levels of a block may be lifted through a use of it.
pub may_lift : {xs t m : List ℕ} {k r : ℕ} → Loaded xs t → Levels xs m k → UseRow xs k r → MayLift xs m k r
may_lift {xs} {t} {m} {k} {r} g right row =
    record {
      row = row;
      room = omega (arith, right.long, (loaded-show g).blocks, row.block);
      few = joins-small (use_at xs (blocks_of xs) r).block (loaded-show g).small;
      small = λ i j a b.
          omega (arith, level-small xs (loaded-show g).good _ _ _ _ (right.at (use_at xs (blocks_of xs) r).block i j row.lower a b), row.lower, row.block, (loaded-show g).blocks);
    }
