-- What a step puts in for a use: the cues of the block as cues of the copy, and the uses of the block as uses that stand.
use Prim.Native.Nat.{ℕ, zero, suc, ◌+◌, ◌-◌, ◌≤◌, ◌<◌}
use native.Mathlib.Omega.{arith}
use native.Mathlib.Nat.{add-zero}
use mathlib.Core.Path.{◌≡◌, refl, ◌∙◌, ap}
use mathlib.Core.Logic.{◌⊎◌, inl, inr}
use mathlib.Core.List.Memᴰ
use mathlib.Core.List.{List, [], ◌∷◌, ◌++◌, map, Memᴰ}
use lib.ListN.{length, get_or, length-map, get_or-append}
use lib.Seq.{get_or-append-add}
use Rattle.model.specs.Blocks.{Use, Block}
use Rattle.model.specs.Lists.{range}
use Rattle.basics.proofs.Members.{range_length}
use Rattle.shows.specs.Copies.{nth_use}
use Rattle.demands.specs.Replacement.{Node, Standing, own_nodes, nodes_of, nth, standing}
use Rattle.demands.proofs.Rearranging.{range-place}

-- The cue that no copy has.
abbrev pub none : Node
none = record { path = []; own = 0 }

-- What the cues of a block are in the copy that is put in: an own cue, and a join.
module _ (b : Block) (u : Standing) where
  own-length : length (own_nodes u.path b.own) ≡ b.own
  unfolding own_nodes
  own-length = length-map (range 1 b.own) _ ∙ range_length 1 b.own

  pub nth-own : (c : ℕ) → 1 ≤ c → c ≤ b.own → nth (nodes_of b u) c ≡ record { path = u.path; own = c }
  unfolding nth nodes_of own_nodes
  nth-own c x y =
      let e : 1 + (c - 1) ≡ c = omega arith in
      get_or-append (own_nodes u.path b.own) u.met none (c - 1) (omega (arith, own-length))
      ∙ range-place _ none 1 b.own (c - 1) (omega arith)
      ∙ ap (λ (n : ℕ). record { path = u.path; own = n }) e

  pub nth-join : (c : ℕ) → b.own < c → nth (nodes_of b u) c ≡ get_or u.met (c - b.own - 1) none
  unfolding nth nodes_of
  nth-join c h =
      let e : c - 1 ≡ length (own_nodes u.path b.own) + (c - b.own - 1) = omega (arith, own-length) in
      rw e (get_or-append-add (own_nodes u.path b.own) u.met (c - b.own - 1) none)

-- A use that is not there.
abbrev pub no_use : Use
no_use = record { block = 0; at = [] }

-- A use by its place is one of the uses.
pub use_mem : (us : List Use) (i : ℕ) → i < length us → Memᴰ (get_or us i no_use) us
use_mem [] i l = absurd (omega arith)
use_mem (u ∷ us) zero l = Memᴰ.head refl
use_mem (u ∷ us) (suc i) l = Memᴰ.tail (use_mem us i (omega arith))

-- The use that stands for the p-th use of a copy.
abbrev pub stand : List Node → List ℕ → ℕ → Use → Standing
stand cues path p u = record { path = path ++ (p ∷ []); block = u.block; met = map (nth cues) u.at }

-- For each use of the block there is one that stands,
standing-has : (cues : List Node) (path : List ℕ) (p : ℕ) (us : List Use) (i : ℕ) → i < length us
    → Memᴰ (stand cues path (p + i) (get_or us i no_use)) (standing cues path p us)
unfolding standing
standing-has cues path p [] i l = absurd (omega arith)
standing-has cues path p (u ∷ us) zero l = Memᴰ.head (ap (λ (n : ℕ). stand cues path n u) (add-zero p))
standing-has cues path p (u ∷ us) (suc i) l =
    let q : p + suc i ≡ suc p + i = omega arith in rw q (Memᴰ.tail (standing-has cues path (suc p) us i (omega arith)))

pub standing-nth : (cues : List Node) (path : List ℕ) (us : List Use) (p : ℕ) → 1 ≤ p → p ≤ length us
    → Memᴰ (stand cues path p (nth_use us p)) (standing cues path 1 us)
unfolding nth_use
standing-nth cues path us p x y = let q : 1 + (p - 1) ≡ p = omega arith in rw q at (standing-has cues path 1 us (p - 1) (omega arith))

-- and each use that the step leaves stands for a use of the block.
pub standing-at : (cues : List Node) (path : List ℕ) (p : ℕ) (us : List Use) (w : Standing) → Memᴰ w (standing cues path p us)
    → (i : ℕ) × (i < length us) × (w ≡ stand cues path (p + i) (get_or us i no_use))
unfolding standing
standing-at cues path p [] w m = absurd (Memᴰ.not-nil m)
standing-at cues path p (u ∷ us) w m = go (standing-at cues path (suc p) us w) (Memᴰ.cases_cons m)
  where
    go : (Memᴰ w (standing cues path (suc p) us) → (i : ℕ) × (i < length us) × (w ≡ stand cues path (suc p + i) (get_or us i no_use)))
        → (w ≡ stand cues path p u) ⊎ Memᴰ w (standing cues path (suc p) us)
        → (i : ℕ) × (i < suc (length us)) × (w ≡ stand cues path (p + i) (get_or (u ∷ us) i no_use))
    go below (inl e) = (0, omega arith, rw (add-zero p) e)
    go below (inr k) =
        let (i, l, e) = below k in
        let q : p + suc i ≡ suc p + i = omega arith in
        (suc i, omega arith, rw q e)
