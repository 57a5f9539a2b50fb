-- Chains with the sums of their waits are the walks over links that weigh as much as their labels wait.
use Prim.Native.Nat.{ℕ, ◌+◌, ◌≤◌}
use mathlib.Core.Path.{◌≡◌, refl, sym, ◌∙◌, ap}
use mathlib.Core.List.{List, Memᴰ}
use lib.ListN.{get_or}
use Rattle.model.specs.Limits.{max_followed}
use Rattle.model.specs.Blocks.{Link}
use Rattle.distances.specs.Walks.{Walk, stop, step, Linked}
use Rattle.distances.specs.Quickest.{priced}
use Rattle.distances.proofs.Walks.{next}
use Rattle.demands.specs.Waits.{Waits}
use Rattle.demands.specs.Quickest.{Lasts, here, link}

-- The lines vss give each label that a chain may have the wait that stands in a table, and no other.
pub record Agree (vss : List (List ℕ)) (waits : List ℕ) : Type 0 where
  pub only : (label wait : ℕ) → 1 ≤ label → label ≤ max_followed → Waits vss label wait → wait ≡ get_or waits label 0
  pub has : (label : ℕ) → 1 ≤ label → label ≤ max_followed → Waits vss label (get_or waits label 0)

module _ {vss : List (List ℕ)} {waits : List ℕ} (a : Agree vss waits) {E : List Link} where
  pub lasts_walk : {t s n : ℕ} → Lasts vss E t s n → Walk (Linked (priced waits) E) t s n
  lasts_walk here = stop refl refl
  lasts_walk (link {wait} {sum} l i low high w c) =
      next l.to wait sum (l, i, refl, refl, (high, a.only l.label wait low high w)) (lasts_walk c) refl

  pub walk_lasts : ((l : Link) → Memᴰ l E → 1 ≤ l.label) → {t s n : ℕ} → Walk (Linked (priced waits) E) t s n → Lasts vss E t s n
  walk_lasts low (stop p q) = rw (p, q) here
  walk_lasts low {t} {s} {n} (step u w m (l, i, p, q, (h, o)) c e) =
      let d : Lasts vss E t l.to m = rw (← q) at (walk_lasts low c) in
      let f : Lasts vss E t l.from (get_or waits l.label 0 + m) = link l i (low l i) h (a.has l.label (low l i) h) d in
      let g : get_or waits l.label 0 + m ≡ n = ap (λ (x : ℕ). x + m) (sym o) ∙ sym e in
      rw (p, g) at f
