-- Estimates that have settled over the edges of a block are what theory calls its final labels.
use Prim.Native.Nat.{ℕ, ◌+◌, ◌-◌, ◌≤◌, ◌<◌}
use native.Mathlib.Omega.{arith}
use mathlib.Core.Path.{◌≡◌, refl}
use mathlib.Core.Logic.{◌⊎◌, inl, inr}
use mathlib.Core.List.{List}
use lib.ListN.{get_or}
use Rattle.model.specs.Blocks.{Block, block_at}
use Rattle.shows.specs.WellFormed.{Cue, GoodUse, Good}
use Rattle.basics.proofs.Members.{get_d_mem}
use Rattle.shows.proofs.BlockAt.{joins_of-at, own_of_at, good-at}
use Rattle.distances.specs.Walks.{Walk, stop, Price}
use Rattle.distances.proofs.Walks.{lone, walk_append}
use Rattle.distances.specs.Tells.{met_by, Local, by-link, by-use, InTable}
use Rattle.distances.proofs.Closure.{Stable, Estimates}
use Rattle.searches.specs.Rounds.{Edges, Runs, none, more}
use Rattle.searches.specs.Starts.{Beginnings, Started}
use Rattle.searches.specs.Edges.{numbers, BlockEdge, SpreadIn}

-- Estimates on the way: none is larger than what was begun with, and each below inf is what was begun with somewhere and a walk from there.
pub record OnTheWay (W : Edges) (In : ℕ → Type 0) (inf : ℕ) (begun : Beginnings) (d : ℕ → ℕ) : Type 0 where
  pub fallen : (a x : ℕ) → In a → begun a x → d a ≤ x
  pub attained : (c : ℕ) → In c → d c < inf → (a x m : ℕ) × In a × begun a x × Walk W c a m × (d c ≡ x + m)

-- When no edge improves an estimate, the estimates are final.
pub going_done : {W : Edges} {In : ℕ → Type 0} {inf : ℕ} {begun : Beginnings} {d : ℕ → ℕ} → OnTheWay W In inf begun d → Stable W d
    → Estimates W In inf begun d
going_done g stable = record { fallen = g.fallen; stable = stable; attained = g.attained }

-- Estimates as a function of cues.
abbrev pub labels : List ℕ → ℕ → ℕ
labels d c = get_or d c 0

-- What estimates begin with is what they have on the way.
started_going : {inf : ℕ} {W : Edges} {In : ℕ → Type 0} {n : ℕ} {begun : Beginnings} {d : List ℕ} → ((a : ℕ) → In a → a ≤ n) → Started inf n begun d
    → OnTheWay W In inf begun (labels d)
started_going {d = d} inside s =
    record {
      fallen = λ a x i b. s.fallen a x (inside a i) b;
      attained = λ c i l. (c, get_or d c 0, 0, i, s.attained c (inside c i) l, stop refl refl, omega arith);
    }

-- Estimates that fall, each to what an edge makes of another, keep what final labels need, if each such edge is one of X from a cue inside.
pub going_lower : {inf : ℕ} {W X : Edges} {In : ℕ → Type 0} {begun : ℕ → ℕ → Type 0} {d e : ℕ → ℕ}
    → ((u v w : ℕ) → W u v w → w < inf → X u v w × In u) → ((v : ℕ) → e v ≤ d v)
    → ((v : ℕ) → (e v ≡ d v) ⊎ ((u w : ℕ) × W u v w × (e v ≡ d u + w))) → OnTheWay X In inf begun d → OnTheWay X In inf begun e
going_lower {inf} {W} {X} {In} {begun} {d} {e} h lower from g =
    record { fallen = λ a x i b. omega (arith, g.fallen a x i b, lower a); attained = λ c i k. attained c i k (from c) }
  where
    attained : (c : ℕ) → In c → e c < inf → (e c ≡ d c) ⊎ ((u w : ℕ) × W u c w × (e c ≡ d u + w))
        → (a x m : ℕ) × In a × begun a x × Walk X c a m × (e c ≡ x + m)
    attained c i k (inl p) = let (a, x, m, j, b, y, q) = g.attained c i (omega arith) in (a, x, m, j, b, y, omega arith)
    attained c i k (inr (u, w, r, p)) =
        let (r', i') = h u c w r (omega arith) in
        let (a, x, m, j, b, y, q) = g.attained u i' (omega arith) in
        (a, x, m + w, j, b, walk_append y (lone r'), omega arith)

runs-going : {inf : ℕ} {W X : Edges} {In : ℕ → Type 0} {begun : ℕ → ℕ → Type 0} {d e : List ℕ}
    → ((u v w : ℕ) → W u v w → w < inf → X u v w × In u) → OnTheWay X In inf begun (labels d) → Runs W d e
    → OnTheWay X In inf begun (labels e)
runs-going h g (none q) = rw (← q) at g
runs-going h g (more e s l) = going_lower h l.lower l.from (runs-going h g s)

module _ {inf : ℕ} {price : Price} (bs : List Block) (good : Good bs) (work : List ℕ) (k : ℕ) where
  -- An edge of the block that matters is one by the numbers that say something; and back.
  edge-listed : (u v w : ℕ) → BlockEdge price bs work k u v w → w < inf
      → Local price (InTable inf (numbers work)) bs (block_at bs k) u v w × Cue (block_at bs k) u
  edge-listed u v w (by-link l m eu ev ew) h = (by-link l m eu ev ew, (rw eu at ((good-at bs good k).links l m).from))
  edge-listed u v w (by-use p m i j hi hj e eu ev) h =
      let g : GoodUse bs (block_at bs k) p = (good-at bs good k).uses p m in
      (by-use p m i j hi hj (e, h) eu ev, (rw eu at (g.cues (met_by p i) (get_d_mem p.at (i - 1) (omega (arith, g.arity))))))

  listed-edge : (u v w : ℕ) → Local price (InTable inf (numbers work)) bs (block_at bs k) u v w → BlockEdge price bs work k u v w
  listed-edge u v w (by-link l m eu ev ew) = by-link l m eu ev ew
  listed-edge u v w (by-use p m i j hi hj (e, h) eu ev) = by-use p m i j hi hj e eu ev

  pub spread_estimates : {S : Beginnings} {d : List ℕ} → SpreadIn inf price bs work k S d
      → Estimates (Local price (InTable inf (numbers work)) bs (block_at bs k)) (Cue (block_at bs k)) inf S (labels d)
  spread_estimates s =
      going_done
      (runs-going (λ u v w e h. edge-listed u v w e h) (started_going (λ a c. omega (arith, own_of_at bs k, joins_of-at bs k)) s.begins)
      s.settled.runs)
      (λ u v w e. s.settled.still u v w (listed-edge u v w e))
