-- Rounds of relaxation over estimates. An estimate stands at the number of its cue; an edge of
-- weight w from u to v lets v's estimate be at most u's and w more.
use Rattle.std.specs.Prelude.{ℕ, ◌+◌, ◌≤◌, ◌<◌, ◌≡◌, Bool, true, false, ◌||◌, ◌⊎◌, List, [], ◌∷◌, get_or}

-- Either of two tests.
abbrev pub orb : Bool → Bool → Bool
orb = ◌||◌

-- The sum of some estimates.
unfoldable pub sum : List ℕ → ℕ
sum [] = 0
sum (x ∷ xs) = x + sum xs

-- W u v w: an edge of weight w leads from u to v.
abbrev pub Edges : Type 1
Edges = ℕ → ℕ → ℕ → Type 0

-- One edge.
abbrev pub One : ℕ → ℕ → ℕ → Edges
One a b x u v w = (u ≡ a) × (v ≡ b) × (w ≡ x)

-- e is d with some estimates lowered, each to what an edge makes of an estimate of d.
pub record Lowered (W : Edges) (d e : List ℕ) : Type 0 where
  pub lower : (v : ℕ) → get_or e v 0 ≤ get_or d v 0
  pub from : (v : ℕ) → (get_or e v 0 ≡ get_or d v 0) ⊎ ((u w : ℕ) × W u v w × (get_or e v 0 ≡ get_or d u 0 + w))

-- What rounds are about: steps over edges, when an edge has nothing left to do, and a size that falls.
pub record Game (S : Type 0) : Type 1 where
  pub Step : Edges → S → S → Type 0
  pub Idle : S → ℕ → ℕ → ℕ → Type 0
  pub size : S → ℕ

-- A step over some edges is one over more.
abbrev pub Wider : {S : Type 0} → Game S → Type 1
Wider {S} G = (W X : Edges) (d e : S) → ((u v w : ℕ) → W u v w → X u v w) → G.Step W d e → G.Step X d e

-- d becomes e by steps.
pub data RunsOf {S : Type 0} (G : Game S) (W : Edges) (d : S) : S → Type 0 where
  none : {e : S} → e ≡ d → RunsOf G W d e
  more : {f : S} (e : S) → RunsOf G W d e → G.Step W e f → RunsOf G W d f

-- State d became e; changed says whether it did. If it did not, no edge has anything to do; else the size fell.
pub data RoundOf {S : Type 0} (G : Game S) (W : Edges) (d : S) : Bool → S → Type 0 where
  quiet : {changed : Bool} {e : S} → changed ≡ false → e ≡ d → ((u v w : ℕ) → W u v w → G.Idle d u v w) → RoundOf G W d changed e
  moved : {changed : Bool} {e : S} → changed ≡ true → RunsOf G W d e → G.size e < G.size d → RoundOf G W d changed e

-- Estimates.
abbrev pub estimates : Game (List ℕ)
estimates = record { Step = Lowered; Idle = λ d u v w. get_or d v 0 ≤ get_or d u 0 + w; size = sum }

abbrev pub Runs : Edges → List ℕ → List ℕ → Type 0
Runs W d e = RunsOf estimates W d e

-- No edge improves an estimate.
abbrev pub Still : Edges → List ℕ → Type 0
Still W d = (u v w : ℕ) → W u v w → get_or d v 0 ≤ get_or d u 0 + w

abbrev pub Round : Edges → List ℕ → Bool → List ℕ → Type 0
Round W d changed e = RoundOf estimates W d changed e

-- Estimates d became e; fell says whether any did.
pub data Fell (d : List ℕ) : Bool → List ℕ → Type 0 where
  same : {fell : Bool} {e : List ℕ} → fell ≡ false → e ≡ d → Fell d fell e
  less : {fell : Bool} {e : List ℕ} → fell ≡ true → sum e < sum d → Fell d fell e
