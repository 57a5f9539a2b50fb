-- The least of some numbers, and of the weights of walks over any price: there is one at most, and an estimate that tells it says it.
use Prim.Native.Nat.{ℕ, ◌*◌, ◌-◌, ◌≤◌, ◌<◌}
use native.Mathlib.Omega.{arith}
use native.Mathlib.Decide.{dec_lt}
use mathlib.Core.Path.{◌≡◌, refl, sym, ap}
use mathlib.Core.List.{List}
use borrow.Author.Tests.{lt-ltb, le-ltb}
use Rattle.model.specs.Choice.{if_lt}
use Rattle.model.specs.Blocks.{Link}
use Rattle.model.specs.Chains.{Distance, Far, Unreachable, followed}
use Rattle.distances.specs.Demand.{Shortest}
use Rattle.distances.specs.Walks.{Price, each-one}
use Rattle.distances.specs.Tells.{Tells, told}
use Rattle.distances.specs.Lightest.{LeastOf, Lightest}
use Rattle.distances.proofs.Chains.{chain-walk, walk_chain}
use Rattle.distances.proofs.Fewest.{Starts, far_same, far_not}
use Rattle.distances.proofs.Closure.{told_none}

-- What an estimate says, below inf and from inf on.
pub told-far : (inf x : ℕ) → x < inf → told inf x ≡ Far x
unfolding told if_lt
told-far inf x h = rw (lt-ltb x inf h) refl

pub told-lost : (inf x : ℕ) → inf ≤ x → told inf x ≡ Unreachable
unfolding told if_lt
told-lost inf x h = rw (le-ltb x inf h) refl

-- A number that has the property, and no number has it.
least-far : {P : ℕ → Type 0} (n : ℕ) → P n → ((m : ℕ) → P m → n ≤ m) → LeastOf P (Far n)
least-far {P} n p h =
    record { has = λ m e. rw (far_same e) at p; found = λ m q. (n, refl); least = λ a m e q. omega (arith, far_same e, h m q) }

least-none : {P : ℕ → Type 0} → ((m : ℕ) → P m → ⊥) → LeastOf P Unreachable
least-none h =
    record { has = λ m e. absurd (far_not (sym e)); found = λ m d. absurd (h m d); least = λ a m e d. absurd (h m d) }

-- There is one at most.
pub least-only : {P : ℕ → Type 0} (a b : Distance) → LeastOf P a → LeastOf P b → a ≡ b
least-only (Far n) (Far m) f g =
    let e : n ≡ m = omega (arith, f.least n m refl (g.has m refl), g.least m n refl (f.has n refl)) in ap Far e
least-only (Far n) Unreachable f g = let (m, e) = g.found n (f.has n refl) in absurd (far_not (sym e))
least-only Unreachable (Far n) f g = let (m, e) = f.found n (g.has n refl) in absurd (far_not (sym e))
least-only Unreachable Unreachable f g = refl

-- An estimate that tells the least weight of a walk says it, where links weigh at most most, and no walk that repeats no cue comes to inf.
module _ (price : Price) (E : List Link) (s t : ℕ) where
  pub told-lightest : (inf x cues most : ℕ) → Starts E cues → 1 ≤ t → t ≤ cues → ((label w : ℕ) → price label w → w ≤ most)
      → (cues - 1) * most < inf → Tells price E inf s t x → Lightest price E s t (told inf x)
  told-lightest inf x cues most starts low high light large tells = go (dec_lt x inf)
    where
      go : Dec (x < inf) → Lightest price E s t (told inf x)
      go (yes h) = rw (told-far inf x h) (least-far x (tells.reached h) tells.least)
      go (no h) =
          rw (told-lost inf x (omega arith))
          (least-none (λ n c. told_none {price = price} cues most starts low high light large tells (omega arith) n c))

-- Shortest chains are the lightest walks over links that weigh 1 each.
pub shortest_lightest : {E : List Link} {s t : ℕ} {d : Distance} → Shortest (followed E) s t d → Lightest each-one E s t d
shortest_lightest r =
    record {
      has = λ n e. chain-walk (r.chain n e);
      found = λ m c. r.found m (walk_chain c);
      least = λ n m e c. r.least n m e (walk_chain c);
    }
