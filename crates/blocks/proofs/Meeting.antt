-- The join of a use that meets a cue.
use Prim.Native.Nat.{ℕ, ◌+◌, ◌≤◌, ◌<◌}
use native.Mathlib.Omega.{arith}
use native.Mathlib.Decide.{ℕ_discrete}
use mathlib.Core.Path.{◌≡◌, sym, ◌∙◌, ap}
use mathlib.Core.List.{List}
use lib.ListN.{length, get_or}
use Rattle.model.specs.Blocks.{Use, joins_of, blocks_of}
use Rattle.verdicts.specs.Index.{use_at}
use Rattle.blocks.specs.Loaded.{UseRow, column_at, IsJoinAt}
use Rattle.blocks.proofs.Uses.{use_row_apart}

-- None of the first i joins meets it.
pub record Sought (xs : List ℕ) (r c i : ℕ) : Type 0 where
  pub before : (n : ℕ) → n < i → column_at xs r n ≡ c → ⊥

pub sought_begin : (xs : List ℕ) (r c : ℕ) → Sought xs r c 0
sought_begin xs r c = record { before = λ n h e. absurd (omega arith) }

pub sought_on : (xs : List ℕ) (r c i x : ℕ) → Sought xs r c i → x ≡ column_at xs r i → (x ≡ c → ⊥) → Sought xs r c (i + 1)
sought_on xs r c i x s e n = record { before = λ k h y. go k h y (ℕ_discrete k i) }
  where
    go : (k : ℕ) → k < i + 1 → column_at xs r k ≡ c → Dec (k ≡ i) → ⊥
    go k h y (yes q) = n (e ∙ (rw q at y))
    go k h y (no m) = s.before k (omega arith) y

pub join_at_stop : (xs : List ℕ) (r joins c i x : ℕ) → Sought xs r c i → i < joins → x ≡ column_at xs r i → x ≡ c → IsJoinAt xs r joins c i
join_at_stop xs r joins c i x s h e y = record { within = omega arith; found = λ l. sym e ∙ y; before = s.before }

pub join_at_done : (xs : List ℕ) (r joins c i : ℕ) → Sought xs r c i → i ≤ joins → joins ≤ i → IsJoinAt xs r joins c joins
join_at_done xs r joins c i s h l =
    let e : i ≡ joins = omega arith in
    record { within = omega arith; found = λ x. absurd (omega arith); before = rw e at s.before }

-- What that says of the use.
module _ {xs : List ℕ} {k r c j joins i : ℕ} (o : UseRow xs k r) (y : j ≡ (use_at xs (blocks_of xs) r).block) (n : joins ≡ joins_of (blocks_of xs) j)
    (p : IsJoinAt xs r joins c i) where
  abbrev u : Use
  u = use_at xs (blocks_of xs) r

  pub use_many : joins ≡ joins_of (blocks_of xs) u.block
  use_many = n ∙ ap (joins_of (blocks_of xs)) y

  pub use_arity : length u.at ≡ joins
  use_arity = o.good.arity ∙ sym use_many

  pub use_column : (a : ℕ) → a < joins → get_or u.at a 0 ≡ column_at xs r a
  use_column a h = o.columns a (omega (arith, use_many))

  pub use_meets : i < joins → get_or u.at i 0 ≡ c
  use_meets h = use_column i h ∙ p.found h

  -- No other join meets the cue, and none does where none was found.
  pub use_only : (a : ℕ) → i < joins → a < length u.at → get_or u.at a 0 ≡ c → a ≡ i
  use_only a h l e = use_row_apart o a i l (omega (arith, use_arity)) (e ∙ sym (use_meets h))

  pub use_apart : (a : ℕ) → joins ≤ i → a < length u.at → get_or u.at a 0 ≡ c → ⊥
  use_apart a h l e = p.before a (omega (arith, use_arity)) (sym (use_column a (omega (arith, use_arity))) ∙ e)
