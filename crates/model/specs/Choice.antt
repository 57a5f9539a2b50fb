-- Choice by a test. A definition whose cases code takes one after another is written with these: they stay as they stand until a
-- proof opens them, so it can take one case at a time. (A recursion stops by a case split of its own.)
use Rattle.std.specs.Prelude.{ℕ, Bool, cond, eqb, ltb}

-- x if a is less than b, else y.
unfoldable pub if_lt : {A : Type 0} → ℕ → ℕ → A → A → A
if_lt a b x y = cond (ltb a b) x y

-- x if a equals b, else y.
unfoldable pub if_eq : {A : Type 0} → ℕ → ℕ → A → A → A
if_eq a b x y = cond (eqb a b) x y

-- x if the test holds, else y.
unfoldable pub if_true : {A : Type 0} → Bool → A → A → A
if_true t x y = cond t x y
