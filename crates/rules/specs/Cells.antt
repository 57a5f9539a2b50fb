-- Numbers of lent rows by their place, as the code reads them.
use Rattle.std.specs.Prelude.{ℕ, zero, suc, ◌+◌, Bool, List, [], ◌∷◌, ◌++◌, get_or}
use Rattle.model.specs.Rules.{is_below}

-- The n numbers from p on.
unfoldable pub cells : List ℕ → ℕ → ℕ → List ℕ
cells xs p zero = []
cells xs p (suc n) = get_or xs p 0 ∷ cells xs (p + 1) n

-- The numbers from p on and then a come before those from q on and then b.
unfoldable pub key_below : List ℕ → ℕ → ℕ → ℕ → ℕ → ℕ → Bool
key_below xs p q n a b = is_below (cells xs p n ++ (a ∷ [])) (cells xs q n ++ (b ∷ []))
