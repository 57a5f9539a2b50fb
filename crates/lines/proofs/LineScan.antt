-- A line at a place of the text, value by value.
use Prim.Native.Nat.{ℕ, suc, ◌+◌, ◌≤◌, ◌<◌}
use mathlib.Core.Path.{◌≡◌, refl, sym, ◌∙◌}
use mathlib.Core.List.{List, [], ◌∷◌, ◌++◌, append-nil, append_assoc}
use native.Mathlib.Omega.{arith}
use native.Mathlib.Numerals.{add-one}
use lib.ListN.{length, get_or, take, drop, set, drop_of_length-le}
use lib.Seq.{drop-cons, take-suc-set, take_all}
use Rattle.std.proofs.Common.{Option, Some, None}
use Rattle.model.specs.Text.{line_feed}
use Rattle.values.specs.Fields.{value_at}
use Rattle.shows.specs.Files.{ends_of}
use Rattle.lines.specs.Scanning.{ValueFound, Values, Broken, behind, line_at, LineSays}
use Rattle.lines.proofs.Ends.{ends-many}

-- Values before others: none, and some before some.
behind-none : (k : ValueFound) → behind [] k ≡ k
unfolding behind
behind-none (Values vs next) = refl
behind-none Broken = refl

behind-both : (vs ws : List ℕ) (k : ValueFound) → behind (vs ++ ws) k ≡ behind vs (behind ws k)
unfolding behind
behind-both vs ws (Values us next) = rw (append_assoc vs ws us)
behind-both vs ws Broken = refl

-- A line's first value.
pub line_first : (e : ℕ) (es f : List ℕ) (at v next : ℕ) → value_at f e at ≡ Some (v, next)
    → line_at (e ∷ es) f at ≡ behind (v ∷ []) (line_at es f next)
unfolding line_at
line_first e es f at v next p = rw (line_at, p)

pub line_none : (e : ℕ) (es f : List ℕ) (at : ℕ) → value_at f e at ≡ None → line_at (e ∷ es) f at ≡ Broken
unfolding line_at
line_none e es f at p = rw (line_at, p)

-- No value yet.
pub line_begin : (n : ℕ) (f : List ℕ) (from : ℕ) → line_at (ends_of n) f from ≡ behind [] (line_at (ends_of n) f from)
line_begin n f from = sym (behind-none (line_at (ends_of n) f from))

module _
    (n : ℕ) (f row : List ℕ) (from at c : ℕ)
    (p : line_at (ends_of n) f from ≡ behind (take c row) (line_at (drop c (ends_of n)) f at)) (long : length row ≡ n)
  where
    module _ (e : ℕ) (m : Option (ℕ × ℕ)) (h : c < n) (end : e ≡ get_or (ends_of n) c line_feed) (q : m ≡ value_at f e at) where
      inside : c < length (ends_of n)
      inside = omega (arith, ends-many n)

      -- One value more, no value, and all values.
      pub line_turn : (v next : ℕ) → m ≡ Some (v, next)
          → line_at (ends_of n) f from ≡ behind (take (c + 1) (set row c v)) (line_at (drop (c + 1) (ends_of n)) f next)
      line_turn v next g =
          let w : value_at f (get_or (ends_of n) c line_feed) at ≡ Some (v, next) = rw (← end) (sym q ∙ g) in
          p
          ∙ rw (add-one, take-suc-set row c v (omega arith), drop-cons (ends_of n) c line_feed inside, line_first _ (drop (suc c) (ends_of n)) f at v next w)
          (sym (behind-both (take c row) (v ∷ []) (line_at (drop (suc c) (ends_of n)) f next)))

      pub line_bad : m ≡ None → LineSays (line_at (ends_of n) f from) None row
      unfolding LineSays behind
      line_bad g =
          let w : value_at f (get_or (ends_of n) c line_feed) at ≡ None = rw (← end) (sym q ∙ g) in
          rw (p, drop-cons (ends_of n) c line_feed inside, line_none _ (drop (suc c) (ends_of n)) f at w)

    pub line_end : n ≤ c → LineSays (line_at (ends_of n) f from) (Some at) row
    unfolding LineSays behind line_at
    line_end k =
        let e : drop c (ends_of n) ≡ [] = drop_of_length-le (ends_of n) {i = c} (omega (arith, ends-many n)) in
        rw (p, e) (refl, sym (append-nil (take c row) ∙ take_all c row (omega arith)))

-- What a line's reader says: the line, or that there is none.
pub said-line : (k : ValueFound) (l : Option ℕ) (next : ℕ) (row : List ℕ) → LineSays k l row → l ≡ Some next → k ≡ Values row next
unfolding LineSays
said-line (Values vs n) l next row s e = let (p, q) = s in let m : n ≡ next = cc in rw (q, m)
said-line Broken l next row s e = let z : ◌≡◌ {A = ℕ} 0 1 = cc in absurd (omega arith)

pub said-none : (k : ValueFound) (l : Option ℕ) (row : List ℕ) → LineSays k l row → l ≡ None → k ≡ Broken
unfolding LineSays
said-none (Values vs n) l row s e = let (p, q) = s in let z : ◌≡◌ {A = ℕ} 0 1 = cc in absurd (omega arith)
said-none Broken l row s e = refl
