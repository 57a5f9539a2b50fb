-- Laws of estimates that are lowered several at a time: a use whose cues all take the estimates before is a round over its edges.
use Prim.Native.Nat.{ℕ, ◌+◌, ◌*◌, ◌≤◌, ◌<◌}
use native.Mathlib.Omega.{arith}
use native.Mathlib.Decide.{ℕ_discrete, dec_lt}
use mathlib.Core.Path.{◌≡◌, refl, sym, ◌∙◌, ap}
use mathlib.Core.Bool.{Bool, true, false}
use mathlib.Core.Logic.{◌⊎◌, inl, inr}
use mathlib.Core.List.{List}
use lib.ListN.{length, get_or, set, take, drop, replicate, get_or-replicate}
use lib.Seq.{get_or-set_same, get_or-set_other}
use Rattle.model.specs.Limits.{summary_width, max_joins}
use Rattle.blocks.specs.Loaded.{column_at}
use Rattle.searches.specs.Rounds.{orb, Lowered, more, Still, Round, quiet, moved, Fell, same, less}
use Rattle.searches.specs.Starts.{Meets, MetAt, Merged, Gathered}
use Rattle.searches.specs.Lines.{Least, Line, Lines, Alike, Even}
use Rattle.searches.specs.Edges.{Mesh}
use Rattle.searches.proofs.Lowering.{true_not_false}
use Rattle.searches.proofs.Rounds.{runs-begin}
use Rattle.searches.proofs.Parts.{lent_at}

-- An estimate from inf on lowers no other.
pub line_skip : (inf n : ℕ) (work : List ℕ) (q x : ℕ) (d : List ℕ) → inf ≤ x → ((c : ℕ) → get_or d c 0 ≤ inf) → Line inf work q x d n d
line_skip inf n work q x d h most =
    record { at = λ j l. record { old = omega arith; new = omega (arith, most j); from = inl refl }; else = λ j l. refl }

pub line_begin : (inf : ℕ) (work : List ℕ) (q x : ℕ) (d : List ℕ) → Line inf work q x d 0 d
line_begin inf work q x d = record { at = λ j l. absurd (omega arith); else = λ j l. refl }

pub line_on : (inf : ℕ) (work : List ℕ) (x : ℕ) (d : List ℕ) (n : ℕ) (e : List ℕ) (y w r : ℕ) → Line inf work 0 x d n e → Least inf y x w r
    → y ≡ get_or e n 0 → w ≡ get_or work n 0 → n < length e → Line inf work 0 x d (n + 1) (set e n r)
line_on inf work x d n e y w r l least ey ew h = record { at = λ j k. at j k (ℕ_discrete j n); else = else }
  where
    here : get_or (set e n r) n 0 ≡ r
    here = get_or-set_same e n r 0 h

    first : get_or work (0 + n) 0 ≡ w
    first = let z : 0 + n ≡ n = omega arith in ap (λ (m : ℕ). get_or work m 0) z ∙ sym ew

    at : (j : ℕ) → j < n + 1 → Dec (j ≡ n) → Least inf (get_or d j 0) x (get_or work (0 + j) 0) (get_or (set e n r) j 0)
    at j k (yes p) = rw (p, here, ← (l.else n (omega arith)), ← ey, first) least
    at j k (no m) = rw (get_or-set_other e n j r 0 m) (l.at j (omega arith))

    else : (j : ℕ) → n + 1 ≤ j → get_or (set e n r) j 0 ≡ get_or d j 0
    else j k = get_or-set_other e n j r 0 (λ p. omega arith) ∙ l.else j (omega arith)

pub lines-begin : (inf width : ℕ) (work : List ℕ) (q : ℕ) (g d : List ℕ) → Lines inf width work q g d 0 d
lines-begin inf width work q g d =
    record { old = λ j h. omega arith; new = λ i j l h. absurd (omega arith); from = λ j h. inl refl }

-- By weights of a part, as it is lent: by those from its place on.
line_lent : {inf x width n a : ℕ} {work d e : List ℕ} → Line inf (take n (drop a work)) 0 x d width e → width ≤ n → Line inf work a x d width e
line_lent {inf} {x} {n = n} {a} {work} {d} {e} l long =
    record {
      at = λ j h. rw (lent_at n a work (0 + j) (a + j) (omega arith) (omega arith)) at (l.at j h);
      else = l.else;
    }

pub lines-on : (inf width : ℕ) (work : List ℕ) (q : ℕ) (g d : List ℕ) (n : ℕ) (e f : List ℕ) (x : ℕ) {a : ℕ} → Lines inf width work q g d n e
    → Line inf (take summary_width (drop a work)) 0 x e width f → x ≡ get_or g n 0 → width ≤ summary_width → a ≡ q + summary_width * n → Lines inf width work q g d (n + 1) f
lines-on inf width work q g d n e f x {a} s o ex long ea =
    record {
      old = λ j h. omega (arith, s.old j h, (l.at j h).old);
      new = λ i j k h. new i j k h (ℕ_discrete i n);
      from = λ j h. from j h (l.at j h).from (s.from j h);
    }
  where
    l : Line inf work (q + summary_width * n) x e width f
    l = rw ea at (line_lent {n = summary_width} {a = a} {work = work} o long)

    new : (i j : ℕ) → i < n + 1 → j < width → Dec (i ≡ n) → get_or f j 0 ≤ get_or g i 0 + get_or work (q + summary_width * i + j) 0
    new i j k h (yes p) = rw (p, ← ex) (l.at j h).new
    new i j k h (no m) = omega (arith, s.new i j (omega arith) h, (l.at j h).old)

    from : (j : ℕ) → j < width → (get_or f j 0 ≡ get_or e j 0) ⊎ ((get_or f j 0 ≡ x + get_or work (q + summary_width * n + j) 0) × (get_or f j 0 < inf))
        → (get_or e j 0 ≡ get_or d j 0) ⊎ ((i : ℕ) × (i < n) × (get_or e j 0 ≡ get_or g i 0 + get_or work (q + summary_width * i + j) 0) × (get_or e j 0 < inf))
        → (get_or f j 0 ≡ get_or d j 0) ⊎ ((i : ℕ) × (i < n + 1) × (get_or f j 0 ≡ get_or g i 0 + get_or work (q + summary_width * i + j) 0) × (get_or f j 0 < inf))
    from j h (inr (p, k)) b = inr (n, omega arith, (rw ex at p), k)
    from j h (inl p) (inl q) = inl (p ∙ q)
    from j h (inl p) (inr (i, k, q, m)) = inr (i, omega arith, p ∙ q, omega arith)

-- Two lists, one place more.
pub alike_begin : (t : Bool) (a b : List ℕ) → Alike t a b 0
alike_begin t a b = record { same = λ e j h. absurd (omega arith) }

pub alike_on : (s u t : Bool) (a b : List ℕ) (i x y : ℕ) → Alike s a b i → t ≡ orb s u → (u ≡ false → x ≡ y) → x ≡ get_or a i 0 → y ≡ get_or b i 0
    → Alike t a b (i + 1)
alike_on true u t a b i x y s o p ex ey = record { same = λ e j h. absurd (true_not_false o e) }
alike_on false u t a b i x y s o p ex ey = record { same = λ e j h. go e j h (ℕ_discrete j i) }
  where
    go : t ≡ false → (j : ℕ) → j < i + 1 → Dec (j ≡ i) → get_or a j 0 ≡ get_or b j 0
    go e j h (yes q) = rw q (sym ex ∙ p (sym o ∙ e) ∙ ey)
    go e j h (no n) = s.same refl j (omega arith)

-- A list against one number, one place more.
pub even_begin : (t : Bool) (x : ℕ) (a : List ℕ) → Even t x a 0
even_begin t x a = record { same = λ e j h. absurd (omega arith) }

pub even_on : (s : Bool) {u t : Bool} {x i y : ℕ} {a : List ℕ} → Even s x a i → (u ≡ false → y ≡ x) → t ≡ orb s u → i < length a
    → Even t x (set a i y) (i + 1)
even_on true s p o l = record { same = λ e j h. absurd (true_not_false o e) }
even_on false {t = t} {x} {i} {y = y} {a = a} s p o l = record { same = λ e j h. go e j h (ℕ_discrete j i) }
  where
    go : t ≡ false → (j : ℕ) → j < i + 1 → Dec (j ≡ i) → get_or (set a i y) j 0 ≡ x
    go e j h (yes q) = rw q (get_or-set_same a i y 0 (omega arith) ∙ p (sym o ∙ e))
    go e j h (no n) = get_or-set_other a i j y 0 n ∙ s.same refl j (omega arith)

-- Cues that have all the same estimate improve none.
pub round_even : {xs : List ℕ} (work : List ℕ) {r : ℕ} (q : ℕ) {m x : ℕ} {d g₀ g : List ℕ} {t : Bool} → Gathered xs r d m g₀ g → Even t x g m
    → t ≡ false → Round (Mesh xs work r q m) d false d
unfolding Mesh
round_even work q got level e =
    quiet refl refl
    (λ u v w (i, j, hi, hj, (eu, ev, ew)). rw (eu, ev)
    (omega (arith, got.at i hi, got.at j hj, level.same e i hi, level.same e j hj)))

-- The cues of a use, no more than a line has: estimates d, those of its cues g, and those h that the lines make of them.
module _ {inf width : ℕ} {xs work : List ℕ} {r q m n : ℕ} {d g h : List ℕ} (lines : Lines inf width work q g g width h)
    (got : Gathered xs r d m (replicate width inf) g) (meets : Meets xs r m n) (wide : max_joins ≤ width) where
  few : m ≤ width
  few = omega (arith, meets.few)

  new-least : (i j : ℕ) → i < m → j < m → get_or h j 0 ≤ get_or d (column_at xs r i) 0 + get_or work (q + summary_width * i + j) 0
  new-least i j k l = rw (got.at i k) at (lines.new i j (omega (arith, few)) (omega (arith, few)))

  still-by : ((j : ℕ) → j < m → get_or d (column_at xs r j) 0 ≤ get_or h j 0) → Still (Mesh xs work r q m) d
  unfolding Mesh
  still-by low u v w (i, j, hi, hj, (eu, ev, ew)) = rw (eu, ev, ew) (omega (arith, low j hj, new-least i j hi hj))

  -- No estimate of the use's cues is lowered.
  pub round_alike : (t : Bool) → Alike t g h width → t ≡ false → Round (Mesh xs work r q m) d false d
  round_alike t like e = quiet refl refl (still-by (λ j l. omega (arith, like.same e j (omega (arith, few)), got.at j l)))

  first : (j : ℕ) → get_or h (0 + j) 0 ≡ get_or h j 0
  first j = let z : 0 + j ≡ j = omega arith in ap (λ (n : ℕ). get_or h n 0) z

  lowered_met : {e : List ℕ} → Merged (MetAt xs r h 0 m) d e → Lowered (Mesh xs work r q m) d e
  unfolding MetAt Mesh
  lowered_met {e} s = record { lower = s.lower; from = λ v. from v (s.from v) }
    where
      made : (v j : ℕ) → j < m → v ≡ column_at xs r j → get_or e v 0 ≡ get_or h j 0
          → (get_or h j 0 ≡ get_or g j 0) ⊎ ((i : ℕ) × (i < width) × (get_or h j 0 ≡ get_or g i 0 + get_or work (q + summary_width * i + j) 0) × (get_or h j 0 < inf))
          → (get_or e v 0 ≡ get_or d v 0) ⊎ ((u w : ℕ) × Mesh xs work r q m u v w × (get_or e v 0 ≡ get_or d u 0 + w))
      made v j l ev ee (inl x) = inl (ee ∙ x ∙ (rw ev (got.at j l)))
      made v j l ev ee (inr (i, k, x, n)) = by (dec_lt i m)
        where
          by : Dec (i < m) → (get_or e v 0 ≡ get_or d v 0) ⊎ ((u w : ℕ) × Mesh xs work r q m u v w × (get_or e v 0 ≡ get_or d u 0 + w))
          by (yes a) =
              inr (
                column_at xs r i,
                get_or work (q + summary_width * i + j) 0,
                (i, j, a, l, (refl, ev, refl)),
                omega (arith, ee, x, got.at i a),
              )
          by (no a) = absurd (omega (arith, got.else i (omega arith), get_or-replicate width i inf 0 k))

      from : (v : ℕ) → (get_or e v 0 ≡ get_or d v 0) ⊎ MetAt xs r h 0 m v (get_or e v 0)
          → (get_or e v 0 ≡ get_or d v 0) ⊎ ((u w : ℕ) × Mesh xs work r q m u v w × (get_or e v 0 ≡ get_or d u 0 + w))
      from v (inl x) = inl x
      from v (inr (j, l, (ev, ee))) = made v j l ev (ee ∙ first j) (lines.from j (omega (arith, few)))

  none-lower : {e : List ℕ} → Merged (MetAt xs r h 0 m) d e → e ≡ d → (j : ℕ) → j < m → get_or d (column_at xs r j) 0 ≤ get_or h j 0
  unfolding MetAt
  none-lower {e} s t j l =
      omega (arith, ap (λ (f : List ℕ). get_or f (column_at xs r j) 0) t, s.fallen (column_at xs r j) (get_or h j 0) (j, l, (refl, sym (first j))))

  -- Those that are lowered are put in.
  pub round_met : {c : Bool} {e : List ℕ} → Merged (MetAt xs r h 0 m) d e → Fell d c e → Round (Mesh xs work r q m) d c e
  round_met s (same x t) = quiet x t (still-by (none-lower s t))
  round_met s (less x n) = moved x (more d (runs-begin d) (lowered_met s)) n
