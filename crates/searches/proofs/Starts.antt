-- Laws of what estimates begin with, and of the estimates of some cues. A loop over them has begun, goes on (`-on`), and is done, where
-- its count has come to its end.
use Prim.Native.Nat.{ℕ, ◌+◌, ◌-◌, ◌≤◌, ◌<◌}
use native.Mathlib.Omega.{arith}
use native.Mathlib.Decide.{ℕ_discrete}
use mathlib.Core.Path.{◌≡◌, refl, sym, ◌∙◌, ap}
use mathlib.Core.Logic.{◌⊎◌, inl, inr}
use mathlib.Core.List.{List, ◌++◌}
use lib.ListN.{length, get_or, set, take, drop, replicate, length-replicate, get_or-replicate, get_or-append}
use lib.Seq.{get_or-set_same, get_or-set_other}
use Rattle.blocks.specs.Loaded.{column_at}
use Rattle.searches.specs.Starts.{Beginnings, Nowhere, Cell, Either, EachOf, Meets, MetAt, Started, Merged, Gathered}
use Rattle.searches.proofs.Lowering.{inside, set_same}
use Rattle.searches.proofs.Parts.{lent_at, put_in, put_behind}

-- No estimate yet.
pub started_blank : (inf n k : ℕ) (rest : List ℕ) → n < k → Started inf n Nowhere (replicate k inf ++ rest)
started_blank inf n k rest h =
    record {
      fallen = λ a x l b. absurd b;
      attained = λ a l m.
          absurd
          (omega
          (arith, get_or-append (replicate k inf) rest 0 a (omega (arith, length-replicate k inf)), get_or-replicate k a inf 0 (omega arith)));
    }

-- An estimate put in, or not.
pub merged_put : (v y : ℕ) (d : List ℕ) → y < get_or d v 0 → Merged (Cell v y) d (set d v y)
merged_put v y d h =
    record { fallen = λ a x b. fallen a x b; lower = λ a. lower a (ℕ_discrete a v); from = λ a. from a (ℕ_discrete a v) }
  where
    same : get_or (set d v y) v 0 ≡ y
    same = get_or-set_same d v y 0 (inside d v y h)

    fallen : (a x : ℕ) → Cell v y a x → get_or (set d v y) a 0 ≤ x
    fallen a x (p, q) = rw (p, q) (omega (arith, same))

    lower : (a : ℕ) → Dec (a ≡ v) → get_or (set d v y) a 0 ≤ get_or d a 0
    lower a (yes p) = rw p (omega (arith, same))
    lower a (no n) = omega (arith, get_or-set_other d v a y 0 n)

    from : (a : ℕ) → Dec (a ≡ v) → (get_or (set d v y) a 0 ≡ get_or d a 0) ⊎ Cell v y a (get_or (set d v y) a 0)
    from a (yes p) = inr (p, rw p same)
    from a (no n) = inl (get_or-set_other d v a y 0 n)

pub merged_kept : (v y : ℕ) (d : List ℕ) → get_or d v 0 ≤ y → Merged (Cell v y) d d
merged_kept v y d h =
    record { fallen = λ a x b. omega (arith, b.1, ap (λ (c : ℕ). get_or d c 0) b.0); lower = λ a. omega arith; from = λ a. inl refl }

-- The lesser of the two is put in.
pub merged_both : (v y z m : ℕ) (d : List ℕ) → y ≡ get_or d v 0 → ((z < y) × (m ≡ z)) ⊎ ((y ≤ z) × (m ≡ y)) → Merged (Cell v z) d (set d v m)
merged_both v y z m d ey (inl (l, e)) = rw e (merged_put v z d (rw ey at l))
merged_both v y z m d ey (inr (l, e)) = rw (e, ey, set_same d v) (merged_kept v z d (rw ey at l))

-- Nothing put in; and one after the other.
pub merged_nothing : {S : Beginnings} (d : List ℕ) → ((a x : ℕ) → S a x → ⊥) → Merged S d d
merged_nothing d h = record { fallen = λ a x b. absurd (h a x b); lower = λ a. omega arith; from = λ a. inl refl }

pub merged_then : {S T X : Beginnings} {d e f : List ℕ} → ((a x : ℕ) → S a x → X a x) → ((a x : ℕ) → T a x → X a x)
    → ((a x : ℕ) → X a x → S a x ⊎ T a x) → Merged S d e → Merged T e f → Merged X d f
merged_then {S} {T} {X} {d} {e} {f} l r back s t =
    record {
      fallen =
          λ a x b. fallen a x (back a x b);
      lower = λ a. omega (arith, s.lower a, t.lower a);
      from = λ a. from a (t.from a);
    }
  where
    fallen : (a x : ℕ) → S a x ⊎ T a x → get_or f a 0 ≤ x
    fallen a x (inl b) = omega (arith, t.lower a, s.fallen a x b)
    fallen a x (inr b) = t.fallen a x b

    first : (a : ℕ) → get_or f a 0 ≡ get_or e a 0 → (get_or e a 0 ≡ get_or d a 0) ⊎ S a (get_or e a 0)
        → (get_or f a 0 ≡ get_or d a 0) ⊎ X a (get_or f a 0)
    first a p (inl q) = inl (p ∙ q)
    first a p (inr b) = inr (rw p (l a (get_or e a 0) b))

    from : (a : ℕ) → (get_or f a 0 ≡ get_or e a 0) ⊎ T a (get_or f a 0) → (get_or f a 0 ≡ get_or d a 0) ⊎ X a (get_or f a 0)
    from a (inl p) = first a p (s.from a)
    from a (inr b) = inr (r a (get_or f a 0) b)

-- What amounts to the same is put in.
pub merged_same : {S T : Beginnings} {d e : List ℕ} → ((a x : ℕ) → S a x → T a x) → ((a x : ℕ) → T a x → S a x) → Merged S d e
    → Merged T d e
merged_same {S} {T} {d} {e} f g m =
    record { fallen = λ a x b. m.fallen a x (g a x b); lower = m.lower; from = λ a. from a (m.from a) }
  where
    from : (a : ℕ) → (get_or e a 0 ≡ get_or d a 0) ⊎ S a (get_or e a 0) → (get_or e a 0 ≡ get_or d a 0) ⊎ T a (get_or e a 0)
    from a (inl p) = inl p
    from a (inr b) = inr (f a (get_or e a 0) b)

-- Each of some: none yet, and one more.
pub each-begin : (S : ℕ → Beginnings) (d : List ℕ) → Merged (EachOf S 0) d d
each-begin S d = merged_nothing d (λ a x b. omega (arith, b.1))

pub each_on : (S : ℕ → Beginnings) (i : ℕ) {d e f : List ℕ} → Merged (EachOf S i) d e → Merged (S i) e f → Merged (EachOf S (i + 1)) d f
each_on S i s t =
    merged_then (λ a x b. (b.0, omega (arith, b.1), b.2)) (λ a x b. (i, omega arith, b))
    (λ a x b. at a x b (ℕ_discrete b.0 i)) s t
  where
    at : (a x : ℕ) (b : EachOf S (i + 1) a x) → Dec (b.0 ≡ i) → EachOf S i a x ⊎ S i a x
    at a x (j, h, b) (yes e) = inr (rw e at b)
    at a x (j, h, b) (no n) = inl (j, omega arith, b)

pub met-begin : (xs : List ℕ) (r : ℕ) (kept : List ℕ) (q : ℕ) (d : List ℕ) → Merged (MetAt xs r kept q 0) d d
unfolding MetAt
met-begin xs r kept q d = each-begin (λ i. Cell (column_at xs r i) (get_or kept (q + i) 0)) d

pub met-on : (xs : List ℕ) (r : ℕ) (kept : List ℕ) (q i : ℕ) {c v k : ℕ} {d e f : List ℕ} → Merged (MetAt xs r kept q i) d e
    → c ≡ column_at xs r i → v ≡ c → Merged (Cell v (get_or kept k 0)) e f → k ≡ q + i → Merged (MetAt xs r kept q (i + 1)) d f
unfolding MetAt
met-on xs r kept q i s ec ev t ek = each_on (λ i. Cell (column_at xs r i) (get_or kept (q + i) 0)) i s (rw (ev, ec, ek) at t)

-- With the numbers of a part, as it is lent: with those from its place on. And of one at the front.
met_in : (xs : List ℕ) (r : ℕ) (kept : List ℕ) (a m n : ℕ) {d e : List ℕ} → m ≤ n → Merged (MetAt xs r (take n (drop a kept)) 0 m) d e
    → Merged (MetAt xs r kept a m) d e
unfolding MetAt
met_in xs r kept a m n long s = merged_same (λ b x i. into b x i) (λ b x i. back b x i) s
  where
    at : (i : ℕ) → i < m → get_or (take n (drop a kept)) (0 + i) 0 ≡ get_or kept (a + i) 0
    at i h = lent_at n a kept (0 + i) (a + i) (omega arith) (omega arith)

    into : (b x : ℕ) → MetAt xs r (take n (drop a kept)) 0 m b x → MetAt xs r kept a m b x
    into b x (i, h, (eb, ex)) = (i, h, (eb, ex ∙ at i h))

    back : (b x : ℕ) → MetAt xs r kept a m b x → MetAt xs r (take n (drop a kept)) 0 m b x
    back b x (i, h, (eb, ex)) = (i, h, (eb, ex ∙ sym (at i h)))

pub met_lent : (xs : List ℕ) (r : ℕ) (kept : List ℕ) (a m : ℕ) {d e : List ℕ} → Merged (MetAt xs r (take (a + m - a) (drop a kept)) 0 m) d e
    → Merged (MetAt xs r kept a m) d e
met_lent xs r kept a m s = met_in xs r kept a m (a + m - a) (omega arith) s

pub met_front : (xs : List ℕ) (r : ℕ) (kept : List ℕ) (m : ℕ) {d e : List ℕ} → Merged (MetAt xs r (take m kept) 0 m) d e
    → Merged (MetAt xs r kept 0 m) d e
met_front xs r kept m s = met_in xs r kept 0 m m (omega arith) s

module _ {inf n : ℕ} {begun : Beginnings} where
  pub started_merged : {S : Beginnings} {d e : List ℕ} → Started inf n begun d → Merged S d e → Started inf n (Either begun S) e
  started_merged {S} {d} {e} s m =
      record { fallen = λ a x l b. fallen a x l b; attained = λ a l k. attained a l k (m.from a) }
    where
      fallen : (a x : ℕ) → a ≤ n → Either begun S a x → get_or e a 0 ≤ x
      fallen a x l (inl b) = omega (arith, m.lower a, s.fallen a x l b)
      fallen a x l (inr b) = m.fallen a x b

      attained : (a : ℕ) → a ≤ n → get_or e a 0 < inf → (get_or e a 0 ≡ get_or d a 0) ⊎ S a (get_or e a 0) → Either begun S a (get_or e a 0)
      attained a l k (inl p) = inl (rw p (s.attained a l (rw p at k)))
      attained a l k (inr b) = inr b

  -- What amounts to the same.
  pub started_same : {other : Beginnings} {d : List ℕ} → ((a x : ℕ) → begun a x → other a x) → ((a x : ℕ) → other a x → begun a x)
      → Started inf n begun d → Started inf n other d
  started_same {other} {d} f g s =
      record { fallen = λ a x l b. s.fallen a x l (g a x b); attained = λ a l k. f a (get_or d a 0) (s.attained a l k) }

-- Nothing, and then something.
pub started_first : {inf n : ℕ} {S : Beginnings} {d e : List ℕ} → Started inf n Nowhere d → Merged S d e → Started inf n S e
started_first {S = S} s m = started_same (λ a x b. to a x b) (λ a x b. inr b) (started_merged s m)
  where
    to : (a x : ℕ) → Either Nowhere S a x → S a x
    to a x (inl b) = absurd b
    to a x (inr b) = b

-- A row that names cues: one of its columns, and the cue read there, which has an estimate in a list of that length.
module _ {xs : List ℕ} {r m n : ℕ} where
  pub column-within : (i : ℕ) {c v l : ℕ} → v ≡ c → c ≡ column_at xs r i → Meets xs r m n → i < m → l ≡ n → v < l
  column-within i w e h l k = omega (arith, h.within i l)

  -- Fewer of them.
  pub meets-fewer : {k : ℕ} (i : ℕ) → Meets xs r m n → i ≤ m → k ≡ n → Meets xs r i k
  meets-fewer i h l e = record { there = h.there; few = omega (arith, h.few); within = λ j k. omega (arith, h.within j (omega arith)) }

-- The estimates of some cues, one more.
pub gathered_begin : (xs : List ℕ) (r : ℕ) (d e : List ℕ) → Gathered xs r d 0 e e
gathered_begin xs r d e = record { at = λ i h. absurd (omega arith); else = λ i h. refl }

pub gathered_on : {xs : List ℕ} {r : ℕ} {d : List ℕ} (i : ℕ) {e₀ e : List ℕ} {c v : ℕ} → Gathered xs r d i e₀ e → v ≡ c
    → c ≡ column_at xs r i → i < length e → Gathered xs r d (i + 1) e₀ (set e i (get_or d v 0))
gathered_on {xs} {r} {d} i {e₀ = e₀} {e} {v = v} g ev ec h = record { at = λ j l. at j l (ℕ_discrete j i); else = else }
  where
    x : ℕ
    x = get_or d v 0

    at : (j : ℕ) → j < i + 1 → Dec (j ≡ i) → get_or (set e i x) j 0 ≡ get_or d (column_at xs r j) 0
    at j l (yes q) = rw (q, ← ec, ← ev) (get_or-set_same e i x 0 (omega arith))
    at j l (no n) = get_or-set_other e i j x 0 n ∙ g.at j (omega arith)

    else : (j : ℕ) → i + 1 ≤ j → get_or (set e i x) j 0 ≡ get_or e₀ j 0
    else j l = get_or-set_other e i j x 0 (λ q. omega arith) ∙ g.else j (omega arith)

-- Those of m cues, put into a part at the front of a list that is long enough.
pub gathered_front : {xs : List ℕ} {r : ℕ} {d : List ℕ} (m : ℕ) (e₀ v : List ℕ) → Gathered xs r d m (take m e₀) v → length v ≡ m → m ≤ length e₀
    → Gathered xs r d m e₀ (v ++ drop m e₀)
gathered_front m e₀ v g size long =
    record {
      at = λ i h. put_in 0 m e₀ v size (omega arith) i h (omega arith) ∙ g.at i h;
      else = λ i h. put_behind 0 m e₀ v size (omega arith) i (omega arith);
    }
