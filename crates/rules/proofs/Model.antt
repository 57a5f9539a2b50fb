-- The tests of the code are the model's checks 5 to 8 of the row.
use Prim.Native.Nat.{ℕ, ◌+◌, ◌*◌, ◌-◌, ◌≤◌, ◌<◌}
use native.Mathlib.Omega.{arith}
use native.Mathlib.Decide.{ℕ_discrete, dec_lt}
use mathlib.Core.Path.{◌≡◌, refl, sym, ◌∙◌, ap, ap₂}
use mathlib.Core.Bool.{Bool, true, false, not, cond}
use mathlib.Core.List.{List, [], ◌∷◌, ◌++◌}
use lib.ListN.{length, get_or, take, drop}
use lib.Dec.{ltb, eqb}
use Rattle.model.specs.Choice.{if_lt, if_eq, if_true}
use Rattle.model.specs.Limits.{row_size, max_joins, max_own, max_label, max_blocks}
use Rattle.model.specs.Rows.{Row, cell, row_at}
use Rattle.model.specs.Rules.{
  Seen,
  cues_in,
  may_open,
  goes_on,
  may_follow,
  columns_used,
  named,
  every,
  is_cue,
  is_zero,
  label_fits,
  own_fits,
  in_range,
  distinct,
  is_below,
  link_key,
  use_key,
  in_order,
  fault,
}
use Rattle.basics.proofs.Choices.{lt_then, lt_else, eq_then, eq_else}
use Rattle.rules.specs.Cells.{cells, key_below}
use Rattle.rules.proofs.Tests.{take_cells, drop_cells}
use Rattle.rules.specs.Faults.{named_fault, open_fault, or_else, link_order, use_order, link_fault, use_fault, fault_of}

-- A choice by a choice.
module _ {A : Type 0} where
  push_lt : (a b : ℕ) (t u : Bool) (x y : A) → if_true (if_lt a b t u) x y ≡ if_lt a b (if_true t x y) (if_true u x y)
  unfolding if_lt if_true
  push_lt a b t u x y = go (ltb a b)
    where
      go : (c : Bool) → cond (cond c t u) x y ≡ cond c (cond t x y) (cond u x y)
      go true = refl
      go false = refl

  push_eq : (a b : ℕ) (t u : Bool) (x y : A) → if_true (if_eq a b t u) x y ≡ if_eq a b (if_true t x y) (if_true u x y)
  unfolding if_eq if_true
  push_eq a b t u x y = go (eqb a b)
    where
      go : (c : Bool) → cond (cond c t u) x y ≡ cond c (cond t x y) (cond u x y)
      go true = refl
      go false = refl

  push_true : (c t u : Bool) (x y : A) → if_true (if_true c t u) x y ≡ if_true c (if_true t x y) (if_true u x y)
  unfolding if_true
  push_true true t u x y = refl
  push_true false t u x y = refl

  push_not : (t : Bool) (x y : A) → if_true (not t) x y ≡ if_true t y x
  unfolding if_true
  push_not true x y = refl
  push_not false x y = refl

  if_true_lem : (x y : A) → if_true true x y ≡ x
  unfolding if_true
  if_true_lem x y = refl

  if_false : (x y : A) → if_true false x y ≡ y
  unfolding if_true
  if_false x y = refl

ruleset pushed = (push_lt, push_eq, push_true, push_not, if_true_lem, if_false)

-- Checks 6 and 7, and then the next.
checked : (x y z : Bool) (next : ℕ) → if_true x (if_true y (if_true z next 7) 6) 6 ≡ or_else (if_true x (if_true y (if_true z 0 7) 6) 6) next
unfolding if_true or_else if_eq
checked true true true next = refl
checked true true false next = refl
checked true false z next = refl
checked false y z next = refl

-- The columns of a row by their places.
pub columns-cells : (xs : List ℕ) (r : ℕ) → (row_at xs r).columns ≡ cells xs (r * row_size + 3) 8
unfolding row_at cell cells
columns-cells xs r =
    ap₂ ◌∷◌ refl (ap₂ ◌∷◌ (at _ _ (omega arith)) (ap₂ ◌∷◌ (at _ _ (omega arith)) (ap₂ ◌∷◌ (at _ _ (omega arith))
    (ap₂ ◌∷◌ (at _ _ (omega arith)) (ap₂ ◌∷◌ (at _ _ (omega arith)) (ap₂ ◌∷◌ (at _ _ (omega arith)) (ap₂ ◌∷◌ (at _ _ (omega arith)) refl)))))))
  where
    at : (a b : ℕ) → a ≡ b → get_or xs a 0 ≡ get_or xs b 0
    at a b e = ap (λ (k : ℕ). get_or xs k 0) e

-- Three kinds of row.
module _ (s : Seen) (xs : List ℕ) (r : ℕ) where
  abbrev w : Row
  w = row_at xs r

  -- The cues that a row names and the columns that it leaves idle, where so many carry a value.
  named-cells : (many : ℕ) → many ≤ 8 → (w.kind ≡ 0 → ⊥) → columns_used s w ≡ many → named s w ≡ cells xs (r * row_size + 3) many
  unfolding named
  named-cells many h n e = eq_else _ _ _ _ n ∙ rw (e, columns-cells xs r) (take_cells xs (r * row_size + 3) 8 many h)

  idle-cells : (many : ℕ) → many ≤ 8 → columns_used s w ≡ many → drop (columns_used s w) w.columns ≡ cells xs (r * row_size + 3 + many) (8 - many)
  idle-cells many h e = rw (e, columns-cells xs r) (drop_cells xs (r * row_size + 3) 8 many h)

  block-cell : w.block ≡ get_or xs (r * row_size) 0
  unfolding row_at cell
  block-cell = let e : r * row_size + 0 ≡ r * row_size = omega arith in ap (λ (k : ℕ). get_or xs k 0) e

  label-cell : w.label ≡ get_or xs (r * row_size + 2) 0
  unfolding row_at cell
  label-cell = refl

  kind-cell : w.kind ≡ get_or xs (r * row_size + 1) 0
  unfolding row_at cell
  kind-cell = refl

  -- An opening names no cue and follows any row.
  open_order : (v : Row) → w.kind ≡ 0 → in_order v w ≡ true
  unfolding in_order
  open_order v q = go (ℕ_discrete w.kind v.kind)
    where
      inner : if_eq w.kind 1 (is_below (link_key v) (link_key w)) (if_eq w.kind 2 (not (is_below (use_key w) (use_key v))) true) ≡ true
      inner = eq_else _ _ _ _ (λ e. omega arith) ∙ eq_else _ _ _ _ (λ e. omega arith)

      go : Dec (w.kind ≡ v.kind)
          → if_eq w.kind v.kind
          (if_eq w.kind 1 (is_below (link_key v) (link_key w)) (if_eq w.kind 2 (not (is_below (use_key w) (use_key v))) true)) true
          ≡ true
      go (yes e) = eq_then _ _ _ _ e ∙ inner
      go (no n) = eq_else _ _ _ _ n

  open_named : w.kind ≡ 0 → named s w ≡ []
  unfolding named
  open_named q = eq_then _ _ _ _ q

  open_used : w.kind ≡ 0 → columns_used s w ≡ 1
  unfolding columns_used
  open_used q = eq_then _ _ _ _ q

  open_follows : w.kind ≡ 0 → may_follow s w ≡ if_eq (get_or xs (r * row_size) 0) (length s.joins) (if_lt (length s.joins) max_blocks true false) false
  unfolding may_follow may_open
  open_follows q = eq_then _ _ _ _ q ∙ rw block-cell

  open_range : w.kind ≡ 0
      → in_range s w
      ≡ if_true (if_lt max_joins w.label false true)
      (if_true (if_lt max_own (get_or w.columns 0 0) false true) (if_true true (every is_zero (cells xs (r * row_size + 3 + 1) (8 - 1))) false) false) false
  unfolding in_range label_fits own_fits every
  open_range q =
      rw (eq_then w.kind 0 (if_lt max_joins w.label false true) _ q, eq_then w.kind 0 (if_lt max_own (get_or w.columns 0 0) false true) true q, open_named q, idle-cells 1 (omega arith) (open_used q))

  pub open_law : w.kind ≡ 0 → fault s w ≡ open_fault xs (r * row_size) (length s.joins)
  unfolding fault open_fault distinct row_at cell
  open_law q =
      let e : r * row_size + 3 + 1 ≡ r * row_size + 4 = omega arith in
      rw (open_follows q, open_range q, open_named q, open_order s.before q, e) (simp pushed)

  -- There is no other kind.
  no_kind : (w.kind ≡ 0 → ⊥) → (w.kind ≡ 1 → ⊥) → (w.kind ≡ 2 → ⊥) → fault s w ≡ 5
  unfolding fault may_follow
  no_kind a b c = rw (eq_else w.kind 0 _ _ a, eq_else w.kind 1 _ _ b, eq_else w.kind 2 _ _ c) (if_false _ 5)

  -- A link and a use belong to the current block.
  goes_on_is : goes_on s w ≡ if_eq (get_or xs (r * row_size) 0 + 1) (length s.joins) true false
  unfolding goes_on
  goes_on_is = rw block-cell

  -- What belongs to a block that is there.
  module _ (blocks k x : ℕ) where
    guarded : if_lt k blocks (if_eq (k + 1) blocks x 5) 5 ≡ if_eq (k + 1) blocks x 5
    guarded = go (dec_lt k blocks)
      where
        go : Dec (k < blocks) → if_lt k blocks (if_eq (k + 1) blocks x 5) 5 ≡ if_eq (k + 1) blocks x 5
        go (yes h) = lt_then _ _ _ _ h
        go (no h) = lt_else _ _ _ _ (omega arith) ∙ sym (eq_else _ _ _ _ (λ e. omega arith))

  -- Checks 6 and 7 of what a link or a use names, then check 8.
  named-law : (many cues : ℕ) (t o : Bool) (next : ℕ) → many ≤ 8 → (w.kind ≡ 0 → ⊥) → columns_used s w ≡ many → cues ≡ cues_in s
      → label_fits w ≡ t → in_order s.before w ≡ o → if_true o 0 8 ≡ next
      → if_true (in_range s w) (if_true (distinct (named s w)) (if_true (in_order s.before w) 0 8) 7) 6
      ≡ if_true t (or_else (named_fault xs (r * row_size) many cues) next) 6
  unfolding in_range own_fits named_fault
  named-law many cues t o next h n e c l i f =
      rw (l, eq_else w.kind 0 _ true n, named-cells many h n e, idle-cells many h e, c, i, f)
      (simp pushed (ap (λ (y : ℕ). if_true t y 6) (checked (every (is_cue (cues_in s)) a) (every is_zero b) (distinct a) next)))
    where
      a : List ℕ
      a = cells xs (r * row_size + 3) many

      b : List ℕ
      b = cells xs (r * row_size + 3 + many) (8 - many)

  link-used : w.kind ≡ 1 → columns_used s w ≡ 2
  unfolding columns_used
  link-used q = eq_else _ _ _ _ (λ e. omega arith) ∙ eq_then _ _ _ _ q

  use_used : w.kind ≡ 2 → columns_used s w ≡ get_or s.joins w.label 0
  unfolding columns_used
  use_used q = eq_else _ _ _ _ (λ e. omega arith) ∙ eq_else _ _ _ _ (λ e. omega arith)

  link-label : w.kind ≡ 1 → label_fits w ≡ if_lt w.label 1 false (if_lt max_label w.label false true)
  unfolding label_fits
  link-label q = eq_else _ _ _ _ (λ e. omega arith) ∙ eq_then _ _ _ _ q

  use_label : w.kind ≡ 2 → label_fits w ≡ if_lt w.label w.block true false
  unfolding label_fits
  use_label q = eq_else _ _ _ _ (λ e. omega arith) ∙ eq_else _ _ _ _ (λ e. omega arith)

  link-follows : w.kind ≡ 1 → may_follow s w ≡ if_true (goes_on s w) (if_lt s.before.kind 2 true false) false
  unfolding may_follow
  link-follows q = eq_else _ _ _ _ (λ e. omega arith) ∙ eq_then _ _ _ _ q

  use_follows : w.kind ≡ 2 → may_follow s w ≡ goes_on s w
  unfolding may_follow
  use_follows q = eq_else _ _ _ _ (λ e. omega arith) ∙ eq_else _ _ _ _ (λ e. omega arith) ∙ eq_then _ _ _ _ q

  -- The order of the row and the one before it, which stands at row q.
  module _ (p : ℕ) (same : (s.before.kind ≡ 0 → ⊥) → s.before ≡ row_at xs p) where
    link-key : (v : ℕ) → link_key (row_at xs v) ≡ cells xs (v * row_size + 3) 2 ++ (get_or xs (v * row_size + 2) 0 ∷ [])
    unfolding link_key row_at cell
    link-key v = ap (λ (l : List ℕ). take 2 l ++ (get_or xs (v * row_size + 2) 0 ∷ [])) (columns-cells xs v) ∙ ap (λ (l : List ℕ). l ++ (get_or xs (v * row_size + 2) 0 ∷ [])) (take_cells xs (v * row_size + 3) 8 2 (omega arith))

    use_key_lem : (v : ℕ) → use_key (row_at xs v) ≡ cells xs (v * row_size + 3) 8 ++ (get_or xs (v * row_size + 2) 0 ∷ [])
    unfolding use_key row_at cell
    use_key_lem v = ap (λ (l : List ℕ). l ++ (get_or xs (v * row_size + 2) 0 ∷ [])) (columns-cells xs v)

    link-ordered : w.kind ≡ 1 → if_true (in_order s.before w) 0 8 ≡ link_order xs (r * row_size) (p * row_size) s.before.kind
    unfolding link_order in_order key_below
    link-ordered q = go (ℕ_discrete s.before.kind 1)
      where
        go : Dec (s.before.kind ≡ 1) → if_true (in_order s.before w) 0 8 ≡ link_order xs (r * row_size) (p * row_size) s.before.kind
        go (yes e) =
            let b : s.before ≡ row_at xs p = same (λ z. omega arith) in
            rw (eq_then w.kind s.before.kind _ _ (q ∙ sym e), eq_then w.kind 1 _ _ q, eq_then s.before.kind 1 _ _ e, b, link-key p, link-key r)
        go (no n) =
            rw (eq_else w.kind s.before.kind _ _ (λ z. n (sym z ∙ q)), eq_else s.before.kind 1 _ _ n) (if_true_lem 0 8)

    use_ordered : w.kind ≡ 2 → if_true (in_order s.before w) 0 8 ≡ use_order xs (r * row_size) (p * row_size) s.before.kind
    unfolding use_order in_order key_below
    use_ordered q = go (ℕ_discrete s.before.kind 2)
      where
        go : Dec (s.before.kind ≡ 2) → if_true (in_order s.before w) 0 8 ≡ use_order xs (r * row_size) (p * row_size) s.before.kind
        go (yes e) =
            let b : s.before ≡ row_at xs p = same (λ z. omega arith) in
            rw (eq_then w.kind s.before.kind _ _ (q ∙ sym e), eq_else w.kind 1 _ _ (λ z. omega arith), eq_then w.kind 2 _ _ q, eq_then s.before.kind 2 _ _ e, b, use_key_lem p, use_key_lem r)
            (push_not _ 0 8)
        go (no n) =
            rw (eq_else w.kind s.before.kind _ _ (λ z. n (sym z ∙ q)), eq_else s.before.kind 2 _ _ n) (if_true_lem 0 8)

    link-law : w.kind ≡ 1 → fault s w ≡ link_fault xs (r * row_size) (p * row_size) (length s.joins) (cues_in s) s.before.kind
    unfolding fault link_fault
    link-law q =
        rw (guarded (length s.joins) (get_or xs (r * row_size) 0) _, link-follows q, goes_on_is, named-law 2 (cues_in s) _ _ _ (omega arith) (λ e. omega arith) (link-used q) refl (link-label q) refl (link-ordered q))
        (simp pushed (rw label-cell refl))

    use_law : (many : ℕ) → many ≤ 8 → many ≡ get_or s.joins w.label 0 → w.kind ≡ 2
        → fault s w ≡ use_fault xs (r * row_size) (p * row_size) (length s.joins) (cues_in s) s.before.kind many
    unfolding fault use_fault
    use_law many h m q =
        rw (guarded (length s.joins) (get_or xs (r * row_size) 0) _, use_follows q, goes_on_is, named-law many (cues_in s) _ _ _ h (λ e. omega arith) (use_used q ∙ sym m) refl (use_label q) refl (use_ordered q))
        (simp pushed (rw (label-cell, block-cell) refl))

    -- The law: what the code finds is what the model's checks 5 to 8 say of the row.
    pub fault-law : (many : ℕ) → many ≤ 8 → (w.kind ≡ 2 → many ≡ get_or s.joins w.label 0)
        → fault_of xs (r * row_size) (p * row_size) (length s.joins) (cues_in s) s.before.kind many ≡ fault s w
    unfolding fault_of
    fault-law many h m = rw (← kind-cell) (go (ℕ_discrete w.kind 0) (ℕ_discrete w.kind 1) (ℕ_discrete w.kind 2))
      where
        Goal : Type 0
        Goal =
            if_eq w.kind 0 (open_fault xs (r * row_size) (length s.joins))
            (if_eq w.kind 1 (link_fault xs (r * row_size) (p * row_size) (length s.joins) (cues_in s) s.before.kind)
            (if_eq w.kind 2 (use_fault xs (r * row_size) (p * row_size) (length s.joins) (cues_in s) s.before.kind many) 5))
            ≡ fault s w

        go : Dec (w.kind ≡ 0) → Dec (w.kind ≡ 1) → Dec (w.kind ≡ 2) → Goal
        go (yes a) b c = eq_then _ _ _ _ a ∙ sym (open_law a)
        go (no a) (yes b) c = eq_else _ _ _ _ a ∙ eq_then _ _ _ _ b ∙ sym (link-law b)
        go (no a) (no b) (yes c) = eq_else _ _ _ _ a ∙ eq_else _ _ _ _ b ∙ eq_then _ _ _ _ c ∙ sym (use_law many h (m c) c)
        go (no a) (no b) (no c) = eq_else _ _ _ _ a ∙ eq_else _ _ _ _ b ∙ eq_else _ _ _ _ c ∙ sym (no_kind a b c)
