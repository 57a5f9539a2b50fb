-- What each step of the code makes of the levels of a block: a link, a pair of joins of a use, a join of it, the use.
use Prim.Native.Nat.{ℕ, suc, ◌+◌, ◌*◌, ◌-◌, ◌≤◌, ◌<◌}
use native.Mathlib.Omega.{arith}
use native.Mathlib.Decide.{ℕ_discrete, dec_lt}
use native.Mathlib.Numerals.{add-one}
use mathlib.Core.Path.{◌≡◌, refl, sym, ◌∙◌, ap, ap₂}
use mathlib.Core.Bool.{Bool, true}
use mathlib.Core.Logic.{◌≢◌}
use mathlib.Core.List.{List}
use lib.ListN.{length, get_or}
use lib.Bits.{bit_or, or_add_and, and_le_l, and_le_r}
use lib.Dec.{eqb}
use borrow.Author.Tests.{eqb-true}
use Rattle.model.specs.Choice.{if_lt, if_eq}
use Rattle.model.specs.Limits.{max_joins, max_blocks}
use Rattle.model.specs.Blocks.{Link, Use, blocks_of}
use Rattle.basics.proofs.Choices.{eq_then, eq_else, lt_then, lt_else}
use Rattle.verdicts.specs.Index.{link_at, links_from, use_at, uses_from}
use Rattle.blocks.specs.Loaded.{LinkRows, UseRows, column_at}
use Rattle.blocks.proofs.Loaded.{links_from-next, uses_from-next}
use Rattle.levels.specs.Levels.{better_level, one_more, position_of, pairs_size, level_at, link_level, links_level, use_level, uses_level}
use Rattle.levels.specs.Tables.{join_cue, Going, Changed, put_level, Unlinked, used_joins, MayLift, links_put, uses_lift, use_lift, join_lift, pair_lift}
use Rattle.levels.proofs.Changes.{going_begin, going_on, going_done, changed_as}
use Rattle.levels.proofs.Best.{position_found, position_is, none_left}

-- A link.
pub put-link : (xs : List ℕ) (r a b x y n : ℕ) → a ≡ (link_at xs r).from → b ≡ (link_at xs r).to
    → put_level a b 1 x y n ≡ better_level n (link_level (link_at xs r) x y)
unfolding put_level link_level
put-link xs r a b x y n e f = rw (e, f) (go (ℕ_discrete (link_at xs r).from x) (ℕ_discrete (link_at xs r).to y))
  where
    l : Link
    l = link_at xs r

    go : Dec (l.from ≡ x) → Dec (l.to ≡ y) → if_eq l.from x (if_eq l.to y (better_level n 1) n) n ≡ better_level n (if_eq l.from x (if_eq l.to y 1 0) 0)
    go (yes h) (yes k) =
        eq_then l.from x _ _ h ∙ eq_then l.to y _ _ k ∙ sym (ap (better_level n) (eq_then {A = ℕ} l.from x _ _ h ∙ eq_then {A = ℕ} l.to y _ _ k))
    go (yes h) (no k) =
        eq_then l.from x _ _ h ∙ eq_else l.to y _ _ k ∙ sym (ap (better_level n) (eq_then {A = ℕ} l.from x _ _ h ∙ eq_else {A = ℕ} l.to y _ _ k) ∙ none_left n)
    go (no h) d = eq_else l.from x _ _ h ∙ sym (ap (better_level n) (eq_else {A = ℕ} l.from x _ _ h) ∙ none_left n)

-- The use of row r of block k.
module _ {xs m : List ℕ} {k r : ℕ} (may : MayLift xs m k r) where
  abbrev u : Use
  u = use_at xs (blocks_of xs) r

  arity : length u.at ≡ used_joins xs r
  arity = may.row.good.arity

  -- The cue that its join i meets stands at place i.
  column-is : (i a : ℕ) → i < used_joins xs r → a ≡ column_at xs r i → get_or u.at i 0 ≡ a
  column-is i a h e = may.row.columns i h ∙ sym e

  at_place : (i a x : ℕ) → i < used_joins xs r → a ≡ column_at xs r i → a ≡ x → position_of u.at x ≡ i
  at_place i a x h e f = position_is u.at x i may.row.good.apart (omega (arith, arity)) (column-is i a h e ∙ f)

  off_place : (i a x : ℕ) → i < used_joins xs r → a ≡ column_at xs r i → (a ≡ x → ⊥) → position_of u.at x ≡ i → ⊥
  off_place i a x h e n f =
      n (sym (column-is i a h e) ∙ sym (ap (λ (w : ℕ). get_or u.at w 0) f) ∙ position_found u.at x (omega (arith, arity)))

  use_at_lem : (x y i j : ℕ) → position_of u.at x ≡ i → position_of u.at y ≡ j → i < used_joins xs r → j < used_joins xs r
      → use_level m u x y ≡ one_more (level_at m u.block i j)
  unfolding use_level
  use_at_lem x y i j e f h l =
      lt_then _ _ _ _ (omega (arith, arity)) ∙ lt_then _ _ _ _ (omega (arith, arity)) ∙ ap₂ (λ (a b : ℕ). one_more (level_at m u.block a b)) e f

  -- Its joins i and j.
  module _ (i j a b : ℕ) (hi : i < used_joins xs r) (hj : j < used_joins xs r) (ea : a ≡ column_at xs r i) (eb : b ≡ column_at xs r j) where
    put-pair : (n : ℕ) → n ≡ one_more (level_at m u.block i j) → (x y old : ℕ) → put_level a b n x y old ≡ pair_lift xs m r i j x y old
    unfolding put_level pair_lift use_lift
    put-pair n e x y old = go (ℕ_discrete a x) (ℕ_discrete b y)
      where
        go : Dec (a ≡ x) → Dec (b ≡ y)
            → if_eq a x (if_eq b y (better_level old n) old) old
            ≡ if_eq (position_of u.at x) i (if_eq (position_of u.at y) j (better_level old (use_level m u x y)) old) old
        go (yes h) (yes l) =
            let p : position_of u.at x ≡ i = at_place i a x hi ea h in
            let q : position_of u.at y ≡ j = at_place j b y hj eb l in
            eq_then a x _ _ h ∙ eq_then b y _ _ l ∙ ap (better_level old) (e ∙ sym (use_at_lem x y i j p q hi hj))
            ∙ sym (eq_then _ i _ _ p ∙ eq_then _ j _ _ q)
        go (yes h) (no l) =
            eq_then a x _ _ h ∙ eq_else b y _ _ l ∙ sym (eq_then _ i _ _ (at_place i a x hi ea h) ∙ eq_else _ j _ _ (off_place j b y hj eb l))
        go (no h) d = eq_else a x _ _ h ∙ sym (eq_else _ i _ _ (off_place i a x hi ea h))

    -- As results of code: the level is lifted, or there is none.
    pub pair_lifted : {own : ℕ} {w : List ℕ} (d c n : ℕ) → d ≡ u.block → c ≡ level_at m d i j → 0 < c → n ≡ c + 1 → Changed k own (put_level a b n) m w
        → Changed k own (pair_lift xs m r i j) m w
    unfolding one_more
    pair_lifted d c n b e h f g =
        let l : c ≡ level_at m u.block i j = rw b at e in
        changed_as (pair_lift xs m r i j) g (put-pair n (f ∙ add-one c ∙ ap suc l ∙ sym (eq_else (level_at m u.block i j) 0 _ _ (λ z. omega arith))))

  pub pair_none : (own i j d c : ℕ) → i < used_joins xs r → j < used_joins xs r → d ≡ u.block → c ≡ level_at m d i j → c ≤ 0 → Changed k own (pair_lift xs m r i j) m m
  unfolding one_more put_level
  pair_none own i j d c hi hj b e h =
      let l : c ≡ level_at m u.block i j = rw b at e in
      going_begin k own (λ x y n. n) (pair_lift xs m r i j) m
      (λ x y old. sym (put-zero x y old) ∙ put-pair i j (column_at xs r i) (column_at xs r j) hi hj refl refl 0 (sym (eq_then (level_at m u.block i j) 0 _ _ (omega arith))) x y old)
    where
      put-zero : (x y old : ℕ) → put_level (column_at xs r i) (column_at xs r j) 0 x y old ≡ old
      put-zero x y old = go (ℕ_discrete (column_at xs r i) x) (ℕ_discrete (column_at xs r j) y)
        where
          go : Dec (column_at xs r i ≡ x) → Dec (column_at xs r j ≡ y) → if_eq (column_at xs r i) x (if_eq (column_at xs r j) y (better_level old 0) old) old ≡ old
          go (yes h) (yes l) = eq_then (column_at xs r i) x _ _ h ∙ eq_then (column_at xs r j) y _ _ l ∙ none_left old
          go (yes h) (no l) = eq_then (column_at xs r i) x _ _ h ∙ eq_else (column_at xs r j) y _ _ l
          go (no h) d = eq_else (column_at xs r i) x _ _ h

-- While levels of block k change, those of the blocks that it uses stay.
module _ {xs m w : List ℕ} {k r own : ℕ} {rest whole : ℕ → ℕ → ℕ → ℕ} (may : MayLift xs m k r) (g : Going k own rest whole m w) where
  other : (use_at xs (blocks_of xs) r).block ≢ k
  other e = omega (arith, may.row.lower)

  pub may_on : MayLift xs w k r
  may_on =
      record {
        row = may.row;
        room = rw g.long may.room;
        few = may.few;
        small = λ i j a b. rw (g.else (use_at xs (blocks_of xs) r).block i j other (omega (arith, may.few)) (omega (arith, may.few))) (may.small i j a b);
      }

  use_still : (x y : ℕ) → use_level w (use_at xs (blocks_of xs) r) x y ≡ use_level m (use_at xs (blocks_of xs) r) x y
  unfolding use_level
  use_still x y = go (dec_lt (position_of u.at x) (length u.at)) (dec_lt (position_of u.at y) (length u.at))
    where
      u : Use
      u = use_at xs (blocks_of xs) r

      go : Dec (position_of u.at x < length u.at) → Dec (position_of u.at y < length u.at) → use_level w u x y ≡ use_level m u x y
      go (yes h) (yes l) =
          let a : length u.at ≡ used_joins xs r = may.row.good.arity in
          let few : used_joins xs r ≤ max_joins = may.few in
          lt_then _ _ _ _ h ∙ lt_then _ _ _ _ l
          ∙ ap one_more (g.else u.block (position_of u.at x) (position_of u.at y) other (omega arith) (omega arith))
          ∙ sym (lt_then _ _ _ _ h ∙ lt_then _ _ _ _ l)
      go (yes h) (no l) = lt_then _ _ _ _ h ∙ lt_else _ _ _ _ (omega arith) ∙ sym (lt_then _ _ _ _ h ∙ lt_else _ _ _ _ (omega arith))
      go (no h) d = lt_else _ _ _ _ (omega arith) ∙ sym (lt_else _ _ _ _ (omega arith))

  pub lift_still : (x y n : ℕ) → use_lift xs w r x y n ≡ use_lift xs m r x y n
  unfolding use_lift
  lift_still x y n = ap (better_level n) (use_still x y)

-- What is left to be made behind joins i of a use, and behind join j with its join i.
unfoldable pub use_rest : List ℕ → List ℕ → ℕ → ℕ → ℕ → ℕ → ℕ → ℕ
use_rest xs m r i x y n = if_lt (position_of (use_at xs (blocks_of xs) r).at x) i n (use_lift xs m r x y n)

unfoldable pub join_rest : List ℕ → List ℕ → ℕ → ℕ → ℕ → ℕ → ℕ → ℕ → ℕ
join_rest xs m r i j x y n =
    if_eq (position_of (use_at xs (blocks_of xs) r).at x) i
    (if_lt (position_of (use_at xs (blocks_of xs) r).at y) j n (use_lift xs m r x y n))
    n

-- What is made once, at one place of a row, is not left behind it.
once : (p i n : ℕ) (f : ℕ → ℕ) → if_lt p i n (f n) ≡ if_lt p (i + 1) (if_eq p i (f n) n) (f (if_eq p i (f n) n))
once p i n f = go (dec_lt p i) (ℕ_discrete p i)
  where
    go : Dec (p < i) → Dec (p ≡ i) → if_lt p i n (f n) ≡ if_lt p (i + 1) (if_eq p i (f n) n) (f (if_eq p i (f n) n))
    go (yes h) (yes e) = absurd (omega arith)
    go (yes h) (no e) = lt_then p i _ _ h ∙ sym (lt_then p (i + 1) _ _ (omega arith) ∙ eq_else p i _ _ e)
    go (no h) (yes e) = lt_else p i _ _ (omega arith) ∙ sym (lt_then p (i + 1) _ _ (omega arith) ∙ eq_then p i _ _ e)
    go (no h) (no e) = lt_else p i _ _ (omega arith) ∙ sym (lt_else p (i + 1) _ _ (omega arith) ∙ ap f (eq_else p i _ _ e))

-- A use that does not name both cues says nothing of them.
use_without : (m : List ℕ) (u : Use) (x y : ℕ) → (position_of u.at x < length u.at → length u.at ≤ position_of u.at y) → use_level m u x y ≡ 0
unfolding use_level
use_without m u x y h = go (dec_lt (position_of u.at x) (length u.at))
  where
    go : Dec (position_of u.at x < length u.at) → use_level m u x y ≡ 0
    go (yes l) = lt_then _ _ _ _ l ∙ lt_else _ _ _ _ (h l)
    go (no l) = lt_else _ _ _ _ (omega arith)

lift_without : {xs m : List ℕ} {k r : ℕ} → MayLift xs m k r → (x y n : ℕ)
    → (position_of (use_at xs (blocks_of xs) r).at x < used_joins xs r → used_joins xs r ≤ position_of (use_at xs (blocks_of xs) r).at y)
    → use_lift xs m r x y n ≡ n
unfolding use_lift
lift_without {xs} {m} {k} {r} may x y n h =
    let a : length (use_at xs (blocks_of xs) r).at ≡ used_joins xs r = may.row.good.arity in
    ap (better_level n) (use_without m (use_at xs (blocks_of xs) r) x y (λ l. omega (arith, h (omega arith)))) ∙ none_left n

-- The loop over the joins j of a use, for its join i.
module _ {xs m : List ℕ} {k r : ℕ} (own i : ℕ) (may : MayLift xs m k r) where
  pub join_begin : Going k own (join_rest xs m r i 0) (join_lift xs m r i) m m
  unfolding join_rest join_lift
  join_begin =
      going_begin k own (join_rest xs m r i 0) (join_lift xs m r i) m
      (λ x y n. ap (λ (a : ℕ). if_eq (position_of (use_at xs (blocks_of xs) r).at x) i a n)
      (lt_else (position_of (use_at xs (blocks_of xs) r).at y) 0 _ _ (omega arith)))

  pub join_on : {w : List ℕ} (v : List ℕ) (j : ℕ) → Going k own (join_rest xs m r i j) (join_lift xs m r i) m w → Changed k own (pair_lift xs w r i j) w v
      → Going k own (join_rest xs m r i (j + 1)) (join_lift xs m r i) m v
  unfolding join_rest pair_lift
  join_on {w} v j g c = going_on v (pair_lift xs w r i j) (join_rest xs m r i (j + 1)) g c step
    where
      step : (x y n : ℕ) → join_rest xs m r i j x y n ≡ join_rest xs m r i (j + 1) x y (pair_lift xs w r i j x y n)
      step x y n = rw (lift_still may g x y n) (go (ℕ_discrete p i))
        where
          p : ℕ
          p = position_of (use_at xs (blocks_of xs) r).at x

          q : ℕ
          q = position_of (use_at xs (blocks_of xs) r).at y

          new : ℕ
          new = if_eq p i (if_eq q j (use_lift xs m r x y n) n) n

          go : Dec (p ≡ i) → if_eq p i (if_lt q j n (use_lift xs m r x y n)) n ≡ if_eq p i (if_lt q (j + 1) new (use_lift xs m r x y new)) new
          go (yes e) =
              eq_then p i _ _ e
              ∙ once q j n (use_lift xs m r x y)
              ∙ sym (eq_then p i _ _ e ∙ ap (λ (a : ℕ). if_lt q (j + 1) a (use_lift xs m r x y a)) (eq_then p i _ _ e))
          go (no e) = eq_else p i _ _ e ∙ sym (eq_else p i _ _ e ∙ eq_else p i _ _ e)

  pub join_done : {w : List ℕ} (j : ℕ) → Going k own (join_rest xs m r i j) (join_lift xs m r i) m w → used_joins xs r ≤ j → Changed k own (join_lift xs m r i) m w
  unfolding join_rest
  join_done j g h = going_done g left
    where
      left : (x y n : ℕ) → join_rest xs m r i j x y n ≡ n
      left x y n = go (ℕ_discrete p i) (dec_lt q j)
        where
          p : ℕ
          p = position_of (use_at xs (blocks_of xs) r).at x

          q : ℕ
          q = position_of (use_at xs (blocks_of xs) r).at y

          go : Dec (p ≡ i) → Dec (q < j) → if_eq p i (if_lt q j n (use_lift xs m r x y n)) n ≡ n
          go (yes e) (yes l) = eq_then p i _ _ e ∙ lt_then q j _ _ l
          go (yes e) (no l) = eq_then p i _ _ e ∙ lt_else q j _ _ (omega arith) ∙ lift_without may x y n (λ a. omega arith)
          go (no e) d = eq_else p i _ _ e

  -- A join without links has nothing to lift,
  pub join_unlinked : (b : ℕ) (q : Bool) → i < used_joins xs r → b ≡ (use_at xs (blocks_of xs) r).block → Unlinked m b i q → q ≡ true
      → Changed k own (join_lift xs m r i) m m
  unfolding join_lift use_lift one_more
  join_unlinked b q h e none t =
      going_begin k own (λ x y n. n) (join_lift xs m r i) m (λ x y n. sym (go x y n (ℕ_discrete (position_of u.at x) i) (dec_lt (position_of u.at y) (length u.at))))
    where
      u : Use
      u = use_at xs (blocks_of xs) r

      zero-at : (j : ℕ) → j < used_joins xs r → level_at m u.block i j ≡ 0
      zero-at j l = rw (← e) (none.none t j (omega (arith, may.few)))

      go : (x y n : ℕ) → Dec (position_of u.at x ≡ i) → Dec (position_of u.at y < length u.at)
          → if_eq (position_of u.at x) i (better_level n (use_level m u x y)) n ≡ n
      go x y n (no d) l = eq_else _ i _ _ d
      go x y n (yes d) (yes l) =
          let a : length u.at ≡ used_joins xs r = may.row.good.arity in
          eq_then _ i _ _ d
          ∙ ap (better_level n) (use_at_lem may x y i (position_of u.at y) d refl h (omega arith) ∙ eq_then _ 0 _ _ (zero-at (position_of u.at y) (omega arith)))
          ∙ none_left n
      go x y n (yes d) (no l) = eq_then _ i _ _ d ∙ ap (better_level n) (use_without m u x y (λ z. omega arith)) ∙ none_left n

  -- and so has one that meets an own cue.
  pub join_own : (a : ℕ) → i < used_joins xs r → a ≡ column_at xs r i → a ≤ own → Changed k own (join_lift xs m r i) m m
  unfolding join_lift
  join_own a h e l =
      record {
        long = refl;
        here = λ p q x y. sym (eq_else _ i _ _ (off_place may i a (join_cue own p) h e (λ z. omega arith)));
        else = λ b p q d x y. refl;
      }

-- The loop over the joins i of a use.
module _ {xs m : List ℕ} {k r : ℕ} (own : ℕ) (may : MayLift xs m k r) where
  pub use_begin : Going k own (use_rest xs m r 0) (use_lift xs m r) m m
  unfolding use_rest
  use_begin = going_begin k own (use_rest xs m r 0) (use_lift xs m r) m (λ x y n. lt_else (position_of (use_at xs (blocks_of xs) r).at x) 0 _ _ (omega arith))

  pub use_on : {w : List ℕ} (v : List ℕ) (i : ℕ) → Going k own (use_rest xs m r i) (use_lift xs m r) m w → Changed k own (join_lift xs w r i) w v
      → Going k own (use_rest xs m r (i + 1)) (use_lift xs m r) m v
  unfolding use_rest join_lift
  use_on {w} v i g c =
      going_on v (join_lift xs w r i) (use_rest xs m r (i + 1)) g c
      (λ x y n. rw (lift_still may g x y n) (once (position_of (use_at xs (blocks_of xs) r).at x) i n (use_lift xs m r x y)))

  pub use_done : {w : List ℕ} (i : ℕ) → Going k own (use_rest xs m r i) (use_lift xs m r) m w → used_joins xs r ≤ i → Changed k own (use_lift xs m r) m w
  unfolding use_rest
  use_done i g h = going_done g left
    where
      left : (x y n : ℕ) → use_rest xs m r i x y n ≡ n
      left x y n = go (dec_lt (position_of (use_at xs (blocks_of xs) r).at x) i)
        where
          go : Dec (position_of (use_at xs (blocks_of xs) r).at x < i) → use_rest xs m r i x y n ≡ n
          go (yes l) = lt_then _ i _ _ l
          go (no l) = lt_else _ i _ _ (omega arith) ∙ lift_without may x y n (λ a. absurd (omega arith))

-- The level of the block that a use names, as code reads it, is small.
pub level-few : {xs m : List ℕ} {k r : ℕ} → MayLift xs m k r → (b i j c : ℕ) → b ≡ (use_at xs (blocks_of xs) r).block → i < used_joins xs r → j < used_joins xs r
    → c ≡ level_at m b i j → c ≤ max_blocks
level-few {xs} {m} {k} {r} may b i j c e hi hj f =
    let l : c ≡ level_at m (use_at xs (blocks_of xs) r).block i j = rw e at f in omega (arith, may.small i j hi hj)

-- The loop over the links of block k: those from row r on are left.
abbrev pub links_left : List ℕ → ℕ → ℕ → ℕ → ℕ → ℕ → ℕ
links_left xs r end = links_level (links_from xs r (end - r))

module _ {xs m : List ℕ} {k : ℕ} (own : ℕ) {first end : ℕ} (rows : LinkRows xs k first end) where
  pub links-begin : Going k own (links_left xs first end) (links_put xs k) m m
  links-begin = going_begin k own (links_left xs first end) (links_put xs k) m (λ x y n. ap (λ (ls : List Link). links_level ls x y n) (sym rows.links))

  pub links-on : {w : List ℕ} (v : List ℕ) (r a b : ℕ) → Going k own (links_left xs r end) (links_put xs k) m w → r < end → a ≡ (link_at xs r).from
      → b ≡ (link_at xs r).to → Changed k own (put_level a b 1) w v → Going k own (links_left xs (r + 1) end) (links_put xs k) m v
  unfolding links_level
  links-on v r a b g h e f c =
      going_on v (put_level a b 1) (links_left xs (r + 1) end) g c
      (λ x y n. ap (λ (ls : List Link). links_level ls x y n) (links_from-next xs r end h)
      ∙ ap (links_level (links_from xs (r + 1) (end - (r + 1))) x y) (sym (put-link xs r a b x y n e f)))

  pub links-done : {w : List ℕ} (r : ℕ) → Going k own (links_left xs r end) (links_put xs k) m w → end ≤ r → Changed k own (links_put xs k) m w
  unfolding links_level links_from
  links-done r g h = going_done g (λ x y n. let z : end - r ≡ 0 = omega arith in rw z refl)

-- The loop over its uses, where the levels of the blocks below are right.
abbrev pub uses_left : List ℕ → List ℕ → ℕ → ℕ → ℕ → ℕ → ℕ → ℕ
uses_left xs m r end = uses_level m (uses_from xs (blocks_of xs) r (end - r))

module _ {xs t m : List ℕ} {k : ℕ} (own : ℕ) {first end : ℕ} (rows : UseRows xs t k first end) where
  pub uses-begin : Going k own (uses_left xs m first end) (uses_lift xs m k) m m
  uses-begin = going_begin k own (uses_left xs m first end) (uses_lift xs m k) m (λ x y n. ap (λ (us : List Use). uses_level m us x y n) (sym rows.uses))

  pub uses-on : {w : List ℕ} (v : List ℕ) (r : ℕ) → MayLift xs m k r → Going k own (uses_left xs m r end) (uses_lift xs m k) m w → r < end
      → Changed k own (use_lift xs w r) w v → Going k own (uses_left xs m (r + 1) end) (uses_lift xs m k) m v
  unfolding uses_level use_lift
  uses-on {w} v r may g h c =
      going_on v (use_lift xs w r) (uses_left xs m (r + 1) end) g c
      (λ x y n. ap (λ (us : List Use). uses_level m us x y n) (uses_from-next xs (blocks_of xs) r end h)
      ∙ ap (uses_level m (uses_from xs (blocks_of xs) (r + 1) (end - (r + 1))) x y) (sym (lift_still may g x y n)))

  pub uses-done : {w : List ℕ} (r : ℕ) → Going k own (uses_left xs m r end) (uses_lift xs m k) m w → end ≤ r → Changed k own (uses_lift xs m k) m w
  unfolding uses_level uses_from
  uses-done r g h = going_done g (λ x y n. let z : end - r ≡ 0 = omega arith in rw z refl)

-- Levels that are 0 when all are joined by "or".
pub record NoneYet (m : List ℕ) (at j all : ℕ) : Type 0 where
  pub none : all ≡ 0 → (n : ℕ) → n < j → get_or m (at + n) 0 ≡ 0

or_none_lem : (a b : ℕ) → bit_or a b ≡ 0 → (a ≡ 0) × (b ≡ 0)
or_none_lem a b e = omega (arith, or_add_and a b, and_le_l a b, and_le_r a b)

pub none-begin : (m : List ℕ) (at : ℕ) → NoneYet m at 0 0
none-begin m at = record { none = λ e n h. absurd (omega arith) }

pub none-on : (m : List ℕ) (at j all x : ℕ) → NoneYet m at j all → x ≡ get_or m (at + j) 0 → NoneYet m at (j + 1) (bit_or all x)
none-on m at j all x s e = record { none = λ z n h. go n h (or_none_lem all x z) (ℕ_discrete n j) }
  where
    go : (n : ℕ) → n < j + 1 → (all ≡ 0) × (x ≡ 0) → Dec (n ≡ j) → get_or m (at + n) 0 ≡ 0
    go n h o (yes d) = ap (λ (i : ℕ). get_or m (at + i) 0) d ∙ sym e ∙ o.1
    go n h o (no d) = s.none o.0 n (omega arith)

pub none_done : (m : List ℕ) (k i at j all : ℕ) (r : Bool) → NoneYet m at j all → max_joins ≤ j → at ≡ pairs_size * k + max_joins * i → r ≡ eqb all 0 → Unlinked m k i r
none_done m k i at j all r s h e f = record { none = λ t n l. rw (← e) (s.none (eqb-true all 0 (sym f ∙ t)) n (omega arith)) }
