-- The order of origins, and the best of some: of two lists in a row it is the winner of their best ones, and a step in front of all of them
-- changes nothing. What is known of `depth_wins` stands in `depths` and `depth-step`, and holds whichever of two depths wins.
use Prim.Native.Nat.{ℕ, suc, ◌<◌, ◌≤◌}
use native.Mathlib.Omega.{arith}
use native.Mathlib.Decide.{dec_lt}
use mathlib.Core.Path.{◌≡◌, refl, sym, ◌∙◌, ap}
use mathlib.Core.Bool.{Bool, true, false, false≢true}
use mathlib.Core.List.{List, [], ◌∷◌, ◌++◌, map}
use lib.ListN.{length}
use lib.Dec.{ltb}
use borrow.Author.Tests.{lt-ltb, le-ltb, ltb-true, ltb-false}
use Rattle.model.specs.Choice.{if_lt, if_true}
use Rattle.model.specs.Behind.{Origin, step_into, depth_wins, steps_win, better, Behind, Stands, Missing, winner, best}
use Rattle.basics.proofs.Choices.{true_then, true_else}
use Rattle.shows.specs.Origins.{into, own_row}

-- A test of two numbers that puts all numbers in order, and what a step does to them both.
data Three (wins : ℕ → ℕ → Bool) (a b : ℕ) : Type 0 where
  first : wins a b ≡ true → Three wins a b
  same : a ≡ b → Three wins a b
  second : wins b a ≡ true → Three wins a b

record Orders (wins : ℕ → ℕ → Bool) : Type 0 where
  three : (a b : ℕ) → Three wins a b
  one_way_is : (a b : ℕ) → wins a b ≡ true → wins b a ≡ false
  through : (a b c : ℕ) → wins a b ≡ true → wins b c ≡ true → wins a c ≡ true

not-both : {v : Bool} → v ≡ true → v ≡ false → ⊥
not-both x y = false≢true (sym y ∙ x)

less : Orders ltb
less =
    record {
      three = λ a b. at a b (dec_lt a b) (dec_lt b a);
      one_way_is = λ a b h. le-ltb b a (let l : a < b = ltb-true a b h in omega arith);
      through = λ a b c h k. lt-ltb a c (let l : a < b = ltb-true a b h in let m : b < c = ltb-true b c k in omega arith);
    }
  where
    at : (a b : ℕ) → Dec (a < b) → Dec (b < a) → Three ltb a b
    at a b (yes h) d = first (lt-ltb a b h)
    at a b (no h) (yes k) = second (lt-ltb b a k)
    at a b (no h) (no k) = same (omega arith)

-- "the shortest path wins": the order of depths.
depths : Orders depth_wins
unfolding depth_wins
depths = less

pub depth-step : (a b : ℕ) → depth_wins (suc a) (suc b) ≡ depth_wins a b
unfolding depth_wins
depth-step a b = go (ltb a b) refl
  where
    go : (t : Bool) → ltb a b ≡ t → ltb (suc a) (suc b) ≡ ltb a b
    go true e = (lt-ltb (suc a) (suc b) (let l : a < b = ltb-true a b e in omega arith)) ∙ sym e
    go false e = (le-ltb (suc a) (suc b) (let l : b ≤ a = ltb-false a b e in omega arith)) ∙ sym e

-- The test that looks at something else where two numbers are the same.
abbrev lexed : (ℕ → ℕ → Bool) → ℕ → ℕ → Bool → Bool
lexed wins a b rest = if_true (wins a b) true (if_true (wins b a) false rest)

module _ {wins : ℕ → ℕ → Bool} (o : Orders wins) where
  still : (a : ℕ) → wins a a ≡ false
  still a = go (wins a a) refl
    where
      go : (t : Bool) → wins a a ≡ t → wins a a ≡ false
      go true h = o.one_way_is a a h
      go false h = h

  lexed_first : (a b : ℕ) (r : Bool) → wins a b ≡ true → lexed wins a b r ≡ true
  lexed_first a b r h = true_then (wins a b) true _ h

  lexed_second : (a b : ℕ) (r : Bool) → wins b a ≡ true → lexed wins a b r ≡ false
  lexed_second a b r h = true_else (wins a b) true _ (o.one_way_is b a h) ∙ true_then (wins b a) false r h

  lexed_same : (a b : ℕ) (r : Bool) → a ≡ b → lexed wins a b r ≡ r
  lexed_same a b r e = rw e (true_else (wins b b) true _ (still b) ∙ true_else (wins b b) false r (still b))

  -- What holds from a to b and from b to c holds from a to c: that the one wins, and that it doesn't.
  lexed_chain : (v : Bool) (a b c : ℕ) (x y z : Bool) → (a ≡ b → b ≡ c → x ≡ v → y ≡ v → z ≡ v)
      → lexed wins a b x ≡ v → lexed wins b c y ≡ v → lexed wins a c z ≡ v
  lexed_chain v a b c x y z rest h k = go (o.three a b) (o.three b c)
    where
      go : Three wins a b → Three wins b c → lexed wins a c z ≡ v
      go (first p) (first q) = lexed_first a c z (o.through a b c p q) ∙ sym (lexed_first a b x p) ∙ h
      go (first p) (same q) = lexed_first a c z (rw q at p) ∙ sym (lexed_first a b x p) ∙ h
      go (first p) (second q) = absurd (not-both (sym h ∙ lexed_first a b x p) (sym k ∙ lexed_second b c y q))
      go (same p) (first q) = lexed_first a c z (rw p q) ∙ sym (lexed_first b c y q) ∙ k
      go (same p) (same q) = lexed_same a c z (p ∙ q) ∙ rest p q (sym (lexed_same a b x p) ∙ h) (sym (lexed_same b c y q) ∙ k)
      go (same p) (second q) = lexed_second a c z (rw p q) ∙ sym (lexed_second b c y q) ∙ k
      go (second p) (first q) = absurd (not-both (sym k ∙ lexed_first b c y q) (sym h ∙ lexed_second a b x p))
      go (second p) (same q) = lexed_second a c z (rw q at p) ∙ sym (lexed_second a b x p) ∙ h
      go (second p) (second q) = lexed_second a c z (o.through c b a q p) ∙ sym (lexed_second a b x p) ∙ h

steps-chain : (v : Bool) (ps qs us : List ℕ) (x y z : Bool) → length ps ≡ length qs → length qs ≡ length us → (x ≡ v → y ≡ v → z ≡ v)
    → steps_win ps qs x ≡ v → steps_win qs us y ≡ v → steps_win ps us z ≡ v
unfolding steps_win if_lt if_true
steps-chain v [] [] [] x y z e f rest h k = rest h k
steps-chain v [] [] (u ∷ us) x y z e f rest h k = absurd (omega arith)
steps-chain v [] (q ∷ qs) us x y z e f rest h k = absurd (omega arith)
steps-chain v (p ∷ ps) [] us x y z e f rest h k = absurd (omega arith)
steps-chain v (p ∷ ps) (q ∷ qs) [] x y z e f rest h k = absurd (omega arith)
steps-chain v (p ∷ ps) (q ∷ qs) (u ∷ us) x y z e f rest h k =
    lexed_chain less v p q u (steps_win ps qs x) (steps_win qs us y) (steps_win ps us z)
    (λ a b. steps-chain v ps qs us x y z (omega arith) (omega arith) rest) h k

rows-chain : (v : Bool) (a b c : ℕ) → ltb a b ≡ v → ltb b c ≡ v → ltb a c ≡ v
rows-chain true a b c h k = less.through a b c h k
rows-chain false a b c h k = le-ltb a c (let l : b ≤ a = ltb-false a b h in let m : c ≤ b = ltb-false b c k in omega arith)

better-chain : (v : Bool) (x y z : Origin) → better x y ≡ v → better y z ≡ v → better x z ≡ v
unfolding better
better-chain v x y z h k =
    lexed_chain depths v (length x.path) (length y.path) (length z.path) _ _ _
    (λ a b. steps-chain v x.path y.path z.path _ _ _ a b (rows-chain v x.row y.row z.row)) h k

-- The winner of two, and so of any number.
win_first : (x y : Origin) → better y x ≡ false → winner (Stands x) (Stands y) ≡ Stands x
unfolding winner
win_first x y h = true_else (better y x) (Stands y) (Stands x) h

win_second : (x y : Origin) → better y x ≡ true → winner (Stands x) (Stands y) ≡ Stands y
unfolding winner
win_second x y h = true_then (better y x) (Stands y) (Stands x) h

pub winner-none : (a : Behind) → winner a Missing ≡ a
unfolding winner
winner-none Missing = refl
winner-none (Stands x) = refl

pub winner-assoc : (a b c : Behind) → winner (winner a b) c ≡ winner a (winner b c)
unfolding winner
winner-assoc Missing b c = refl
winner-assoc (Stands x) Missing c = refl
winner-assoc (Stands x) (Stands y) Missing = winner-none (winner (Stands x) (Stands y))
winner-assoc (Stands x) (Stands y) (Stands z) = go (better y x) (better z y) refl refl
  where
    go : (t u : Bool) → better y x ≡ t → better z y ≡ u
        → winner (winner (Stands x) (Stands y)) (Stands z) ≡ winner (Stands x) (winner (Stands y) (Stands z))
    go true true h k = rw (win_second x y h, win_second y z k) (sym (win_second x z (better-chain true z y x k h)))
    go true false h k = rw (win_second x y h, win_first y z k) (sym (win_second x y h))
    go false true h k = rw (win_first x y h, win_second y z k) refl
    go false false h k = rw (win_first x y h, win_first y z k) (win_first x z (better-chain false z y x k h) ∙ sym (win_first x y h))

pub best-append : (xs ys : List Origin) → best (xs ++ ys) ≡ winner (best xs) (best ys)
unfolding best winner
best-append [] ys = refl
best-append (x ∷ xs) ys = ap (winner (Stands x)) (best-append xs ys) ∙ sym (winner-assoc (Stands x) (best xs) (best ys))

-- A step in front of a path, and in front of all of some.
better-step : (p : ℕ) (x y : Origin) → better (step_into p x) (step_into p y) ≡ better x y
unfolding better step_into steps_win if_lt if_true
better-step p x y =
    rw (depth-step (length x.path) (length y.path), depth-step (length y.path) (length x.path), still less p) refl

into-winner : (p : ℕ) (a b : Behind) → winner (into p a) (into p b) ≡ into p (winner a b)
unfolding into winner
into-winner p Missing b = refl
into-winner p (Stands x) Missing = refl
into-winner p (Stands x) (Stands y) = go (better y x) refl
  where
    go : (t : Bool) → better y x ≡ t
        → winner (Stands (step_into p x)) (Stands (step_into p y)) ≡ into p (winner (Stands x) (Stands y))
    go true h = rw (win_second x y h) (win_second (step_into p x) (step_into p y) (better-step p y x ∙ h))
    go false h = rw (win_first x y h) (win_first (step_into p x) (step_into p y) (better-step p y x ∙ h))

pub best-into : (p : ℕ) (xs : List Origin) → best (map (step_into p) xs) ≡ into p (best xs)
unfolding best into winner
best-into p [] = refl
best-into p (x ∷ xs) = ap (winner (Stands (step_into p x))) (best-into p xs) ∙ into-winner p (Stands x) (best xs)

-- Of two that begin with different steps, the one with the smaller step, unless the other's depth wins.
pub into-first : (p q : ℕ) (x y : Origin) → p < q → depth_wins (length y.path) (length x.path) ≡ false
    → winner (into p (Stands x)) (into q (Stands y)) ≡ into p (Stands x)
unfolding into better step_into steps_win if_lt if_true
into-first p q x y l h = win_first (step_into p x) (step_into q y) (worse (depths.three (length x.path) (length y.path)))
  where
    worse : Three depth_wins (length x.path) (length y.path) → better (step_into q y) (step_into p x) ≡ false
    worse (first w) = lexed_second depths _ _ _ (depth-step (length x.path) (length y.path) ∙ w)
    worse (same e) = lexed_same depths _ _ _ (ap suc (sym e)) ∙ lexed_second less q p _ (lt-ltb p q l)
    worse (second w) = absurd (not-both w h)

pub into-second : (p q : ℕ) (x y : Origin) → depth_wins (length y.path) (length x.path) ≡ true
    → winner (into p (Stands x)) (into q (Stands y)) ≡ into q (Stands y)
unfolding into better step_into
into-second p q x y h =
    win_second (step_into p x) (step_into q y)
    (lexed_first depths _ _ _ (depth-step (length y.path) (length x.path) ∙ h))

-- And of a copy's own row and one below, the own row, unless the other's depth wins.
pub own_first : (p r : ℕ) (y : Origin) → depth_wins (suc (length y.path)) 0 ≡ false → winner (own_row r) (into p (Stands y)) ≡ own_row r
unfolding into better step_into
own_first p r y h = win_first _ (step_into p y) (worse (depths.three (suc (length y.path)) 0))
  where
    worse : Three depth_wins (suc (length y.path)) 0 → better (step_into p y) (record { path = []; row = r }) ≡ false
    worse (first w) = absurd (not-both w h)
    worse (same e) = absurd (omega arith)
    worse (second w) = lexed_second depths _ _ _ w

pub own-second : (p r : ℕ) (y : Origin) → depth_wins (suc (length y.path)) 0 ≡ true → winner (own_row r) (into p (Stands y)) ≡ into p (Stands y)
unfolding into better step_into
own-second p r y h = win_second _ (step_into p y) (lexed_first depths _ _ _ h)

-- Of two own rows, the first.
pub own-rows : (r q : ℕ) → r ≤ q → winner (own_row r) (own_row q) ≡ own_row r
unfolding better steps_win
own-rows r q l = win_first _ _ (lexed_same depths 0 0 _ refl ∙ le-ltb q r l)

-- The winner's depth, by those of the two.
pub level-second : (x y : Origin) → depth_wins (length y.path) (length x.path) ≡ true → winner (Stands x) (Stands y) ≡ Stands y
unfolding better
level-second x y h = win_second x y (lexed_first depths _ _ _ h)

depth-beats : (x y : Origin) → depth_wins (length x.path) (length y.path) ≡ true → better y x ≡ false
unfolding better
depth-beats x y h = lexed_second depths _ _ _ h

pub level-first : (x y : Origin) → depth_wins (length y.path) (length x.path) ≡ false
    → (o : Origin) × (winner (Stands x) (Stands y) ≡ Stands o) × (length o.path ≡ length x.path)
level-first x y h = go (depths.three (length x.path) (length y.path)) (better y x) refl
  where
    go : Three depth_wins (length x.path) (length y.path) → (t : Bool) → better y x ≡ t
        → (o : Origin) × (winner (Stands x) (Stands y) ≡ Stands o) × (length o.path ≡ length x.path)
    go d false e = (x, win_first x y e, refl)
    go (same l) true e = (y, win_second x y e, sym l)
    go (first w) true e = absurd (not-both e (depth-beats x y w))
    go (second w) true e = absurd (not-both w h)
