-- What a list of numbers says, as they are read and stored.
use Rattle.std.proofs.Common.{◌≡◌, ℕ, zero, suc, ◌<◌, List, ◌∷◌, length, get_or, refl, sym, ap, ◌∙◌}
use lib.ListN.{set, replicate, take, drop}
use mathlib.Core.List.{map, ◌++◌}
use Rattle.std.proofs.lemmas.List.{get_or-map, map-set, length-map, map-append, take-map, drop-map}

module _ {N : Type 0} {value : N → ℕ} {values : List N → List ℕ} (each : (d : List N) → values d ≡ map value d) where
  pub count : (d : List N) → length (values d) ≡ length d
  count d = ap length (each d) ∙ length-map d value

  -- A number that is read, as it comes out of a slice and out of an array, and one that is stored.
  pub read : (d : List N) (v : ℕ) (x : N) → x ≡ get_or d v x → v < length d → value x ≡ get_or (values d) v 0
  read d v x e h = ap value e ∙ sym (get_or-map value d v x 0 h) ∙ ap (λ (l : List ℕ). get_or l v 0) (sym (each d))

  pub held : (d : List N) (v : ℕ) (x : N) → v < length d → value (get_or d v x) ≡ get_or (values d) v 0
  held d v x h = sym (get_or-map value d v x 0 h) ∙ ap (λ (l : List ℕ). get_or l v 0) (sym (each d))

  pub stored : (d : List N) (v : ℕ) (x : N) → values (set d v x) ≡ set (values d) v (value x)
  stored d v x = each (set d v x) ∙ map-set value d v x ∙ ap (λ (l : List ℕ). set l v (value x)) (sym (each d))

  -- Some of the same number, and others.
  map-same : (k : ℕ) (x : N) → map value (replicate k x) ≡ replicate k (value x)
  map-same zero x = refl
  map-same (suc k) x = ap (λ (l : List ℕ). value x ∷ l) (map-same k x)

  pub filled : (k : ℕ) (x : N) (rest : List N) → values (replicate k x ++ rest) ≡ replicate k (value x) ++ values rest
  filled k x rest = each (replicate k x ++ rest) ∙ map-append value (replicate k x) rest ∙ rw (map-same k x, each rest) refl

  pub same : (k : ℕ) (x : N) → values (replicate k x) ≡ replicate k (value x)
  same k x = each (replicate k x) ∙ map-same k x

  -- A part of a list as it is lent, and the list with other numbers in its place.
  pub lent : (n a : ℕ) (w : List N) → values (take n (drop a w)) ≡ take n (drop a (values w))
  lent n a w = each (take n (drop a w)) ∙ sym (take-map value n (drop a w)) ∙ ap (take n) (sym (drop-map value a w) ∙ ap (drop a) (sym (each w)))

  pub returned : (a b : ℕ) (w v : List N)
      → values (take a w ++ (v ++ drop b (drop a w))) ≡ take a (values w) ++ (values v ++ drop b (drop a (values w)))
  returned a b w v =
      each (take a w ++ (v ++ drop b (drop a w))) ∙ map-append value (take a w) (v ++ drop b (drop a w))
      ∙ rw (each w, each v, map-append value v (drop b (drop a w)), take-map value a w, drop-map value a w, drop-map value b (drop a w)) refl
