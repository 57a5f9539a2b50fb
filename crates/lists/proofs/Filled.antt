-- Laws of filling a page.
use Prim.Native.Nat.{ℕ, zero, suc, ◌+◌, ◌*◌, ◌/◌, ◌%◌, ◌-◌, ◌≤◌, ◌<◌}
use native.Mathlib.Omega.{arith}
use native.Mathlib.Decide.{dec_lt}
use native.Mathlib.Numerals.{add-one}
use mathlib.Core.Path.{◌≡◌, refl, sym, ◌∙◌, ap}
use mathlib.Core.List.{List, [], ◌∷◌, ◌++◌, append_assoc, append-nil}
use lib.ListN.{length, get_or, take, drop, set, length-set, take-append-drop}
use lib.Seq.{take-suc-set, drop-set-lt, take-nil}
use Rattle.model.specs.Choice.{if_lt}
use Rattle.model.specs.Lists.{overwrite}
use Rattle.basics.proofs.Choices.{lt_then, lt_else, eq_then, eq_else}
use Rattle.neighbours.specs.declared.Ask.{Ask}
use Rattle.neighbours.specs.Records.{bit_at, own_bit}
use Rattle.neighbours.proofs.Bits.{bit_none}
use Rattle.lists.specs.Pages.{Filled, put, puts, Gives}
use Rattle.lists.specs.Walks.{step_list, own_list}

pub puts-append : (room : ℕ) (s : Filled) (us ws : List ℕ) → puts room s (us ++ ws) ≡ puts room (puts room s us) ws
unfolding puts
puts-append room s [] ws = refl
puts-append room s (u ∷ us) ws = puts-append room (put room s u) us ws

-- Where there is room the cue is written, and where there is none this is kept in mind.
pub put-room : (room : ℕ) (s : Filled) (u : ℕ) → s.given < room → put room s u ≡ record { page = set s.page s.given u; given = s.given + 1 }
unfolding put
put-room room s u h = lt_then _ _ _ _ h

pub put-none : (room : ℕ) (s : Filled) (u : ℕ) → room ≤ s.given → put room s u ≡ record { page = s.page; given = room + 1 }
unfolding put
put-none room s u h = lt_else _ _ _ _ h

-- A page that had no room for a cue stays as it is.
put_full : (room : ℕ) (s : Filled) (u : ℕ) → s.given ≡ room + 1 → put room s u ≡ s
put_full room s u e = put-none room s u (omega arith) ∙ ap (λ (n : ℕ). record { page = s.page; given = n }) (sym e)

pub puts-full : (room : ℕ) (s : Filled) (us : List ℕ) → s.given ≡ room + 1 → puts room s us ≡ s
unfolding puts
puts-full room s [] e = refl
puts-full room s (u ∷ us) e = rw (put_full room s u e) (puts-full room s us e)

-- What a page with room holds after some cues, and the number given.
abbrev laid : ℕ → List ℕ → ℕ → List ℕ → List ℕ
laid room p w us = take w p ++ (take (room - w) us ++ drop (w + length (take (room - w) us)) p)

laid_next : (room : ℕ) (p : List ℕ) (w u : ℕ) (us : List ℕ) → w < room → room ≤ length p
    → laid room (set p w u) (w + 1) us ≡ laid room p w (u ∷ us)
laid_next room p w u us h l =
    let e : room - w ≡ suc (room - suc w) = omega arith in
    let f : w + suc (length (take (room - suc w) us)) ≡ suc w + length (take (room - suc w) us) = omega arith in
    rw (add-one w, e, f, take-suc-set p w u (omega arith), drop-set-lt (suc w + length (take (room - suc w) us)) p w u (omega arith))
    (append_assoc (take w p) (u ∷ []) (take (room - suc w) us ++ drop (suc w + length (take (room - suc w) us)) p))

pub puts-state : (room : ℕ) (p : List ℕ) (w : ℕ) (us : List ℕ) → w ≤ room → room ≤ length p
    → puts room (record { page = p; given = w }) us
    ≡ record { page = laid room p w us; given = if_lt room (w + length us) (room + 1) (w + length us) }
unfolding puts
puts-state room p w [] h l =
    let e : w + 0 ≡ w = omega arith in
    let t : ◌≡◌ {A = List ℕ} (take (room - w) []) [] = take-nil (room - w) in
    rw (t, e, lt_else room w (room + 1) w h) (ap (λ xs. record { page = xs; given = w }) (sym (take-append-drop w p)))
puts-state room p w (u ∷ us) h l = go (λ x y. puts-state room (set p w u) (w + 1) us x y) (dec_lt w room)
  where
    s : Filled
    s = record { page = p; given = w }

    end : ℕ → ℕ
    end n = if_lt room n (room + 1) n

    go : (w + 1 ≤ room → room ≤ length (set p w u) → puts room (record { page = set p w u; given = w + 1 }) us
        ≡ record { page = laid room (set p w u) (w + 1) us; given = end (w + 1 + length us) })
        → Dec (w < room)
        → puts room (put room s u) us ≡ record { page = laid room p w (u ∷ us); given = if_lt room (w + suc (length us)) (room + 1) (w + suc (length us)) }
    go below (yes k) =
        let e : w + suc (length us) ≡ w + 1 + length us = omega arith in
        rw (put-room room s u k, e)
        (below (omega arith) (rw length-set l)
        ∙ ap (λ xs. record { page = xs; given = end (w + 1 + length us) }) (laid_next room p w u us k l))
    go below (no k) =
        let e : w ≡ room = omega arith in
        let f : room - w ≡ 0 = omega arith in
        let g : w + 0 ≡ w = omega arith in
        rw (put-none room s u (omega arith), f, lt_then room (w + suc (length us)) (room + 1) (w + suc (length us)) (omega arith), g)
        (puts-full room (record { page = p; given = room + 1 }) us refl
        ∙ ap (λ xs. record { page = xs; given = room + 1 }) (sym (take-append-drop w p)))

-- From the start: the page is overwritten by as many cues as there is room for.
pub puts-all : (room : ℕ) (p us : List ℕ) → room ≤ length p
    → puts room (record { page = p; given = 0 }) us
    ≡ record { page = overwrite (take room us) p; given = if_lt room (length us) (room + 1) (length us) }
unfolding overwrite
puts-all room p us l =
    let e : 0 + length us ≡ length us = omega arith in
    let f : room - 0 ≡ room = omega arith in
    let g : 0 + length (take room us) ≡ length (take room us) = omega arith in
    rw (e, f, g) at (puts-state room p 0 us (omega arith) l)

-- The same, said of a page before and after.
module _ (room : ℕ) (p : List ℕ) (w : ℕ) where
  pub gives-room : (u : ℕ) → w < room → Gives room p w (u ∷ []) (set p w u) (w + 1)
  unfolding puts
  gives-room u h = record { is = sym (put-room room (record { page = p; given = w }) u h); long = length-set p w u; bound = omega arith }

  pub gives-late : (u : ℕ) → room ≤ w → Gives room p w (u ∷ []) p (room + 1)
  unfolding puts
  gives-late u h = record { is = sym (put-none room (record { page = p; given = w }) u h); long = refl; bound = omega arith }

  pub gives_nil : (us : List ℕ) → us ≡ [] → w ≤ room + 1 → Gives room p w us p w
  unfolding puts
  gives_nil us e h = rw e (record { is = refl; long = refl; bound = h })

  pub gives-full : (us : List ℕ) → room < w → w ≤ room + 1 → Gives room p w us p w
  gives-full us h l =
      record { is = sym (puts-full room (record { page = p; given = w }) us (omega arith)); long = refl; bound = l }

  pub gives-append : (us vs p₁ p₂ : List ℕ) (g₁ g₂ : ℕ) → Gives room p w us p₁ g₁ → Gives room p₁ g₁ vs p₂ g₂ → Gives room p w (us ++ vs) p₂ g₂
  gives-append us vs p₁ p₂ g₁ g₂ a b =
      record {
        is = b.is ∙ ap (λ z. puts room z vs) a.is ∙ sym (puts-append room (record { page = p; given = w }) us vs);
        long = b.long ∙ a.long;
        bound = b.bound;
      }

-- A cue that is marked and high enough; the own cues.
module _ (q : Ask) (p : List ℕ) (w : ℕ) where
  pub step-yes : (flag u g : ℕ) (p' : List ℕ) → flag ≡ 1 → q.after < u → Gives q.room p w (u ∷ []) p' g → Gives q.room p w (step_list q flag u) p' g
  unfolding step_list
  step-yes flag u g p' f h x = rw (eq_then flag 1 (if_lt q.after u (u ∷ []) []) [] f, lt_then q.after u (u ∷ []) [] h) x

  pub step-low : (flag u : ℕ) → flag ≡ 1 → u ≤ q.after → w ≤ q.room + 1 → Gives q.room p w (step_list q flag u) p w
  unfolding step_list
  step-low flag u f h b = gives_nil q.room p w (step_list q flag u) (eq_then flag 1 _ _ f ∙ lt_else q.after u _ _ h) b

  pub step-no : (flag u : ℕ) → (flag ≡ 1 → ⊥) → w ≤ q.room + 1 → Gives q.room p w (step_list q flag u) p w
  unfolding step_list
  step-no flag u f b = gives_nil q.room p w (step_list q flag u) (eq_else flag 1 _ _ f) b

  module _ (s : List ℕ) (at base : ℕ) where
    pub own-begin : w ≤ q.room + 1 → Gives q.room p w (own_list q s at base (1 - 1)) p w
    unfolding own_list
    own-begin b = gives_nil q.room p w [] refl b

    pub own_on : (d i b f g h : ℕ) (p₁ p₂ : List ℕ) → 1 ≤ d → i ≡ d - 1 → b ≡ get_or s (at + i / 8) 0 → f ≡ bit_at b (i % 8)
        → Gives q.room p w (own_list q s at base (d - 1)) p₁ g → Gives q.room p₁ g (step_list q f (base + d)) p₂ h
        → Gives q.room p w (own_list q s at base (d + 1 - 1)) p₂ h
    unfolding own_list own_bit
    own_on d i b f g h p₁ p₂ l j e₁ e₂ x y =
        let e : d + 1 - 1 ≡ suc (d - 1) = omega arith in
        let n : suc (d - 1) ≡ d = omega arith in
        let v : f ≡ own_bit s at d = e₂ ∙ ap (λ (z : ℕ). bit_at z (i % 8)) e₁ ∙ ap (λ (z : ℕ). bit_at (get_or s (at + z / 8) 0) (z % 8)) j in
        rw e
        (gives-append q.room p w (own_list q s at base (d - 1)) (step_list q (own_bit s at (suc (d - 1))) (base + suc (d - 1))) p₁ p₂ g h x (rw (n, ← v) y))

    -- A byte without bits.
    pub own-skip : (d i b r own g : ℕ) (p₁ : List ℕ) → 1 ≤ d → d ≤ own → i ≡ d - 1 → b ≡ get_or s (at + i / 8) 0 → b ≡ 0 → d < r → r ≤ own + 1 → r ≤ 8 * ((d - 1) / 8) + 9
        → Gives q.room p w (own_list q s at base (d - 1)) p₁ g → Gives q.room p w (own_list q s at base (r - 1)) p₁ g
    unfolding own_list step_list own_bit
    own-skip d i b r own g p₁ a o j e₁ e₂ h k l x =
        let e : r - 1 ≡ d + (r - d) - 1 = omega arith in
        rw (ap (own_list q s at base) e ∙ same (r - d) (omega arith)) x
      where
        bare : (u : ℕ) → d ≤ u → u < r → own_bit s at u ≡ 1 → ⊥
        bare u y z f =
            let n : (u - 1) / 8 ≡ i / 8 = omega arith in
            bit_none (get_or s (at + (u - 1) / 8) 0) ((u - 1) % 8) (ap (λ (v : ℕ). get_or s (at + v) 0) n ∙ sym e₁ ∙ e₂) f

        same : (m : ℕ) → d + m ≤ r → own_list q s at base (d + m - 1) ≡ own_list q s at base (d - 1)
        same zero y = let e : d + 0 - 1 ≡ d - 1 = omega arith in rw e refl
        same (suc m) y =
            let e : d + suc m - 1 ≡ suc (d + m - 1) = omega arith in
            let f : suc (d + m - 1) ≡ d + m = omega arith in
            rw (e, f, eq_else (own_bit s at (d + m)) 1 (if_lt q.after (base + (d + m)) ((base + (d + m)) ∷ []) []) [] (bare (d + m) (omega arith) (omega arith)))
            (append-nil (own_list q s at base (d + m - 1)) ∙ same m (omega arith))

    pub own-done : (d own g : ℕ) (p₁ : List ℕ) → 1 ≤ d → d ≤ own + 1 → own < d → Gives q.room p w (own_list q s at base (d - 1)) p₁ g
        → Gives q.room p w (own_list q s at base own) p₁ g
    own-done d own g p₁ a b h x = let e : own ≡ d - 1 = omega arith in rw e x
