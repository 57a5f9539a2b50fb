-- Pages asked for one after another, whatever links the cues and whatever is asked, if each page is what document 01 demands.
use Rattle.std.specs.Prelude.{Ok}
use Rattle.model.specs.Answers.{ListAnswer, listing}
use Prim.Native.Nat.{ℕ, suc, ◌-◌, ◌≤◌, ◌<◌}
use native.Mathlib.Omega.{arith}
use mathlib.Core.Path.{◌≡◌, refl, sym, ◌∙◌}
use mathlib.Core.Logic.{◌⊎◌, inl, inr}
use mathlib.Core.Bool.{Bool, true, false, false≢true}
use mathlib.Core.List.Memᴰ
use mathlib.Core.List.{List, ◌++◌, Memᴰ}
use lib.ListN.{length, get_or, take, length-append}
use Rattle.basics.proofs.Members.{get_d_mem}
use Rattle.demands.proofs.Answers.{listings-same}
use Rattle.demands.specs.Lists.{Smallest, IsList, Pages, one-page, one-more_page, ArePages}
use Rattle.demands.proofs.Rising.{not_in, rising-append, rising-last, rising-few}

module _ (Linked : ℕ → Type 0) where
  -- Where no further one exists, all are there.
  whole : (n : ℕ) (cues : List ℕ) (more : Bool) → Smallest Linked n cues more → more ≡ false → (u : ℕ) → Linked u → n < u → Memᴰ u cues
  whole n cues more s e u l h = go (s.smallest u l h)
    where
      go : Memᴰ u cues ⊎ ((w : ℕ) → Memᴰ w cues → w < u) → Memᴰ u cues
      go (inl i) = i
      go (inr g) = absurd (false≢true (sym e ∙ s.further.1 (u, l, h, not_in u cues g)))

  -- The smallest after n, none missing up to the last of them, and then the smallest after that.
  module _ (n : ℕ) (first second : List ℕ) (more : Bool) (some : 1 ≤ length first) (s : Smallest Linked n first true)
      (t : Smallest Linked (get_or first (length first - 1) 0) second more) where
    abbrev last : ℕ
    last = get_or first (length first - 1) 0

    last-in : Memᴰ last first
    last-in = get_d_mem first (length first - 1) (omega arith)

    -- All of the first are at most their last, which is above n, and all of the second are above it.
    to_last : (w : ℕ) → Memᴰ w first → w ≤ last
    to_last w i = rising-last first s.rising w i

    past : (u : ℕ) → last < u → n < u
    past u h = omega (arith, s.above last last-in)

    next : (u : ℕ) → Memᴰ u second → last < u
    next u i = t.above u i

    -- A linked cue is one of the first, or comes after their last.
    either : (u : ℕ) → Linked u → n < u → Memᴰ u first ⊎ (last < u)
    either u l h = go (s.smallest u l h)
      where
        go : Memᴰ u first ⊎ ((w : ℕ) → Memᴰ w first → w < u) → Memᴰ u first ⊎ (last < u)
        go (inl i) = inl i
        go (inr g) = inr (g last last-in)

    -- Together they are the smallest after n.
    both : Smallest Linked n (first ++ second) more
    both =
        record {
          linked = λ u i. linked-at u (Memᴰ.append_cases first i);
          above = λ u i. above_at u (Memᴰ.append_cases first i);
          rising = rising-append s.rising t.rising (λ w u i j. omega (arith, to_last w i, next u j));
          smallest = λ u l h. smallest-at u l (either u l h);
          further = (λ e. further-to (t.further.0 e), λ x. further-from x);
        }
      where
        linked-at : (u : ℕ) → Memᴰ u first ⊎ Memᴰ u second → Linked u
        linked-at u (inl i) = s.linked u i
        linked-at u (inr i) = t.linked u i

        above_at : (u : ℕ) → Memᴰ u first ⊎ Memᴰ u second → n < u
        above_at u (inl i) = s.above u i
        above_at u (inr i) = past u (next u i)

        smallest-at : (u : ℕ) → Linked u → Memᴰ u first ⊎ (last < u)
            → Memᴰ u (first ++ second) ⊎ ((w : ℕ) → Memᴰ w (first ++ second) → w < u)
        smallest-at u l (inl i) = inl (Memᴰ.append_left second i)
        smallest-at u l (inr h) = go (t.smallest u l h)
          where
            go : Memᴰ u second ⊎ ((w : ℕ) → Memᴰ w second → w < u)
                → Memᴰ u (first ++ second) ⊎ ((w : ℕ) → Memᴰ w (first ++ second) → w < u)
            go (inl i) = inl (Memᴰ.append_right first i)
            go (inr g) = inr (λ w i. at w (Memᴰ.append_cases first i))
              where
                at : (w : ℕ) → Memᴰ w first ⊎ Memᴰ w second → w < u
                at w (inl i) = omega (arith, to_last w i)
                at w (inr i) = g w i

        further-to : (u : ℕ) × Linked u × (last < u) × (Memᴰ u second → ⊥)
            → (u : ℕ) × Linked u × (n < u) × (Memᴰ u (first ++ second) → ⊥)
        further-to (u, l, h, k) = (u, l, past u h, λ i. at (Memᴰ.append_cases first i))
          where
            at : Memᴰ u first ⊎ Memᴰ u second → ⊥
            at (inl i) = omega (arith, to_last u i)
            at (inr i) = k i

        further-from : (u : ℕ) × Linked u × (n < u) × (Memᴰ u (first ++ second) → ⊥) → more ≡ true
        further-from (u, l, h, k) = go (either u l h)
          where
            go : Memᴰ u first ⊎ (last < u) → more ≡ true
            go (inl i) = absurd (k (Memᴰ.append_left second i))
            go (inr g) = t.further.1 (u, l, g, λ i. k (Memᴰ.append_right first i))

  -- What one page of at least one place has written.
  record Wrote (n : ℕ) (cues : List ℕ) (more : Bool) : Type 0 where
    smallest : Smallest Linked n cues more
    some : more ≡ true → 1 ≤ length cues

  wrote : (n : ℕ) (page after : List ℕ) (written : ℕ) (more : Bool) → 1 ≤ length page → IsList Linked n page (Ok (listing written more)) after
      → Wrote n (take written after) more
  wrote n page after written more h l =
      let (w, m) = listings-same (Ok (listing written more)) _ _ _ _ refl l.answer in
      rw (w, l.leaves.first, m) (record { smallest = l.smallest; some = λ e. omega (arith, l.full e) })

  -- Pages asked for one after another: one at least, and what they come to.
  module _ (Asks : ℕ → List ℕ → ListAnswer → List ℕ → Type 0)
      (lists : (n : ℕ) (page after : List ℕ) (r : ListAnswer) → Asks n page r after → IsList Linked n page r after) where
    asked_some : {n many : ℕ} {cues : List ℕ} {more : Bool} → Pages Asks n many cues more → 1 ≤ many
    asked_some (one-page h a) = omega arith
    asked_some (one-more_page p h a) = omega arith

    -- What so many pages have written: while there is more, one cue at least for each page.
    record Came (n many : ℕ) (cues : List ℕ) (more : Bool) : Type 0 where
      smallest : Smallest Linked n cues more
      some : more ≡ true → many ≤ length cues

    came : {n many : ℕ} {cues : List ℕ} {more : Bool} → Pages Asks n many cues more → Came n many cues more
    came {n} (one-page {page = page} {after = after} {written = written} {more = more} h a) =
        let w : Wrote n (take written after) more = wrote n page after written more h (lists n page after (Ok (listing written more)) a) in
        record { smallest = w.smallest; some = w.some }
    came {n} (one-more_page {many = many} {cues = cues} {page = page} {after = after} {written = written} {more = more} p h a) = go (came p)
      where
        last : ℕ
        last = get_or cues (length cues - 1) 0

        w : Wrote last (take written after) more
        w = wrote last page after written more h (lists last page after (Ok (listing written more)) a)

        go : Came n many cues true → Came n (suc many) (cues ++ take written after) more
        go q =
            let long : many ≤ length cues = q.some refl in
            record {
              smallest = both n cues (take written after) more (omega (arith, asked_some p)) q.smallest w.smallest;
              some = λ e. rw (length-append cues (take written after)) (omega (arith, w.some e));
            }

    pub are-pages : {n many : ℕ} {cues : List ℕ} {more : Bool} → Pages Asks n many cues more → ArePages Linked n many cues more
    are-pages {n} {many} {cues} {more} p =
        let c : Came n many cues more = came p in
        let s : Smallest Linked n cues more = c.smallest in
        record {
          smallest = s;
          ends = λ e most h.
              omega (
                arith,
                c.some e,
                rising-few 0 most s.rising (λ y i. omega (arith, s.above y i)) (λ y i. h y (s.linked y i)) (omega arith),
              );
          whole = whole n cues more s;
        }
