-- The numbers of rows that are put one behind the other: what is left of a block's links, and of all blocks.
use Prim.Native.Nat.{ℕ, suc, ◌+◌, ◌-◌, ◌≤◌, ◌<◌}
use mathlib.Core.Path.{◌≡◌, refl, sym, ◌∙◌, ap}
use mathlib.Core.List.{List, [], ◌∷◌, ◌++◌, flat_map, append-nil, append_assoc}
use native.Mathlib.Omega.{arith}
use native.Mathlib.Numerals.{add-one}
use lib.ListN.{length, take, drop, length-append, drop_of_length-le}
use Rattle.model.specs.Limits.{row_size, desk_blocks}
use Rattle.model.specs.Lists.{range, overwrite}
use Rattle.model.specs.Rows.{Row, row_values}
use Rattle.model.specs.Desk.{plain_opening, plain_link, plain_run, built_in, built_in_numbers}
use Rattle.basics.proofs.Members.{flat_append}
use Rattle.codec.proofs.Stores.{puts-part, puts-then, puts-as, puts-long, puts-over, part-room, Stored, stored-begin, stored-then, stored-fits, stored-end}
use Rattle.plain_runs.specs.Putting.{own_links, PutsRows, RowsFit}

-- So many numbers from c on: the first, and the others.
range-next : (c end : ℕ) → c < end → range c (end - c) ≡ c ∷ range (c + 1) (end - (c + 1))
unfolding range
range-next c end h =
    let e : end - c ≡ suc (end - (c + 1)) = omega arith in
    rw (e, add-one c)

range_none : (c end : ℕ) → end ≤ c → range c (end - c) ≡ []
unfolding range
range_none c end h = let e : end - c ≡ 0 = omega arith in rw e

-- One row's numbers are eleven.
opening-size : (k : ℕ) → length (flat_map row_values (plain_opening k ∷ [])) ≡ row_size
unfolding flat_map row_values plain_opening
opening-size k = refl

link-size : (k a b : ℕ) → length (flat_map row_values (plain_link k a b ∷ [])) ≡ row_size
unfolding flat_map row_values plain_link
link-size k a b = refl

pub row-fits : (k a b n : ℕ) (o p : List ℕ) → PutsRows (plain_link k a b ∷ []) o n p → n ≡ row_size
row-fits k a b n o p s = omega (arith, link-size k a b, s.place)

-- The numbers of what is left of the links of block k from cue c on, and of all blocks from block k on.
unfoldable pub own_links_left : ℕ → ℕ → List ℕ
own_links_left k c = flat_map row_values (own_links k c (k + 1 - c))

unfoldable pub runs_left : ℕ → List ℕ
runs_left k = flat_map row_values (flat_map plain_run (range k (desk_blocks - k)))

links-next : (k c : ℕ) → c ≤ k → own_links_left k c ≡ flat_map row_values (plain_link k c (c + 1) ∷ []) ++ own_links_left k (c + 1)
unfolding own_links_left own_links
links-next k c h = rw (range-next c (k + 1) (omega arith)) (flat_append row_values (plain_link k c (c + 1) ∷ []) _)

pub links-none : (k c : ℕ) → k < c → own_links_left k c ≡ []
unfolding own_links_left own_links flat_map
links-none k c h = rw (range_none c (k + 1) (omega arith))

runs-next : (k : ℕ) → k < desk_blocks → runs_left k ≡ flat_map row_values (plain_run k) ++ runs_left (k + 1)
unfolding runs_left flat_map
runs-next k h = rw (range-next k desk_blocks h) (flat_append row_values (plain_run k) _)

pub runs_none : (k : ℕ) → desk_blocks ≤ k → runs_left k ≡ []
unfolding runs_left flat_map
runs_none k h = rw (range_none k desk_blocks h)

-- A block's links are put one by one.
pub own-links_begin : (k : ℕ) (o : List ℕ) → Stored (flat_map row_values (own_links k 1 k)) (own_links_left k 1) o 0 0 o
unfolding own_links_left
own-links_begin k o = let e : k + 1 - 1 ≡ k = omega arith in rw e (stored-begin _ o 0)

module _ (k c at : ℕ) (o p : List ℕ) (s : Stored (flat_map row_values (own_links k 1 k)) (own_links_left k c) o 0 at p) (h : c ≤ k) where
  pub links_fit : RowsFit (own_links k 1 k) o → at + row_size ≤ length p
  links_fit l = rw (link-size k c (c + 1)) at (stored-fits _ _ (flat_map row_values (plain_link k c (c + 1) ∷ [])) _ o p at (links-next k c h) s l)

  pub links-room : RowsFit (own_links k 1 k) o → row_size ≤ length (take (length p - at) (drop at p))
  links-room l = part-room p at row_size (links_fit l)

  pub own-links_on : (n : ℕ) (zs : List ℕ) → PutsRows (plain_link k c (c + 1) ∷ []) (take (length p - at) (drop at p)) n zs
      → Stored (flat_map row_values (own_links k 1 k)) (own_links_left k (c + 1)) o 0 (at + n) (take at p ++ (zs ++ drop (length p - at) (drop at p)))
  own-links_on n zs t = stored-then _ _ (flat_map row_values (plain_link k c (c + 1) ∷ [])) _ o p at (links-next k c h) s n zs t

-- The blocks are put one by one.
pub plain-runs_begin : (o : List ℕ) → Stored built_in_numbers (runs_left 0) o 0 0 o
unfolding built_in_numbers built_in runs_left
plain-runs_begin o = stored-begin _ o 0

module _ (k at : ℕ) (o p : List ℕ) (s : Stored built_in_numbers (runs_left k) o 0 at p) (h : k < desk_blocks) where
  pub runs_fit : length o ≡ length built_in_numbers → at + length (flat_map row_values (plain_run k)) ≤ length p
  runs_fit l = stored-fits _ _ (flat_map row_values (plain_run k)) _ o p at (runs-next k h) s (omega arith)

  pub runs-room : length o ≡ length built_in_numbers → RowsFit (plain_run k) (take (length p - at) (drop at p))
  runs-room l = part-room p at _ (runs_fit l)

  pub plain-runs_on : (n : ℕ) (zs : List ℕ) → PutsRows (plain_run k) (take (length p - at) (drop at p)) n zs
      → Stored built_in_numbers (runs_left (k + 1)) o 0 (at + n) (take at p ++ (zs ++ drop (length p - at) (drop at p)))
  plain-runs_on n zs t = stored-then _ _ (flat_map row_values (plain_run k)) _ o p at (runs-next k h) s n zs t

-- They fill the lent numbers.
pub runs-full : (k at : ℕ) (o p : List ℕ) → desk_blocks ≤ k → length o ≡ length built_in_numbers → Stored built_in_numbers (runs_left k) o 0 at p
    → p ≡ built_in_numbers
unfolding overwrite
runs-full k at o p h l s =
    puts-over built_in_numbers o p at (omega arith) (stored-end _ _ o p 0 at (runs_none k h) s)
    ∙ rw (drop_of_length-le o {i = length built_in_numbers} (omega arith)) (append-nil built_in_numbers)

-- A block's numbers: those of its opening, of the links of its own cues, and of two links more.
unfoldable opening : ℕ → List ℕ
opening k = flat_map row_values (plain_opening k ∷ [])

unfoldable own : ℕ → List ℕ
own k = flat_map row_values (own_links k 1 k)

unfoldable link : ℕ → ℕ → ℕ → List ℕ
link k a b = flat_map row_values (plain_link k a b ∷ [])

unfoldable last_links : ℕ → List Row
last_links k = plain_link k (k + 1) (k + 3) ∷ plain_link k (k + 2) 1 ∷ []

run-rows : (k : ℕ) → plain_run k ≡ (plain_opening k ∷ []) ++ (own_links k 1 k ++ last_links k)
unfolding plain_run own_links last_links
run-rows k = refl

last-parts : (k : ℕ) → flat_map row_values (last_links k) ≡ link k (k + 1) (k + 3) ++ link k (k + 2) 1
unfolding last_links link
last-parts k = flat_append row_values (plain_link k (k + 1) (k + 3) ∷ []) (plain_link k (k + 2) 1 ∷ [])

run-parts : (k : ℕ) → flat_map row_values (plain_run k) ≡ opening k ++ (own k ++ (link k (k + 1) (k + 3) ++ link k (k + 2) 1))
unfolding opening own
run-parts k =
    ap (flat_map row_values) (run-rows k)
    ∙ flat_append row_values (plain_opening k ∷ []) (own_links k 1 k ++ last_links k)
    ∙ ap (λ (w : List ℕ). opening k ++ w) (flat_append row_values (own_links k 1 k) (last_links k) ∙ ap (λ (w : List ℕ). own k ++ w) (last-parts k))

run-long : (k : ℕ) → length (flat_map row_values (plain_run k)) ≡ row_size + (length (own k) + (row_size + row_size))
unfolding opening link
run-long k =
    ap length (run-parts k)
    ∙ rw (length-append (opening k), length-append (own k), length-append (link k (k + 1) (k + 3)), opening-size k, link-size k (k + 1) (k + 3), link-size k (k + 2) 1)

-- They are put part by part, and each part has the room that the block has.
module _ (k : ℕ) (o : List ℕ) (h : RowsFit (plain_run k) o) where
  pub opening-room : row_size ≤ length o
  opening-room = omega (arith, run-long k)

  module _ (i : ℕ) (p : List ℕ) (s : PutsRows (plain_opening k ∷ []) o i p) where
    pub own_fit : i + length (flat_map row_values (own_links k 1 k)) + (row_size + row_size) ≤ length p
    unfolding own
    own_fit = omega (arith, run-long k, opening-size k, s.place, puts-long s)

    pub own_room : RowsFit (own_links k 1 k) (take (length p - i) (drop i p))
    own_room = part-room p i _ (omega (arith, own_fit))

    module _ (n : ℕ) (zs : List ℕ) (t : PutsRows (own_links k 1 k) (take (length p - i) (drop i p)) n zs) where
      abbrev pub q : List ℕ
      q = take i p ++ (zs ++ drop (length p - i) (drop i p))

      pub out_fit : i + n + (row_size + row_size) ≤ length q
      out_fit = omega (arith, own_fit, t.place, puts-long (puts-part {o = p} {at = i} t))

      pub out_room : row_size ≤ length (take (length q - (i + n)) (drop (i + n) q))
      out_room = part-room q (i + n) row_size (omega (arith, out_fit))

      abbrev pub r : List ℕ → List ℕ
      r ys = take (i + n) q ++ (ys ++ drop (length q - (i + n)) (drop (i + n) q))

      module _ (a b m : ℕ) (ys : List ℕ) (u : PutsRows (plain_link k a b ∷ []) (take (length q - (i + n)) (drop (i + n) q)) m ys) where
        pub in_fit : i + n + m + row_size ≤ length (r ys)
        in_fit = omega (arith, out_fit, row-fits k a b m _ ys u, puts-long (puts-part {o = q} {at = i + n} u))

        pub in_room : row_size ≤ length (take (length (r ys) - (i + n + m)) (drop (i + n + m) (r ys)))
        in_room = part-room (r ys) (i + n + m) row_size in_fit

      pub run-put : (m l : ℕ) (ys xs : List ℕ) → PutsRows (plain_link k (k + 1) (k + 3) ∷ []) (take (length q - (i + n)) (drop (i + n) q)) m ys
          → PutsRows (plain_link k (k + 2) 1 ∷ []) (take (length (r ys) - (i + n + m)) (drop (i + n + m) (r ys))) l xs
          → PutsRows (plain_run k) o (i + n + m + l) (take (i + n + m) (r ys) ++ (xs ++ drop (length (r ys) - (i + n + m)) (drop (i + n + m) (r ys))))
      unfolding opening own link
      run-put m l ys xs u v =
          puts-as
          (run-parts k ∙ sym (append_assoc (opening k) (own k) _) ∙ sym (append_assoc (opening k ++ own k) (link k (k + 1) (k + 3)) (link k (k + 2) 1)))
          (puts-then (puts-then (puts-then s t) u) v)
