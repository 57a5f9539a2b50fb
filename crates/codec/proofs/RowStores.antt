-- The lines of rows, value by value.
use Prim.Native.Nat.{ℕ, zero, suc, ◌+◌, ◌*◌, ◌-◌, ◌/◌, ◌≤◌, ◌<◌}
use mathlib.Core.Path.{◌≡◌, refl, sym, ◌∙◌, ap, ap₂}
use mathlib.Core.List.{List, [], ◌∷◌, ◌++◌, append-nil, append_assoc}
use native.Mathlib.Omega.{arith}
use native.Mathlib.Numerals.{add-one}
use lib.ListN.{length, get_or, take, drop, length-append, length-drop, take-append-drop, drop_of_length-le}
use lib.Seq.{length-take-le, drop-cons, drop-drop, take-add, take-suc, get_or-take, get_or-drop}
use Rattle.model.specs.Limits.{row_size}
use Rattle.model.specs.Values.{digits}
use Rattle.model.specs.Text.{comma, line_feed, names, ends, line_text}
use Rattle.model.specs.Rows.{Row, cell, row_at, row_count, rows_from, rows_of, row_values, row_lines, file_text}
use Rattle.model.specs.Lists.{overwrite}
use Rattle.shows.proofs.FlatRows.{first-values, rows-first}
use Rattle.codec.specs.Scanning.{names_size}
use Rattle.codec.specs.Writing.{value_text, row_text, Puts, Spills}
use Rattle.codec.proofs.Ends.{comma-at, feed_at}
use Rattle.codec.proofs.Spills.{Spilled, spilled_begin, spilled_on, spilled_end, spilled_room, text-some}
use Rattle.codec.proofs.Stores.{puts-both, puts-part, puts-over, part-room, room-behind, room_next, Stored, stored-then, stored-fits, stored-part, stored-end}

-- A row's values are eleven of the lent numbers.
moved : (xs : List ℕ) (r : ℕ) → row_at (drop (r * row_size) xs) 0 ≡ row_at xs r
unfolding row_at cell
moved xs r = simp get_or-drop

row-values : (xs : List ℕ) (r : ℕ) → r * row_size + row_size ≤ length xs → row_values (row_at xs r) ≡ take row_size (drop (r * row_size) xs)
row-values xs r h =
    let ys = drop (r * row_size) xs in
    let long : length (take row_size ys) ≡ row_size = length-take-le row_size ys (rw (length-drop (r * row_size) xs) (omega arith)) in
    ap row_values (sym (moved xs r))
    ∙ rw (take-append-drop row_size ys) at (first-values (take row_size ys) (drop row_size ys) long)

row-long : (xs : List ℕ) (r : ℕ) → length (row_values (row_at xs r)) ≡ row_size
unfolding row_values row_at
row-long xs r = refl

-- A row that is lent is its own values.
row-text : (vs : List ℕ) → length vs ≡ row_size → row_text vs 0 ≡ line_text ends vs
unfolding row_text
row-text vs h = rw (append-nil vs) at (ap (line_text ends) (first-values vs [] h))

-- What is left of its line from value c on.
unfoldable pub row_left : List ℕ → ℕ → List ℕ
row_left vs c = line_text (drop c ends) (drop c vs)

row_next : (vs : List ℕ) (c : ℕ) → length vs ≡ row_size → c < row_size
    → row_left vs c ≡ value_text (get_or vs c 0) (get_or ends c line_feed) ++ row_left vs (c + 1)
unfolding row_left value_text line_text ends
row_next vs c h k =
    let long : c < length vs = omega arith in
    rw (add-one, drop-cons ends c 10 k, drop-cons vs c 0 long)
    (sym (append_assoc (digits (get_or vs c 0)) (get_or ends c line_feed ∷ []) (line_text (drop (suc c) ends) (drop (suc c) vs))))

row_done : (vs : List ℕ) (c : ℕ) → row_size ≤ c → row_left vs c ≡ []
unfolding row_left line_text ends
row_done vs c k = rw (drop_of_length-le ends {i = c} k)

-- So it is stored value by value: the first ten with commas, and bytes behind them.
pub row-begin : (vs o : List ℕ) → length vs ≡ row_size → Spilled (row_text vs 0) (row_left vs 0) o 0 0 o
unfolding row_left
row-begin vs o h = rw (row-text vs h) (spilled_begin _ o 0)

row-some : (vs : List ℕ) (c : ℕ) → length vs ≡ row_size → c < row_size → 2 ≤ length (row_left vs c)
row-some vs c h k =
    let v = get_or vs c 0 in
    rw (row_next vs c h k, length-append (value_text v (get_or ends c line_feed)) (row_left vs (c + 1)))
    (omega (arith, text-some v (get_or ends c line_feed)))

module _ (vs : List ℕ) (c at : ℕ) (o p : List ℕ) (h : length vs ≡ row_size) (s : Spilled (row_text vs 0) (row_left vs c) o 0 at p) where
  module _ (k : c < length (take 10 vs)) where
    low : c < 10
    low = omega (arith, length-take-le 10 vs (omega arith))

    left : row_left vs c ≡ value_text (get_or (take 10 vs) c 0) comma ++ row_left vs (c + 1)
    left = row_next vs c h (omega (arith, low)) ∙ rw (← comma-at c low, get_or-take 10 vs c 0 low)

    pub row_room : length (row_text vs 0) ≤ length o → at + (length (value_text (get_or (take 10 vs) c 0) comma) + 2) ≤ length p
    row_room l =
        let v = get_or (take 10 vs) c 0 in
        let g : at + length (value_text v comma) + length (row_left vs (c + 1)) ≤ length p =
        spilled_room _ _ (value_text v comma) (row_left vs (c + 1)) o p 0 at left (text-some v comma) s (omega arith) in
        omega (arith, row-some vs (c + 1) h (omega (arith, low)))

    pub row_on : (q : List ℕ) (next : ℕ) → Spills (value_text (get_or (take 10 vs) c 0) comma) p at next q → Spilled (row_text vs 0) (row_left vs (c + 1)) o 0 next q
    row_on q next t = spilled_on _ _ _ _ o p 0 at left (text-some (get_or (take 10 vs) c 0) comma) s q next t

  module _ (k : c ≤ length (take 10 vs)) (m : length (take 10 vs) ≤ c) where
    last : row_left vs c ≡ value_text (get_or vs 10 0) line_feed ++ row_left vs row_size
    last =
        let e : c ≡ 10 = omega (arith, length-take-le 10 vs (omega arith)) in
        rw e (row_next vs 10 h (omega arith) ∙ rw (← feed_at 10 (omega arith)))

    pub last-room : length (row_text vs 0) ≤ length o → at + length (value_text (get_or vs 10 0) line_feed) ≤ length p
    last-room l =
        let v = get_or vs 10 0 in
        let g : at + length (value_text v line_feed) + length (row_left vs row_size) ≤ length p =
        spilled_room _ _ (value_text v line_feed) (row_left vs row_size) o p 0 at last (text-some v line_feed) s (omega arith) in
        omega arith

    pub row-end : (q : List ℕ) (next : ℕ) → Puts (value_text (get_or vs 10 0) line_feed) p at next q → Puts (row_text vs 0) o 0 next q
    row-end q next t =
        spilled_end _ _ _ _ o p 0 at last (text-some (get_or vs 10 0) line_feed) s q next (row_done vs row_size (omega arith)) t

-- The lines of the first row and of those behind it.
first-line : (vs xs : List ℕ) → length vs ≡ row_size → row_lines (rows_of (vs ++ xs)) ≡ row_text vs 0 ++ row_lines (rows_of xs)
unfolding row_lines row_text
first-line vs xs h =
    rw (rows-first vs xs h, row_lines) (ap (λ (ws : List ℕ). line_text ends ws ++ row_lines (rows_of xs)) (first-values vs xs h ∙ sym (rw (append-nil vs) at (first-values vs [] h))))

no_lines : (xs : List ℕ) → length xs < row_size → row_lines (rows_of xs) ≡ []
unfolding row_lines rows_of rows_from row_count
no_lines xs h = let e : length xs / row_size ≡ 0 = omega arith in rw e

-- So rows are stored line by line: what is left of their lines is those of the rows xs that are left.
module _ (w xs o p : List ℕ) (at size : ℕ) (z : size ≡ row_size) (s : Stored w (row_lines (rows_of xs)) o 0 at p) where
  module _ (vs ys : List ℕ) (e : xs ≡ vs ++ ys) (n : length vs ≡ size) where
    lines-left : row_lines (rows_of xs) ≡ row_text vs 0 ++ row_lines (rows_of ys)
    lines-left = rw e (first-line vs ys (n ∙ z))

    pub lines_fit : length w ≤ length o → at + length (row_text vs 0) ≤ length p
    lines_fit h = stored-fits w _ (row_text vs 0) _ o p at lines-left s h

    pub lines-room : length w ≤ length o → length (row_text vs 0) ≤ length (take (length p - at) (drop at p))
    lines-room h = stored-part w _ (row_text vs 0) _ o p at lines-left s h

    pub lines_on : (next : ℕ) (zs : List ℕ) → Puts (row_text vs 0) (take (length p - at) (drop at p)) 0 next zs
        → Stored w (row_lines (rows_of ys)) o 0 (at + next) (take at p ++ (zs ++ drop (length p - at) (drop at p)))
    lines_on next zs t = stored-then w _ (row_text vs 0) _ o p at lines-left s next zs t

  pub lines-done : length xs < size → Puts w o 0 at p
  lines-done h = stored-end w _ o p 0 at (no_lines xs (omega arith)) s

-- The line of names and the lines of rows are the file.
cell-taken : (xs : List ℕ) (r c m : ℕ) → r * row_size + c < m → cell (take m xs) r c ≡ cell xs r c
unfolding cell
cell-taken xs r c m h = get_or-take m xs (r * row_size + c) 0 h

row-taken : (xs : List ℕ) (r m : ℕ) → r * row_size + row_size ≤ m → row_at (take m xs) r ≡ row_at xs r
unfolding row_at
row-taken xs r m h =
    let at : (c : ℕ) → c < row_size → cell (take m xs) r c ≡ cell xs r c = λ c k. cell-taken xs r c m (omega arith) in
    rw (
      at 0 (omega arith),
      at 1 (omega arith),
      at 2 (omega arith),
      at 3 (omega arith),
      at 4 (omega arith),
      at 5 (omega arith),
      at 6 (omega arith),
      at 7 (omega arith),
      at 8 (omega arith),
      at 9 (omega arith),
      at 10 (omega arith),
    )

rows-taken : (xs : List ℕ) (r n m : ℕ) → (r + n) * row_size ≤ m → rows_from (take m xs) r n ≡ rows_from xs r n
unfolding rows_from
rows-taken xs r zero m h = refl
rows-taken xs r (suc n) m h = ap₂ (λ (w : Row) (ws : List Row). w ∷ ws) (row-taken xs r m (omega arith)) (rows-taken xs (r + 1) n m (omega arith))

rows_part : (xs : List ℕ) (n : ℕ) → n * row_size ≤ length xs → rows_of (take (n * row_size) xs) ≡ rows_from xs 0 n
unfolding rows_of row_count
rows_part xs n h =
    let l : length (take (n * row_size) xs) / row_size ≡ n = rw (length-take-le (n * row_size) xs h) (omega arith) in
    rw l (rows-taken xs 0 n (n * row_size) (omega arith))

module _ (xs : List ℕ) (n at : ℕ) (o p : List ℕ) (h : length (file_text (rows_from xs 0 n)) ≤ length o) (s : Puts names o 0 at p) where
  pub behind-names : at ≤ length p
  unfolding file_text
  behind-names = room-behind names (row_lines (rows_from xs 0 n)) _ o p at refl h s

  module _ (k : n * row_size ≤ length xs) where
    pub file-room : length (row_lines (rows_of (take (n * row_size) xs))) ≤ length (take (length p - at) (drop at p))
    unfolding file_text
    file-room = rw (rows_part xs n k) (part-room p at _ (room_next names (row_lines (rows_from xs 0 n)) _ o p 0 at refl (omega arith) s))

    pub file-written : (next : ℕ) (zs : List ℕ) → Puts (row_lines (rows_of (take (n * row_size) xs))) (take (length p - at) (drop at p)) 0 next zs
        → take at p ++ (zs ++ drop (length p - at) (drop at p)) ≡ overwrite (file_text (rows_from xs 0 n)) o
    unfolding file_text
    file-written next zs t = puts-over _ o _ (at + next) h (puts-both s (puts-part (rw (rows_part xs n k) at t)))

pub names-room : (ws : List Row) (m : ℕ) → length (file_text ws) ≤ m → names_size ≤ m
unfolding file_text names
names-room ws m h = omega (arith, length-append names (row_lines ws))

-- How many bytes values are written to, with the byte behind each.
unfoldable pub text_width : List ℕ → ℕ
text_width [] = 0
text_width (v ∷ vs) = length (digits v) + 1 + text_width vs

width_both : (vs ws : List ℕ) → text_width (vs ++ ws) ≡ text_width vs + text_width ws
unfolding text_width
width_both [] ws = omega arith
width_both (v ∷ vs) ws = omega (arith, width_both vs ws)

line_width : (es vs : List ℕ) → length vs ≡ length es → length (line_text es vs) ≡ text_width vs
unfolding line_text text_width
line_width [] [] e = refl
line_width [] (v ∷ vs) e = absurd (omega arith)
line_width (c ∷ es) [] e = absurd (omega arith)
line_width (c ∷ es) (v ∷ vs) e = rw (length-append (digits v) (c ∷ line_text es vs)) (omega (arith, line_width es vs (omega arith)))

rows-width : (xs : List ℕ) (r n : ℕ) → (r + n) * row_size ≤ length xs
    → length (row_lines (rows_from xs r n)) ≡ text_width (take (n * row_size) (drop (r * row_size) xs))
unfolding row_lines rows_from text_width ends
rows-width xs r zero h = refl
rows-width xs r (suc n) h =
    let ys = drop (r * row_size) xs in
    let e : suc n * row_size ≡ row_size + n * row_size = omega arith in
    let k : r * row_size + row_size ≡ (r + 1) * row_size = omega arith in
    let t : take (suc n * row_size) ys ≡ take row_size ys ++ take (n * row_size) (drop ((r + 1) * row_size) xs) =
    rw e (take-add row_size (n * row_size) ys ∙ rw (drop-drop row_size (r * row_size) xs, k)) in
    let a : length (line_text ends (row_values (row_at xs r))) ≡ text_width (take row_size ys) =
    line_width ends (row_values (row_at xs r)) (row-long xs r) ∙ ap text_width (row-values xs r (omega arith)) in
    length-append (line_text ends (row_values (row_at xs r))) (row_lines (rows_from xs (r + 1) n))
    ∙ rw (t, width_both (take row_size ys) (take (n * row_size) (drop ((r + 1) * row_size) xs)), a, rows-width xs (r + 1) n (omega arith))

pub width_begin : (xs : List ℕ) → names_size ≡ names_size + text_width (take 0 xs)
unfolding text_width
width_begin xs = refl

module _ (xs : List ℕ) (sum i : ℕ) (p : sum ≡ names_size + text_width (take i xs)) where
  pub width_turn : (m w : ℕ) → i < length (take m xs) → m ≤ length xs → w ≡ length (digits (get_or (take m xs) i 0))
      → sum + (w + 1) ≡ names_size + text_width (take (i + 1) xs)
  unfolding text_width
  width_turn m w h k e =
      let l = length-take-le m xs k in
      let v : w ≡ length (digits (get_or xs i 0)) = e ∙ rw (get_or-take m xs i 0 (omega arith)) in
      rw (add-one i, take-suc xs i 0 (omega arith), width_both (take i xs) (get_or xs i 0 ∷ [])) (omega arith)

  pub width_end : (n : ℕ) → length (take (n * row_size) xs) ≤ i → i ≤ length (take (n * row_size) xs) → n * row_size ≤ length xs
      → sum ≡ length (file_text (rows_from xs 0 n))
  unfolding file_text names
  width_end n h k l =
      let e : i ≡ n * row_size = omega (arith, length-take-le (n * row_size) xs l) in
      let g : length (row_lines (rows_from xs 0 n)) ≡ text_width (take (n * row_size) xs) = rows-width xs 0 n (omega arith) in
      p ∙ rw (e, length-append names (row_lines (rows_from xs 0 n)), g)
